-- A host and its port in one text.
use Rattle.std.proofs.Common.{◌≡◌, ℕ, List, true, sym, ◌∙◌, ap}
use Rattle.std.specs.Prelude.{◌≢◌}
use Rattle.std.specs.Fmt.{decimal}
use Rattle.std.proofs.lemmas.Bool.{false≢true}
use Rattle.std.proofs.lemmas.List.Elements.{All-weaker}
use Rattle.std.proofs.lemmas.List.Sums.{AllPass-from_list_all}
use Rattle.swim_words.specs.Hosts.{IsHostName, SaysHost, is_host_byte}
use Rattle.swim_words.specs.Words.{Lacks, split_by}
use Rattle.swim_words.proofs.Splits.{differs, same_split}

no_colon : (b : ℕ) → is_host_byte b ≡ true → b ≢ 58
no_colon b passes same = false≢true (ap is_host_byte (sym same) ∙ passes)

-- a host name has no colon
host_lacks : (name : List ℕ) → IsHostName name → Lacks 58 name
host_lacks name host = All-weaker (λ b. is_host_byte b ≡ true) (differs 58) no_colon name (AllPass-from_list_all is_host_byte name host.bytes)

-- so the first colon parts a host and its port
pub host_parts : (text before after name : List ℕ) (port : ℕ) → Lacks 58 before → text ≡ split_by 58 before after → SaysHost text name port → (before ≡ name) × (after ≡ decimal port)
host_parts text before after name port lacks is says = same_split 58 text before after name (decimal port) lacks is (host_lacks name says.host) says.says
