-- What lines name, and what comes of them.
use Rattle.std.proofs.Common.{◌≡◌, ◌≢◌, ℕ, ◌≤◌, List, length, refl, ap, ◌∙◌, inl, inr}
use Rattle.std.specs.Prelude.{codes, ◌⊎◌}
use Rattle.swim_words.specs.Words.{No, Lacks, SaysEndpoint, split_by}
use Rattle.swim_words.proofs.Splits.{no_split, same_split, lacks_byte}
use Rattle.swim_shell.specs.declared.request.Request.{Request}
use Rattle.swim_shell.specs.declared.request.Request.TheVariants as asked
use Rattle.swim_shell.specs.Requests.{IsUnknown, IsNoAddress, NamesShort, Names}

pub unknown_split : (text first word : List ℕ) → text ≢ codes "status" → text ≢ codes "members" → text ≢ codes "leave" → text ≢ codes "stop" → text ≢ codes "record" → text ≢ codes "counters" → text ≢ codes "reload" → text ≢ codes "about" → text ≡ split_by 32 first word → Lacks 32 first → first ≢ codes "join" → first ≢ codes "members" → IsUnknown text
unknown_split text first word s m l p r k o b is lacks join members = record {
  status = s;
  members = m;
  leave = l;
  stop = p;
  renew = r;
  counters = k;
  reload = o;
  about = b;
  members_after = λ w e. members (same_split 32 text first word (codes "members") w lacks is (lacks_byte 32 (codes "members") refl) e).0;
  join = λ w e. join (same_split 32 text first word (codes "join") w lacks is (lacks_byte 32 (codes "join") refl) e).0;
}

pub unknown_word : (text : List ℕ) → text ≢ codes "status" → text ≢ codes "members" → text ≢ codes "leave" → text ≢ codes "stop" → text ≢ codes "record" → text ≢ codes "counters" → text ≢ codes "reload" → text ≢ codes "about" → Lacks 32 text → IsUnknown text
unknown_word text s m l p r k o b lacks = record {
  status = s;
  members = m;
  leave = l;
  stop = p;
  renew = r;
  counters = k;
  reload = o;
  about = b;
  members_after = λ w. no_split 32 (codes "members") w text lacks;
  join = λ w. no_split 32 (codes "join") w text lacks;
}

pub no_address : (text first word : List ℕ) → text ≡ split_by 32 first word → (first ≡ codes "members") ⊎ (first ≡ codes "join") → No (SaysEndpoint word) → IsNoAddress text
no_address text first word is (inl e) none = record { word = word; says = inl (is ∙ ap (λ w. split_by 32 w word) e); none = none }
no_address text first word is (inr e) none = record { word = word; says = inr (is ∙ ap (λ w. split_by 32 w word) e); none = none }

pub names_short : (text : List ℕ) (a : Request) → length text ≤ 64 → NamesShort text a → Names text a
names_short text asked.Status h n = (h, n)
names_short text (asked.Members after) h n = (h, n)
names_short text (asked.Join peer) h n = (h, n)
names_short text asked.Leave h n = (h, n)
names_short text asked.Stop h n = (h, n)
names_short text asked.Record h n = (h, n)
names_short text asked.Counters h n = (h, n)
names_short text asked.Reload h n = (h, n)
names_short text asked.About h n = (h, n)
names_short text asked.Unknown h n = (h, n)
names_short text asked.Address h n = (h, n)
names_short text asked.TooLong h n = absurd n
