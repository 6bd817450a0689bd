-- Event lines, read back.
use Rattle.std.proofs.Common.{◌≡◌, ℕ, ◌^◌, ◌<◌, ◌≤◌, ◌⊎◌, Bool, true, false, cond, List, [], ◌∷◌, ◌++◌, inl, inr, refl, sym, ap, subst, ◌∙◌, arith, append_assoc, length, Option, Some, None, Result, Ok, Err}
use Rattle.std.specs.Prelude.{◌==◌, IfNone, IfSome, IsSomeAnd, MatchResult, SomeIff, codes}
use Rattle.std.specs.Fmt.{decimal}
use Rattle.std.proofs.lemmas.Fmt.{decimal_injective}
use Rattle.std.proofs.lemmas.Bool.{eq-eqb, eqb-true}
use Rattle.arrayvec.specs.ArrayVec.{ArrayVec}
use Rattle.hex.specs.Hex.{IsBytes, decode_of, encode_lower, lower_digits}
use Rattle.hex.proofs.HexLemmas.{decode_of-encode_lower, length-encode_with}
use Rattle.swim_wire.specs.Numbers.{IsEndpoint}
use Rattle.swim_words.specs.Words.{Lacks, No, SaysEndpoint, SaysNumber, endpoint_text}
use Rattle.swim_words.proofs.Splits.{lacks_byte}
use Rattle.swim_rules.specs.Deals.{IsDeal}
use Rattle.swim_member.specs.declared.event.Event.{Event}
use Rattle.swim_member.specs.declared.event.Event.TheVariants as event
use Rattle.swim_member.specs.declared.event.TheConstants.{RECEIVED_MAX}
use Rattle.swim_record.specs.declared.argument.Argument.TheVariants.{Who}
use Rattle.swim_record.specs.declared.event.EventWord.{EventWord}
use Rattle.swim_record.specs.declared.event.EventWord.TheVariants as word
use Rattle.swim_record.specs.declared.event.EventFault.{EventFault}
use Rattle.swim_record.specs.declared.event.EventFault.TheVariants as fault
use Rattle.swim_record.specs.Events.{IsEvent, IsReadAnd, event_word, word_of, words_after}
use Rattle.swim_record.specs.Recording.{bytes_text, event_words}
use Rattle.swim_record.proofs.Texts.{IsCutOff, same_argument, same_word}

-- The first word

members-parts : (b : Bool) (text : List ℕ) → cond b (codes "members") (codes "members " ++ text) ≡ codes "members" ++ cond b [] (32 ∷ text)
members-parts true text = refl
members-parts false text = refl

first-space : (rest : List ℕ) → codes "recv " ++ rest ≡ codes "recv" ++ 32 ∷ rest
first-space rest = refl

space-before : (bytes : List ℕ) → codes " " ++ bytes ≡ 32 ∷ bytes
space-before [] = refl
space-before (b ∷ bytes) = refl

datagram-parts : (from bytes : List ℕ) → codes "recv " ++ from ++ codes " " ++ bytes ≡ codes "recv" ++ 32 ∷ from ++ 32 ∷ bytes
datagram-parts from bytes = first-space ((from ++ codes " ") ++ bytes) ∙ ap (λ (t : List ℕ). codes "recv" ++ 32 ∷ t) (append_assoc from (codes " ") bytes ∙ ap (λ (t : List ℕ). from ++ t) (space-before bytes))

pub event_parts : (e : Event) → event_words e ≡ event_word (word_of e) ++ words_after e
event_parts (event.Datagram from bytes) = datagram-parts (endpoint_text from) (bytes_text bytes.items)
event_parts (event.Members after) = members-parts (after == 0) (endpoint_text after)
event_parts _ = refl

cut-members : (b : Bool) (text : List ℕ) → IsCutOff (cond b [] (32 ∷ text))
cut-members true text = inl refl
cut-members false text = inr (text, refl)

pub cut_words : (e : Event) → IsCutOff (words_after e)
cut_words (event.Tick deal) = inr (encode_lower deal, refl)
cut_words (event.Datagram from bytes) = inr (endpoint_text from ++ 32 ∷ bytes_text bytes.items, refl)
cut_words event.ReceiveFailed = inl refl
cut_words (event.SendFailed count) = inr (decimal count, refl)
cut_words (event.Join peer) = inr (endpoint_text peer, refl)
cut_words event.Leave = inl refl
cut_words (event.Members after) = cut-members (after == 0) (endpoint_text after)

pub word_lacks : (k : EventWord) → Lacks 32 (event_word k)
word_lacks word.Deal = lacks_byte 32 (event_word word.Deal) refl
word_lacks k = lacks_byte 32 (event_word k) refl

-- a text that is cut at its first space is the line of an event whose first word stands before it
pub event_split : (text first rest : List ℕ) (e : Event) → text ≡ first ++ rest → Lacks 32 first → IsCutOff rest → text ≡ event_words e → (first ≡ event_word (word_of e)) × (rest ≡ words_after e)
event_split text first rest e parts lacks cut says =
    same_word first rest (event_word (word_of e)) (words_after e) lacks (word_lacks (word_of e)) cut (cut_words e) (sym parts ∙ says ∙ event_parts e)

-- Arguments

pub one_endpoint : (text : List ℕ) (d e : ℕ) → SaysEndpoint text d → IsEndpoint e → text ≡ endpoint_text e → d ≡ e
one_endpoint text d e says is same =
    let both : Who d ≡ Who e = same_argument (Who d) (Who e) says.endpoint is (sym says.says ∙ same) in cc

pub one_number : (text : List ℕ) (least most n m : ℕ) → most < 2 ^ 64 → m < 2 ^ 64 → SaysNumber text least most n → text ≡ decimal m → n ≡ m
one_number text least most n m few small says same =
    let bound = says.at_most in decimal_injective n m (omega arith) small (sym says.says ∙ same)

-- Bytes

-- `-` is the text of no bytes alone
pub no_bytes : (bytes : List ℕ) → codes "-" ≡ bytes_text bytes → bytes ≡ []
no_bytes [] is = refl
no_bytes (b ∷ bytes) is = absurd (let one = ap length is in let many = length-encode_with lower_digits (b ∷ bytes) in omega (arith, one, many))

pub some_bytes : (word bytes : List ℕ) → IsBytes bytes → (word ≡ codes "-" → ⊥) → word ≡ bytes_text bytes → decode_of word ≡ Ok bytes
some_bytes word [] are other is = absurd (other is)
some_bytes word (b ∷ bytes) are other is = ap decode_of is ∙ decode_of-encode_lower (b ∷ bytes) are

-- What the readers of words gave

pub who_read : (o : Option ℕ) (text : List ℕ) → IfSome o (SaysEndpoint text) → IfNone o (No (SaysEndpoint text)) → (e : ℕ) → IsEndpoint e → text ≡ endpoint_text e → IsSomeAnd o (λ d. d ≡ e)
who_read None text some none e is same = absurd (none e (record { says = same; endpoint = is }))
who_read (Some d) text some none e is same = one_endpoint text d e some is same

pub matched : {E : Type 0} (r : Result (List ℕ) E) (bytes : List ℕ) (P : List ℕ → Type 0) (Q : E → Type 0) → r ≡ Ok bytes → MatchResult r P Q → P bytes
matched (Ok x) bytes P Q is holds = let same : x ≡ bytes = cc in subst P same holds
matched (Err e) bytes P Q is holds = absurd (cc)

-- A datagram

pub record Received (e : Event) (text : List ℕ) : Type 0 where
  pub from : ℕ
  pub bytes : ArrayVec ℕ
  pub is : e ≡ event.Datagram from bytes
  pub endpoint : IsEndpoint from
  pub are : IsBytes bytes.items
  pub few : length bytes.items ≤ RECEIVED_MAX
  pub says : text ≡ 32 ∷ endpoint_text from ++ 32 ∷ bytes_text bytes.items

pub received : (e : Event) (text : List ℕ) → IsEvent e → word_of e ≡ word.Received → text ≡ words_after e → Received e text
received (event.Datagram from bytes) text fits begins says = record { from = from; bytes = bytes; is = refl; endpoint = fits.0; are = fits.1; few = fits.2; says = says }
received _ text fits begins says = absurd (cc)

-- The next members

pub record Asked (e : Event) (text : List ℕ) : Type 0 where
  pub after : ℕ
  pub is : e ≡ event.Members after
  pub says : ((after ≡ 0) × (text ≡ [])) ⊎ (IsEndpoint after × (text ≡ 32 ∷ endpoint_text after))

asked-by : (after : ℕ) (text : List ℕ) (b : Bool) → (after == 0) ≡ b → (after ≡ 0) ⊎ IsEndpoint after → text ≡ cond b [] (32 ∷ endpoint_text after) → ((after ≡ 0) × (text ≡ [])) ⊎ (IsEndpoint after × (text ≡ 32 ∷ endpoint_text after))
asked-by after text true is fits says = inl (eqb-true after 0 is, says)
asked-by after text false is (inr fits) says = inr (fits, says)
asked-by after text false is (inl none) says = absurd (let same : true ≡ false = sym (eq-eqb after 0 none) ∙ is in cc)

pub asked : (e : Event) (text : List ℕ) → IsEvent e → word_of e ≡ word.Members → text ≡ words_after e → Asked e text
asked (event.Members after) text fits begins says = record { after = after; is = refl; says = asked-by after text (after == 0) refl fits says }
asked _ text fits begins says = absurd (cc)

-- What a tick deals

pub deal_read : {E : Type 0} (r : Result (Unit {0}) E) (d : Result (List ℕ) E) (out numbers : List ℕ) → d ≡ Ok numbers → MatchResult d (λ bytes. (r ≡ Ok tt) × (out ≡ bytes)) (λ e. r ≡ Err e) → (r ≡ Ok tt) × (out ≡ numbers)
deal_read r d out numbers is holds = matched d numbers (λ bytes. (r ≡ Ok tt) × (out ≡ bytes)) (λ e. r ≡ Err e) is holds

pub deal_is : (o : Option (List ℕ)) (out numbers : List ℕ) → SomeIff o (IsDeal out) out → out ≡ numbers → IsDeal numbers → IsSomeAnd o (λ deal. deal ≡ numbers)
deal_is None out numbers some same is = absurd (some (rw same is))
deal_is (Some x) out numbers some same is = some.1 ∙ same

-- memory ran out
pub refused : {A : Type 0} (f : EventFault) (P : A → Type 0) → f ≡ fault.NoMemory → IsReadAnd (Err f) P
refused fault.NoMemory P is = tt {0}
refused fault.Unknown P is = absurd (cc)

pub join_is : (e : Event) (text : List ℕ) (peer : ℕ) → IsEvent e → word_of e ≡ word.Join → text ≡ words_after e → ((who : ℕ) → IsEndpoint who → text ≡ 32 ∷ endpoint_text who → peer ≡ who) → event.Join peer ≡ e
join_is (event.Join who) text peer fits begins says read = ap (λ (n : ℕ). event.Join n) (read who fits says)
join_is _ text peer fits begins says read = absurd (cc)
