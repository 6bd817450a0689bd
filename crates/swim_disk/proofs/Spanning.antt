-- What the ranges of a content that were written say of a file.
use Rattle.std.proofs.Common.{◌≡◌, ◌⊎◌, inl, inr, ⊎_elim, zero, suc, ℕ, ◌+◌, ◌-◌, ◌<◌, ◌≤◌, List, [], ◌∷◌, ◌++◌, length, take, drop, get_or, subst, sym, ap, ◌∙◌, arith, length-drop, slice_index}
use Rattle.std.proofs.lemmas.Bool.{cases_lt}
use Rattle.std.proofs.lemmas.List.{drop_more, get_or-take, get_or-drop, length-take-le}
use Rattle.std.specs.Prelude.{Result, Ok, Err, OnOk}
use Rattle.swim_disk.specs.Cache.{AreInside, HasBut, InSpans, WaitsIn}
use Rattle.swim_disk.specs.Deeds.{Backing, AllWait, Comes, LiesBeside, StaysBeside}
use Rattle.swim_disk.specs.declared.cached.Span.{Span}

abbrev pub InSpan : Span → ℕ → Type 0
InSpan span i = (span.from ≤ i) × (i < span.until)

-- bytes of the content
span_byte : (content : List ℕ) (from until i : ℕ) → from ≤ i → i < until
    → slice_index (take (until - from) (drop from content)) (i - from) ≡ slice_index content i
span_byte content from until i low high =
    get_or-take (until - from) (drop from content) (i - from) 0 (omega (arith, low, high))
    ∙ get_or-drop from content (i - from) 0
    ∙ ap (λ j. get_or content j 0) (let same : from + (i - from) ≡ i = omega (arith, low) in same)

pub length-span : (content : List ℕ) (from until : ℕ) → until ≤ length content → length (take (until - from) (drop from content)) ≡ until - from
length-span content from until within = length-take-le (until - from) (drop from content) (omega (arith, length-drop from content, within))

pub written_span : {T E : Type 0} (result : Result T E) (span : Span) (content : List ℕ) (f : Backing) → span.from ≤ span.until → span.until ≤ length content
    → OnOk result (AllWait span.from (take (span.until - span.from) (drop span.from content)) f) → OnOk result (WaitsIn span content f)
written_span (Ok done) span content f range within waits = λ i low high.
    subst (λ (b : ℕ). f.waiting i b) (span_byte content span.from span.until i low high)
    (waits i low (omega (arith, high, range, length-span content span.from span.until within)))
written_span (Err e) span content f range within waits = tt

-- each range of several
pub within_at : (content : List ℕ) (spans : List Span) (n : ℕ) (d : Span) → AreInside content spans → n < length spans
    → ((get_or spans n d).from ≤ (get_or spans n d).until) × ((get_or spans n d).until ≤ length content)
within_at content [] n d within less = absurd (omega (arith, less))
within_at content (span ∷ spans) zero d within less = (within.0, within.1)
within_at content (span ∷ spans) (suc n) d within less = within_at content spans n d within.2 (omega (arith, less))

pub spans_drop : (spans : List Span) (n i : ℕ) → InSpans (drop n spans) i → InSpans spans i
spans_drop spans zero i is = is
spans_drop [] (suc n) i is = is
spans_drop (span ∷ spans) (suc n) i is = inr (spans_drop spans n i is)

spans_at : (spans : List Span) (n i : ℕ) (d : Span) → n < length spans → InSpan (get_or spans n d) i → InSpans spans i
spans_at spans n i d less is =
    spans_drop spans n i (subst (λ (l : List Span). InSpans l i) (sym (drop_more spans n d less)) (inl is))

spans_next : (spans : List Span) (n i : ℕ) (d : Span) → n < length spans → InSpans (drop n spans) i → InSpan (get_or spans n d) i ⊎ InSpans (drop (n + 1) spans) i
spans_next spans n i d less is = subst (λ (l : List Span). InSpans l i) (drop_more spans n d less) is

-- an offset is in a range or beside it
pub in_or_beside : (span : Span) (i : ℕ) → span.from ≤ span.until → InSpan span i ⊎ LiesBeside span.from (span.until - span.from) i
in_or_beside span i range =
    ⊎_elim
    (λ (low : i < span.from). inr (inl low))
    (λ (from : span.from ≤ i). ⊎_elim
    (λ (until : i < span.until). inl (from, until))
    (λ (high : span.until ≤ i). inr (inr (omega (arith, high, range))))
    (cases_lt i span.until))
    (cases_lt i span.from)

-- one of the ranges is written, or is tried to be
pub span_but : (spans : List Span) (content : List ℕ) (old new : Backing) (n : ℕ) (d : Span) → n < length spans → (get_or spans n d).from ≤ (get_or spans n d).until
    → StaysBeside (get_or spans n d).from ((get_or spans n d).until - (get_or spans n d).from) old new
    → HasBut spans content old → HasBut spans content new
span_but spans content old new n d less range stays has = λ i within.
    ⊎_elim
    (λ here. inr (spans_at spans n i d less here))
    (λ beside. ⊎_elim (λ kept. inl ((stays i (slice_index content i) beside).0 kept)) (λ later. inr later) (has i within))
    (in_or_beside (get_or spans n d) i range)

pub span_comes : (spans : List Span) (content : List ℕ) (old new : Backing) (n : ℕ) (d : Span) → n < length spans → (get_or spans n d).from ≤ (get_or spans n d).until
    → StaysBeside (get_or spans n d).from ((get_or spans n d).until - (get_or spans n d).from) old new
    → WaitsIn (get_or spans n d) content new
    → ((i : ℕ) → i < length content → Comes old i (slice_index content i) ⊎ InSpans (drop n spans) i)
    → (i : ℕ) → i < length content → Comes new i (slice_index content i) ⊎ InSpans (drop (n + 1) spans) i
span_comes spans content old new n d less range stays waits has i within =
    ⊎_elim
    (λ here. inl (inr (waits i here.0 here.1)))
    (λ beside. ⊎_elim
    (λ comes. inl (⊎_elim (λ kept. inl ((stays i (slice_index content i) beside).0 kept)) (λ waiting. inr ((stays i (slice_index content i) beside).1 waiting)) comes))
    (λ later. ⊎_elim (λ here. inl (inr (waits i here.0 here.1))) (λ after. inr after) (spans_next spans n i d less later))
    (has i within))
    (in_or_beside (get_or spans n d) i range)

-- one range more
pub spans_before : (spans : List Span) (span : Span) (i : ℕ) → InSpans spans i → InSpans (spans ++ span ∷ []) i
spans_before [] span i is = absurd is
spans_before (first ∷ spans) span i is = ⊎_elim (λ here. inl here) (λ later. inr (spans_before spans span i later)) is

pub spans_last : (spans : List Span) (span : Span) (i : ℕ) → InSpan span i → InSpans (spans ++ span ∷ []) i
spans_last [] span i is = inl is
spans_last (first ∷ spans) span i is = inr (spans_last spans span i is)

pub spans_more : (spans : List Span) (span : Span) (i : ℕ) → InSpans (spans ++ span ∷ []) i → InSpans spans i ⊎ InSpan span i
spans_more [] span i is = ⊎_elim (λ here. inr here) (λ none. absurd none) is
spans_more (first ∷ spans) span i is =
    ⊎_elim
    (λ here. inl (inl here))
    (λ later. ⊎_elim (λ before. inl (inr before)) (λ last. inr last) (spans_more spans span i later))
    is

pub within_more : (content next : List ℕ) (spans : List Span) (span : Span) → length content ≤ length next → span.from ≤ span.until → span.until ≤ length next
    → AreInside content spans → AreInside next (spans ++ span ∷ [])
within_more content next [] span longer range fits within = (range, fits, tt)
within_more content next (first ∷ spans) span longer range fits within = (within.0, omega (arith, within.1, longer), within_more content next spans span longer range fits within.2)
