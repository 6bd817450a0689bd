-- What one more deed leaves of what a file has.
use Rattle.std.proofs.Common.{◌≡◌, inl, inr, ⊎_elim, refl, ℕ, ◌+◌, ◌-◌, ◌<◌, ◌≤◌, List, [], ◌∷◌, ◌++◌, length, take, drop, get_or, subst, sym, ap, ◌∙◌, arith, length-append, length-drop, append-nil}
use Rattle.std.proofs.lemmas.Bool.{cases_lt}
use Rattle.std.proofs.lemmas.List.{drop_all, drop-drop, take_all, get_or_append_left, get_or-append_right, get_or-take, get_or-drop, length-take, length-take-le}
use borrow.Rule.Slice.PartMut.{post_of, put_mid}
use Rattle.std.specs.Prelude.{Result, Ok, Err, OnOk, slice_index}
use Rattle.swim_disk.specs.Deeds.{Backing, after, after_all, taken_over, backing_of, write_deed, sync_deed, LiesBeside, StaysBeside, ComesAll, KeepsAll}
use Rattle.swim_disk.specs.declared.backing.Deed.{Deed}
use Rattle.swim_disk.specs.declared.backing.Deed.TheVariants.{Wrote, WriteFailed, Read, Synced, Dropped, Measured}

-- the deed that is told was the last
pub last_deed : (f : Backing) (deeds : List Deed) (deed : Deed) → after_all f (deeds ++ deed ∷ []) ≡ after deed (after_all f deeds)
last_deed f [] deed = refl
last_deed f (first ∷ deeds) deed = last_deed (after first f) deeds deed

pub told : (old new : List Deed) (deed : Deed) → new ≡ old ++ deed ∷ [] → backing_of new ≡ after deed (backing_of old)
told old new deed is = ap (λ (l : List Deed). backing_of l) is ∙ last_deed taken_over old deed

-- the first `done` of these bytes wait
abbrev pub Waits : ℕ → ℕ → List ℕ → Backing → Type 0
Waits at done bytes f = (i : ℕ) → at ≤ i → i < at + done → f.waiting i (slice_index bytes (i - at))

stays_same : (at n : ℕ) (f : Backing) → StaysBeside at n f f
stays_same at n f = λ i b beside. (λ kept. kept, λ waiting. waiting)

-- a write of a part, and one of all
piece_beside : (at n done k i : ℕ) → done + k ≤ n → LiesBeside at n i → LiesBeside (at + done) k i
piece_beside at n done k i within beside = ⊎_elim (λ low. inl (omega (arith, low))) (λ high. inr (omega (arith, high, within))) beside

pub stays_more : {E : Type 0} (at n done : ℕ) (bytes : List ℕ) (result : Result ℕ E) (first f : Backing) → done + length bytes ≤ n
    → StaysBeside at n first f → StaysBeside at n first (after (write_deed (at + done) bytes result) f)
stays_more at n done bytes (Ok count) first f within stays = λ i b beside.
    let apart = piece_beside at n done (length (take count bytes)) i (omega (arith, within, length-take count bytes)) beside in (
      λ kept. ((stays i b beside).0 kept, apart),
      λ waiting. inl ((stays i b beside).1 waiting, apart),
    )
stays_more at n done bytes (Err e) first f within stays = λ i b beside.
    let apart = piece_beside at n done (length bytes) i within beside in (
      λ kept. ((stays i b beside).0 kept, apart),
      λ waiting. ((stays i b beside).1 waiting, apart),
    )

-- what is left of these bytes
abbrev rest : ℕ → List ℕ → List ℕ
rest done bytes = take (length bytes - done) (drop done bytes)

pub length-rest : (done : ℕ) (bytes : List ℕ) → length (rest done bytes) ≡ length bytes - done
length-rest done bytes = length-take-le (length bytes - done) (drop done bytes) (omega (arith, length-drop done bytes))

rest_at : (done : ℕ) (bytes : List ℕ) (k : ℕ) → k < length bytes - done → slice_index (rest done bytes) k ≡ slice_index bytes (done + k)
rest_at done bytes k less = get_or-take (length bytes - done) (drop done bytes) k 0 less ∙ get_or-drop done bytes k 0

-- a write of it
pub tried_beside : {E : Type 0} (result : Result ℕ E) (at done : ℕ) (bytes : List ℕ) (first : Backing) (old new : List Deed) → done ≤ length bytes
    → new ≡ old ++ write_deed (at + done) (rest done bytes) result ∷ []
    → StaysBeside at (length bytes) first (backing_of old) → StaysBeside at (length bytes) first (backing_of new)
tried_beside result at done bytes first old new within is stays =
    subst (λ (f : Backing). StaysBeside at (length bytes) first f) (sym (told old new (write_deed (at + done) (rest done bytes) result) is))
    (stays_more at (length bytes) done (rest done bytes) result first (backing_of old) (omega (arith, within, length-rest done bytes)) stays)

-- of which the first were taken
pub written_more : (at done count : ℕ) (bytes : List ℕ) (old new : List Deed) → done ≤ length bytes → count ≤ length (rest done bytes)
    → new ≡ old ++ Wrote (at + done) (take count (rest done bytes)) ∷ []
    → Waits at done bytes (backing_of old) → Waits at (done + count) bytes (backing_of new)
written_more at done count bytes old new within few is waits =
    subst (λ (f : Backing). Waits at (done + count) bytes f) (sym (told old new (Wrote (at + done) (take count (rest done bytes))) is))
    (λ i from until.
    let size : length (take count (rest done bytes)) ≡ count = length-take-le count (rest done bytes) few in
    ⊎_elim
    (λ (low : i < at + done). inl (waits i from low, inl low))
    (λ (high : at + done ≤ i). inr (
      high,
      omega (arith, size, until),
      get_or-take count (rest done bytes) (i - (at + done)) 0 (omega (arith, high, until))
          ∙ rest_at done bytes (i - (at + done)) (omega (arith, high, until, few, length-rest done bytes))
          ∙ ap (λ j. get_or bytes j 0) (let same : done + (i - (at + done)) ≡ i - at = omega (arith, high) in same),
    ))
    (cases_lt i (at + done)))

-- of which none were taken
pub failed_waits : (at done : ℕ) (bytes : List ℕ) (old new : List Deed) → new ≡ old ++ WriteFailed (at + done) (rest done bytes) ∷ []
    → Waits at done bytes (backing_of old) → Waits at done bytes (backing_of new)
failed_waits at done bytes old new is waits =
    subst (λ (f : Backing). Waits at done bytes f) (sym (told old new (WriteFailed (at + done) (rest done bytes)) is))
    (λ i from until. (waits i from until, inl until))

-- A sync: what the disk has it keeps, and after Ok it has what was to come.
pub synced_more : {T E : Type 0} (result : Result T E) (old new : List Deed) (i b : ℕ) → new ≡ old ++ sync_deed result ∷ []
    → (backing_of old).kept i b → (backing_of new).kept i b
synced_more (Ok done) old new i b is kept = subst (λ (f : Backing). f.kept i b) (sym (told old new _ is)) (inl kept)
synced_more (Err fault) old new i b is kept = subst (λ (f : Backing). f.kept i b) (sym (told old new _ is)) kept

pub synced_all : {T E : Type 0} (result : Result T E) (content : List ℕ) (old new : List Deed) → new ≡ old ++ sync_deed result ∷ []
    → ComesAll content (backing_of old) → OnOk result (KeepsAll content (backing_of new))
synced_all (Ok done) content old new is comes = λ i less. subst (λ (f : Backing). f.kept i (slice_index content i)) (sym (told old new _ is)) (comes i less)
synced_all (Err fault) content old new is comes = tt

-- A read while what is read comes from the disk, into the part of a buffer that is left.
read_place : (done k i : ℕ) (buffer part : List ℕ) → done ≤ length buffer → i < done → slice_index (put_mid done k buffer part) i ≡ slice_index buffer i
read_place done k i buffer part within low =
    get_or_append_left (take done buffer) (part ++ post_of done k buffer) 0 i (omega (arith, length-take-le done buffer within, low))
    ∙ get_or-take done buffer i 0 low

read_part : (done k i : ℕ) (buffer part : List ℕ) → done ≤ length buffer → done ≤ i → i < done + length part → slice_index (put_mid done k buffer part) i ≡ slice_index part (i - done)
read_part done k i buffer part within high less =
    get_or-append_right (take done buffer) (part ++ post_of done k buffer) done i 0 (length-take-le done buffer within) high
    ∙ get_or_append_left part (post_of done k buffer) 0 (i - done) (omega (arith, high, less))

pub read_more : (done count : ℕ) (buffer part : List ℕ) (old new : List Deed) → done ≤ length buffer → count ≤ length (rest done buffer) → length part ≡ length (rest done buffer)
    → new ≡ old ++ Read done (take count part) ∷ [] → (backing_of old).dropped
    → ((i : ℕ) → i < done → (backing_of old).kept i (slice_index buffer i))
    → (i : ℕ) → i < done + count → (backing_of new).kept i (slice_index (put_mid done (length buffer - done) buffer part) i)
read_more done count buffer part old new within few size is dropped has i less =
    let k = length buffer - done in
    let taken : length (take count part) ≡ count = length-take-le count part (omega (arith, few, size)) in
    subst (λ (f : Backing). f.kept i (slice_index (put_mid done k buffer part) i)) (sym (told old new (Read done (take count part)) is))
    (⊎_elim
    (λ (low : i < done). inl (subst (λ (b : ℕ). (backing_of old).kept i b) (sym (read_place done k i buffer part within low)) (has i low)))
    (λ (high : done ≤ i). inr (
      dropped,
      (
        high,
        omega (arith, taken, less),
        get_or-take count part (i - done) 0 (omega (arith, high, less))
            ∙ sym (read_part done k i buffer part within high (omega (arith, less, few, size))),
      ),
    ))
    (cases_lt i done))

pub read_dropped : (at : ℕ) (bytes : List ℕ) (old new : List Deed) → new ≡ old ++ Read at bytes ∷ [] → (backing_of old).dropped → (backing_of new).dropped
read_dropped at bytes old new is dropped = subst (λ (f : Backing). f.dropped) (sym (told old new (Read at bytes) is)) dropped

pub read_measured : (at n : ℕ) (bytes : List ℕ) (old new : List Deed) → new ≡ old ++ Read at bytes ∷ [] → (backing_of old).measured n → (backing_of new).measured n
read_measured at n bytes old new is measured = subst (λ (f : Backing). f.measured n) (sym (told old new (Read at bytes) is)) measured

pub length-put : (done : ℕ) (buffer part : List ℕ) → done ≤ length buffer → length part ≡ length (rest done buffer) → length (put_mid done (length buffer - done) buffer part) ≡ length buffer
length-put done buffer part within size =
    omega (
      arith,
      length-append (take done buffer) (part ++ post_of done (length buffer - done) buffer),
      length-append part (post_of done (length buffer - done) buffer),
      length-take-le done buffer within,
      length-rest done buffer,
      size,
      ap (λ (l : List ℕ). length l) (let all : post_of done (length buffer - done) buffer ≡ drop (done + (length buffer - done)) buffer = drop-drop (length buffer - done) done buffer in all),
      length-drop (done + (length buffer - done)) buffer,
      within,
    )

pub read_none : (done : ℕ) (buffer part : List ℕ) (old new : List Deed) → done ≤ length buffer → new ≡ old
    → ((i : ℕ) → i < done → (backing_of old).kept i (slice_index buffer i))
    → (i : ℕ) → i < done → (backing_of new).kept i (slice_index (put_mid done (length buffer - done) buffer part) i)
read_none done buffer part old new within is has i less =
    subst (λ (l : List Deed). (backing_of l).kept i (slice_index (put_mid done (length buffer - done) buffer part) i)) (sym is)
    (subst (λ (b : ℕ). (backing_of old).kept i b) (sym (read_place done (length buffer - done) i buffer part within less)) (has i less))

-- what is read comes from the disk, once a file was synced and dropped from memory
pub opened : (first synced dropped last : List Deed) (n : ℕ) → synced ≡ first ++ Synced ∷ [] → dropped ≡ synced ++ Dropped ∷ [] → last ≡ dropped ++ Measured n ∷ [] → (backing_of last).dropped
opened first synced dropped last n is_synced is_dropped is_last =
    let clean : (backing_of synced).clean = subst (λ (f : Backing). f.clean) (sym (told first synced Synced is_synced)) tt in
    let disk : (backing_of dropped).dropped = subst (λ (f : Backing). f.dropped) (sym (told synced dropped Dropped is_dropped)) clean in
    subst (λ (f : Backing). f.dropped) (sym (told dropped last (Measured n) is_last)) disk

-- the length is what the system said last
pub measured : (old new : List Deed) (n : ℕ) → new ≡ old ++ Measured n ∷ [] → (backing_of new).measured n
measured old new n is = subst (λ (f : Backing). f.measured n) (sym (told old new (Measured n) is)) refl

-- a buffer that was filled
pub filled : (n : ℕ) (old new : List ℕ) → length new ≡ length old → n ≡ length old → take n (new ++ drop (length new) old) ≡ new
filled n old new size count =
    ap (λ l. take n (new ++ l)) (drop_all (length new) old (omega (arith, size)))
    ∙ ap (λ l. take n l) (append-nil new)
    ∙ take_all n new (omega (arith, size, count))
