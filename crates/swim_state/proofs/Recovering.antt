-- Which fault a content shows, test by test.
use Rattle.std.proofs.Common.{◌≡◌, ◌≢◌, ◌⊎◌, inl, inr, ⊎_elim, ℕ, ◌^◌, ◌<◌, ◌≤◌, max, Bool, true, false, nat_lt, ◌==◌, if◌then◌else◌, List, [], ◌∷◌, length, take, Option, Some, None, refl, sym, ◌∙◌, ap, subst, arith}
use Rattle.std.proofs.lemmas.Bool.{and_from, and_parts, eqb-true, eq-eqb, lt-ltb, ltb-true, false_from_ne_true}
use Rattle.std.proofs.lemmas.List.{take_at}
use Rattle.swim_state.specs.File.{letters, owner_bytes, head, says, version_in, layout_of, IsOpen, ceiling_of, floor_of, AreOf, AreUsable, IsSound}
use Rattle.swim_state.specs.Recovery.{same_bytes, head_fault, slots_fault, first_fault, fault_of, IsFound}
use Rattle.swim_state.specs.declared.recovery.Found.{Found}
use Rattle.swim_state.specs.declared.layout.Slot.{Slot}
use Rattle.swim_state.specs.declared.owner.Owner.{Owner}
use Rattle.swim_state.specs.declared.slots.Slots.{Slots}
use Rattle.swim_state.specs.declared.layout.Slot.TheVariants.{A, B}
use Rattle.swim_state.specs.declared.layout.Reading.{Reading}
use Rattle.swim_state.specs.declared.layout.Reading.TheVariants.{Shut, Holds, Damaged}
use Rattle.swim_state.specs.declared.fault.RecoverFault.{RecoverFault}
use Rattle.swim_state.specs.declared.fault.RecoverFault.TheVariants.{Device, NotState, WrongOwner, Exhausted}

same_refl : (xs : List ℕ) → same_bytes xs xs ≡ true
same_refl [] = refl
same_refl (x ∷ xs) = and_from _ _ (eq-eqb x x refl) (same_refl xs)

same_sound : (xs ys : List ℕ) → same_bytes xs ys ≡ true → xs ≡ ys
same_sound [] [] is = refl
same_sound [] (y ∷ ys) is = cc
same_sound (x ∷ xs) [] is = cc
same_sound (x ∷ xs) (y ∷ ys) is =
    let both = and_parts (x == y) (same_bytes xs ys) is in
    ap (λ z. z ∷ xs) (eqb-true x y both.0) ∙ ap (λ (l : List ℕ). y ∷ l) (same_sound xs ys both.1)

same_true : (xs ys : List ℕ) → xs ≡ ys → same_bytes xs ys ≡ true
same_true xs ys is = subst (λ (l : List ℕ). same_bytes xs l ≡ true) is (same_refl xs)

same_false : (xs ys : List ℕ) → (xs ≡ ys → ⊥) → same_bytes xs ys ≡ false
same_false xs ys differs = false_from_ne_true (same_bytes xs ys) (λ is. differs (same_sound xs ys is))

pub mark_first : (owner : Owner) → take 10 (head owner) ≡ letters
unfolding letters
mark_first owner = take_at letters (owner_bytes owner) 10 refl

pub not_state : (owner : Owner) (front : List ℕ) → (take 10 front ≡ letters → ⊥) → head_fault owner front ≡ Some NotState
unfolding head_fault
not_state owner front differs = rw (same_false (take 10 front) letters differs)

pub wrong_owner : (owner : Owner) (front : List ℕ) → take 10 front ≡ letters → (front ≡ head owner → ⊥) → head_fault owner front ≡ Some WrongOwner
unfolding head_fault
wrong_owner owner front is differs = rw (same_true (take 10 front) letters is, same_false front (head owner) differs)

pub right_head : (owner : Owner) (front : List ℕ) → front ≡ head owner → head_fault owner front ≡ None
unfolding head_fault
right_head owner front is = rw (same_true (take 10 front) letters (ap (λ (l : List ℕ). take 10 l) is ∙ mark_first owner), same_true front (head owner) is)

-- what two slots show of which one is open and none is damaged
room_or_none : (a b : Reading) → a ≢ Damaged → b ≢ Damaged → IsOpen a ⊎ IsOpen b → slots_fault a b ≡ (if max (ceiling_of a) (ceiling_of b) == 2 ^ 62 then Some Exhausted else None)
room_or_none Damaged b whole_a whole_b some = absurd (whole_a refl)
room_or_none Shut Damaged whole_a whole_b some = absurd (whole_b refl)
room_or_none (Holds a) Damaged whole_a whole_b some = absurd (whole_b refl)
room_or_none Shut Shut whole_a whole_b some = ⊎_elim (λ never. absurd never) (λ never. absurd never) some
room_or_none Shut (Holds b) whole_a whole_b some = ap (λ n. if n == 2 ^ 62 then Some Exhausted else None) (let same : b.ceiling ≡ max 0 b.ceiling = omega arith in same)
room_or_none (Holds a) Shut whole_a whole_b some = ap (λ n. if n == 2 ^ 62 then Some Exhausted else None) (let same : a.ceiling ≡ max a.ceiling 0 = omega arith in same)
room_or_none (Holds a) (Holds b) whole_a whole_b some = refl

pub too_short : (owner : Owner) (content : List ℕ) → length content < (layout_of (version_in content)).file_size → fault_of owner content ≡ Some NotState
unfolding fault_of
too_short owner content less =
    ap (λ t. if t then Some NotState else first_fault (head_fault owner (take 24 content)) (slots_fault (says content A) (says content B)))
    (lt-ltb (length content) (layout_of (version_in content)).file_size less)

pub long_enough : (owner : Owner) (content : List ℕ) → (layout_of (version_in content)).file_size ≤ length content → fault_of owner content ≡ first_fault (head_fault owner (take 24 content)) (slots_fault (says content A) (says content B))
unfolding fault_of
long_enough owner content long =
    let size = (layout_of (version_in content)).file_size in
    ap (λ t. if t then Some NotState else first_fault (head_fault owner (take 24 content)) (slots_fault (says content A) (says content B)))
    (false_from_ne_true _ (λ (less : nat_lt (length content) size ≡ true). absurd (omega (arith, long, ltb-true (length content) size less))))

-- a fault of the head, and then what the slots show, of a content that is long enough
pub head_shows : (owner : Owner) (content found : List ℕ) (f : RecoverFault) → (layout_of (version_in content)).file_size ≤ length content → found ≡ take 24 content → head_fault owner found ≡ Some f → fault_of owner content ≡ Some f
head_shows owner content found f long read is =
    long_enough owner content long ∙ ap (λ (first : Option RecoverFault). first_fault first (slots_fault (says content A) (says content B))) (ap (λ (l : List ℕ). head_fault owner l) (sym read) ∙ is)

pub slots_show : (owner : Owner) (content found : List ℕ) (slots : Slots) (r : Option RecoverFault) → (layout_of (version_in content)).file_size ≤ length content → found ≡ take 24 content → head_fault owner found ≡ None → AreOf (layout_of (version_in content)) content slots
    → slots_fault slots.a slots.b ≡ r → fault_of owner content ≡ r
slots_show owner content found slots r long read is are shows =
    long_enough owner content long
    ∙ ap (λ (first : Option RecoverFault). first_fault first (slots_fault (says content A) (says content B))) (ap (λ (l : List ℕ). head_fault owner l) (sym read) ∙ is)
    ∙ ap (λ (x : Reading). slots_fault x (says content B)) (sym are.a) ∙ ap (λ (x : Reading). slots_fault slots.a x) (sym are.b) ∙ shows

-- what was read of a sound content is usable
pub sound_usable : (owner : Owner) (content : List ℕ) (slots : Slots) → IsSound owner content → AreOf (layout_of (version_in content)) content slots → floor_of slots ≤ 2 ^ 62 → AreUsable slots
sound_usable owner content slots sound are le = record {
  open_one = ⊎_elim (λ a. inl (subst IsOpen (sym are.a) a)) (λ b. inr (subst IsOpen (sym are.b) b)) sound.open_one;
  whole_a = λ bad. sound.good A (sym are.a ∙ bad);
  whole_b = λ bad. sound.good B (sym are.b ∙ bad);
  bounded = le;
}

-- and the other way round
pub usable_sound : (owner : Owner) (content : List ℕ) (slots : Slots) → (layout_of (version_in content)).file_size ≤ length content → take 24 content ≡ head owner → AreOf (layout_of (version_in content)) content slots → AreUsable slots → IsSound owner content
usable_sound owner content slots long front are usable = record {
  long = long;
  front = front;
  open_one = ⊎_elim (λ a. inl (subst IsOpen are.a a)) (λ b. inr (subst IsOpen are.b b)) usable.open_one;
  good = whole content slots are usable;
}
  where
    whole : (content : List ℕ) (slots : Slots) → AreOf (layout_of (version_in content)) content slots → AreUsable slots → (slot : Slot) → says content slot ≢ Damaged
    whole content slots are usable A = λ bad. usable.whole_a (are.a ∙ bad)
    whole content slots are usable B = λ bad. usable.whole_b (are.b ∙ bad)

-- what an opening found
pub are_found : (owner : Owner) (content : List ℕ) (found : Found) → (layout_of (version_in content)).file_size ≤ length content → take 24 content ≡ head owner → found.version ≡ version_in content → AreOf (layout_of (version_in content)) content found.slots
    → AreUsable found.slots → IsFound owner content found
are_found owner content found long front version are usable = assumption (usable_sound owner content found.slots long front are usable)

one_of_two : (t : Bool) (r : Option RecoverFault) → r ≡ (if t then Some Exhausted else None) → (r ≡ None) ⊎ (r ≡ Some Exhausted)
one_of_two true r is = inr is
one_of_two false r is = inl is

-- a sound content shows no fault but exhaustion
sound_shows : (owner : Owner) (content : List ℕ) → IsSound owner content → (fault_of owner content ≡ None) ⊎ (fault_of owner content ≡ Some Exhausted)
sound_shows owner content sound =
    let a = says content A in
    let b = says content B in
    let is = long_enough owner content sound.long
    ∙ ap (λ (first : Option RecoverFault). first_fault first (slots_fault a b)) (right_head owner (take 24 content) sound.front)
    ∙ room_or_none a b (sound.good A) (sound.good B) sound.open_one in
    one_of_two (max (ceiling_of a) (ceiling_of b) == 2 ^ 62) (fault_of owner content) is

other_than : (owner : Owner) (content : List ℕ) (f : RecoverFault) → f ≢ Exhausted → fault_of owner content ≡ Some f → IsSound owner content → ⊥
other_than owner content f differs is sound = ⊎_elim
    (λ none. let e : None ≡ Some f = sym none ∙ is in cc)
    (λ full. let e : Some Exhausted ≡ Some f = sym full ∙ is in let same : Exhausted ≡ f = cc in differs (sym same))
    (sound_shows owner content sound)

-- so a sound content is refused for the device or for exhaustion only
pub only_two : (owner : Owner) (content : List ℕ) (f : RecoverFault) → (f ≢ Device → fault_of owner content ≡ Some f) → IsSound owner content → (f ≡ Device) ⊎ (f ≡ Exhausted)
only_two owner content Device is sound = inl refl
only_two owner content Exhausted is sound = inr refl
only_two owner content f is sound = absurd (other_than owner content f (λ e. cc) (is (λ e. cc)) sound)
