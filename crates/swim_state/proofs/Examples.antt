-- The definitions on small examples.
use Rattle.std.proofs.Common.{◌≡◌, ℕ, true, false, List, [], ◌∷◌, replicate, refl}
use Rattle.swim_state.specs.Second.{ascend, body, is_good, plain, saved_in, version_2}
use Rattle.swim_state.specs.File.{version_by, peers_by, slot_reading}
use Rattle.swim_state.specs.declared.layout.Saved.{Saved}
use Rattle.swim_state.specs.declared.layout.Version.TheVariants.{One, Two}
use Rattle.swim_state.specs.declared.layout.Reading.TheVariants.{Shut, Holds, Damaged}

-- 10.0.0.2:7000 and 10.0.0.3:7000
p : ℕ
p = 0x0a0000021b58

q : ℕ
q = 0x0a0000031b58

two : Saved
two = record { ceiling = 5; peers = p ∷ q ∷ [] }

none : Saved
none = record { ceiling = 5; peers = [] }

abbrev zeros : ℕ → List ℕ
zeros n = replicate n 0

-- the bytes before the complement
plain_two : plain two ≡ 0 ∷ 0 ∷ 0 ∷ 0 ∷ 0 ∷ 0 ∷ 0 ∷ 5 ∷ 2 ∷ 0x0a ∷ 0 ∷ 0 ∷ 2 ∷ 0x1b ∷ 0x58 ∷ 0x0a ∷ 0 ∷ 0 ∷ 3 ∷ 0x1b ∷ 0x58 ∷ zeros 36
unfolding plain two p q
plain_two = refl

back_two : saved_in (body two) ≡ two
unfolding saved_in body plain two p q
back_two = refl

good_two : is_good (body two) ≡ true
unfolding is_good saved_in body plain two p q
good_two = refl

good_none : is_good (body none) ≡ true
unfolding is_good saved_in body plain none
good_none = refl

-- descending, twice the same, port 0
down : ascend 0 (0x0a0000031b58 ∷ 0x0a0000021b58 ∷ []) ≡ false
down = refl

same : ascend 0 (0x0a0000021b58 ∷ 0x0a0000021b58 ∷ []) ≡ false
same = refl

no_port : ascend 0 (0x0a0000020000 ∷ []) ≡ false
no_port = refl

-- a zero body behind an open gate is damaged: its complement disagrees
zero_body : slot_reading version_2 0xA5 (zeros 114) ≡ Damaged
unfolding is_good saved_in body plain
zero_body = refl

marks : (version_by 0 ≡ One) × (version_by 0x5A ≡ One) × (version_by 0xA5 ≡ Two)
marks = (refl, refl, refl)

-- the peers of the greater ceiling, at equal ones those of A
equal : peers_by (Holds (record { ceiling = 5; peers = p ∷ [] })) (Holds (record { ceiling = 5; peers = q ∷ [] })) ≡ p ∷ []
equal = refl

greater : peers_by (Holds (record { ceiling = 5; peers = p ∷ [] })) (Holds (record { ceiling = 6; peers = q ∷ [] })) ≡ q ∷ []
greater = refl

shut : peers_by Shut (Holds (record { ceiling = 0; peers = q ∷ [] })) ≡ q ∷ []
shut = refl
