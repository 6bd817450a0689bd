-- The order of the faults.
use Rattle.std.specs.Prelude.{IsTrue, ◌↔◌}
use Rattle.std.proofs.Common.{◌≡◌, ℕ, Bool, true, false, zero, suc, ◌+◌, ◌<◌, ◌⊎◌, List, refl, sym, ap, subst, ◌∙◌, arith, inl, inr}
use Rattle.std.proofs.lemmas.Bool.{cases_lt}
use Rattle.swim_wire.specs.declared.fault.WireFault.{WireFault}
use Rattle.swim_wire.specs.declared.fault.WireFault.TheVariants.{TooShort, TooLong, Magic, Version, Kind, Count, Reserved, Endpoint, UpdateKind, Number}
use Rattle.swim_wire.specs.Codes.{fault_number}
use Rattle.swim_wire.specs.Faults.{Has, HasReserved, HasNoEndpoint, HasUnknownUpdateKind, HasNumberOver, HasNoneBelow, IsFirstFault, IsFaultless}

-- the fault with this number
fault_of : ℕ → WireFault
fault_of (suc (suc zero)) = TooLong
fault_of (suc (suc (suc zero))) = Magic
fault_of (suc (suc (suc (suc zero)))) = Version
fault_of (suc (suc (suc (suc (suc zero))))) = Kind
fault_of (suc (suc (suc (suc (suc (suc zero)))))) = Count
fault_of (suc (suc (suc (suc (suc (suc (suc zero))))))) = Reserved
fault_of (suc (suc (suc (suc (suc (suc (suc (suc zero)))))))) = Endpoint
fault_of (suc (suc (suc (suc (suc (suc (suc (suc (suc zero))))))))) = UpdateKind
fault_of (suc (suc (suc (suc (suc (suc (suc (suc (suc (suc zero)))))))))) = Number
fault_of n = TooShort

fault_of-fault_number : (f : WireFault) → fault_of (fault_number f) ≡ f
unfolding fault_of
fault_of-fault_number TooShort = refl
fault_of-fault_number TooLong = refl
fault_of-fault_number Magic = refl
fault_of-fault_number Version = refl
fault_of-fault_number Kind = refl
fault_of-fault_number Count = refl
fault_of-fault_number Reserved = refl
fault_of-fault_number Endpoint = refl
fault_of-fault_number UpdateKind = refl
fault_of-fault_number Number = refl

pub fault_number_one : (f g : WireFault) → fault_number f ≡ fault_number g → f ≡ g
fault_number_one f g e = sym (fault_of-fault_number f) ∙ ap fault_of e ∙ fault_of-fault_number g

pub fault_number_lt : (f : WireFault) → fault_number f < 11
fault_number_lt TooShort = omega arith
fault_number_lt TooLong = omega arith
fault_number_lt Magic = omega arith
fault_number_lt Version = omega arith
fault_number_lt Kind = omega arith
fault_number_lt Count = omega arith
fault_number_lt Reserved = omega arith
fault_number_lt Endpoint = omega arith
fault_number_lt UpdateKind = omega arith
fault_number_lt Number = omega arith

-- one fault more is ruled out
pub none_next : (f : WireFault) (n : ℕ) (bytes : List ℕ) → HasNoneBelow (fault_number f) bytes → ¬ Has f bytes → n ≡ fault_number f + 1 → HasNoneBelow n bytes
none_next f n bytes none not e g lt =
    elim (cases_lt (fault_number g) (fault_number f)) [
      | inl less ↦ none g less
      | inr le ↦ subst (λ (x : WireFault). ¬ Has x bytes) (fault_number_one f g (omega arith)) not
    ]

pub none_at_all : (bytes : List ℕ) → HasNoneBelow 11 bytes → IsFaultless bytes
none_at_all bytes none f = none f (fault_number_lt f)

pub none_of : (bytes : List ℕ) (n : ℕ) → IsFaultless bytes → HasNoneBelow n bytes
none_of bytes n none f lt = none f

-- the first fault is one
pub first_fault_one : (f g : WireFault) (bytes : List ℕ) → IsFirstFault f bytes → IsFirstFault g bytes → f ≡ g
first_fault_one f g bytes p q =
    elim (cases_lt (fault_number f) (fault_number g)) [
      | inl less ↦ absurd (q.first f less p.has)
      | inr le ↦ elim (cases_lt (fault_number g) (fault_number f)) [
        | inl less ↦ absurd (p.first g less q.has)
        | inr le' ↦ fault_number_one f g (omega arith)
      ]
    ]

-- ---- faults of fields

pub neither : (A B : Type 0) → ¬ A → ¬ B → ¬ (A ⊎ B)
neither A B a b (inl x) = a x
neither A B a b (inr x) = b x

-- without the faults before them and without those of fields there is none
pub none_of_fields : (bytes : List ℕ) → HasNoneBelow 7 bytes → ¬ HasReserved bytes → ¬ HasNoEndpoint bytes → ¬ HasUnknownUpdateKind bytes → ¬ HasNumberOver bytes → IsFaultless bytes
none_of_fields bytes none reserved endpoint kind number =
    let none_8 = none_next Reserved 8 bytes none reserved refl in
    let none_9 = none_next Endpoint 9 bytes none_8 endpoint refl in
    let none_10 = none_next UpdateKind 10 bytes none_9 kind refl in
    none_at_all bytes (none_next Number 11 bytes none_10 number refl)

-- ---- what a test says

pub test_holds : (b : Bool) (P : Type 0) → (IsTrue b ↔ P) → b ≡ true → P
test_holds b P h e = h.0 e

pub test_fails : (b : Bool) (P : Type 0) → (IsTrue b ↔ P) → b ≡ false → ¬ P
test_fails b P h e p = let yes : b ≡ true = h.1 p in absurd cc
