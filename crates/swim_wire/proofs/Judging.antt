-- The tests that compute agree with the sets of texts, so the first of them that holds is the first fault.
use Rattle.std.proofs.Common.{◌≡◌, ◌≢◌, ℕ, Bool, ◌+◌, ◌-◌, ◌*◌, ◌/◌, ◌<◌, ◌≤◌, List, [], ◌∷◌, length, take, Some, None, refl, sym, ap, subst, ◌∙◌, arith, inl, inr}
use Rattle.std.specs.Prelude.{slice_index, ◌==◌, ◌||◌, ◌&&◌, nat_lt, not, Option}
use Rattle.std.specs.Bool.{Decides}
use Rattle.std.specs.Str.{bytes_eq}
use Rattle.std.specs.List.{find}
use Rattle.std.proofs.lemmas.Bool.{cases_Bool, cond-true, cond-false}
use Rattle.std.proofs.lemmas.Bool.Decides.{Decides-eqb, Decides-ltb, Decides-like, Decides-not, Decides-and, Decides-or, Decides-below_or, not_from_Decides}
use Rattle.std.proofs.lemmas.Slice.Eq.{bytes_eq-Decides}
use Rattle.swim_wire.specs.declared.rules.Rules.{Rules}
use Rattle.swim_wire.specs.declared.rules.Rules.TheVariants.{One, Two}
use Rattle.swim_wire.specs.declared.datagram.Kind.{Kind as Kinds}
use Rattle.swim_wire.specs.declared.datagram.Kind.TheVariants.{Ping, PingReq, Ack, Join, Page}
use Rattle.swim_wire.specs.declared.update.UpdateKind.{UpdateKind as UpdateKinds}
use Rattle.swim_wire.specs.declared.update.UpdateKind.TheVariants.{Alive, Suspect, Confirm}
use Rattle.swim_wire.specs.declared.fault.WireFault.{WireFault}
use Rattle.swim_wire.specs.declared.fault.WireFault.TheVariants.{TooShort, TooLong, Magic, Version, Kind, Count, Reserved, Endpoint, UpdateKind, Number}
use Rattle.swim_wire.specs.Numbers.{number_at, is_code}
use Rattle.swim_wire.specs.Updates.{update_code, HasReservedUpdate, HasNoMember, HasUnknownCode, HasGreatNumber, has_reserved_update, has_no_member, has_unknown_code, has_great_number}
use Rattle.swim_wire.specs.Codes.{rules_code, kind_code, fault_number}
use Rattle.swim_wire.specs.Spelling.{magic}
use Rattle.swim_wire.specs.Faults.{Has, SomeUpdate, HasNoSubject, TakesCursor, IsFirstFault, IsFaultless, from_update}
use Rattle.swim_wire.specs.Reading.{datagram_of}
use Rattle.swim_wire.specs.Decoding.{some_below, some_update, is_zero_cursor, has_fault, all_faults, read_as, decoded}
use Rattle.swim_wire.proofs.Order.{fault_number_one, fault_number_lt}
use Rattle.swim_wire.specs.declared.update.TheConstants.{NUMBER_MAX}

-- ---- each test

is_version : (code : ℕ) → Decides (not (is_code 2 code)) ((r : Rules) → code ≢ rules_code r)
is_version code = Decides-like (not (is_code 2 code)) other none (Decides-not (is_code 2 code) (Decides-and (nat_lt 0 code) (nat_lt code 3) (Decides-ltb 0 code) (Decides-ltb code 3)))
  where
    other : ¬ ((0 < code) × (code < 3)) → (r : Rules) → code ≢ rules_code r
    other h One e = h (omega arith, omega arith)
    other h Two e = h (omega arith, omega arith)

    none : ((r : Rules) → code ≢ rules_code r) → ¬ ((0 < code) × (code < 3))
    none h p =
        let a : code ≢ 1 = h One in
        let b : code ≢ 2 = h Two in
        omega arith

is_kind : (code : ℕ) → Decides (not (is_code 5 code)) ((k : Kinds) → code ≢ kind_code k)
is_kind code = Decides-like (not (is_code 5 code)) other none (Decides-not (is_code 5 code) (Decides-and (nat_lt 0 code) (nat_lt code 6) (Decides-ltb 0 code) (Decides-ltb code 6)))
  where
    other : ¬ ((0 < code) × (code < 6)) → (k : Kinds) → code ≢ kind_code k
    other h Ping e = h (omega arith, omega arith)
    other h PingReq e = h (omega arith, omega arith)
    other h Ack e = h (omega arith, omega arith)
    other h Join e = h (omega arith, omega arith)
    other h Page e = h (omega arith, omega arith)

    none : ((k : Kinds) → code ≢ kind_code k) → ¬ ((0 < code) × (code < 6))
    none h p =
        let a : code ≢ 1 = h Ping in
        let b : code ≢ 2 = h PingReq in
        let c : code ≢ 3 = h Ack in
        let d : code ≢ 4 = h Join in
        let e : code ≢ 5 = h Page in
        omega arith

is_update_kind : (code : ℕ) → Decides (not (is_code 3 code)) ((k : UpdateKinds) → code ≢ update_code k)
is_update_kind code = Decides-like (not (is_code 3 code)) other none (Decides-not (is_code 3 code) (Decides-and (nat_lt 0 code) (nat_lt code 4) (Decides-ltb 0 code) (Decides-ltb code 4)))
  where
    other : ¬ ((0 < code) × (code < 4)) → (k : UpdateKinds) → code ≢ update_code k
    other h Alive e = h (omega arith, omega arith)
    other h Suspect e = h (omega arith, omega arith)
    other h Confirm e = h (omega arith, omega arith)

    none : ((k : UpdateKinds) → code ≢ update_code k) → ¬ ((0 < code) × (code < 4))
    none h p =
        let a : code ≢ 1 = h Alive in
        let b : code ≢ 2 = h Suspect in
        let c : code ≢ 3 = h Confirm in
        omega arith

is_not : (m n : ℕ) → Decides (not (m == n)) (m ≢ n)
is_not m n = Decides-not (m == n) (Decides-eqb m n)

-- some whole update passes a test
of_update : (test : List ℕ → Bool) (P : List ℕ → Type 0) (bytes : List ℕ) → ((u : List ℕ) → Decides (test u) (P u)) → Decides (some_update test bytes) (SomeUpdate P bytes)
of_update test P bytes each =
    Decides-like (some_update test bytes) there here
    (Decides-below_or (λ i. test (from_update i bytes)) (λ i. P (from_update i bytes)) (λ n. some_below n (λ i. test (from_update i bytes))) (λ i. each (from_update i bytes)) refl (λ _. refl) ((length bytes - 32) / 16))
  where
    there : ((i : ℕ) × (i < (length bytes - 32) / 16) × P (from_update i bytes)) → SomeUpdate P bytes
    there (i, lt, p) = (i, (omega arith, p))

    here : SomeUpdate P bytes → (i : ℕ) × (i < (length bytes - 32) / 16) × P (from_update i bytes)
    here (i, q) = let le : 32 + 16 * i + 16 ≤ length bytes = q.0 in (i, omega arith, q.1)

zero_cursor : (bytes : List ℕ) → Decides (is_zero_cursor bytes) (TakesCursor bytes × (number_at 26 4 bytes ≡ 0))
zero_cursor bytes =
    Decides-and (slice_index bytes 5 == 4 || slice_index bytes 5 == 5) (number_at 26 4 bytes == 0)
    (Decides-or (slice_index bytes 5 == 4) (slice_index bytes 5 == 5) (Decides-eqb (slice_index bytes 5) 4) (Decides-eqb (slice_index bytes 5) 5))
    (Decides-eqb (number_at 26 4 bytes) 0)

no_subject : (bytes : List ℕ) → Decides ((number_at 30 2 bytes == 0) && not (is_zero_cursor bytes)) (HasNoSubject bytes)
no_subject bytes =
    Decides-and (number_at 30 2 bytes == 0) (not (is_zero_cursor bytes)) (Decides-eqb (number_at 30 2 bytes) 0) (Decides-not (is_zero_cursor bytes) (zero_cursor bytes))

no_member : (bytes : List ℕ) → Decides (some_update has_no_member bytes) (SomeUpdate HasNoMember bytes)
no_member bytes = of_update has_no_member HasNoMember bytes (λ u. Decides-eqb (number_at 6 2 u) 0)

pub judged : (f : WireFault) (bytes : List ℕ) → Decides (has_fault f bytes) (Has f bytes)
judged TooShort bytes = Decides-ltb (length bytes) 32
judged TooLong bytes = Decides-ltb 512 (length bytes)
judged Magic bytes = Decides-not (bytes_eq (take 4 bytes) magic) (bytes_eq-Decides (take 4 bytes) magic)
judged Version bytes = is_version (slice_index bytes 4)
judged Kind bytes = is_kind (slice_index bytes 5)
judged Count bytes = is_not (length bytes) (32 + 16 * slice_index bytes 6)
judged Reserved bytes =
    Decides-or (not (slice_index bytes 7 == 0)) (some_update has_reserved_update bytes)
    (is_not (slice_index bytes 7) 0)
    (of_update has_reserved_update HasReservedUpdate bytes (λ u. is_not (slice_index u 1) 0))
judged Endpoint bytes =
    Decides-or (number_at 24 2 bytes == 0) (((number_at 30 2 bytes == 0) && not (is_zero_cursor bytes)) || some_update has_no_member bytes)
    (Decides-eqb (number_at 24 2 bytes) 0)
    (Decides-or ((number_at 30 2 bytes == 0) && not (is_zero_cursor bytes)) (some_update has_no_member bytes) (no_subject bytes) (no_member bytes))
judged UpdateKind bytes = of_update has_unknown_code HasUnknownCode bytes (λ u. is_update_kind (slice_index u 0))
judged Number bytes = of_update has_great_number HasGreatNumber bytes (λ u. Decides-ltb NUMBER_MAX (number_at 8 8 u))

-- ---- the first that holds

-- the faults of the list have the numbers from n on, to the last
abbrev AreFrom : ℕ → List WireFault → Type 0
AreFrom n [] = n ≡ 11
AreFrom n (f ∷ faults) = (fault_number f ≡ n) × AreFrom (n + 1) faults

abbrev found : List WireFault → List ℕ → Option WireFault
found faults bytes = find (λ fault. has_fault fault bytes) faults

find_first : (faults : List WireFault) (n : ℕ) (g : WireFault) (bytes : List ℕ) → AreFrom n faults → IsFirstFault g bytes → n ≤ fault_number g → found faults bytes ≡ Some g
find_first [] n g bytes e first le = absurd (omega (arith, fault_number_lt g, e))
find_first (f ∷ faults) n g bytes (e, rest) first le =
    elim (cases_Bool (has_fault f bytes)) [
      | inl holds ↦
          let here : Has f bytes = (judged f bytes).0 holds in
          let ge : fault_number f < fault_number g → ⊥ = λ lt. first.first f lt here in
          let same : f ≡ g = fault_number_one f g (omega (arith, ge)) in
          cond-true (has_fault f bytes) (Some f) (found faults bytes) holds ∙ ap (λ (x : WireFault). let o : Option WireFault = Some x in o) same
      | inr fails ↦
          let other : fault_number f ≡ fault_number g → ⊥ = λ same. not_from_Decides (has_fault f bytes) (judged f bytes) fails (subst (λ (x : WireFault). Has x bytes) (fault_number_one g f (sym same)) first.has) in
          cond-false (has_fault f bytes) (Some f) (found faults bytes) fails ∙ find_first faults (n + 1) g bytes rest first (omega (arith, other))
    ]

find_none : (faults : List WireFault) (bytes : List ℕ) → IsFaultless bytes → found faults bytes ≡ None
find_none [] bytes none = refl
find_none (f ∷ faults) bytes none =
    elim (cases_Bool (has_fault f bytes)) [
      | inl holds ↦ absurd (none f ((judged f bytes).0 holds))
      | inr fails ↦ cond-false (has_fault f bytes) (Some f) (found faults bytes) fails ∙ find_none faults bytes none
    ]

pub reading-fault : (bytes : List ℕ) (f : WireFault) → IsFirstFault f bytes → decoded bytes ≡ read_as (Some f) (datagram_of bytes)
reading-fault bytes f first =
    ap (λ (o : Option WireFault). read_as o (datagram_of bytes)) (find_first all_faults 1 f bytes (refl, (refl, (refl, (refl, (refl, (refl, (refl, (refl, (refl, (refl, refl)))))))))) first (omega (arith, at_least f)))
  where
    at_least : (g : WireFault) → 1 ≤ fault_number g
    at_least TooShort = omega arith
    at_least TooLong = omega arith
    at_least Magic = omega arith
    at_least Version = omega arith
    at_least Kind = omega arith
    at_least Count = omega arith
    at_least Reserved = omega arith
    at_least Endpoint = omega arith
    at_least UpdateKind = omega arith
    at_least Number = omega arith

pub reading-faultless : (bytes : List ℕ) → IsFaultless bytes → decoded bytes ≡ read_as None (datagram_of bytes)
reading-faultless bytes none = ap (λ (o : Option WireFault). read_as o (datagram_of bytes)) (find_none all_faults bytes none)
