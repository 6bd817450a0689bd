-- What has no fault is spelled by its fields, and what spells a datagram has no fault and that datagram's fields.
use Rattle.std.proofs.Common.{◌≡◌, ◌≢◌, ℕ, zero, suc, ◌+◌, ◌*◌, ◌/◌, ◌%◌, ◌^◌, ◌<◌, ◌≤◌, List, [], ◌∷◌, ◌++◌, length, get_or, take, drop, Ok, Err, refl, sym, ap, subst, ◌∙◌, arith, length-drop, length-append, inl, inr}
use Rattle.std.specs.Prelude.{slice_index, ◌⊎◌, ◌↔◌, Result}
use Rattle.std.specs.List.{flat_map}
use Rattle.std.specs.Int.{bytes_high_first}
use Rattle.std.proofs.lemmas.Bool.{cases_eq}
use Rattle.std.proofs.lemmas.List.{drop-drop, get_or-drop, take-append-drop, append-nil}
use Rattle.std.proofs.lemmas.List.Elements.{All-from_recursion, recursion_from_All}
use Rattle.byteorder.specs.Numbers.{big_number-reads_back, big_from-lt}
use Rattle.swim_wire.specs.declared.rules.Rules.{Rules}
use Rattle.swim_wire.specs.declared.rules.Rules.TheVariants.{One, Two}
use Rattle.swim_wire.specs.declared.datagram.Datagram.{Datagram}
use Rattle.swim_wire.specs.declared.datagram.Kind.{Kind as Kinds}
use Rattle.swim_wire.specs.declared.datagram.Kind.TheVariants.{Ping, PingReq, Ack, Join, Page}
use Rattle.swim_wire.specs.declared.fault.WireFault.{WireFault}
use Rattle.swim_wire.specs.declared.fault.WireFault.TheVariants.{TooShort, TooLong, Magic, Version, Kind, Count, Reserved, Endpoint, UpdateKind, Number}
use Rattle.swim_wire.specs.Numbers.{number_at, IsEndpoint, IsCursor, AreBytes}
use Rattle.swim_wire.specs.Codes.{rules_code, kind_code, MayHaveZero}
use Rattle.swim_wire.specs.Spelling.{magic, head_text, spelling, IsEncodable, Spells}
use Rattle.swim_wire.specs.Updates.{update_text, UpdateFits, HasReservedUpdate, HasNoMember, HasUnknownCode, HasGreatNumber}
use Rattle.swim_wire.specs.Faults.{Has, SomeUpdate, TakesCursor, HasNoSubject, IsFirstFault, IsFaultless, from_update}
use Rattle.swim_wire.specs.Reading.{rules_of_code, kind_of, updates_of, datagram_of}
use Rattle.swim_wire.proofs.Texts.{AreBytes-drop, take_split, cells_4, back_4, back_6, back_8, number_at-drop, endpoint_at}
use Rattle.swim_wire.proofs.Order.{first_fault_one}
use Rattle.swim_wire.proofs.Updates.{BeginsWell, same_number, updates_spelled, updates_fit, length-updates_of, updates_read_back, updates_are_well, length-updates, low_bits}

-- ---- rules

pub rules_of_code-rules_code : (r : Rules) → rules_of_code (rules_code r) ≡ r
rules_of_code-rules_code One = refl
rules_of_code-rules_code Two = refl

neither_is : (n : ℕ) → n ≢ 1 → n ≢ 2 → (r : Rules) → n ≢ rules_code r
neither_is n a b One = a
neither_is n a b Two = b

rules_code-rules_of_code : (n : ℕ) → ¬ ((r : Rules) → n ≢ rules_code r) → rules_code (rules_of_code n) ≡ n
rules_code-rules_of_code zero h = absurd (h (neither_is 0 (λ e. omega arith) (λ e. omega arith)))
rules_code-rules_of_code (suc zero) h = refl
rules_code-rules_of_code (suc (suc zero)) h = refl
rules_code-rules_of_code (suc (suc (suc n))) h = absurd (h (neither_is (suc (suc (suc n))) (λ e. omega arith) (λ e. omega arith)))

-- ---- kinds

pub kind_of-kind_code : (k : Kinds) → kind_of (kind_code k) ≡ k
kind_of-kind_code Ping = refl
kind_of-kind_code PingReq = refl
kind_of-kind_code Ack = refl
kind_of-kind_code Join = refl
kind_of-kind_code Page = refl

none_is : (n : ℕ) → n ≢ 1 → n ≢ 2 → n ≢ 3 → n ≢ 4 → n ≢ 5 → (k : Kinds) → n ≢ kind_code k
none_is n a b c d e Ping = a
none_is n a b c d e PingReq = b
none_is n a b c d e Ack = c
none_is n a b c d e Join = d
none_is n a b c d e Page = e

pub kind_code-kind_of : (n : ℕ) → ¬ ((k : Kinds) → n ≢ kind_code k) → kind_code (kind_of n) ≡ n
kind_code-kind_of zero h = absurd (h (none_is 0 (λ e. omega arith) (λ e. omega arith) (λ e. omega arith) (λ e. omega arith) (λ e. omega arith)))
kind_code-kind_of (suc zero) h = refl
kind_code-kind_of (suc (suc zero)) h = refl
kind_code-kind_of (suc (suc (suc zero))) h = refl
kind_code-kind_of (suc (suc (suc (suc zero)))) h = refl
kind_code-kind_of (suc (suc (suc (suc (suc zero))))) h = refl
kind_code-kind_of (suc (suc (suc (suc (suc (suc n)))))) h = absurd (h (none_is (suc (suc (suc (suc (suc (suc n)))))) (λ e. omega arith) (λ e. omega arith) (λ e. omega arith) (λ e. omega arith) (λ e. omega arith)))

may_have_zero : (n : ℕ) → (n ≡ 4) ⊎ (n ≡ 5) → MayHaveZero (kind_of n)
may_have_zero n (inl e) = subst (λ (m : ℕ). MayHaveZero (kind_of m)) (sym e) tt
may_have_zero n (inr e) = subst (λ (m : ℕ). MayHaveZero (kind_of m)) (sym e) tt

takes_zero : (k : Kinds) → MayHaveZero k → (kind_code k ≡ 4) ⊎ (kind_code k ≡ 5)
takes_zero Ping h = absurd h
takes_zero PingReq h = absurd h
takes_zero Ack h = absurd h
takes_zero Join h = inl refl
takes_zero Page h = inr refl

-- ---- a text without a fault

-- each of its updates begins well
all_begin_well : (bytes : List ℕ) (i : ℕ) → IsFaultless bytes → i < slice_index bytes 6 → length bytes ≡ 32 + 16 * slice_index bytes 6 → BeginsWell (drop (16 * i) (drop 32 bytes))
all_begin_well bytes i none lt long =
    let within : 32 + 16 * i + 16 ≤ length bytes = omega arith in
    let at : drop (16 * i) (drop 32 bytes) ≡ from_update i bytes = drop-drop (16 * i) 32 bytes in
    subst BeginsWell (sym at) (record {
      reserved = λ h. none Reserved (inr (i, (within, h)));
      member = λ h. none Endpoint (inr (inr (i, (within, h))));
      kind = λ h. none UpdateKind (i, (within, h));
      number = λ h. none Number (i, (within, h));
    })

-- its subject
record SubjectFits (bytes : List ℕ) : Type 0 where
  pub cursor : IsCursor (number_at 26 6 bytes)
  pub zero_subject : number_at 26 6 bytes ≡ 0 → (slice_index bytes 5 ≡ 4) ⊎ (slice_index bytes 5 ≡ 5)

joined : (a b c d e f : ℕ) → a * 16777216 + (b * 65536 + (c * 256 + (d * 1 + 0))) ≡ 0 → e * 256 + (f * 1 + 0) ≡ 0 → a * 1099511627776 + (b * 4294967296 + (c * 16777216 + (d * 65536 + (e * 256 + (f * 1 + 0))))) ≡ 0
joined a b c d e f p q = omega arith

parted : (a b c d e f : ℕ) → a * 1099511627776 + (b * 4294967296 + (c * 16777216 + (d * 65536 + (e * 256 + (f * 1 + 0))))) ≡ 0 → e * 256 + (f * 1 + 0) ≡ 0
parted a b c d e f p = omega arith

zero_place : (xs : List ℕ) → number_at 0 4 xs ≡ 0 → number_at 4 2 xs ≡ 0 → number_at 0 6 xs ≡ 0
zero_place xs p q =
    let q' = rw (get_or-drop 4 xs 0 0, get_or-drop 4 xs 1 0) at q in
    joined (get_or xs 0 0) (get_or xs 1 0) (get_or xs 2 0) (get_or xs 3 0) (get_or xs 4 0) (get_or xs 5 0) p q'

zero_port : (xs : List ℕ) → number_at 0 6 xs ≡ 0 → number_at 4 2 xs ≡ 0
zero_port xs p = rw (get_or-drop 4 xs 0 0, get_or-drop 4 xs 1 0) (parted (get_or xs 0 0) (get_or xs 1 0) (get_or xs 2 0) (get_or xs 3 0) (get_or xs 4 0) (get_or xs 5 0) p)

takes_cursor : (bytes : List ℕ) → ¬ ¬ TakesCursor bytes → TakesCursor bytes
takes_cursor bytes h =
    elim (cases_eq (slice_index bytes 5) 4) [
      | inl e ↦ inl e
      | inr ne ↦ elim (cases_eq (slice_index bytes 5) 5) [
        | inl e ↦ inr e
        | inr ne' ↦ absurd (h (neither ne ne'))
      ]
    ]
  where
    neither : slice_index bytes 5 ≢ 4 → slice_index bytes 5 ≢ 5 → ¬ TakesCursor bytes
    neither ne ne' (inl e) = ne e
    neither ne ne' (inr e) = ne' e

pub zero_subject_at : (bytes : List ℕ) → ¬ HasNoSubject bytes → number_at 30 2 bytes ≡ 0 → number_at 26 4 bytes ≡ 0
zero_subject_at bytes h z = same_number (number_at 26 4 bytes) 0 (λ ne. h (z, λ p. ne p.1))

subject_fits : (bytes : List ℕ) → AreBytes bytes → ¬ HasNoSubject bytes → SubjectFits bytes
subject_fits bytes fits h =
    let here = drop 26 bytes in
    let port_is : number_at 4 2 here ≡ number_at 30 2 bytes = number_at-drop 4 2 26 bytes in
    let both : number_at 30 2 bytes ≡ 0 → TakesCursor bytes × (number_at 26 4 bytes ≡ 0) = λ z. (takes_cursor bytes (λ no. h (z, λ p. no p.0)), zero_subject_at bytes h z) in
    record {
      cursor = elim (cases_eq (number_at 30 2 bytes) 0) [
        | inl z ↦ inl (zero_place here (both z).1 (port_is ∙ z))
        | inr ne ↦ inr (endpoint_at here (AreBytes-drop 26 bytes fits) (λ e. ne (sym port_is ∙ e)))
      ];
      zero_subject = λ e. (both (sym port_is ∙ zero_port here e)).0;
    }

-- its head
four : (a b c d p q r s : ℕ) → ¬ ((a ∷ b ∷ c ∷ d ∷ []) ≢ (p ∷ q ∷ r ∷ s ∷ [])) → (a ∷ b ∷ c ∷ d ∷ []) ≡ (p ∷ q ∷ r ∷ s ∷ [])
four a b c d p q r s h =
    let at_0 = same_number a p (λ ne. h (λ e. ne (ap (λ (l : List ℕ). get_or l 0 0) e))) in
    let at_1 = same_number b q (λ ne. h (λ e. ne (ap (λ (l : List ℕ). get_or l 1 0) e))) in
    let at_2 = same_number c r (λ ne. h (λ e. ne (ap (λ (l : List ℕ). get_or l 2 0) e))) in
    let at_3 = same_number d s (λ ne. h (λ e. ne (ap (λ (l : List ℕ). get_or l 3 0) e))) in
    λ i. at_0 i ∷ at_1 i ∷ at_2 i ∷ at_3 i ∷ []

magic_is : (bytes : List ℕ) → 4 ≤ length bytes → ¬ (take 4 bytes ≢ magic) → take 4 bytes ≡ magic
magic_is bytes long h =
    let cells = cells_4 bytes long in
    cells ∙ four (get_or bytes 0 0) (get_or bytes 1 0) (get_or bytes 2 0) (get_or bytes 3 0) 83 87 73 77 (λ ne. h (λ e. ne (sym cells ∙ e)))

head_spelled : (bytes : List ℕ) → AreBytes bytes → IsFaultless bytes → length bytes ≡ 32 + 16 * slice_index bytes 6 → take 32 bytes ≡ head_text (datagram_of bytes)
head_spelled bytes fits none long =
    let pieces : take 32 bytes ≡ (((((take 4 bytes ++ take 4 (drop 4 bytes)) ++ take 8 (drop 8 bytes)) ++ take 4 (drop 16 bytes)) ++ take 6 (drop 20 bytes)) ++ take 6 (drop 26 bytes)) =
    take_split 26 6 bytes ∙ ap (λ (t : List ℕ). t ++ take 6 (drop 26 bytes)) (
    take_split 20 6 bytes ∙ ap (λ (t : List ℕ). t ++ take 6 (drop 20 bytes)) (
    take_split 16 4 bytes ∙ ap (λ (t : List ℕ). t ++ take 4 (drop 16 bytes)) (
    take_split 8 8 bytes ∙ ap (λ (t : List ℕ). t ++ take 8 (drop 8 bytes)) (take_split 4 4 bytes)))) in
    let version = get_or-drop 4 bytes 0 0 ∙ sym (rules_code-rules_of_code (slice_index bytes 4) (none Version)) in
    let kind = get_or-drop 4 bytes 1 0 ∙ sym (kind_code-kind_of (slice_index bytes 5) (none Kind)) in
    let count = get_or-drop 4 bytes 2 0 ∙ sym (length-updates_of (slice_index bytes 6) (drop 32 bytes)) in
    let reserved = get_or-drop 4 bytes 3 0 ∙ same_number (slice_index bytes 7) 0 (λ h. none Reserved (inl h)) in
    let front = magic_is bytes (omega arith) (none Magic) in
    let cells = cells_4 (drop 4 bytes) (omega (arith, length-drop 4 bytes)) in
    let group = sym (back_8 (drop 8 bytes) (omega (arith, length-drop 8 bytes)) (AreBytes-drop 8 bytes fits)) in
    let seq = sym (back_4 (drop 16 bytes) (omega (arith, length-drop 16 bytes)) (AreBytes-drop 16 bytes fits)) in
    let sender = sym (back_6 (drop 20 bytes) (omega (arith, length-drop 20 bytes)) (AreBytes-drop 20 bytes fits)) in
    let subject = sym (back_6 (drop 26 bytes) (omega (arith, length-drop 26 bytes)) (AreBytes-drop 26 bytes fits)) in
    pieces ∙ ap (λ (t : List ℕ). ((((take 4 bytes ++ t) ++ take 8 (drop 8 bytes)) ++ take 4 (drop 16 bytes)) ++ take 6 (drop 20 bytes)) ++ take 6 (drop 26 bytes)) cells
    ∙ (λ i. ((((front i ++ (version i ∷ kind i ∷ count i ∷ reserved i ∷ [])) ++ group i) ++ seq i) ++ sender i) ++ subject i)

pub faultless_spelled : (bytes : List ℕ) → AreBytes bytes → IsFaultless bytes → Spells bytes (datagram_of bytes)
faultless_spelled bytes fits none =
    let long : length bytes ≡ 32 + 16 * slice_index bytes 6 = same_number (length bytes) (32 + 16 * slice_index bytes 6) (none Count) in
    let short : length bytes ≤ 512 = omega (arith, none TooLong) in
    let kind : kind_code (kind_of (slice_index bytes 5)) ≡ slice_index bytes 5 = kind_code-kind_of (slice_index bytes 5) (none Kind) in
    let subject = subject_fits bytes fits (λ h. none Endpoint (inr (inl h))) in
    let well : (i : ℕ) → i < slice_index bytes 6 → BeginsWell (drop (16 * i) (drop 32 bytes)) = λ i lt. all_begin_well bytes i none lt long in
    let count : length (updates_of (slice_index bytes 6) (drop 32 bytes)) ≡ slice_index bytes 6 = length-updates_of (slice_index bytes 6) (drop 32 bytes) in
    record {
      fits = record {
        head = record {
          group = big_from-lt 0 8 (drop 8 bytes) (AreBytes-drop 8 bytes fits);
          seq = big_from-lt 0 4 (drop 16 bytes) (AreBytes-drop 16 bytes fits);
          sender = endpoint_at (drop 20 bytes) (AreBytes-drop 20 bytes fits) (λ e. none Endpoint (inl (sym (number_at-drop 4 2 20 bytes) ∙ e)));
          subject = subject.cursor;
          count = omega arith;
        };
        zero_subject = λ e. may_have_zero (slice_index bytes 5) (subject.zero_subject e);
        updates = All-from_recursion UpdateFits (updates_of (slice_index bytes 6) (drop 32 bytes)) (updates_fit (slice_index bytes 6) (drop 32 bytes) (AreBytes-drop 32 bytes fits) well);
      };
      text = sym (take-append-drop 32 bytes) ∙ (λ i. head_spelled bytes fits none long i ++ sym (updates_spelled (slice_index bytes 6) (drop 32 bytes) (omega (arith, length-drop 32 bytes)) (AreBytes-drop 32 bytes fits) well) i);
    }

-- ---- a text that spells a datagram

high_zero : (n : ℕ) → n ≡ 0 → n / 1099511627776 % 256 * 16777216 + (n / 4294967296 % 256 * 65536 + (n / 16777216 % 256 * 256 + (n / 65536 % 256 * 1 + 0))) ≡ 0
high_zero n e = omega arith

length-spelling : (d : Datagram) → length (spelling d) ≡ 32 + 16 * length d.updates.items
length-spelling d = length-append (head_text d) (flat_map update_text d.updates.items) ∙ ap (λ n. 32 + n) (length-updates d.updates.items)

-- what is not so of any update of it is not so of some
none_of_updates : (P : List ℕ → Type 0) (d : Datagram) → IsEncodable d → ((xs : List ℕ) → BeginsWell xs → ¬ P xs) → ¬ SomeUpdate P (spelling d)
none_of_updates P d fits not (i, rest) =
    let us = d.updates.items in
    let at : from_update i (spelling d) ≡ drop (16 * i) (flat_map update_text us) = sym (drop-drop (16 * i) 32 (spelling d)) in
    not (drop (16 * i) (flat_map update_text us)) (updates_are_well us (recursion_from_All UpdateFits us fits.updates) i (omega (arith, rest.0, length-updates us, length-spelling d))) (subst P at rest.1)

subject_is_well : (d : Datagram) → IsEncodable d → ¬ HasNoSubject (spelling d)
subject_is_well d fits h =
    elim fits.head.subject [
      | inl z ↦ h.1 (takes_zero d.kind (fits.zero_subject z), high_zero d.subject z)
      | inr e ↦ absurd (port e h.0)
    ]
  where
    port : IsEndpoint d.subject → number_at 30 2 (spelling d) ≡ 0 → ⊥
    port e z = omega (arith, e.has_port, low_bits d.subject, z)

spelled_has : (d : Datagram) → IsEncodable d → (fault : WireFault) → ¬ Has fault (spelling d)
spelled_has d fits TooShort h = omega (arith, length-spelling d, h)
spelled_has d fits TooLong h = omega (arith, length-spelling d, h, fits.head.count)
spelled_has d fits Magic h = h refl
spelled_has d fits Version h = h d.version refl
spelled_has d fits Kind h = h d.kind refl
spelled_has d fits Count h = h (length-spelling d)
spelled_has d fits Reserved (inl h) = h refl
spelled_has d fits Reserved (inr h) = none_of_updates HasReservedUpdate d fits (λ xs well. well.reserved) h
spelled_has d fits Endpoint (inl z) = omega (arith, fits.head.sender.has_port, low_bits d.sender, z)
spelled_has d fits Endpoint (inr (inl h)) = subject_is_well d fits h
spelled_has d fits Endpoint (inr (inr h)) = none_of_updates HasNoMember d fits (λ xs well. well.member) h
spelled_has d fits UpdateKind h = none_of_updates HasUnknownCode d fits (λ xs well. well.kind) h
spelled_has d fits Number h = none_of_updates HasGreatNumber d fits (λ xs well. well.number) h

pub spelled_faultless : (bytes : List ℕ) (d : Datagram) → Spells bytes d → IsFaultless bytes
spelled_faultless bytes d s fault = subst (λ (text : List ℕ). ¬ Has fault text) (sym s.text) (spelled_has d s.fits fault)

cursor_fits : (n : ℕ) → IsCursor n → n < 2 ^ 48
cursor_fits n (inl z) = omega arith
cursor_fits n (inr e) = e.six_bytes

datagram_of-spelling : (d : Datagram) → IsEncodable d → datagram_of (spelling d) ≡ d
datagram_of-spelling d fits =
    let us = d.updates.items in
    let after_subject = flat_map update_text us in
    let after_sender = bytes_high_first 6 d.subject ++ after_subject in
    let after_seq = bytes_high_first 6 d.sender ++ after_sender in
    let after_group = bytes_high_first 4 d.seq ++ after_seq in
    let version = rules_of_code-rules_code d.version in
    let kind = kind_of-kind_code d.kind in
    let group : number_at 8 8 (spelling d) ≡ d.group = big_number-reads_back 8 d.group after_group fits.head.group in
    let seq : number_at 16 4 (spelling d) ≡ d.seq = big_number-reads_back 4 d.seq after_seq fits.head.seq in
    let sender : number_at 20 6 (spelling d) ≡ d.sender = big_number-reads_back 6 d.sender after_sender fits.head.sender.six_bytes in
    let subject : number_at 26 6 (spelling d) ≡ d.subject = big_number-reads_back 6 d.subject after_subject (cursor_fits d.subject fits.head.subject) in
    let updates : updates_of (length us) after_subject ≡ us = ap (updates_of (length us)) (sym (append-nil after_subject)) ∙ updates_read_back us [] (recursion_from_All UpdateFits us fits.updates) in
    λ i. record { version = version i; kind = kind i; group = group i; seq = seq i; sender = sender i; subject = subject i; updates = record { items = updates i } }

-- the fields of a text that spells a datagram are that datagram's
pub datagram_of_spelled : (bytes : List ℕ) (d : Datagram) → Spells bytes d → datagram_of bytes ≡ d
datagram_of_spelled bytes d s = ap datagram_of s.text ∙ datagram_of-spelling d s.fits

-- ---- what decoding answers

abbrev ok : Datagram → Result Datagram WireFault
ok d = Ok d

abbrev err : WireFault → Result Datagram WireFault
err fault = Err fault

pub read_is : (d e : Datagram) → d ≡ e → ok d ≡ ok e
read_is d e h = ap ok h

ok_one : (d e : Datagram) → ok d ≡ ok e → d ≡ e
ok_one d e h = cc

err_one : (f g : WireFault) → err f ≡ err g → f ≡ g
err_one f g h = cc

not_err : (d : Datagram) (f : WireFault) → ok d ≡ err f → ⊥
not_err d f h = cc

pub read_ok : (bytes : List ℕ) (read : Datagram) → AreBytes bytes → IsFaultless bytes → ok read ≡ ok (datagram_of bytes) → (d : Datagram) → (ok read ≡ ok d) ↔ Spells bytes d
read_ok bytes read fits none is d = (
  λ e. subst (Spells bytes) (ok_one (datagram_of bytes) d (sym is ∙ e)) (faultless_spelled bytes fits none),
  λ s. is ∙ ap ok (datagram_of_spelled bytes d s),
)

pub read_err : (bytes : List ℕ) (read : Datagram) → IsFaultless bytes → (f : WireFault) → (ok read ≡ err f) ↔ IsFirstFault f bytes
read_err bytes read none f = (λ e. absurd (not_err read f e), λ p. absurd (none f p.has))

pub fault_ok : (bytes : List ℕ) (f : WireFault) → IsFirstFault f bytes → (d : Datagram) → (err f ≡ ok d) ↔ Spells bytes d
fault_ok bytes f p d = (λ e. absurd (not_err d f (sym e)), λ s. absurd (spelled_faultless bytes d s f p.has))

pub fault_err : (bytes : List ℕ) (f : WireFault) → IsFirstFault f bytes → (g : WireFault) → (err f ≡ err g) ↔ IsFirstFault g bytes
fault_err bytes f p g =
    (λ e. subst (λ (x : WireFault). IsFirstFault x bytes) (err_one f g e) p, λ q. ap err (first_fault_one f g bytes p q))
