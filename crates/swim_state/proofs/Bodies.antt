-- Bodies of version 2, byte by byte.
use Rattle.std.proofs.Common.{◌≡◌, ℕ, zero, suc, ◌+◌, ◌-◌, ◌*◌, ◌%◌, ◌^◌, ◌<◌, ◌≤◌, Bool, true, false, ◌&&◌, nat_lt, nat_le, if◌then◌else◌, List, [], ◌∷◌, ◌++◌, length, drop, replicate, slice_index, Some, None, refl, sym, ◌∙◌, ap, arith, length-append, append_assoc, All}
use Rattle.std.proofs.lemmas.Bool.{and_from, and_parts, le-leb, leb-true, false_from_ne_true}
use Rattle.std.proofs.lemmas.List.{drop-drop, length-map, length-replicate}
use Rattle.std.proofs.lemmas.Grind.{flat_map-append}
use Rattle.std.proofs.lemmas.List.Elements.{All-head, All-tail}
use Rattle.std.proofs.lemmas.Slice.Eq.{bytes_eq-Decides}
use Rattle.std.specs.List.{flat_map}
use Rattle.byteorder.specs.Endian.{big_bytes, big_number}
use Rattle.byteorder.specs.Numbers.{big_number-reads_back}
use Rattle.swim_state.specs.File.{slot_reading, said}
use Rattle.swim_state.specs.Second.{ascend, body, complement, endpoints, is_good, may_be_saved, places, plain, saved_in, version_2}
use Rattle.swim_state.specs.declared.layout.Reading.TheVariants.{Holds}
use Rattle.swim_state.specs.declared.layout.Saved.{Saved}

pub length-peers : (xs : List ℕ) → length (flat_map (big_bytes 6) xs) ≡ 6 * length xs
length-peers [] = refl
length-peers (x ∷ xs) = omega (arith, length-append (big_bytes 6 x) (flat_map (big_bytes 6) xs), length-peers xs)

-- the peers of a body, one after the other
pub endpoints_next : (n i : ℕ) (bytes : List ℕ) → i < n → endpoints (n - i) bytes ≡ big_number 6 bytes ∷ endpoints (n - (i + 1)) (drop 6 bytes)
endpoints_next n i bytes less = let e : n - i ≡ suc (n - (i + 1)) = omega (arith, less) in ap (λ k. endpoints k bytes) e

pub rest_next : (count i : ℕ) (bytes : List ℕ) → i < count → endpoints (count - i) (drop (9 + 6 * i) bytes) ≡ big_number 6 (drop (9 + 6 * i) bytes) ∷ endpoints (count - (i + 1)) (drop (9 + 6 * (i + 1)) bytes)
rest_next count i bytes less =
    let at : 9 + 6 * i + 6 ≡ 9 + 6 * (i + 1) = omega arith in
    endpoints_next count i (drop (9 + 6 * i) bytes) less
    ∙ ap (λ (l : List ℕ). big_number 6 (drop (9 + 6 * i) bytes) ∷ endpoints (count - (i + 1)) l) (drop-drop 6 (9 + 6 * i) bytes ∙ ap (λ k. drop k bytes) at)

pub length-endpoints : (n : ℕ) (bytes : List ℕ) → length (endpoints n bytes) ≡ n
length-endpoints zero bytes = refl
length-endpoints (suc n) bytes = ap suc (length-endpoints n (drop 6 bytes))

pub some_if : {X : Type 0} (t : Bool) (x p : X) → Some p ≡ (if t then Some x else None) → (t ≡ true) × (p ≡ x)
some_if true x p is = (refl, cc)
some_if false x p is = cc

pub none_if : {X : Type 0} (t : Bool) (x : X) → None ≡ (if t then Some x else None) → t ≡ false
none_if true x is = cc
none_if false x is = refl

pub step_on : (before x p : ℕ) (rest : List ℕ) → Some p ≡ (if nat_lt before x && nat_lt 0 (x % 65536) then Some x else None) → ascend before (x ∷ rest) ≡ ascend p rest
step_on before x p rest is =
    let both = some_if (nat_lt before x && nat_lt 0 (x % 65536)) x p is in
    ap (λ t. t && ascend x rest) both.0 ∙ ap (λ n. ascend n rest) (sym both.1)

pub step_off : (before x : ℕ) (rest : List ℕ) → None ≡ (if nat_lt before x && nat_lt 0 (x % 65536) then Some x else None) → ascend before (x ∷ rest) ≡ false
step_off before x rest is = ap (λ t. t && ascend x rest) (none_if (nat_lt before x && nat_lt 0 (x % 65536)) x is)

-- the tests of a body
good_parts : (bytes : List ℕ) → is_good bytes ≡ true → (may_be_saved (saved_in bytes) ≡ true) × (bytes ≡ body (saved_in bytes))
unfolding is_good
good_parts bytes good =
    let both = and_parts _ _ good in
    (both.0, (bytes_eq-Decides bytes (body (saved_in bytes))).0 both.1)

pub stand_parts : (saved : Saved) → may_be_saved saved ≡ true → (saved.ceiling ≤ 2 ^ 62) × (length saved.peers ≤ 8) × (ascend 0 saved.peers ≡ true)
stand_parts saved stands =
    let both = and_parts (nat_le saved.ceiling (2 ^ 62) && nat_le (length saved.peers) 8) (ascend 0 saved.peers) stands in
    let low = and_parts (nat_le saved.ceiling (2 ^ 62)) (nat_le (length saved.peers) 8) both.0 in
    (leb-true _ _ low.0, leb-true _ _ low.1, both.1)

pub stand_from : (saved : Saved) → saved.ceiling ≤ 2 ^ 62 → length saved.peers ≤ 8 → ascend 0 saved.peers ≡ true → may_be_saved saved ≡ true
stand_from saved le few up = and_from _ _ (and_from _ _ (le-leb _ _ le) (le-leb _ _ few)) up

pub count_in : (bytes : List ℕ) → length (saved_in bytes).peers ≡ slice_index bytes 8
unfolding saved_in
count_in bytes = length-endpoints (slice_index bytes 8) (drop 9 bytes)

pub saved_is : (bytes : List ℕ) (ceiling : ℕ) (peers : List ℕ) → ceiling ≡ big_number 8 bytes → peers ≡ endpoints (slice_index bytes 8) (drop 9 bytes) → record { ceiling = ceiling; peers = peers } ≡ saved_in bytes
unfolding saved_in
saved_is bytes ceiling peers high those = λ i. record { ceiling = high i; peers = those i }

-- a body for which one of them fails says nothing
pub not_said : (bytes : List ℕ) → ((saved_in bytes).ceiling ≤ 2 ^ 62 → length (saved_in bytes).peers ≤ 8 → ascend 0 (saved_in bytes).peers ≡ true → bytes ≡ body (saved_in bytes) → ⊥) → None ≡ said version_2 bytes
not_said bytes never =
    let bad : is_good bytes ≡ false = false_from_ne_true (is_good bytes) (λ good.
    let p = good_parts bytes good in
    let stands = stand_parts (saved_in bytes) p.0 in
    absurd (never stands.0 stands.1 stands.2 p.1)) in
    rw bad

pub good_from : (bytes : List ℕ) → may_be_saved (saved_in bytes) ≡ true → bytes ≡ body (saved_in bytes) → is_good bytes ≡ true
unfolding is_good
good_from bytes stands same = and_from _ _ stands ((bytes_eq-Decides bytes (body (saved_in bytes))).1 same)

pub said_good : (bytes : List ℕ) → is_good bytes ≡ true → said version_2 bytes ≡ Some (saved_in bytes)
said_good bytes good = rw good

-- what was written is read back
peers_back : (xs tail : List ℕ) → All (λ peer. peer < 2 ^ 48) xs → endpoints (length xs) (flat_map (big_bytes 6) xs ++ tail) ≡ xs
peers_back [] tail fit = refl
peers_back (x ∷ xs) tail fit =
    let rest = flat_map (big_bytes 6) xs ++ tail in
    let first : big_number 6 (big_bytes 6 x ++ rest) ≡ x = big_number-reads_back 6 x rest (All-head (λ peer. peer < 2 ^ 48) x xs fit) in
    ap (λ n. n ∷ endpoints (length xs) rest) first ∙ ap (λ (l : List ℕ). x ∷ l) (peers_back xs tail (All-tail (λ peer. peer < 2 ^ 48) x xs fit))

pub saved_back : (saved : Saved) → saved.ceiling < 2 ^ 64 → All (λ peer. peer < 2 ^ 48) saved.peers → saved_in (body saved) ≡ saved
unfolding saved_in body plain
saved_back saved le fit =
    let after = flat_map (big_bytes 6) (places saved.peers) in
    let flat = flat_map-append (big_bytes 6) saved.peers (replicate (8 - length saved.peers) 0) in
    let unused = flat_map (big_bytes 6) (replicate (8 - length saved.peers) 0) in
    let mirror = complement (plain saved) in
    let ceiling : big_number 8 (body saved) ≡ saved.ceiling = big_number-reads_back 8 saved.ceiling ((length saved.peers ∷ after) ++ mirror) le in
    let joined : after ++ mirror ≡ flat_map (big_bytes 6) saved.peers ++ (unused ++ mirror) = ap (λ (l : List ℕ). l ++ mirror) flat ∙ append_assoc (flat_map (big_bytes 6) saved.peers) unused mirror in
    let those : endpoints (length saved.peers) (after ++ mirror) ≡ saved.peers = ap (λ (l : List ℕ). endpoints (length saved.peers) l) joined ∙ peers_back saved.peers (unused ++ mirror) fit in
    λ i. record { ceiling = ceiling i; peers = those i }

pub body_good : (saved : Saved) → may_be_saved saved ≡ true → All (λ peer. peer < 2 ^ 48) saved.peers → is_good (body saved) ≡ true
body_good saved stands fit =
    let back = saved_back saved (omega (arith, (stand_parts saved stands).0)) fit in
    good_from (body saved) (ap may_be_saved back ∙ stands) (sym (ap body back))

pub length-plain : (saved : Saved) → length saved.peers ≤ 8 → length (plain saved) ≡ 57
unfolding plain
length-plain saved few =
    let unused : List ℕ = replicate (8 - length saved.peers) 0 in
    omega (arith, few, length-peers (places saved.peers), length-append saved.peers unused, length-replicate {A = ℕ} (8 - length saved.peers) 0)

pub length-body : (saved : Saved) → length saved.peers ≤ 8 → length (body saved) ≡ 114
unfolding body
length-body saved few = omega (arith, length-append (plain saved) (complement (plain saved)), length-plain saved few, length-map (plain saved) (λ byte. 255 - byte))

pub body_reads : (saved : Saved) → may_be_saved saved ≡ true → All (λ peer. peer < 2 ^ 48) saved.peers → slot_reading version_2 0xA5 (body saved) ≡ Holds saved
body_reads saved stands fit = rw (body_good saved stands fit) (ap Holds (saved_back saved (omega (arith, (stand_parts saved stands).0)) fit))
