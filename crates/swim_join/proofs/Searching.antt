-- Who is found where others are looked for.
use Rattle.std.proofs.Common.{◌≡◌, ◌≢◌, ◌⊎◌, inl, inr, ℕ, List, [], ◌∷◌, ◌++◌, map, refl, sym, subst, zero, suc, Bool, true, false, not, cond, rules, tests}
use Rattle.std.specs.Prelude.{Option, Some, None, IfSome, slice_get, ◌==◌, ◌||◌, if◌then◌else◌}
use Rattle.std.specs.List.{filter}
use Rattle.swim_wire.specs.declared.update.Update.{Update}
use Rattle.swim_join.specs.Joins.{IsDrawnFrom, IsFailedFrom, IsFindable, IsNext, IsPeer, JoinerView, PeersView, has_row, is_held, may_be_drawn}
use Rattle.swim_join.specs.Searches.{back_in, drawn_back, is_back_in, is_sought, sought_in, missing_in, wanted_by}

-- each of these is such
abbrev Each : (ℕ → Type 0) → List ℕ → Type 0
Each P [] = Unit {0}
Each P (x ∷ xs) = P x × Each P xs

each_get : (P : ℕ → Type 0) (xs : List ℕ) (i : ℕ) → Each P xs → IfSome (slice_get xs i) P
each_get P [] i each = tt
each_get P (x ∷ xs) zero each = each.0
each_get P (x ∷ xs) (suc i) each = each_get P xs i each.1

each_append : (P : ℕ → Type 0) (xs ys : List ℕ) → Each P xs → Each P ys → Each P (xs ++ ys)
each_append P [] ys a b = b
each_append P (x ∷ xs) ys a b = (a.0, each_append P xs ys a.1 b)

each_so : (P Q : ℕ → Type 0) (xs : List ℕ) → ((x : ℕ) → P x → Q x) → Each P xs → Each Q xs
each_so P Q [] so each = tt
each_so P Q (x ∷ xs) so each = (so x each.0, each_so P Q xs so each.1)

each_kept : (P : ℕ → Type 0) (b : Bool) (x : ℕ) (xs : List ℕ) → (b ≡ true → P x) → Each P xs → Each P (cond b (x ∷ xs) xs)
each_kept P true x xs is each = (is refl, each)
each_kept P false x xs is each = each

row_kept : (P : ℕ → Type 0) (b : Bool) (r : Update) (rs : List Update) → (b ≡ true → P r.who) → Each P (map (λ (u : Update). u.who) rs) → Each P (map (λ (u : Update). u.who) (cond b (r ∷ rs) rs))
row_kept P true r rs is each = (is refl, each)
row_kept P false r rs is each = each

-- Those that are back.

same : (x y : ℕ) → (x == y) ≡ true → x ≡ y
same x y is = search (rules, tests)

differ : (x y : ℕ) → (x == y) ≡ false → x ≢ y
differ x y is = search (rules, tests)

either : (a b : Bool) → (a || b) ≡ true → (a ≡ true) ⊎ (b ≡ true)
either true b is = inl refl
either false b is = inr is

-- such a row shows it
record IsBackBy (a h m : Bool) : Type 0 where
  named : a ≡ true
  held : h ≡ true
  other : m ≡ false

by_tests : (a h m : Bool) → (if a then (if h then not m else false) else false) ≡ true → IsBackBy a h m
by_tests true true false is = record { named = refl; held = refl; other = refl }
by_tests true true true is = absurd (cc)
by_tests true false m is = absurd (cc)
by_tests false h m is = absurd (cc)

back_by : (me : ℕ) (r : Update) (x : ℕ) → IsBackBy (r.who == x) (is_held r.kind) (r.who == me) → (r.who ≡ x) × (is_held r.kind ≡ true) × (x ≢ me)
back_by me r x b =
    let is : r.who ≡ x = same r.who x b.named in
    (is, b.held, subst (λ y. y ≢ me) is (differ r.who me b.other))

back_drawn : (me : ℕ) (rows : List Update) (x : ℕ) → is_back_in me rows x ≡ true → IsDrawnFrom me rows x
back_drawn me [] x is = absurd (cc)
back_drawn me (r ∷ rows) x is = elim (either (if r.who == x then may_be_drawn me r else false) (is_back_in me rows x) is) [
  | inl here ↦ let b = back_by me r x (by_tests (r.who == x) (is_held r.kind) (r.who == me) here) in (inl (b.0, b.1), b.2)
  | inr later ↦ let d = back_drawn me rows x later in (inr d.0, d.1)
]

each_back : (me : ℕ) (rows : List Update) (sought : List ℕ) → Each (IsDrawnFrom me rows) (back_in me rows sought)
each_back me rows [] = tt
each_back me rows (x ∷ xs) = each_kept (IsDrawnFrom me rows) (is_back_in me rows x) x (back_in me rows xs) (back_drawn me rows x) (each_back me rows xs)

back_known : (me : ℕ) (rows : List Update) (sought : List ℕ) (word : ℕ) → IfSome (drawn_back me rows sought word) (IsDrawnFrom me rows)
back_known me rows sought word = each_get (IsDrawnFrom me rows) (back_in me rows sought) _ (each_back me rows sought)

-- Those that are wanted.

failed_by_tests : (h m : Bool) → (if m then false else (if h then false else true)) ≡ true → (h ≡ false) × (m ≡ false)
failed_by_tests false false is = (refl, refl)
failed_by_tests true false is = absurd (cc)
failed_by_tests h true is = absurd (cc)

row_failed : (me : ℕ) (r : Update) (rows : List Update) → is_sought me [] r ≡ true → IsFailedFrom me (r ∷ rows) r.who
row_failed me r rows is =
    let f = failed_by_tests (is_held r.kind) (r.who == me) is in
    (inl (refl, f.0), differ r.who me f.1)

each_failed : (me : ℕ) (rows : List Update) → Each (IsFailedFrom me rows) (sought_in me rows [])
each_failed me [] = tt
each_failed me (r ∷ rows) = row_kept (IsFailedFrom me (r ∷ rows)) (is_sought me [] r) r (filter (is_sought me []) rows) (row_failed me r rows)
    (each_so (IsFailedFrom me rows) (IsFailedFrom me (r ∷ rows)) (sought_in me rows []) (λ x is. (inr is.0, is.1)) (each_failed me rows))

each_listed : (p : ℕ → Bool) (peers : List ℕ) → Each (IsPeer peers) (filter p peers)
each_listed p [] = tt
each_listed p (x ∷ peers) = each_kept (IsPeer (x ∷ peers)) (p x) x (filter p peers) (λ is. (0, refl))
    (each_so (IsPeer peers) (IsPeer (x ∷ peers)) (filter p peers) (λ y is. (suc is.0, is.1)) (each_listed p peers))

wanted_known : (me : ℕ) (rows : List Update) (peers : List ℕ) (word : ℕ) → IfSome (wanted_by me rows peers word) (λ x. IsPeer peers x ⊎ (IsDrawnFrom me rows x ⊎ IsFailedFrom me rows x))
wanted_known me rows peers word =
    let P : ℕ → Type 0 = λ x. IsPeer peers x ⊎ (IsDrawnFrom me rows x ⊎ IsFailedFrom me rows x) in
    each_get P (sought_in me rows [] ++ missing_in rows peers) _ (each_append P (sought_in me rows []) (missing_in rows peers)
    (each_so (IsFailedFrom me rows) P (sought_in me rows []) (λ x is. inr (inr is)) (each_failed me rows))
    (each_so (IsPeer peers) P (missing_in rows peers) (λ x is. inl is) (each_listed (λ x. not (has_row rows x)) peers)))

-- Whoever is joined was found.

some_so : (P Q : ℕ → Type 0) (drawn : Option ℕ) → ((x : ℕ) → P x → Q x) → IfSome drawn P → IfSome drawn Q
some_so P Q None so is = tt
some_so P Q (Some x) so is = so x is

pub back_found : (result : Option ℕ) (j : JoinerView) (me : ℕ) (rows : List Update) (sought : List ℕ) (word : ℕ) → result ≡ drawn_back me rows sought word → me ≡ j.me → IfSome result (IsFindable j rows)
back_found result j me rows sought word is own = subst (λ o. IfSome o (IsFindable j rows)) (sym is)
    (some_so (IsDrawnFrom me rows) (IsFindable j rows) (drawn_back me rows sought word) (λ x known. inr (inl (subst (λ m. IsDrawnFrom m rows x) own known))) (back_known me rows sought word))

pub wanted_found : (result : Option ℕ) (j : JoinerView) (me : ℕ) (rows : List Update) (peers : List ℕ) (word : ℕ) → result ≡ wanted_by me rows peers word → me ≡ j.me → peers ≡ j.peers.list → IfSome result (IsFindable j rows)
wanted_found result j me rows peers word is own listed = subst (λ o. IfSome o (IsFindable j rows)) (sym is)
    (subst (λ m. IfSome (wanted_by me rows peers word) (λ x. IsPeer j.peers.list x ⊎ (IsDrawnFrom m rows x ⊎ IsFailedFrom m rows x))) own
    (subst (λ ps. IfSome (wanted_by me rows peers word) (λ x. IsPeer ps x ⊎ (IsDrawnFrom me rows x ⊎ IsFailedFrom me rows x))) listed (wanted_known me rows peers word)))

pub drawn_found : (result : Option ℕ) (j : JoinerView) (me : ℕ) (peers : PeersView) (rows : List Update) → IfSome result (λ x. IsNext peers x ⊎ IsDrawnFrom me rows x) → me ≡ j.me → peers ≡ j.peers → IfSome result (IsFindable j rows)
drawn_found None j me peers rows is own listed = tt
drawn_found (Some x) j me peers rows (inl next) own listed = inl (peers.next, subst (λ (p : PeersView). slice_get p.list peers.next ≡ Some x) listed next)
drawn_found (Some x) j me peers rows (inr drawn) own listed = inr (inl (subst (λ m. IsDrawnFrom m rows x) own drawn))

pub introduced_found : (result : Option ℕ) (j : JoinerView) (me : ℕ) (rows : List Update) → IfSome result (IsDrawnFrom me rows) → me ≡ j.me → IfSome result (IsFindable j rows)
introduced_found result j me rows is own = some_so (IsDrawnFrom me rows) (IsFindable j rows) result (λ x known. inr (inl (subst (λ m. IsDrawnFrom m rows x) own known))) is
