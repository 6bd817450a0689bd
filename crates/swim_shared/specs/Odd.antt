-- Which passes and watches do not fit the journal at the end.
use Rattle.std.specs.Prelude.{◌≡◌, ◌==◌, ◌&&◌, if◌then◌else◌, leb, ℕ, ◌+◌, Bool, true}
use Rattle.std.specs.Prelude.{List, [], ◌∷◌, length}
use mathlib.Core.List.{IsPrefix}
use Rattle.swim_node.specs.declared.entry.Entry.{Entry}
use Rattle.swim_node.specs.History.{calls_by}
use Rattle.swim_shared.specs.Passes.{PassView}

-- the pass is no odd one: its list is no longer than the journal, which has as many calls of its
-- caller as the pass has
abbrev pub is_in_step : PassView → List Entry → Bool
is_in_step p journal =
    leb (length p.seen) (length journal) && (length (calls_by p.caller journal) == p.calls)

-- the watch is no odd one: its list is no longer than the journal
abbrev pub watch_fits : List Entry → List Entry → Bool
watch_fits w journal = leb (length w) (length journal)

-- how many of these fail the test
abbrev pub fails_of : {A : Type 0} → (A → Bool) → List A → ℕ
fails_of ok [] = 0
fails_of ok (x ∷ xs) = (if ok x then 0 else 1) + fails_of ok xs

-- how many of these passes do not fit the journal
abbrev pub odd_passes : List Entry → List PassView → ℕ
odd_passes journal ps = fails_of (λ p. is_in_step p journal) ps

-- how many of these watches do not fit the journal
abbrev pub odd_watches : List Entry → List (List Entry) → ℕ
odd_watches journal ws = fails_of (λ w. watch_fits w journal) ws

-- how many of all these do not fit the journal
abbrev pub odd_of : List Entry → List PassView → List (List Entry) → ℕ
odd_of journal ps ws = odd_passes journal ps + odd_watches journal ws

-- P holds of each
abbrev pub Each : {A : Type 0} → (A → Type 0) → List A → Type 0
Each P [] = Unit {0}
Each P (x ∷ xs) = P x × Each P xs

-- if it fits, the pass has seen a beginning of the journal
abbrev pub Begins : List Entry → PassView → Type 0
Begins journal p = is_in_step p journal ≡ true → IsPrefix p.seen journal

-- if it fits, the watch has seen a beginning of the journal
abbrev pub WatchBegins : List Entry → List Entry → Type 0
WatchBegins journal w = watch_fits w journal ≡ true → IsPrefix w journal

-- each pass that fits has seen a beginning of the journal
abbrev pub AllBegin : List Entry → List PassView → Type 0
AllBegin journal ps = Each (Begins journal) ps

-- each watch that fits has seen a beginning of the journal
abbrev pub AllWatchesBegin : List Entry → List (List Entry) → Type 0
AllWatchesBegin journal ws = Each (WatchBegins journal) ws
