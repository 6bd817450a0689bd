-- A turn as the code keeps it, and whom it comes to next.
use Rattle.std.specs.List.{IsDistinct}
use Rattle.std.specs.Prelude.{ℕ, ◌+◌, ◌≤◌, ◌==◌, List, length, take, Option, Some, None, slice_get}
use Rattle.swim_member.specs.State.{State}
use Rattle.swim_member.specs.Turn.{next_listed, passed_over, eligible_names, dealt}

-- the turn list, and how many of its members were probed or passed over
pub record TurnListView : Type 0 where
  pub listed : List ℕ
  pub place : ℕ

-- nobody is listed twice, and the place is within the list
pub record IsTurn (listed : List ℕ) (place : ℕ) : Type 0 where
  pub once : IsDistinct (λ x y. x == y) listed
  pub within : place ≤ length listed

-- the next listed member, if there is one, and else the first of a new list
abbrev pub target_of : Option ℕ → List ℕ → Option ℕ
target_of (Some x) made = Some x
target_of None made = slice_get made 0

-- the member that is probed next
abbrev pub target : State → List ℕ → Option ℕ
target s deal = target_of (next_listed s) (dealt (eligible_names s) deal)

-- the state after the turn came to the next listed member,
-- if there is one, or else to the first of a new list
abbrev pub turned_by : State → Option ℕ → List ℕ → State
turned_by s (Some x) made = record s { place = s.place + (passed_over s + 1) }
turned_by s None made = record s { listed = made; place = length (take 1 made) }

-- the state after the turn came to the member that is probed next
abbrev pub turned : State → List ℕ → State
turned s deal = turned_by s (next_listed s) (dealt (eligible_names s) deal)
