-- What became of the joiner in a turn.
use Rattle.std.proofs.Common.{◌≡◌, ◌≢◌, ℕ, Option, [], Some, None, inr, refl, ap, sym, subst}
use Rattle.swim_join.specs.Joins.{JoinerView}
use Rattle.swim_library.specs.Pacing.{Advances, FollowsClock, FollowsInVain}
use Rattle.swim_library.specs.Seeking.{LacksForTask, OnlySeeks, Seeks, SeeksInVain, TakesTurn, TurnsInVain}
use Rattle.swim_library.specs.declared.running.Running.{Running}
use Rattle.swim_library.specs.declared.seeking.Seeking.{Seeking}

-- the joiner that is there stays
pub stays : (s : Seeking) (j : JoinerView) → s.joiner ≡ Some j → s ≡ record s { joiner = Some j }
stays s j is = ap (λ (o : Option JoinerView). record s { joiner = o }) is

pub only_same : (old : Running) → OnlySeeks old old
only_same old = record { node = refl; outbox = refl; notes = refl; told = refl; due = refl; limit = refl }

-- memory was short for a join, and nothing was done
pub lacks_all : (old new : Running) → new ≡ old → LacksForTask old new
lacks_all old new same = subst (λ (n : Running). LacksForTask old n) (sym same) (record {
  vain = record { pages = 0; rows = []; full = (refl, refl); told = refl };
  seeking = refl;
})

-- a joiner that is there
some_of : (o : Option JoinerView) → o ≢ None → (j : JoinerView) × (o ≡ Some j)
some_of None not_none = absurd (not_none refl)
some_of (Some j) not_none = (j, refl)

-- it had a turn
pub had_turn : (old new : Running) (now due next : ℕ) → old.seeking.joiner ≢ None → ((j : JoinerView) → old.seeking.joiner ≡ Some j → TakesTurn j old new now due next) → Seeks old new now due next
had_turn old new now due next there turn = let some = some_of old.seeking.joiner there in inr (inr (some.0, (some.1, turn some.0 some.1)))

-- it had one in vain
pub had_turn_in_vain : (old new : Running) (now : ℕ) → old.seeking.joiner ≢ None → ((j : JoinerView) → old.seeking.joiner ≡ Some j → TurnsInVain j old new now) → SeeksInVain old new now
had_turn_in_vain old new now there turn = let some = some_of old.seeking.joiner there in (some.0, (some.1, turn some.0 some.1))

-- a tick or none, and a turn or none
pub follows : (old mid new : Running) (now due next : ℕ) → Advances old mid now due → Seeks mid new now due next → FollowsClock old new now next
follows old mid new now due next ticks seeks = record { due = due; between = mid; ticks = ticks; seeks = seeks }

-- a tick or none, and a turn in vain
pub follows_in_vain : (old mid new : Running) (now due : ℕ) → Advances old mid now due → SeeksInVain mid new now → FollowsInVain old new now
follows_in_vain old mid new now due ticks seeks = inr (record { due = due; between = mid; ticks = ticks; seeks = seeks })
