-- Whom a member joins, as its joiner asks for it.
use Rattle.std.specs.Prelude.{◌≡◌, ℕ, List, [], fold, Option, Some, None}
use Rattle.swim_member.specs.declared.event.Event.{Event}
use Rattle.swim_member.specs.declared.event.Event.TheVariants.{Join}
use Rattle.swim_shell.specs.Calls.{CallerView}
use Rattle.swim_join.specs.Joins.{JoinerView}
use Rattle.swim_join.specs.Turns.{Turned}

-- whom the member is to join once it is asked this, too
abbrev pub joined_after : Option ℕ → Event → Option ℕ
joined_after peer (Join x) = Some x
joined_after peer _ = peer

-- whom it is to join by these calls: the last that one of them joins
abbrev pub last_joined : List Event → Option ℕ
last_joined asked = fold joined_after None asked

-- the joiner had one turn, as that of a member that runs; this is whom it joined in it
pub record HasTurn (j k : JoinerView) (peer : Option ℕ) : Type 0 where
  pub before : CallerView
  pub after : CallerView
  pub first : before.asked ≡ []
  pub turned : Turned j before k after
  pub joined : peer ≡ last_joined after.asked
