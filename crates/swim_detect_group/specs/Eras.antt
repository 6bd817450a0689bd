-- How a node finds a member that fell silent, over the eras of its life: no era's end delays it.
use Rattle.std.specs.List.{AllByRecursion}
use Rattle.std.specs.Prelude.{◌≡◌, ℕ, ◌≤◌, ◌⊎◌, true, false, List, [], ◌∷◌, ◌++◌, length}
use Rattle.swim_rules.specs.declared.table.TheConstants.{ROWS_MAX}
use Rattle.swim_rules.specs.Rows.{row_of}
use Rattle.swim_member.specs.Checks.{AreSound}
use Rattle.swim_member.specs.Events.{Step, state_of}
use Rattle.swim_member.specs.Member.{is_eligible_name}
use Rattle.swim_node.specs.History.{Base, steps, state_after}
use Rattle.swim_node.specs.Lives.{Era, AreJoined}
use Rattle.swim_detect.specs.Finding.{deadline, IsConfirmed}
use Rattle.swim_detect.specs.Silence.{AreSilentOn, HasAtLeast}

-- in this era, whose base reads as itself as each base of a node does, nothing vouches for x
pub record IsSilentEra (x n : ℕ) (era : Era) : Type 0 where
  pub reads : state_of era.base.state [] ≡ era.base.state
  pub silent : AreSilentOn x n era.base.state [] (steps era.entries)

-- after some first entries of this era, and by then, the row of x is Confirm
pub record ConfirmsIn (x until : ℕ) (era : Era) : Type 0 where
  pub done : List Step
  pub rest : List Step
  pub parts : steps era.entries ≡ done ++ rest
  pub found : is_eligible_name (state_of era.base.state done) x ≡ false
  pub confirmed : IsConfirmed x (state_of era.base.state done)
  pub soon : (state_of era.base.state done).time ≤ until

-- so it is in one of these eras
abbrev pub ConfirmInOne : ℕ → ℕ → List Era → Type 0
ConfirmInOne x until [] = ⊥
ConfirmInOne x until (era ∷ eras) = ConfirmsIn x until era ⊎ ConfirmInOne x until eras

-- the member's time at the end of the last of these eras
abbrev pub time_after : ℕ → List Era → ℕ
time_after now [] = now
time_after now (era ∷ eras) = time_after (state_after era.base era.entries).time eras

-- an x that is eligible where these eras begin, and of which n is heard there; nothing vouches for
-- it in any of them
pub record FallsSilentFor (x n : ℕ) (start : Base) (eras : List Era) (last : Base) : Type 0 where
  pub joined : AreJoined start eras last
  pub reads : state_of start.state [] ≡ start.state
  pub sound : AreSound start.state.settings
  pub few : length start.state.rows ≤ ROWS_MAX
  pub eligible : is_eligible_name start.state x ≡ true
  pub known : HasAtLeast n (row_of start.state.rows x)
  pub silent : AllByRecursion (IsSilentEra x n) eras

-- then the node finds it by its deadline, if these eras go on for so long
abbrev pub ErasFindSilent : ℕ → ℕ → Base → List Era → Base → Type 0
ErasFindSilent x n start eras last =
    FallsSilentFor x n start eras last
    → deadline ROWS_MAX x start.state [] ≤ time_after start.state.time eras
    → ConfirmInOne x (deadline ROWS_MAX x start.state []) eras
