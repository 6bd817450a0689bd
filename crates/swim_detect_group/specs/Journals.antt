-- How a node finds a member that fell silent, and why it suspects one, by its journal.
use Rattle.std.specs.List.{AllByRecursion}
use Rattle.std.specs.Prelude.{◌≡◌, ℕ, ◌≤◌, List, [], ◌∷◌, ◌++◌, length}
use Rattle.swim_rules.specs.declared.table.TheConstants.{ROWS_MAX}
use Rattle.swim_rules.specs.Rows.{row_of}
use Rattle.swim_member.specs.Checks.{AreSound}
use Rattle.swim_member.specs.Events.{log_of}
use Rattle.swim_member.specs.declared.answer.Out.{Out}
use Rattle.swim_node.specs.History.{Base, IsLegal, step_of, steps, state_after}
use Rattle.swim_node.specs.declared.entry.Entry.{Entry}
use Rattle.swim_detect.specs.Causes.{IsAccounted}
use Rattle.swim_detect.specs.Finding.{deadline, GetsFound}
use Rattle.swim_detect.specs.Silence.{AreSilentOn, HasAtLeast}

-- after these entries nothing vouches for x any more, in the stretch that ends a legal history
pub record FallsSilent (x n : ℕ) (base : Base) (before stretch : List Entry) : Type 0 where
  pub legal : IsLegal base (before ++ stretch)
  pub sound : AreSound base.state.settings
  pub few : length (state_after base before).rows ≤ ROWS_MAX
  pub known : HasAtLeast n (row_of (state_after base before).rows x)
  pub silent : AreSilentOn x n base.state (log_of base.state (steps before)) (steps stretch)

-- then the node finds it, if the journal goes on for so long
abbrev pub NodeFindsSilent : ℕ → ℕ → Base → List Entry → List Entry → Type 0
NodeFindsSilent x n base before stretch =
    FallsSilent x n base before stretch
    → deadline ROWS_MAX x base.state (steps before) ≤ (state_after base (before ++ stretch)).time
    → GetsFound ROWS_MAX x base.state (steps before) (steps stretch)

-- Why it suspects

-- each update in the datagrams of an entry is about the node's own member, or the era began with
-- it, or it has a cause up to that entry
abbrev pub EntriesAreAccounted : Base → List Entry → Type 0
EntriesAreAccounted base history =
    (before : List Entry) → (e : Entry) → (after : List Entry)
    → history ≡ before ++ e ∷ after
    → AllByRecursion (λ (o : Out).
    AllByRecursion (IsAccounted base.state (steps before ++ step_of e ∷ []))
    o.datagram.updates.items) e.outs.items
