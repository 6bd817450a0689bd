-- What has passed, and what was told when.
use Rattle.std.specs.Prelude.{◌≡◌, ℕ, ◌-◌, nat_le, Bool, true, false, List, ◌++◌}
use Rattle.std.specs.Prelude.{Option, Some, None}
use Rattle.std.specs.Time.{instant_nanos}
use Rattle.std.specs.declared.time.Instant.{Instant}
use Rattle.swim_wire.specs.declared.update.Update.{Update}
use Rattle.swim_node.specs.declared.entry.Status.{Status}
use Rattle.swim_news.specs.declared.change.Change.{Change}
use Rattle.swim_news.specs.News.{AreNews}

-- how many others the status shows as failed
abbrev pub failed_shown : Option Status → ℕ
failed_shown None = 0
failed_shown (Some s) = s.confirmed

-- so long has passed since then, if that is known; a clock that was not read says no
abbrev pub has_passed : Option Instant → Option Instant → ℕ → Bool
has_passed now None time = true
has_passed None (Some since) time = false
has_passed (Some now) (Some since) time = nat_le time (instant_nanos now - instant_nanos since)

-- what a contract sees of news: the rows that were compared last, when that was, and all changes
-- that were logged so far
pub record NewsView : Type 0 where
  pub rows : List Update
  pub compared : Option Instant
  pub told : List Change

-- the changes to these rows were logged, and these are kept
pub record TellsNews (n : NewsView) (now : Option Instant) (rows : List Update) (m : NewsView)
    : Type 0 where
  pub changes : List Change
  pub are : AreNews n.rows rows changes
  pub told : m.told ≡ n.told ++ changes
  pub kept : m.rows ≡ rows
  pub time : m.compared ≡ now
