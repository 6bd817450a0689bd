-- What holds of a member at all times.
use Rattle.std.specs.Prelude.{◌≡◌, ℕ, ◌+◌, ◌*◌, ◌^◌, ◌≤◌, ◌==◌, ◌||◌, List, length, Option, Some}
use Rattle.std.specs.Prelude.{None, Bool, true, false}
use Rattle.swim_rules.specs.declared.table.Row.{Row}
use Rattle.swim_rules.specs.Rows.{Members, IsTable, row_of}
use Rattle.swim_gossip.specs.declared.buffer.Waiting.{Waiting}
use Rattle.swim_gossip.specs.Queue.{Gossip, AreApart, is_queued}
use Rattle.swim_member.specs.declared.settings.Settings.{Settings}
use Rattle.std.specs.List.{filter, list_all}
use Rattle.swim_member.specs.declared.state.Relay.{Relay}
use Rattle.swim_member.specs.Checks.{AreSound, rules_of}
use Rattle.swim_member.specs.Fit.{may_stand, may_wait}
use Rattle.swim_member.specs.Machinery.Steps.{is_live}

abbrev pub is_row : Option Row → Bool
is_row None = false
is_row (Some r) = true

-- the update of each row and the own one wait, each once, and no other does
pub record AllWait (me : ℕ) (rows : List Row) (queue : List Waiting) : Type 0 where
  pub apart : AreApart queue
  pub waits : (x : ℕ) → is_queued x queue ≡ (me == x || is_row (row_of rows x))
  pub count : length queue ≡ length rows + 1

-- the own number is n, the time t
pub record IsKept (s : Settings) (n t : ℕ) (members : Members) (b : Gossip) (made : List Relay)
    : Type 0 where
  pub me : members.me ≡ s.me
  pub suspect : members.suspect ≡ s.suspect
  pub forget : members.forget ≡ s.forget
  pub rules : members.rules ≡ rules_of s
  pub sound : AreSound s
  pub table : IsTable members
  pub wait : AllWait s.me members.rows b.queue
  pub most : b.most ≡ s.lambda * 9  -- the last bucket
  pub number : n ≤ 2 ^ 62
  pub time : t ≤ 2 ^ 62
  pub stand : list_all (may_stand s.me) members.rows ≡ true
  pub say : list_all (may_wait s.me n) b.queue ≡ true
  pub live : filter (is_live t s.period) made ≡ made  -- no relay is older than a period
