use Rattle.std.proofs.Common.{◌≡◌, ◌≢◌, ◌<◌, ◌≤◌, ◌^◌, max, drop}
use Rattle.swim_member.specs.OwnNumber.{greatest_asked}
use Rattle.swim_member.proofs.own_number.greatest_asked.Given as goal

-- the greatest so far, and of what is left
abbrev pub invariant-loop-update : goal.invariant-loop-update
invariant-loop-update l =
    record {
      greatest : max (greatest_asked l.rules l.me l.old (drop l.update-index l.updates)) l.greatest ≡ greatest_asked l.rules l.me l.old l.updates;
      bound : l.greatest ≤ 2 ^ 62;
      above : l.greatest ≢ 0 → l.old < l.greatest;
    }
