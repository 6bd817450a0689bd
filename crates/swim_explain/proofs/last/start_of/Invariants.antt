use Rattle.std.proofs.Common.{◌≡◌, ◌≤◌, [], false, drop}
use Rattle.std.specs.List.{slice_range}
use Rattle.swim_explain.specs.Lasting.{last_case}
use Rattle.swim_explain.proofs.last.start_of.Given as goal

-- the accounts of one suspicion so far, and those that are left
abbrev pub invariant-loop-place : goal.invariant-loop-place
invariant-loop-place l =
    record {
      within : l.start ≤ l.place;
      last : last_case l.number (slice_range l.accounts l.start l.place) l.is_over (drop l.place l.accounts) ≡ last_case l.number [] false l.accounts;
    }
