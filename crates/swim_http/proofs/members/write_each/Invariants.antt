use Rattle.std.proofs.Common.{◌≡◌, ◌++◌, take}
use Rattle.swim_http.specs.Members.{state_samples}
use Rattle.swim_http.proofs.members.write_each.Given as goal

-- the states so far
abbrev pub invariant-loop-row : goal.invariant-loop-row
invariant-loop-row l = l.text.bytes.items ≡ l.initial.text.bytes.items ++ state_samples l.group (take l.row-index l.rows)
