use Rattle.std.proofs.Common.{◌≡◌, ◌≤◌, length, take}
use Rattle.swim_member.proofs.send.Outs.copy_from.Given as goal

-- those before the next one were added, and there is room for the rest
abbrev pub invariant-loop-out : goal.invariant-loop-out
invariant-loop-out l = record {
  added : l.self.items ≡ take l.out-index l.out-items;
  room : length l.out-items ≤ 10;
}
