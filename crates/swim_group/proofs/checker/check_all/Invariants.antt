use Rattle.std.proofs.Common.{[], take}
use Rattle.swim_group.specs.Checking.{KeepTheLaw, Remembers, as_sent}
use Rattle.swim_group.proofs.checker.check_all.Given as goal

-- the datagrams so far keep the law, and are remembered
abbrev pub invariant-loop-i : goal.invariant-loop-i
invariant-loop-i l = record {
  law : KeepTheLaw [] (as_sent (take l.i l.datagrams));
  known : Remembers l.checker (as_sent (take l.i l.datagrams));
}
