use Rattle.std.proofs.Common.{◌≡◌, ◌<◌, drop}
use Rattle.swim_replay.specs.Machinery.Calls.{all_met}
use Rattle.swim_replay.proofs.Calls.{nothing_met}
use Rattle.swim_replay.proofs.met.read_met.Given as goal

-- what was read, and what is left, say what all lines say
abbrev pub invariant-loop-place : goal.invariant-loop-place
invariant-loop-place l =
    record {
      caller : l.met.caller < 16;
      same : all_met l.met (drop l.place l.lines) ≡ all_met (nothing_met l.granted) l.lines;
    }
