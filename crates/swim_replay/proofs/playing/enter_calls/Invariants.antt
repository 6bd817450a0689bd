use Rattle.std.proofs.Common.{◌≡◌, List, length}
use Rattle.swim_node.specs.declared.entry.Entry.{Entry}
use Rattle.swim_replay.specs.Machinery.Calls.{IsToCome}
use Rattle.swim_replay.proofs.Entering.{IsAhead}
use Rattle.swim_replay.proofs.playing.enter_calls.Given as goal

-- what was entered, and what is left, are the calls that were to come
abbrev pub invariant-loop-left : goal.invariant-loop-left
invariant-loop-left l =
    record {
      base : l.era.base ≡ l.initial.era.base;
      back : (entries : List Entry) → IsToCome l.initial.era l.initial.left.text.now l.initial.left.granted entries → IsAhead l.initial.era l.era l.left.text.now l.left.granted entries;
    }

abbrev pub decreases-loop-left : goal.decreases-loop-left
decreases-loop-left l = length l.left.text.now
