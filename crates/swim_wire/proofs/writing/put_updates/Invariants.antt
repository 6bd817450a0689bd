use Rattle.std.proofs.Common.{◌≡◌, ◌+◌, ◌*◌, ◌++◌, take, drop, All}
use Rattle.std.specs.List.{flat_map}
use Rattle.swim_wire.specs.Numbers.{IsEndpoint}
use Rattle.swim_wire.specs.Updates.{update_text}
use Rattle.swim_wire.proofs.writing.put_updates.Given as goal

abbrev pub invariant-loop-i : goal.invariant-loop-i
invariant-loop-i l = record {
  text : l.room ≡ (take 32 l.fn.room ++ flat_map update_text (take l.i l.updates)) ++ drop (32 + 16 * l.i) l.fn.room;
  members : All (λ u. IsEndpoint u.who) (take l.i l.updates);
}
