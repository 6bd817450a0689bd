use Rattle.std.proofs.Common.{◌≡◌, List, ◌∷◌, ◌++◌}
use Rattle.swim_record.specs.declared.line.Line.{Line}
use Rattle.swim_record.specs.declared.line.Line.TheVariants as line
use Rattle.swim_record.specs.declared.line.Start.{Start}
use Rattle.swim_replay.specs.Machinery.Told.{MayNoteAll, all_noted}
use Rattle.swim_replay.proofs.Walks.{IsLeft}
use Rattle.swim_replay.proofs.told.add_told.Given as goal

-- where the lines are those of a beginning, the rest of them is left
abbrev pub invariant-loop-place : goal.invariant-loop-place
invariant-loop-place l =
    record {
      settings : l.state.settings ≡ l.initial.state.settings;
      back : (told : List Line) (start : Start) (after : List Line) → l.lines ≡ told ++ line.Begin start ∷ after → MayNoteAll l.initial.state told → IsLeft l.lines l.place l.state (all_noted l.initial.state told) told start after;
    }
