use Rattle.std.proofs.Common.{ℕ, take}
use Rattle.std.specs.List.{All}
use Rattle.swim_record.specs.Blocks.{IsFit}
use Rattle.swim_record.specs.Recording.{listed_line}
use Rattle.swim_replay.proofs.recorded.names_are_fit.Given as goal

-- the names so far
abbrev pub invariant-loop-name : goal.invariant-loop-name
invariant-loop-name l = All (λ (who : ℕ). IsFit (listed_line who)) (take l.name-index l.names)
