use Rattle.std.proofs.Common.{ℕ, arith}
use Rattle.std.proofs.lemmas.List.Elements.{All-map}
use Rattle.swim_record.specs.Blocks.{IsFit}
use Rattle.swim_record.specs.Recording.{listed_line}
use Rattle.swim_replay.proofs.Ranges.{all-walked}
use Rattle.swim_replay.proofs.recorded.names_are_fit.Goals as goal

pub returns : goal.returns
returns c = All-map IsFit listed_line c.args.names.now (all-walked (λ (who : ℕ). IsFit (listed_line who)) c.args.names.now c.loop-name.name-index (omega arith) c.loop-name.invariant)
