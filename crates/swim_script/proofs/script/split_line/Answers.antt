use Rattle.std.proofs.Common.{◌≡◌, ◌<◌, length, take, arith}
use Rattle.std.specs.Prelude.{All, ◌==◌}
use Rattle.std.proofs.lemmas.Bool.{ne_eqb}
use Rattle.std.proofs.lemmas.List.{take_all}
use Rattle.std.proofs.lemmas.List.Elements.{All-more}
use Rattle.std.proofs.lemmas.List.Splits.{slice_split_none}
use Rattle.swim_script.proofs.Lines.{cut_line, goes_on}
use Rattle.swim_script.proofs.script.split_line.Goals as goal

pub returns-then-byte-eq10-clause-lines : goal.returns-then-byte-eq10-clause-lines
returns-then-byte-eq10-clause-lines c =
    cut_line c.args.text.now c.loop-index.index (omega arith) c.loop-index.invariant c.if-byte-eq10.true

pub loop-index-preserved : goal.loop-index-preserved
loop-index-preserved c =
    let text = c.args.text.now in
    let i = c.loop-index.index in
    let lt : i < length text = omega arith in
    All-more goes_on text i 0 lt c.loop-index.invariant (ne_eqb _ 10 c.if-byte-eq10.false)

pub returns-clause-lines : goal.returns-clause-lines
returns-clause-lines c =
    let text = c.args.text.now in
    let whole : take c.loop-index.index text ≡ text = take_all c.loop-index.index text (omega arith) in
    let none : All goes_on text = rw whole at c.loop-index.invariant in
    slice_split_none (λ byte. byte == 10) text none
