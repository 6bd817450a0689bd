use Rattle.std.proofs.Common.{◌≡◌, ◌++◌, ◌∷◌, [], sym, ◌∙◌, arith}
use Rattle.std.proofs.lemmas.Grind.{common_steps}
use Rattle.swim_record.proofs.Blocks.{fit_more, lines_more, same_lines}
use Rattle.swim_record.proofs.block.read_lines.Goals as goal

pub loop-line-preserved : goal.loop-line-preserved
loop-line-preserved c =
    let items : c.push.new.self.items ≡ c.loop-line.lines.items ++ c.in-Some.line ∷ [] = grind (arith, common_steps) in
    let starts = c.in-Some.ensures.line in
    record {
      read = rw items (lines_more c.args.text.now c.loop-line.rest.now c.in-Some.after.now c.loop-line.lines.items c.in-Some.line c.loop-line.invariant.read starts);
      fit = rw items (fit_more c.loop-line.lines.items c.in-Some.line c.loop-line.invariant.fit starts.1);
    }

pub returns-clause-back : goal.returns-clause-back
returns-clause-back c lines rest is fit none =
    same_lines c.loop-line.lines.items lines c.loop-line.rest.now rest c.loop-line.invariant.fit fit c.in_default.ensures.none none (sym c.loop-line.invariant.read ∙ is)
