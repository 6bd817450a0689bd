use Rattle.std.proofs.Common.{arith}
use Rattle.swim_shell.specs.Counters.{counter_line}
use Rattle.swim_shell.proofs.Counting.{line_written}
use Rattle.swim_shell.proofs.counters.add_counters.Goals as goal

-- one line more
pub loop-place-preserved : goal.loop-place-preserved
loop-place-preserved c =
    let i = c.loop-place.place in
    let there = c.loop-place-test.true in
    let so_far = c.loop-place.invariant in
    let fits = rw c.at.ensures at c.add_counter.ensures.fits in
    record {
      text = line_written counter_line c.add_count.new.answer.bytes c.loop-place.answer.bytes c.add_counter.new.answer.bytes 0 i i c.args.counters.now.values (omega arith) (omega (arith, there)) so_far.text (fits (omega (arith, there, so_far.short)));
      short = omega (arith, so_far.short, c.add_counter.ensures.most);
    }
