use Rattle.std.proofs.Common.{◌+◌, arith}
use Rattle.swim_http.specs.Metrics.{note_sample}
use Rattle.swim_shell.proofs.Counting.{line_written}
use Rattle.swim_http.proofs.counted.write_notes.Goals as goal

-- one more of them
pub loop-place-preserved : goal.loop-place-preserved
loop-place-preserved c =
    let added = rw c.at.ensures at c.in_ok-write_note.ensures in
    line_written (note_sample c.args.group) c.args.text.now.bytes.items c.loop-place.text.bytes.items c.write_note.new.text.bytes.items 12 c.loop-place.place (12 + c.loop-place.place) c.args.counts.now (omega arith) c.loop-place-test.true c.loop-place.invariant added
