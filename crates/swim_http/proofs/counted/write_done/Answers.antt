use Rattle.std.proofs.Common.{◌++◌, take, drop}
use Rattle.std.proofs.lemmas.Result.{on_ok_weaker}
use Rattle.swim_shell.specs.Counters.{lines_from}
use Rattle.swim_http.specs.Metrics.{counter_metric, note_sample, notes_head}
use Rattle.swim_http.proofs.Texts.{and_then}
use Rattle.swim_http.proofs.counted.write_done.Goals as goal

-- the counters of calls, and then those of notes
pub returns : goal.returns
returns c =
    let values = c.args.counters.now.values in
    let old = c.args.text.now.bytes.items in
    let one = c.write_calls.new.text.bytes.items in
    let two = c.write_notes_head.new.text.bytes.items in
    let three = c.write_notes.new.text.bytes.items in
    let calls = lines_from (counter_metric c.args.group) 0 (take 12 values) in
    let notes = lines_from (note_sample c.args.group) 12 (take 18 (drop 12 values)) in
    on_ok_weaker c.write_notes.result
    (λ last.
    and_then old calls one (notes_head ++ notes) three c.in_ok-write_calls.ensures
    (and_then one notes_head two notes three c.in_ok-write_notes_head.ensures last))
    c.write_notes.ensures
