use Rattle.std.proofs.Common.{◌<◌, length, arith}
use Rattle.std.proofs.lemmas.List.Elements.{All-head}
use Rattle.swim_record.specs.Recording.{calls_text}
use Rattle.swim_replay.specs.Recorded.{IsRecordedCall}
use Rattle.swim_replay.proofs.Entering.{come_next}
use Rattle.swim_replay.proofs.playing.enter_next.Goals as goal

pub returns-in-Err-clause-back : goal.returns-in-Err-clause-back
returns-in-Err-clause-back c e others w =
    c.in-Err.ensures.back e (calls_text e.granted others) (All-head IsRecordedCall e others w.calls) w.text

pub returns-in-Ok-enter-clause-back : goal.returns-in-Ok-enter-clause-back
returns-in-Ok-enter-clause-back c e others w =
    let read = c.in-Ok.ensures.back e (calls_text e.granted others) (All-head IsRecordedCall e others w.calls) w.text in
    let room : length c.args.era.now.entries < c.args.era.now.base.limit = let within = w.room in omega arith in
    let added = c.in-Ok-enter.ensures.back e read.0 read.1 w.next.0 room w.limit in
    (come_next c.args.era.now c.enter.new.era c.args.left.text.now c.in-Ok.call.rest.now c.args.left.granted c.in-Ok.call.met.granted e others w c.enter.ensures.base added read.2 read.0.granted, added)

pub returns-in-Err-enter-clause-back : goal.returns-in-Err-enter-clause-back
returns-in-Err-enter-clause-back c e others w =
    let read = c.in-Ok.ensures.back e (calls_text e.granted others) (All-head IsRecordedCall e others w.calls) w.text in
    let room : length c.args.era.now.entries < c.args.era.now.base.limit = let within = w.room in omega arith in
    c.in-Err-enter.ensures.back e read.0 read.1 w.next.0 room w.limit
