use Rattle.std.proofs.Common.{◌∙◌}
use Rattle.swim_record.proofs.Events.{join_is}
use Rattle.swim_record.proofs.event.read_plain.Goals as goal

pub returns-in_ok-peer-in-Join : goal.returns-in_ok-peer-in-Join
returns-in_ok-peer-in-Join c e fits begins other says =
    join_is e c.args.text.now c.in_ok-peer-in-Join.peer fits (begins ∙ c.in-Join.is) says c.in_ok-peer-in-Join.ensures
