use Rattle.swim_record.proofs.Blocks.{event_alone}
use Rattle.swim_record.proofs.block.an_event_ends_the_lines.Goals as goal

pub returns : goal.returns
returns c e after is = event_alone e after is
