use Rattle.swim_library.proofs.Dealing.{reached}
use Rattle.swim_library.proofs.deal.place_by.Goals as goal

-- src/deal.rt:7:1
pub returns-clause-each : goal.returns-clause-each
returns-clause-each c = λ other within. reached c.args.place other within c.requires
