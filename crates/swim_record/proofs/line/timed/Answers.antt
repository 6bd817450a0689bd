use Rattle.swim_record.proofs.Others.{not_timed}
use Rattle.swim_record.proofs.line.timed.Goals as goal

pub returns-in_default : goal.returns-in_default
returns-in_default c = record { line = tt; none = λ l says. not_timed c.args.head l c.args.times c.in_default.not-Times says.0 says.1 }
