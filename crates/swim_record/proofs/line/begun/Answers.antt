use Rattle.swim_record.proofs.Others.{not_begun}
use Rattle.swim_record.proofs.line.begun.Goals as goal

pub returns-in_default : goal.returns-in_default
returns-in_default c = record { line = tt; none = λ l says. not_begun c.args.head l c.args.start c.in_default.not-Running c.in_default.not-Left c.in_default.not-Expelled says.0 says.1 }
