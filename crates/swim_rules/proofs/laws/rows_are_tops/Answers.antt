use Rattle.swim_rules.proofs.Calling.{row_of-calls, rows-calls}
use Rattle.swim_rules.proofs.laws.rows_are_tops.Goals as goal

pub returns-clause-each : goal.returns-clause-each
returns-clause-each c table order calls x = row_of-calls table order calls x

pub returns-clause-all : goal.returns-clause-all
returns-clause-all c table order calls = rows-calls table order calls
