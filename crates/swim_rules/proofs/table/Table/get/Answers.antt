use Rattle.std.proofs.Common.{◌≡◌, ap, sym, ◌∙◌, List, rules}
use Rattle.swim_rules.specs.declared.table.Row.{Row}
use Rattle.swim_rules.specs.Rows.{row_of}
use Rattle.swim_rules.proofs.Told.{row_of-rows}
use Rattle.swim_rules.proofs.table.Table.get.Goals as goal

pub returns-clause-top : goal.returns-clause-top
returns-clause-top c base told h =
    let found : c.row_in.result ≡ row_of c.args.self.now.rows c.args.who = search rules in
    found ∙ ap (λ (rs : List Row). row_of rs c.args.who) (sym h) ∙ row_of-rows c.args.self.now.rules base told c.args.who
