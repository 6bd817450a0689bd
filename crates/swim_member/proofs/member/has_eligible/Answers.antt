use Rattle.std.proofs.Common.{◌≡◌, false, sym, ◌∙◌, rules}
use Rattle.swim_rules.specs.Rows.{row_of}
use Rattle.swim_member.proofs.Parts.{is_eligible_row, eligible-row_of}
use Rattle.swim_member.proofs.member.has_eligible.Goals as goal

pub returns-in-Some : goal.returns-in-Some
returns-in-Some c =
    let test : c.is_eligible.result ≡ is_eligible_row (row_of c.args.table.now.rows c.args.who) = rw (sym c.get.ensures.row) (search rules) in
    test ∙ sym (eligible-row_of c.args.table.now.rows c.args.who c.get.ensures.kept.order)

pub returns-in-None : goal.returns-in-None
returns-in-None c =
    let test : false ≡ is_eligible_row (row_of c.args.table.now.rows c.args.who) = rw (sym c.get.ensures.row) (search rules) in
    test ∙ sym (eligible-row_of c.args.table.now.rows c.args.who c.get.ensures.kept.order)
