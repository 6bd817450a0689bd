use Rattle.std.proofs.Common.{rules, ◌≡◌, Err, IfErr, subst, sym}
use Rattle.swim_node.specs.Node.{owner_of}
use Rattle.swim_group.specs.Refusing.{IsUnopened}
use Rattle.swim_group.proofs.Calling.{opened-moves}
use Rattle.swim_group.proofs.Refusing.{unopened, within-limit}
use Rattle.swim_group.proofs.node.open_again.Goals as goal

pub returns-clause-moved : goal.returns-clause-moved
returns-clause-moved g c keeps =
    opened-moves g.D.Disk.state c.args.settings c.args.limit c.args.disk c.in_ok-node.node c.in_ok-node.ensures.opens.base c.in_ok-node.ensures.opens.entries (c.in_ok-node.ensures.opens.living keeps) (c.life_may_end.ensures keeps)

pub returns-clause-lived : goal.returns-clause-lived
returns-clause-lived g c keeps = (c.in_ok-node.ensures.opens.living keeps, c.life_may_end.ensures keeps)

pub returns-clause-limit : goal.returns-clause-limit
returns-clause-limit g c = within-limit c.args.limit c.in_ok-node.ensures.opens.limit_fits.0 c.in_ok-node.ensures.opens.limit_fits.1

pub returns-in_err-node-clause-refused : goal.returns-in_err-node-clause-refused
returns-in_err-node-clause-refused g c keeps b held =
    let said = c.in_err-node.ensures.refused in
    let same : c.from_residual.result ≡ Err c.in_err-node.field-0.0 = search rules in
    subst (λ r. IfErr r (λ fault. IsUnopened c.args.limit (g.D.Disk.state c.args.disk).content fault.1)) (sym same)
    (unopened c.args.limit (owner_of c.args.settings) (g.D.Disk.state c.args.disk).content c.in_err-node.field-0.0.1 said.range.0 ((said.unopened keeps).from_held b held) (said.unopened keeps).shown)
