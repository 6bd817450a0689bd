use Rattle.std.proofs.Common.{◌≡◌, ◌≤◌, drop, min, ap, arith}
use Rattle.std.proofs.Math.ListN.{drop_of_length-le}
use Rattle.swim_rules.specs.Machinery.Tallies.{earliest}
use Rattle.swim_rules.proofs.Counting.{earliest-most}
use Rattle.swim_rules.proofs.tally.earliest.Goals as goal

pub loop-row-init : goal.loop-row-init
loop-row-init c = let most = earliest-most c.args.kind c.args.rows.now in record { found = omega arith; fits = omega arith }

pub returns : goal.returns
returns c =
    let rest : earliest c.args.kind (drop c.loop-row.row-index c.args.rows.now) ≡ 18446744073709551615 = ap (earliest c.args.kind) (drop_of_length-le c.args.rows.now c.loop-row-test.false) in
    let both : min c.loop-row.since (earliest c.args.kind (drop c.loop-row.row-index c.args.rows.now)) ≡ earliest c.args.kind c.args.rows.now = c.loop-row.invariant.found in
    let fits : c.loop-row.since ≤ 18446744073709551615 = c.loop-row.invariant.fits in
    omega arith
