use Rattle.std.specs.Prelude.{codes}
use Rattle.std.proofs.lemmas.Result.{on_ok_weaker}
use Rattle.swim_http.specs.Gauges.{gauge_head}
use Rattle.swim_http.specs.Members.{state_samples}
use Rattle.swim_http.proofs.Texts.{and_then}
use Rattle.swim_http.proofs.members.write_states.Goals as goal

-- the head, and then a line for each member
pub returns : goal.returns
returns c =
    let old = c.args.text.now.bytes.items in
    let head = c.write_head.new.text.bytes.items in
    let all = c.write_each.new.text.bytes.items in
    let name = gauge_head (codes "swim_member_state") (codes "1 for the state of each member that has a row, itself among them.") in
    on_ok_weaker c.write_each.result
    (λ last. and_then old name head (state_samples c.args.group c.args.rows.now) all c.in_ok-write_head.ensures last)
    c.write_each.ensures
