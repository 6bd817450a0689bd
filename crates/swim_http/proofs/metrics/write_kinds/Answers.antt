use Rattle.std.specs.Prelude.{codes}
use Rattle.std.proofs.lemmas.Result.{on_ok_weaker}
use Rattle.swim_http.specs.Gauges.{gauge_head}
use Rattle.swim_http.specs.Metrics.{kind_samples}
use Rattle.swim_http.proofs.Texts.{and_then}
use Rattle.swim_http.proofs.metrics.write_kinds.Goals as goal

-- the head, and then a line for each kind
pub returns : goal.returns
returns c =
    let old = c.args.text.now.bytes.items in
    let head = c.write_head.new.text.bytes.items in
    let all = c.write_counts.new.text.bytes.items in
    let name = gauge_head (codes "swim_members") (codes "Members by their state, the member itself among them.") in
    on_ok_weaker c.write_counts.result
    (λ last. and_then old name head (kind_samples c.args.group c.args.rows.now) all c.in_ok-write_head.ensures last)
    c.write_counts.ensures
