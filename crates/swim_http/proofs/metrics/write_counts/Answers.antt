use Rattle.std.proofs.Common.{◌++◌}
use Rattle.std.proofs.lemmas.Result.{on_ok_weaker}
use Rattle.swim_wire.specs.declared.update.UpdateKind.TheVariants.{Alive, Suspect, Confirm}
use Rattle.swim_http.specs.Metrics.{kind_sample}
use Rattle.swim_http.proofs.Texts.{and_then}
use Rattle.swim_http.proofs.metrics.write_counts.Goals as goal

-- a line for each kind
pub returns : goal.returns
returns c =
    let old = c.args.text.now.bytes.items in
    let one = c.write_kind.new.text.bytes.items in
    let two = c.write_kind-2.new.text.bytes.items in
    let three = c.write_kind-3.new.text.bytes.items in
    let alive = kind_sample c.args.group Alive c.args.rows.now in
    let suspect = kind_sample c.args.group Suspect c.args.rows.now in
    let confirm = kind_sample c.args.group Confirm c.args.rows.now in
    on_ok_weaker c.write_kind-3.result
    (λ last.
    and_then old alive one (suspect ++ confirm) three c.in_ok-write_kind.ensures
    (and_then one suspect two confirm three c.in_ok-write_kind-2.ensures last))
    c.write_kind-3.ensures
