use Rattle.std.proofs.Common.{◌∙◌, sym}
use Rattle.swim_wire.proofs.Saying.{said_nothing, counts_none, faulty_says, faultless_says}
use Rattle.swim_wire.proofs.said.number_said.Goals.{then-has_no_updates-via-then-has_no_updates, then-has_no_updates-via-else-has_no_updates+then-is_some}
use Rattle.swim_wire.proofs.said.number_said.Goals.{then-greatest-eq0-via-then-greatest-eq0, then-greatest-eq0-via-else-greatest-eq0+then-is_some-2}
use Rattle.swim_wire.proofs.said.number_said.Goals as goal

pub returns-then-has_no_updates : goal.returns-then-has_no_updates
returns-then-has_no_updates c =
    elim c.then-has_no_updates.branch [
      | then-has_no_updates-via-then-has_no_updates w ↦ sym (counts_none c.args.about c.args.bytes.now (c.has_no_updates.ensures.0 w.if-has_no_updates.true).1)
      | then-has_no_updates-via-else-has_no_updates+then-is_some w ↦ sym (faulty_says c.args.about c.args.bytes.now w.shape_fault.result w.shape_fault.ensures.some w.if-is_some.ensures)
    ]

pub returns-then-greatest-eq0 : goal.returns-then-greatest-eq0
returns-then-greatest-eq0 c =
    elim c.then-greatest-eq0.branch [
      | then-greatest-eq0-via-then-greatest-eq0 w ↦ sym (said_nothing c.args.about c.args.bytes.now (sym c.greatest_said-greatest.ensures ∙ w.if-greatest-eq0.true))
      | then-greatest-eq0-via-else-greatest-eq0+then-is_some-2 w ↦ sym (faulty_says c.args.about c.args.bytes.now w.field_fault.result w.field_fault.ensures.some w.if-is_some-2.ensures)
    ]

pub returns : goal.returns
returns c = c.greatest_said-greatest.ensures ∙ sym (faultless_says c.args.about c.args.bytes.now c.field_fault.result c.field_fault.ensures.none c.if-is_some-2.ensures)
