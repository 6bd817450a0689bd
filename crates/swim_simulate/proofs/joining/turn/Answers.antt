use Rattle.swim_simulate.proofs.Asking.{no_refusal}
use Rattle.swim_simulate.proofs.joining.turn.Goals as goal

pub unreachable-requires : goal.unreachable-requires
unreachable-requires c = no_refusal 1 c.in_default.field-0 c.args.joiner.now _ _ c.in_default.ensures.in_vain c.args.asked.answered c.turn.new.caller.answered
