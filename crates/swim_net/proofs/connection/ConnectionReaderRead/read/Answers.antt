use Rattle.std.proofs.Common.{arith}
use Rattle.std.proofs.lemmas.Grind.{common_steps}
use Rattle.swim_net.proofs.Moving.{let_failed, let_more}
use Rattle.swim_net.proofs.connection.ConnectionReaderRead.read.Goals as goal

pub invariant_of-self : goal.invariant_of-self
invariant_of-self g c = record { cut = let_failed c.args.self.now.stream.answers.items _ _ _ _ _ c.in_err-count.ensures.told c.args.self.now.cut }

pub invariant_of-self-2 : goal.invariant_of-self-2
invariant_of-self-2 g c = record { cut = let_more c.args.self.now.stream.answers.items _ _ _ _ _ _ _ _ _ c.if-self.false c.args.self.now.cut c.in_ok-count.ensures.told c.let_through.ensures.passed c.let_through.ensures.whole (grind (arith, common_steps)) }
