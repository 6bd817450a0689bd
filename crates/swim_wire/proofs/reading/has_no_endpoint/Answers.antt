use Rattle.std.proofs.Common.{refl, inl, inr}
use Rattle.swim_wire.specs.Faults.{HasNoSubject}
use Rattle.swim_wire.proofs.Order.{test_holds}
use Rattle.swim_wire.proofs.reading.has_no_endpoint.Goals as goal

pub returns-then-has_no_subject : goal.returns-then-has_no_subject
returns-then-has_no_subject c =
    (λ _. inr (inl (test_holds c.has_no_subject.result (HasNoSubject c.args.bytes.now) c.has_no_subject.ensures c.if-has_no_subject.true)), λ _. refl)
