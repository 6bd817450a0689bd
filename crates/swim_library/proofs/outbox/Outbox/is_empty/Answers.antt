use Rattle.std.proofs.Common.{◌∙◌, ap}
use Rattle.std.proofs.lemmas.Bool.{eqb-false}
use Rattle.swim_library.specs.Outbox.{OutboxState}
use Rattle.swim_library.proofs.Waiting.{waits_not}
use Rattle.swim_library.proofs.outbox.Outbox.is_empty.Goals as goal

pub returns-clause-some : goal.returns-clause-some
returns-clause-some c = λ differ none.
    waits_not c.self.inside.places c.self.inside.begin c.self.inside.end c.self.invariant.0 c.self.invariant.1
    (ap (λ (o : OutboxState). o.waiting) c.self.view_is ∙ none)
    (eqb-false c.self.inside.begin c.self.inside.end differ)
