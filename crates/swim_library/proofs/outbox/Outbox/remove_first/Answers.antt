use Rattle.std.proofs.Common.{◌<◌, ◌∙◌, ◌+◌, ◌∷◌, ap, sym}
use Rattle.swim_library.specs.Outbox.{OutboxState, sent_as}
use Rattle.swim_library.proofs.Waiting.{waits_before, waits_head, waits_none}
use Rattle.swim_library.proofs.outbox.Outbox.remove_first.Goals as goal

pub returns-then-self : goal.returns-then-self
returns-then-self c =
    let o = c.self.inside in
    let seen = ap (λ (s : OutboxState). s.waiting) c.self.view_is in
    let before : o.begin < o.end = waits_before o.places o.begin o.end c.self.invariant.0 c.self.invariant.1 (λ none. c.requires (sym seen ∙ none)) in
    let head = waits_head o.places o.begin o.end before c.self.invariant.1 in
    (sent_as head.0, sym seen ∙ (head.1 ∙ ap (λ rest. sent_as head.0 ∷ rest) (waits_none o.places (o.begin + 1) o.end c.if-self.true c.self.invariant.1)))

pub returns-else-self : goal.returns-else-self
returns-else-self c =
    let o = c.self.inside in
    let seen = ap (λ (s : OutboxState). s.waiting) c.self.view_is in
    let before : o.begin < o.end = waits_before o.places o.begin o.end c.self.invariant.0 c.self.invariant.1 (λ none. c.requires (sym seen ∙ none)) in
    let head = waits_head o.places o.begin o.end before c.self.invariant.1 in
    (sent_as head.0, sym seen ∙ head.1)
