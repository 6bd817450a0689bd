use Rattle.std.proofs.Common.{sym, ◌∙◌}
use Rattle.swim_replay.proofs.Versions.{first_head, head_parts, head_rest, head_version, second_head}
use Rattle.swim_replay.proofs.heading.read_head.Goals as goal

pub returns-in_default : goal.returns-in_default
returns-in_default c time body fits says = absurd (c.in_default.ensures (head_version time) (head_rest time body) (says ∙ head_parts time body))

pub returns-in-First : goal.returns-in-First
returns-in-First c time body fits says =
    let parts = c.in-Some.ensures (head_version time) (head_rest time body) (says ∙ head_parts time body) in
    first_head time body c.in-Some.rest.now (sym c.in-First.is ∙ parts.0) parts.1

pub returns-in-Second : goal.returns-in-Second
returns-in-Second c time body fits says =
    let parts = c.in-Some.ensures (head_version time) (head_rest time body) (says ∙ head_parts time body) in
    let second = second_head time body c.in-Some.rest.now fits (sym c.in-Second.is ∙ parts.0) parts.1 in
    rw second.is (c.read_second.ensures second.t body second.fits second.text)
