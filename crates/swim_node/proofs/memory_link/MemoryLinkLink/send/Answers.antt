use Rattle.std.proofs.Common.{◌≡◌, ◌∙◌, ap, refl}
use Rattle.swim_node.proofs.Lists.{took_by-append}
use Rattle.swim_node.proofs.memory_link.MemoryLinkLink.send.Goals as goal

pub returns-clause-took : goal.returns-clause-took
returns-clause-took c =
    let taken : c.reserve.new.self.items ≡ c.args.self.now.taken.items = c.reserve.ensures.items ∙ ap (λ v. v.items) c.is_lost.ensures.rest.0 in
    let kept : c.extend_from_slice.new.self.items ≡ c.args.bytes.now =
    c.extend_from_slice.ensures.items ∙ rw (c.if-is_err.ensures.negation, c.new-kept.ensures.items) refl in
    rw (c.push_reserved.ensures.items, took_by-append c.reserve.new.self.items _, taken, kept) refl
