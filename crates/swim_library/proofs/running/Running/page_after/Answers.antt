use Rattle.std.proofs.Common.{◌≡◌, ◌∙◌, ap, refl}
use Rattle.swim_node.specs.declared.entry.Entry.{Entry}
use Rattle.swim_library.proofs.Living.{adds}
use Rattle.swim_library.proofs.running.Running.page_after.Goals as goal

pub returns-clause-added : goal.returns-clause-added
returns-clause-added c =
    let called = c.in_ok-call.ensures.called in
    let ended = c.end_era_of.ensures in
    let page : c.copied-page.result.items ≡ called.entry.reply.page.items = c.copied-page.ensures ∙ ap (λ (e : Entry). e.reply.page.items) (c.last.ensures.last c.args.self.now.node.entries called.entry called.entries) in (
      called.entry.reply,
      adds c.args.self.now _ c.call.new.node _ called refl refl refl ended.owner ended.first ended.disk ended.legal ended.ends ended.era,
      λ i. record { items = page i },
    )
