use Rattle.std.proofs.Common.{ap, subst, sym, ◌∙◌}
use Rattle.swim_node.specs.Node.{Added}
use Rattle.swim_node.specs.declared.entry.Entry.{Entry}
use Rattle.swim_node.specs.declared.entry.Reply.{Reply}
use Rattle.swim_node.proofs.node.Node.apply.Goals as goal

-- what is told is the reply of the last entry
pub returns-clause-ok : goal.returns-clause-ok
returns-clause-ok g c =
    let made = c.in_ok-apply_in_place.ensures.ok in
    let told = c.copy.ensures ∙ ap (λ (e : Entry). e.reply) (c.last.ensures.last _ made.0 made.1.entries) in (
      made.0,
      subst (λ (reply : Reply). Added g.D.Disk.keeps_model g.D.Disk.state c.args.self.now c.apply_in_place.new.self c.args.tag c.args.event reply made.0) (sym told) made.1,
      made.2,
    )
