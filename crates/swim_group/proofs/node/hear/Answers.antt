use Rattle.swim_group.proofs.Calling.{entered-moves}
use Rattle.swim_group.proofs.node.hear.Goals as goal

pub returns-clause-ok : goal.returns-clause-ok
returns-clause-ok g c =
    let ok = c.in_ok-reply.ensures.ok in (
      ok.0,
      ok.1.event_is,
      ok.1.reply_is,
      ok.1.entries,
      ok.1.texts,
      λ keeps. entered-moves g.D.Disk.state c.args.node.now c.apply.new.self c.args.event ok.0 ok.1.event_is c.apply.ensures.base c.apply.ensures.first ok.1.entries c.apply.ensures.living (c.life_may_end.ensures keeps),
    )
