use Rattle.std.proofs.Common.{refl}
use Rattle.swim_node.specs.declared.entry.Entry.{Entry}
use Rattle.swim_node.specs.declared.entry.Save.TheVariants.{Kept}
use Rattle.swim_simulate.proofs.Asking.{told}
use Rattle.swim_simulate.proofs.joining.AskedMemberCaller.call.Goals as goal

pub returns-clause-ok : goal.returns-clause-ok
returns-clause-ok c =
    let e : Entry = record { tag = record { caller = 0; turn = 1 }; event = c.args.event; granted = 0; save = Kept; outs = c.new.result; outcomes = c.new-2.result; reply = record { status = c.args.self.now.status; notes = c.new-3.result; page = c.page_for-page.result; sent = 0; lost = 0 } } in
    told c.args.self.now.entries c.and-self-2.result c.args.self.now.asked c.and-self.result e refl c.and-self-2.ensures c.and-self.ensures
