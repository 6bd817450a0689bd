use Rattle.std.proofs.Common.{◌∙◌, ap, subst, sym, List}
use Rattle.swim_disk.specs.Machinery.Made.{AreWrites, made}
use Rattle.swim_disk.specs.declared.past.Call.{Call}
use Rattle.swim_disk.proofs.Filled.{kept_keep, kept_drop, kept_fill, writes_filled}
use Rattle.swim_disk.proofs.Making.{writes_take}
use Rattle.swim_disk.proofs.mem.leave.Goals as goal

pub returns-in-Keep-clause-chosen : goal.returns-in-Keep-clause-chosen
returns-in-Keep-clause-chosen c start =
    rw c.in-Keep.is (kept_keep start c.args.writes.now.items c.args.synced)

pub returns-in-Drop-clause-writes : goal.returns-in-Drop-clause-writes
returns-in-Drop-clause-writes c = subst (λ (l : List Call). AreWrites l) (sym c.truncate.ensures.items) (writes_take c.args.synced c.args.writes.now.items c.requires)

pub returns-in-Drop-clause-chosen : goal.returns-in-Drop-clause-chosen
returns-in-Drop-clause-chosen c start =
    rw c.in-Drop.is (ap (λ (l : List Call). made start l) c.truncate.ensures.items ∙ kept_drop start c.args.writes.now.items c.args.synced c.requires)

pub returns-in-Fill-clause-writes : goal.returns-in-Fill-clause-writes
returns-in-Fill-clause-writes c = writes_filled c.in-Fill.byte c.args.writes.now.items _ c.args.synced c.requires c.fill_from.ensures

pub returns-in-Fill-clause-chosen : goal.returns-in-Fill-clause-chosen
returns-in-Fill-clause-chosen c start =
    rw c.in-Fill.is (kept_fill c.in-Fill.byte start c.args.writes.now.items _ c.args.synced c.requires c.fill_from.ensures)
