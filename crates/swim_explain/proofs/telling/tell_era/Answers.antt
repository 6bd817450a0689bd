use Rattle.std.proofs.Common.{[], List, subst, sym}
use Rattle.swim_node.specs.declared.entry.Entry.{Entry}
use Rattle.swim_explain.specs.Machinery.Covering.{AreCovered}
use Rattle.swim_explain.proofs.Covers.{covers_next, covers-less}
use Rattle.swim_explain.proofs.telling.tell_era.Goals as goal

pub tell_all-requires-clause-covered : goal.tell_all-requires-clause-covered
tell_all-requires-clause-covered c =
    subst (λ (entries : List Entry). AreCovered c.args.begun.number entries) (sym c.journal.ensures.entries)
    (covers-less c.args.begun.number c.args.era.now.base.granted c.args.era.now.entries c.requires.low
    (covers_next c.args.era.now.base [] c.args.era.now.entries c.journal.ensures.legal.each))
