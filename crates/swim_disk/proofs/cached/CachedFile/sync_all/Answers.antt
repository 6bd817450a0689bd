use Rattle.std.proofs.Common.{inl, inr, ⊎_elim, slice_index}
use Rattle.swim_disk.proofs.Caching.{synced_more, synced_all}
use Rattle.swim_disk.proofs.cached.CachedFile.sync_all.Goals as goal

pub returns-clause-new : goal.returns-clause-new
returns-clause-new g c = λ i less.
    ⊎_elim
    (λ kept. inl (synced_more c.sync.result (g.B.BackingFile.deeds c.args.self.now.below) (g.B.BackingFile.deeds c.sync.new.self) i (slice_index c.args.content.now i) c.sync.ensures.told kept))
    (λ later. inr later)
    (c.requires.old i less)

pub returns-clause-has_all : goal.returns-clause-has_all
returns-clause-has_all g c = synced_all c.sync.result c.args.content.now (g.B.BackingFile.deeds c.args.self.now.below) (g.B.BackingFile.deeds c.sync.new.self) c.sync.ensures.told c.requires.comes
