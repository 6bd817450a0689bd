use Rattle.std.proofs.Common.{rules, ◌≡◌, ℕ, List, length, min, ap, sym, subst, ◌∙◌}
use Rattle.swim_disk.specs.Cache.{backing_in}
use Rattle.swim_disk.specs.Deeds.{KeepsAll}
use Rattle.swim_disk.specs.declared.mem.TheConstants.{MOST_BYTES}
use Rattle.swim_disk.proofs.Caching.{filled, measured, opened}
use Rattle.swim_disk.proofs.cached.CachedFile.load.Goals as goal

pub read_all-requires-clause-dropped : goal.read_all-requires-clause-dropped
read_all-requires-clause-dropped g c = search (rules, opened)

pub returns-clause-measured : goal.returns-clause-measured
returns-clause-measured g c =
    let n = c.in_ok-length.length in
    let size : length c.read_all.new.buffer ≡ length c.resize.new.self.items = c.in_ok-read_all.ensures.size ∙ ap (λ (l : List ℕ). length l) c.deref_mut.ensures.value in
    let count : c.resize.new.self.len ≡ length c.resize.new.self.items = search rules in
    let found : length c.resize.new.self.items ≡ min n MOST_BYTES = search rules in (
      n,
      c.in_ok-read_all.ensures.measured n (measured _ (g.B.BackingFile.deeds c.length.new.self) n c.in_ok-length.ensures.done),
      ap (λ (l : List ℕ). length l) (filled c.resize.new.self.len c.resize.new.self.items c.read_all.new.buffer size count) ∙ size ∙ found,
    )

pub returns-clause-has_all : goal.returns-clause-has_all
returns-clause-has_all g c =
    let size : length c.read_all.new.buffer ≡ length c.resize.new.self.items = c.in_ok-read_all.ensures.size ∙ ap (λ (l : List ℕ). length l) c.deref_mut.ensures.value in
    let count : c.resize.new.self.len ≡ length c.resize.new.self.items = search rules in
    subst (λ (l : List ℕ). KeepsAll l (backing_in g.B.BackingFile.deeds c.read_all.new.self)) (sym (filled c.resize.new.self.len c.resize.new.self.items c.read_all.new.buffer size count)) c.in_ok-read_all.ensures.has_all
