use Rattle.std.proofs.Common.{◌≡◌, ℕ, ◌-◌, ◌<◌, List, [], ◌∷◌, ◌++◌, length, take, arith, subst, sym, ◌∙◌, slice_index}
use Rattle.std.specs.Prelude.{IfOk}
use borrow.Rule.Slice.PartMut.{put_mid}
use Rattle.swim_disk.specs.declared.backing.Deed.TheVariants.{Read}
use Rattle.swim_disk.specs.Deeds.{backing_of}
use Rattle.swim_disk.specs.declared.backing.Deed.{Deed}
use Rattle.swim_disk.proofs.Caching.{length-put, length-rest, read_dropped, read_measured, read_more, read_none}
use Rattle.swim_disk.proofs.cached.CachedFile.read_all.Goals as goal
use Rattle.swim_disk.proofs.cached.CachedFile.read_all.Goals.{in-Ok, in-Err}

pub returns-in-Ok-eq0-clause-measured : goal.returns-in-Ok-eq0-clause-measured
returns-in-Ok-eq0-clause-measured g c = λ n was.
    let old = g.B.BackingFile.deeds c.loop.self.below in
    let new = g.B.BackingFile.deeds c.read.new.self in
    let done = subst (λ r. IfOk r (λ (count : ℕ). new ≡ old ++ Read c.loop.done (take count c.read.new.buffer) ∷ [])) c.in-Ok-eq0.is c.read.ensures.done in
    read_measured c.loop.done n _ old new done (c.loop.invariant.3 n was)

pub loop-preserved : goal.loop-preserved
loop-preserved g c =
    let old = g.B.BackingFile.deeds c.loop.self.below in
    let new = g.B.BackingFile.deeds c.read.new.self in
    let done = c.loop.done in
    let buffer = c.loop.buffer in
    let part = c.read.new.buffer in
    let size = length-put done buffer part c.loop.invariant.0 c.read.ensures.size in
    elim c.match-read.branch [
      | in-Ok w ↦ (
        omega (arith, w.done-is, w.in-Ok.ensures.count, length-rest done buffer, c.loop.invariant.0, size),
        size ∙ c.loop.invariant.1,
        read_dropped done _ old new w.in-Ok.ensures.done c.loop.invariant.2,
        λ n was. read_measured done n _ old new w.in-Ok.ensures.done (c.loop.invariant.3 n was),
        subst (λ (m : ℕ). (i : ℕ) → i < m → (backing_of new).kept i (slice_index (put_mid done (length buffer - done) buffer part) i)) (sym w.done-is)
            (read_more done w.in-Ok.count buffer part old new c.loop.invariant.0 w.in-Ok.ensures.count c.read.ensures.size w.in-Ok.ensures.done c.loop.invariant.2 c.loop.invariant.4),
      )
      | in-Err w ↦ (
        omega (arith, w.done-is, c.loop.invariant.0, size),
        size ∙ c.loop.invariant.1,
        subst (λ (l : List Deed). (backing_of l).dropped) (sym w.in-Err.ensures.failed) c.loop.invariant.2,
        λ n was. subst (λ (l : List Deed). (backing_of l).measured n) (sym w.in-Err.ensures.failed) (c.loop.invariant.3 n was),
        subst (λ (m : ℕ). (i : ℕ) → i < m → (backing_of new).kept i (slice_index (put_mid done (length buffer - done) buffer part) i)) (sym w.done-is)
            (read_none done buffer part old new c.loop.invariant.0 w.in-Err.ensures.failed c.loop.invariant.4),
      )
    ]
