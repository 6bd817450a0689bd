use Rattle.std.proofs.Common.{ℕ, arith, subst, sym}
use Rattle.swim_disk.specs.Cache.{backing_in}
use Rattle.swim_disk.proofs.Caching.{Waits, length-rest, tried_beside, written_more, failed_waits}
use Rattle.swim_disk.proofs.cached.CachedFile.write_all.Goals as goal
use Rattle.swim_disk.proofs.cached.CachedFile.write_all.Goals.{in-Ok, in-Err}

pub returns-in-Ok-eq0-clause-beside : goal.returns-in-Ok-eq0-clause-beside
returns-in-Ok-eq0-clause-beside g c =
    let file = g.B.BackingFile.deeds in
    tried_beside c.write.result c.args.at c.loop.done c.args.bytes.now (backing_in file c.args.self.now) (file c.loop.self.below) (file c.write.new.self) c.loop.invariant.0 c.write.ensures.told c.loop.invariant.1

pub returns-in-Err-2-clause-beside : goal.returns-in-Err-2-clause-beside
returns-in-Err-2-clause-beside g c =
    let file = g.B.BackingFile.deeds in
    tried_beside c.write.result c.args.at c.loop.done c.args.bytes.now (backing_in file c.args.self.now) (file c.loop.self.below) (file c.write.new.self) c.loop.invariant.0 c.write.ensures.told c.loop.invariant.1

pub loop-preserved : goal.loop-preserved
loop-preserved g c =
    let file = g.B.BackingFile.deeds in
    let at = c.args.at in
    let bytes = c.args.bytes.now in
    let stays = tried_beside c.write.result at c.loop.done bytes (backing_in file c.args.self.now) (file c.loop.self.below) (file c.write.new.self) c.loop.invariant.0 c.write.ensures.told c.loop.invariant.1 in
    elim c.match-write.branch [
      | in-Ok w ↦ (
        omega (arith, w.done-is, w.in-Ok.ensures.count, length-rest c.loop.done bytes, c.loop.invariant.0),
        stays,
        subst (λ (n : ℕ). Waits at n bytes (backing_in file record { below = c.write.new.self })) (sym w.done-is)
            (written_more at c.loop.done w.in-Ok.count bytes (file c.loop.self.below) (file c.write.new.self) c.loop.invariant.0 w.in-Ok.ensures.count w.in-Ok.ensures.told c.loop.invariant.2),
      )
      | in-Err w ↦ (
        omega (arith, w.done-is, c.loop.invariant.0),
        stays,
        subst (λ (n : ℕ). Waits at n bytes (backing_in file record { below = c.write.new.self })) (sym w.done-is)
            (failed_waits at c.loop.done bytes (file c.loop.self.below) (file c.write.new.self) w.in-Err.ensures.told c.loop.invariant.2),
      )
    ]
