use Rattle.std.proofs.Common.{ap, arith, length, List, ℕ}
use Rattle.std.proofs.lemmas.Result.{err_from_is_err_and}
use Rattle.swim_state.specs.File.{floor}
use Rattle.swim_state.specs.Second.{ascend}
use Rattle.swim_state.specs.declared.layout.Saved.{Saved}
use Rattle.swim_state.proofs.Bodies.{stand_from}
use Rattle.swim_state.proofs.Migrating.{leaves_both, old_covers, settled_old, stopped_migrating, migrated}
use Rattle.swim_state.proofs.Alone.{alone_on}
use Rattle.swim_state.proofs.migration.migrate.Goals as goal

pub lay_slots-requires : goal.lay_slots-requires
lay_slots-requires g c =
    let saved : Saved = record { ceiling = c.args.ceiling; peers = c.none.result } in
    record { stands = stand_from saved c.requires.bounded (omega (arith, ap (λ (l : List ℕ). length l) c.none.ensures)) (ap (ascend 0) c.none.ensures) }

pub returns-in_err-lay_slots-clause-migrates : goal.returns-in_err-lay_slots-clause-migrates
returns-in_err-lay_slots-clause-migrates g c = λ keeps owner sound.
    let p = err_from_is_err_and c.from_residual.result c.from_residual.ensures.1 in
    let disk = g.D.Disk.state c.args.disk.now in
    let before = settled_old owner disk (c.requires.one keeps) sound (c.requires.settled keeps) in
    rw (p.1) (stopped_migrating owner (floor disk.content) p.0 _ _ (old_covers owner _ _ _ (c.in_err-lay_slots.ensures.leaves keeps owner _ before)))

pub returns-in_err-write_mark-clause-migrates : goal.returns-in_err-write_mark-clause-migrates
returns-in_err-write_mark-clause-migrates g c = λ keeps owner sound.
    let p = err_from_is_err_and c.from_residual-in_err-write_mark.result c.from_residual-in_err-write_mark.ensures.1 in
    let disk = g.D.Disk.state c.args.disk.now in
    let mid = g.D.Disk.state c.lay_slots.new.disk in
    let before = settled_old owner disk (c.requires.one keeps) sound (c.requires.settled keeps) in
    let laid = c.in_ok-lay_slots.ensures.leaves keeps owner (floor disk.content) before in
    let marked = c.in_err-write_mark.ensures.leaves keeps owner (floor disk.content) (laid.images mid.content mid.reads) (omega (arith, c.requires.above keeps)) in
    rw (p.1) (stopped_migrating owner (floor disk.content) p.0 _ _ (leaves_both _ _ _ _ (old_covers owner _ _ _ laid) marked))

pub returns-clause-migrates : goal.returns-clause-migrates
returns-clause-migrates g c = λ keeps owner sound.
    let disk = g.D.Disk.state c.args.disk.now in
    let mid = g.D.Disk.state c.lay_slots.new.disk in
    let before = settled_old owner disk (c.requires.one keeps) sound (c.requires.settled keeps) in
    let laid = c.in_ok-lay_slots.ensures.leaves keeps owner (floor disk.content) before in
    let after = c.in_ok-write_mark.ensures in
    let marked = after.leaves keeps owner (floor disk.content) (laid.images mid.content mid.reads) (omega (arith, c.requires.above keeps)) in
    migrated owner (floor disk.content) _ _ _ (leaves_both _ _ _ _ (old_covers owner _ _ _ laid) marked) (after.settled keeps) (after.two keeps) (after.lies keeps)

pub returns-in_err-write_mark-clause-alone : goal.returns-in_err-write_mark-clause-alone
returns-in_err-write_mark-clause-alone g c = λ keeps. alone_on _ _ _ _ (c.lay_slots.ensures.alone keeps) (c.write_mark.ensures.alone keeps)

pub returns-clause-alone : goal.returns-clause-alone
returns-clause-alone g c = λ keeps. alone_on _ _ _ _ (c.lay_slots.ensures.alone keeps) (c.write_mark.ensures.alone keeps)
