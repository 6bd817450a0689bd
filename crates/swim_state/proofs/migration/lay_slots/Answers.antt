use Rattle.std.proofs.Common.{◌∙◌, ◌∷◌, [], ap, arith, subst, sym, List, ℕ}
use Rattle.swim_disk.specs.Disk.{overlaid}
use Rattle.swim_state.specs.Machinery.Saving.{IsLaid}
use Rattle.swim_state.proofs.Migrating.{laid_reads, leaves_both, write_leaves, sync_leaves}
use Rattle.swim_state.proofs.Steps.{always_ok}
use Rattle.swim_state.proofs.Alone.{alone_on, past_alone, rests_alone}
use Rattle.swim_state.proofs.migration.lay_slots.Goals as goal

pub returns-in_err-write_at-clause-leaves : goal.returns-in_err-write_at-clause-leaves
returns-in_err-write_at-clause-leaves g c = λ keeps owner n before.
    write_leaves owner n _ _ _ _ _ (c.in_err-write_at.ensures.writes keeps) (omega (arith, c.body.ensures)) before

pub returns-in_err-write_at-2-clause-leaves : goal.returns-in_err-write_at-2-clause-leaves
returns-in_err-write_at-2-clause-leaves g c = λ keeps owner n before.
    let one = write_leaves owner n _ _ _ _ _ (c.in_ok-write_at.ensures.writes keeps) (omega (arith, c.body.ensures)) before in
    leaves_both _ _ _ _ one (write_leaves owner n _ _ _ _ _ (c.in_err-write_at-2.ensures.writes keeps) (omega (arith, c.gate.ensures)) one.images)

pub returns-in_err-write_at-3-clause-leaves : goal.returns-in_err-write_at-3-clause-leaves
returns-in_err-write_at-3-clause-leaves g c = λ keeps owner n before.
    let one = write_leaves owner n _ _ _ _ _ (c.in_ok-write_at.ensures.writes keeps) (omega (arith, c.body.ensures)) before in
    let two = leaves_both _ _ _ _ one (write_leaves owner n _ _ _ _ _ (c.in_ok-write_at-2.ensures.writes keeps) (omega (arith, c.gate.ensures)) one.images) in
    leaves_both _ _ _ _ two (write_leaves owner n _ _ _ _ _ (c.in_err-write_at-3.ensures.writes keeps) (omega (arith, c.gate-2.ensures)) two.images)

pub returns-clause-leaves : goal.returns-clause-leaves
returns-clause-leaves g c = λ keeps owner n before.
    let one = write_leaves owner n _ _ _ _ _ (c.in_ok-write_at.ensures.writes keeps) (omega (arith, c.body.ensures)) before in
    let two = leaves_both _ _ _ _ one (write_leaves owner n _ _ _ _ _ (c.in_ok-write_at-2.ensures.writes keeps) (omega (arith, c.gate.ensures)) one.images) in
    let three = leaves_both _ _ _ _ two (write_leaves owner n _ _ _ _ _ (c.in_ok-write_at-3.ensures.writes keeps) (omega (arith, c.gate-2.ensures)) two.images) in
    leaves_both _ _ _ _ three (sync_leaves owner n _ _ _ (c.sync.ensures.syncs keeps) three.images)

pub returns-clause-lies : goal.returns-clause-lies
returns-clause-lies g c = λ keeps.
    let start = (g.D.Disk.state c.args.disk.now).content in
    let first = (g.D.Disk.state c.write_at.new.self).content in
    let second = (g.D.Disk.state c.write_at-2.new.self).content in
    let bytes = c.as_slice.ensures.value ∙ c.encode.ensures.bytes in
    let one = (c.in_ok-write_at.ensures.writes keeps).done ∙ ap (λ a. overlaid start a c.as_slice.result.now) c.body.ensures ∙ ap (λ (l : List ℕ). overlaid start 20480 l) bytes in
    let two = (c.in_ok-write_at-2.ensures.writes keeps).done ∙ ap (λ a. overlaid first a (0xA5 ∷ [])) c.gate.ensures ∙ ap (λ (l : List ℕ). overlaid l 24576 (0xA5 ∷ [])) one in
    let three = (c.in_ok-write_at-3.ensures.writes keeps).done ∙ ap (λ a. overlaid second a (0 ∷ [])) c.gate-2.ensures ∙ ap (λ (l : List ℕ). overlaid l 32768 (0 ∷ [])) two in
    let all = (c.sync.ensures.syncs keeps).rests.content ∙ three in
    always_ok _ c.sync.result (subst (λ (l : List ℕ). IsLaid c.args.saved.now l) (sym all) (laid_reads start c.args.saved.now c.requires.stands c.encode.ensures.fit))

pub returns-in_err-write_at-clause-alone : goal.returns-in_err-write_at-clause-alone
returns-in_err-write_at-clause-alone g c = λ keeps. past_alone _ _ _ _ _ (omega (arith, c.body.ensures)) (c.in_err-write_at.ensures.writes keeps)

pub returns-in_err-write_at-2-clause-alone : goal.returns-in_err-write_at-2-clause-alone
returns-in_err-write_at-2-clause-alone g c = λ keeps.
    let one = past_alone _ _ _ _ _ (omega (arith, c.body.ensures)) (c.in_ok-write_at.ensures.writes keeps) in
    alone_on _ _ _ _ one (past_alone _ _ _ _ _ (omega (arith, c.gate.ensures)) (c.in_err-write_at-2.ensures.writes keeps))

pub returns-in_err-write_at-3-clause-alone : goal.returns-in_err-write_at-3-clause-alone
returns-in_err-write_at-3-clause-alone g c = λ keeps.
    let one = past_alone _ _ _ _ _ (omega (arith, c.body.ensures)) (c.in_ok-write_at.ensures.writes keeps) in
    let two = alone_on _ _ _ _ one (past_alone _ _ _ _ _ (omega (arith, c.gate.ensures)) (c.in_ok-write_at-2.ensures.writes keeps)) in
    alone_on _ _ _ _ two (past_alone _ _ _ _ _ (omega (arith, c.gate-2.ensures)) (c.in_err-write_at-3.ensures.writes keeps))

pub returns-clause-alone : goal.returns-clause-alone
returns-clause-alone g c = λ keeps.
    let one = past_alone _ _ _ _ _ (omega (arith, c.body.ensures)) (c.in_ok-write_at.ensures.writes keeps) in
    let two = alone_on _ _ _ _ one (past_alone _ _ _ _ _ (omega (arith, c.gate.ensures)) (c.in_ok-write_at-2.ensures.writes keeps)) in
    let three = alone_on _ _ _ _ two (past_alone _ _ _ _ _ (omega (arith, c.gate-2.ensures)) (c.in_ok-write_at-3.ensures.writes keeps)) in
    alone_on _ _ _ _ three (rests_alone _ _ _ (c.sync.ensures.syncs keeps).rests)
