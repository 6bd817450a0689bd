use Rattle.std.proofs.Common.{◌≡◌, ◌∙◌, true, false, refl, subst, ap, arith}
use Rattle.std.proofs.lemmas.Result.{err_from_is_err_and}
use Rattle.swim_state.specs.File.{peers_in}
use Rattle.swim_state.specs.Held.{Held}
use Rattle.swim_state.proofs.Raising.{done, failed, guards, save_beside, saved_held, saves_now}
use Rattle.swim_state.proofs.store.Store.raise_whole.Goals as goal

pub returns-in_err-save : goal.returns-in_err-save
returns-in_err-save g c =
    let store = c.self.invariant in
    let whole = ap (λ v. v.broken) c.self.view_is ∙ c.requires.whole in
    let said = c.in_err-save.ensures in
    let p = err_from_is_err_and c.from_residual.result c.from_residual.ensures.1 in
    record {
      raises = rw (← c.self.view_is, p.1, p.2)
          (failed _ _ _ _ _ _ _ _ (omega (arith, ap (λ v. v.ceiling) c.self.view_is, c.requires.above)) refl
          (record { ceiling_is = refl; peers_are = ap peers_in said.stopped })
          refl (λ e. cc) (λ e. absurd cc)
          (record { name = said.counts.name; device = λ _. said.counts.failures; calm = λ other. absurd (other refl) })
          (λ keeps stood.
          let saves = saves_now store whole keeps _ _ _ (said.saves keeps) in
          guards g.D.Disk.state _ _ _ (λ e. cc) (store.covered keeps) saves.moments (λ image left. (saves.images image left).0) tt stood (save_beside store whole keeps _ (said.alone keeps))));
    }

pub invariant_of-self : goal.invariant_of-self
invariant_of-self g c =
    let store = c.self.invariant in
    let saves = λ (keeps : g.D.Disk.keeps_model). saves_now store (ap (λ v. v.broken) c.self.view_is ∙ c.requires.whole) keeps _ _ _ (c.in_err-save.ensures.saves keeps) in
    let broken : true ≡ false → ⊥ = λ e. cc in
    record {
      low = store.low;
      high = store.high;
      covered = λ keeps image left. ((saves keeps).images image left).0;
      two = λ keeps image left. ((saves keeps).images image left).1;
      usable = λ e. absurd (broken e);
      floor = λ e. absurd (broken e);
      settled = λ e. absurd (broken e);
      same = λ e. absurd (broken e);
    }

pub returns : goal.returns
returns g c =
    let store = c.self.invariant in
    let whole = ap (λ v. v.broken) c.self.view_is ∙ c.requires.whole in
    let said = c.in_ok-save.ensures in
    record {
      raises = rw (← c.self.view_is)
          (done _ _ _ _ _ _ _ (omega (arith, ap (λ v. v.ceiling) c.self.view_is, c.requires.above)) c.requires.bounded refl
          (record { ceiling_is = c.min-ceiling.ensures; peers_are = said.peers ∙ c.of-peers.ensures })
          refl
          (record { name = said.counts.name; device = λ e. absurd cc; calm = λ _. said.counts.failures })
          (λ keeps.
          let saves = saves_now store whole keeps _ _ _ (said.saves keeps) in
          let left = saved_held _ _ _ _ _ _ saves in
          guards g.D.Disk.state _ _ _ (λ e. cc) (store.covered keeps) saves.moments (subst (Held c.self.inside.owner (g.D.Disk.state c.save.new.disk)) said.floor left.0) left.1 tt (save_beside store whole keeps _ (said.alone keeps))));
    }

pub invariant_of-self-2 : goal.invariant_of-self-2
invariant_of-self-2 g c =
    let store = c.self.invariant in
    let said = c.in_ok-save.ensures in
    let saves = λ (keeps : g.D.Disk.keeps_model). saves_now store (ap (λ v. v.broken) c.self.view_is ∙ c.requires.whole) keeps _ _ _ (said.saves keeps) in
    record {
      low = omega (arith, store.low, c.requires.above, c.min-ceiling.ensures);
      high = omega (arith, c.min-ceiling.ensures);
      covered = λ keeps. subst (Held c.self.inside.owner (g.D.Disk.state c.save.new.disk)) said.floor (saved_held _ _ _ _ _ _ (saves keeps)).0;
      two = λ keeps image left. ((saves keeps).images image left).1;
      usable = λ _. said.usable;
      floor = λ _. said.floor;
      settled = λ _ keeps. (saves keeps).settled;
      same = λ _ keeps. (saves keeps).same;
    }
