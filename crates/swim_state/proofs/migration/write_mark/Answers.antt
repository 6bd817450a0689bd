use Rattle.std.proofs.Common.{◌∙◌, ap, subst, sym, refl, List, ℕ}
use Rattle.std.proofs.lemmas.Result.{on_ok_weaker}
use Rattle.swim_state.specs.File.{version_in}
use Rattle.swim_state.specs.Machinery.Saving.{IsLaid}
use Rattle.swim_state.proofs.Migrating.{mark_leaves, mark_two, mark_lies}
use Rattle.swim_state.proofs.Alone.{mark_alone}
use Rattle.swim_state.proofs.migration.write_mark.Goals as goal

pub returns-clause-two : goal.returns-clause-two
returns-clause-two g c = λ keeps.
    on_ok_weaker c.put.result (λ done. ap version_in done ∙ mark_two (g.D.Disk.state c.args.disk.now).content) (c.put.ensures.put keeps).done

pub returns-clause-lies : goal.returns-clause-lies
returns-clause-lies g c = λ keeps.
    on_ok_weaker c.put.result (λ done. subst (λ (l : List ℕ). IsLaid c.args.saved.now l) (sym done) (mark_lies c.args.saved.now _ (c.requires.lies keeps))) (c.put.ensures.put keeps).done

pub returns-clause-leaves : goal.returns-clause-leaves
returns-clause-leaves g c = λ keeps owner n is le.
    mark_leaves owner n c.args.saved.now _ _ _ _ refl (c.put.ensures.put keeps) is (c.requires.lies keeps) le

pub returns-clause-alone : goal.returns-clause-alone
returns-clause-alone g c = λ keeps. mark_alone _ _ _ _ refl (c.put.ensures.put keeps)
