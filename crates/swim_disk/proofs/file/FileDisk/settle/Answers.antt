use Rattle.std.proofs.Common.{◌≡◌, List, [], ℕ, false, ap, subst, sym, ◌∙◌}
use Rattle.std.specs.Prelude.{OnOk}
use Rattle.std.proofs.lemmas.Result.{on_ok_weaker}
use Rattle.swim_disk.specs.Deeds.{backing_of, KeepsAll}
use Rattle.swim_disk.specs.File.{IsFile}
use Rattle.swim_disk.specs.Replay.{fresh, replay}
use Rattle.swim_disk.specs.declared.past.Call.{Call}
use Rattle.swim_disk.specs.declared.past.Call.TheVariants.{Sync}
use Rattle.swim_disk.proofs.Filing.{file_settles}
use Rattle.swim_disk.proofs.Recorded.{replay_more}
use Rattle.swim_disk.proofs.file.FileDisk.settle.Goals as goal

pub invariant_of-self : goal.invariant_of-self
invariant_of-self c =
    let self = c.self.inside in
    let file = backing_of c.settle-settled.new.self.below.deeds in
    let has_all = subst (λ r. OnOk r (KeepsAll c.deref.result.now file)) c.in-Ok.is c.settle-settled.ensures.has_all in
    subst (λ (l : List Call). IsFile self.content.items c.clear.new.self.items l false file) (sym c.and-self-inside.ensures)
    (file_settles self.content.items self.unsynced.items c.clear.new.self.items _ self.is_stale false (backing_of self.file.below.deeds) file c.self.invariant c.clear.ensures.items
    (subst (λ (l : List ℕ). KeepsAll l file) c.deref.ensures.value has_all))

pub returns-in-Ok-clause-has_all : goal.returns-in-Ok-clause-has_all
returns-in-Ok-clause-has_all c =
    let self = c.self.inside in
    let file = backing_of c.settle-settled.new.self.below.deeds in
    let content : c.deref.result.now ≡ (replay (fresh []) c.and-self-inside.result).content =
    c.deref.ensures.value ∙ c.self.invariant.holds
    ∙ sym (ap (λ (l : List Call). (replay (fresh []) l).content) c.and-self-inside.ensures ∙ ap (λ d. d.content) (replay_more (fresh []) self.calls Sync)) in
    on_ok_weaker c.settle-settled.result (λ has_all. subst (λ (l : List ℕ). KeepsAll l file) content has_all) c.settle-settled.ensures.has_all
