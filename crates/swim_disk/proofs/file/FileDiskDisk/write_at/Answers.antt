use Rattle.std.proofs.Common.{inl, refl, sym, ap, subst, Ok, Err, ◌∙◌, ◌++◌, ◌∷◌, []}
use Rattle.swim_disk.specs.Count.{count_of}
use Rattle.swim_disk.specs.File.{FileView}
use Rattle.swim_disk.specs.declared.past.Call.TheVariants.{Write}
use Rattle.swim_disk.proofs.Filing.{told_by, puts_as, same_kind, view_write, view_refuse}
use Rattle.swim_disk.proofs.file.FileDiskDisk.write_at.Goals as goal

pub returns-then-at-gt-MOST_BYTES-clause-writes : goal.returns-then-at-gt-MOST_BYTES-clause-writes
returns-then-at-gt-MOST_BYTES-clause-writes c =
    view_refuse c.fail.result c.args.self.now.calls _ c.args.at (told_by c.args.self.now) (record { name = c.self.inside.number; failures = count_of c.fail.new.self; calls = count_of c.add.new.self }) c.args.bytes.now
    (ap (λ (v : FileView). v.calls) c.self.view_is)

pub returns-in-Ok-Ok-clause-writes : goal.returns-in-Ok-Ok-clause-writes
returns-in-Ok-Ok-clause-writes c =
    let kept = c.in-Ok-Ok.ensures.given.calls in
    view_write (Ok (tt {0})) c.args.self.now.calls _ c.args.at (told_by c.args.self.now) (told_by c.put.new.self) kept.0 c.args.bytes.now kept.1
    (kept.2 ∙ ap (λ (v : FileView). v.calls ++ Write c.args.at kept.0 ∷ []) c.self.view_is)

pub returns-in-Ok-Ok-clause-given : goal.returns-in-Ok-Ok-clause-given
returns-in-Ok-Ok-clause-given c =
    let old : FileView = record { name = c.self.inside.number; calls = c.self.inside.calls; failures = count_of c.self.inside.failures; asked = count_of c.add.new.self; deeds = c.self.inside.file.below.deeds } in
    inl (puts_as c.in-Ok-Ok.field-0 (Ok (tt {0})) c.args.at c.args.bytes.now old c.args.self.now c.put.new.self c.put.new.self
    (ap (λ (v : FileView). v.calls) c.self.view_is) (ap (λ (v : FileView). v.deeds) c.self.view_is) refl refl
    (subst (λ r. same_kind r (Ok (tt {0}))) (sym c.in-Ok-Ok.field-0-is) tt) c.in-Ok-Ok.ensures.given)

pub returns-in-Ok-Err-clause-writes : goal.returns-in-Ok-Err-clause-writes
returns-in-Ok-Err-clause-writes c =
    let kept = c.in-Ok-Err.ensures.given.calls in
    view_write (Err c.fail-in-Ok-Err.result) c.args.self.now.calls _ c.args.at (told_by c.args.self.now) (record { name = c.self-2.inside.number; failures = count_of c.fail-in-Ok-Err.new.self; calls = count_of c.self-2.inside.asked }) kept.0 c.args.bytes.now kept.1
    (ap (λ (v : FileView). v.calls) c.self-2.view_is ∙ kept.2 ∙ ap (λ (v : FileView). v.calls ++ Write c.args.at kept.0 ∷ []) c.self.view_is)

pub returns-in-Ok-Err-clause-given : goal.returns-in-Ok-Err-clause-given
returns-in-Ok-Err-clause-given c =
    let old : FileView = record { name = c.self.inside.number; calls = c.self.inside.calls; failures = count_of c.self.inside.failures; asked = count_of c.add.new.self; deeds = c.self.inside.file.below.deeds } in
    let now : FileView = record { name = c.self-2.inside.number; calls = c.self-2.inside.calls; failures = count_of c.fail-in-Ok-Err.new.self; asked = count_of c.self-2.inside.asked; deeds = c.self-2.inside.file.below.deeds } in
    inl (puts_as c.in-Ok-Err.field-0 (Err c.fail-in-Ok-Err.result) c.args.at c.args.bytes.now old c.args.self.now c.put.new.self now
    (ap (λ (v : FileView). v.calls) c.self.view_is) (ap (λ (v : FileView). v.deeds) c.self.view_is)
    (sym (ap (λ (v : FileView). v.calls) c.self-2.view_is)) (sym (ap (λ (v : FileView). v.deeds) c.self-2.view_is))
    (subst (λ r. same_kind r (Err c.fail-in-Ok-Err.result)) (sym c.in-Ok-Err.field-0-is) tt) c.in-Ok-Err.ensures.given)

pub returns-in-Err-clause-writes : goal.returns-in-Err-clause-writes
returns-in-Err-clause-writes c =
    view_refuse c.fail-in-Err.result c.args.self.now.calls _ c.args.at (told_by c.args.self.now) (record { name = c.self-2.inside.number; failures = count_of c.fail-in-Err.new.self; calls = count_of c.self-2.inside.asked }) c.args.bytes.now
    (ap (λ (v : FileView). v.calls) (c.self-2.view_is ∙ c.in-Err.ensures.same) ∙ ap (λ (v : FileView). v.calls) c.self.view_is)
