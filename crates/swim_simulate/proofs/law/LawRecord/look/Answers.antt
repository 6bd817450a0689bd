use Rattle.std.proofs.Common.{◌≡◌, refl, subst, sym, ◌∙◌, ap, Some}
use Rattle.swim_group.specs.Checking.{Remembers, IsBroken}
use Rattle.swim_simulate.specs.Laws.{LawView, KnowsAll}
use Rattle.swim_simulate.proofs.Watching.{no-breach}
use Rattle.swim_simulate.proofs.law.LawRecord.look.Goals as goal
use Rattle.std.proofs.lemmas.Option.{same_Some}

pub returns-in-Ok-clause-look : goal.returns-in-Ok-clause-look
returns-in-Ok-clause-look c told sent out none was remembered same =
    let old : told ≡ c.in-Some.checker = same_Some told c.in-Some.checker (sym was ∙ sym (ap (λ (v : LawView). v.told) c.self.view_is) ∙ c.in-Some.is) in
    let both = c.in-Ok.ensures.ok sent out same (subst (λ t. Remembers t sent) old remembered) in
    (both.0, (c.check.new.self, refl, both.1))

pub returns-in-Ok-clause-passes : goal.returns-in-Ok-clause-passes
returns-in-Ok-clause-passes c sent out same knows may =
    let is : c.args.self.now.told ≡ Some c.in-Some.checker = sym (ap (λ (v : LawView). v.told) c.self.view_is) ∙ c.in-Some.is in
    let both = c.in-Ok.ensures.ok sent out same (subst (λ t. KnowsAll t sent) is knows) in
    (ap (λ (v : LawView). v.stop) c.self.view_is, both.1)

pub returns-in-Err-Broken-clause-passes : goal.returns-in-Err-Broken-clause-passes
returns-in-Err-Broken-clause-passes c sent out same knows may =
    let is : c.args.self.now.told ≡ Some c.in-Some.checker = sym (ap (λ (v : LawView). v.told) c.self.view_is) ∙ c.in-Some.is in
    no-breach sent c.args.datagram.now c.in-Err-Broken.update c.in-Err-Broken.breach may
    (subst (IsBroken sent c.args.datagram.now) c.in-Err-Broken.field-0-is (c.in-Err-Broken.ensures.broken sent (subst (λ t. KnowsAll t sent) is knows)))
