use Rattle.std.proofs.Common.{rules, ◌≡◌, ◌≤◌, ◌<◌, true, false, All, length, slice_index_or, subst, sym, ◌∙◌}
use Rattle.std.proofs.lemmas.Bool.{false≢true}
use Rattle.std.proofs.lemmas.List.{take_all}
use Rattle.swim_member.specs.Checks.{AreSound}
use Rattle.swim_group.proofs.Naming.{all-more}
use Rattle.swim_group.proofs.beginning.may_begin.Goals as goal

pub loop-one-preserved : goal.loop-one-preserved
loop-one-preserved c =
    let there : c.loop-one.one-index < length c.args.settings.now = search rules in
    let at : c.one-item.result ≡ slice_index_or c.args.settings.now c.loop-one.one-index c.one-item.result = search rules in
    let sound : AreSound c.one-item.result = search rules in
    all-more AreSound c.args.settings.now c.loop-one.one-index c.one-item.result there at sound c.loop-one.invariant

pub returns-then-not-are_apart-clause-err : goal.returns-then-not-are_apart-clause-err
returns-then-not-are_apart-clause-err c =
    let past : length c.args.settings.now ≤ c.loop-one.one-index = search rules in
    let no : c.are_apart.result ≡ false = search rules in
    (subst (All AreSound) (take_all c.loop-one.one-index c.args.settings.now past) c.loop-one.invariant, λ d. false≢true (sym no ∙ c.are_apart.ensures.1 d))

pub returns-clause-ok : goal.returns-clause-ok
returns-clause-ok c =
    let past : length c.args.settings.now ≤ c.loop-one.one-index = search rules in
    let yes : c.are_apart.result ≡ true = search rules in
    record { sound = subst (All AreSound) (take_all c.loop-one.one-index c.args.settings.now past) c.loop-one.invariant; names = c.are_apart.ensures.0 yes }
