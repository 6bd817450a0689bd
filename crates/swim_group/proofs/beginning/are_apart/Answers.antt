use Rattle.std.proofs.Common.{rules, false, ◌≡◌, ◌+◌, ◌<◌, ◌≤◌, ◌==◌, refl, sym, ◌∙◌, subst, ◌∷◌, drop, length, slice_index_or}
use Rattle.std.specs.List.{AllByRecursion, IsDistinct}
use Rattle.std.proofs.lemmas.Bool.{false≢true}
use Rattle.std.proofs.lemmas.Map.Keys.{IsDistinct-head, IsDistinct-cons}
use Rattle.swim_member.proofs.TurnLists.{none-any, any-none}
use Rattle.swim_group.specs.Real.{names_in}
use Rattle.swim_group.proofs.Naming.{names-drop, distinct-drop, distinct-past}
use Rattle.swim_group.proofs.beginning.are_apart.Goals as goal

pub returns-then-has_name : goal.returns-then-has_name
returns-then-has_name c =
    let there : c.loop-i.i < length c.args.settings.now = search rules in
    let at : c.index-settings-i.result ≡ slice_index_or c.args.settings.now c.loop-i.i c.index-settings-i.result = search rules in (
      λ e. absurd (false≢true e),
      λ d.
          let left : IsDistinct (λ x y. x == y) (c.index-settings-i.result.me ∷ names_in (drop (c.loop-i.i + 1) c.args.settings.now)) =
          subst (IsDistinct (λ x y. x == y)) (names-drop c.args.settings.now c.loop-i.i c.index-settings-i.result there at) (distinct-drop c.args.settings.now c.loop-i.i d) in
          absurd (false≢true (sym (any-none c.index-settings-i.result.me (names_in (drop (c.loop-i.i + 1) c.args.settings.now)) (IsDistinct-head (λ x y. x == y) c.index-settings-i.result.me (names_in (drop (c.loop-i.i + 1) c.args.settings.now)) left))
          ∙ (sym c.has_name.ensures ∙ c.if-has_name.true))),
    )

pub loop-i-preserved : goal.loop-i-preserved
loop-i-preserved c d =
    let there : c.loop-i.i < length c.args.settings.now = search rules in
    let at : c.index-settings-i.result ≡ slice_index_or c.args.settings.now c.loop-i.i c.index-settings-i.result = search rules in
    let none : AllByRecursion (λ y. (c.index-settings-i.result.me == y) ≡ false) (names_in (drop (c.loop-i.i + 1) c.args.settings.now)) =
    none-any c.index-settings-i.result.me (names_in (drop (c.loop-i.i + 1) c.args.settings.now)) (sym c.has_name.ensures ∙ c.if-has_name.false) in
    c.loop-i.invariant
    (subst (IsDistinct (λ x y. x == y)) (sym (names-drop c.args.settings.now c.loop-i.i c.index-settings-i.result there at))
    (IsDistinct-cons (λ x y. x == y) c.index-settings-i.result.me (names_in (drop (c.loop-i.i + 1) c.args.settings.now)) none d))

pub returns : goal.returns
returns c =
    let past : length c.args.settings.now ≤ c.loop-i.i = search rules in
    (λ _. c.loop-i.invariant (distinct-past c.args.settings.now c.loop-i.i past), λ _. refl)
