use Rattle.std.proofs.Common.{◌≡◌, ℕ, ◌-◌, ◌∙◌, ap, sym, Bool, List, take, drop, length, Some, true}
use Rattle.std.specs.List.{find}
use Rattle.std.proofs.lemmas.List.{drop_all}
use Rattle.swim_member.specs.Member.{is_eligible_in}
use Rattle.swim_member.specs.Machinery.Turns.{TurnListView}
use Rattle.swim_member.proofs.Dealing.{find-here, rest-whole}
use Rattle.swim_member.proofs.turn.TurnList.go_on.Goals as goal

-- the members that are gone through are those that are still listed
whole : (p : ℕ → Bool) (t : TurnListView) (listed gone : List ℕ) (place : ℕ) → gone ≡ listed → record { listed = listed; place = place } ≡ t → find p (take (length gone - place) (drop place gone)) ≡ find p (drop t.place t.listed)
whole p t listed gone place same is =
    ap (find p) (rest-whole place gone) ∙ ap (λ l. find p (drop place l)) same ∙ ap (λ (u : TurnListView). find p (drop u.place u.listed)) is

pub returns-then-has_eligible-clause-next : goal.returns-then-has_eligible-clause-next
returns-then-has_eligible-clause-next c =
    let passes : is_eligible_in c.args.table.now.rows c.member-item.result ≡ true = sym c.has_eligible.ensures ∙ c.if-has_eligible.true in
    ap (λ x. Some x) c.member-item.is
    ∙ sym (find-here (is_eligible_in c.args.table.now.rows) _ c.loop-over.over _ c.loop-over-test.true (ap (is_eligible_in c.args.table.now.rows) (sym c.member-item.is) ∙ passes))
    ∙ sym c.loop-over.invariant.first ∙ whole (is_eligible_in c.args.table.now.rows) _ _ _ _ c.deref.ensures.0 c.self.view_is

pub returns-clause-next : goal.returns-clause-next
returns-clause-next c =
    ap (find (is_eligible_in c.args.table.now.rows)) (sym (drop_all c.loop-over.over _ c.loop-over-test.false))
    ∙ sym c.loop-over.invariant.first ∙ whole (is_eligible_in c.args.table.now.rows) _ _ _ _ c.deref.ensures.0 c.self.view_is
