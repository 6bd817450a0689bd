use Rattle.std.proofs.Common.{◌≡◌, ℕ, ◌+◌, ◌∷◌, ◌++◌, [], List, length, ap, ◌∙◌, subst, refl}
use Rattle.swim_member.specs.State.{State}
use Rattle.swim_member.specs.Judge.{wanted}
use Rattle.swim_node.specs.declared.entry.Entry.{Entry}
use Rattle.swim_node.specs.History.{Base, Saves, IsNext, state_after, status_at}
use Rattle.swim_node.specs.Lives.{Era}
use Rattle.swim_node.specs.Node.{base_of, entry_with}
use Rattle.swim_node.proofs.Nodes.{Enters, next-entered, node-snoc}
use Rattle.swim_node.proofs.Replaying.{next-again}
use Rattle.swim_node.proofs.replay.Replay.enter.Goals as goal

module _ (c : goal.After-add) where
  abbrev entry : Entry
  entry = entry_with c.args.cause.tag c.args.cause.event c.enter_again-done.result c.enter_again-done.new.answer c.status_now-status.result

  abbrev base : Base
  base = base_of c.self.inside.base

  snoc : c.add.new.self.entries ≡ c.self.inside.journal.entries ++ entry ∷ []
  snoc = c.add.ensures ∙ ap (λ (l : List Entry). l ++ entry ∷ []) c.reserve.ensures.entries

  enters : Enters c.self.inside.journal.entries c.self.inside.member c.enter_again-done.new.member c.self.inside.granted c.enter_again-done.result.granted entry
  enters =
      let status : entry.reply.status ≡ status_at c.enter_again-done.new.member (length c.self.inside.journal.entries + 1) = rw (c.status_now-status.ensures, c.entries.ensures, c.reserve.ensures.entries) refl in
      let turn = rw (← c.self.view_is) at c.in_ok-admit.ensures.ok.0 in
      assumption (status, turn, c.enter_again-done.ensures, c.requires.caller)

  next : IsNext base c.self.inside.journal.entries entry
  next = next-entered base c.self.inside.journal.entries entry 0 c.self.inside.member c.enter_again-done.new.member c.self.inside.granted c.enter_again-done.result.granted c.self.inside.most c.self.invariant enters

pub invariant_of-self-2 : goal.invariant_of-self-2
invariant_of-self-2 c =
    rw (c.greatest_own-self-inside.ensures, c.settings.ensures, c.as_slice.ensures.value, c.add.ensures, c.reserve.ensures.entries)
    (node-snoc (base c) c.self.inside.journal.entries (entry c) 0 c.self.inside.member c.enter_again-done.new.member c.self.inside.granted c.enter_again-done.result.granted c.self.inside.most c.self.invariant (enters c) (rw (← c.self.view_is) at c.in_ok-admit.ensures.ok.1))

pub returns-clause-again : goal.returns-clause-again
returns-clause-again c e stands told_of =
    let event = c.args.cause.event in
    let told = c.args.cause.granted in
    let xs = c.self.inside.journal.entries in
    let other = rw (← c.self.view_is) at stands in
    let same : entry c ≡ e =
    next-again (base c) xs c.args.cause (entry c) (next c) refl refl
    (λ save k. c.enter_again-done.ensures.granted save
    (subst (λ (s : State). Saves (wanted s event) c.self.inside.granted save told) c.self.invariant.member
    (subst (λ (g : ℕ). Saves (wanted (state_after (base c) xs) event) g save told) c.self.invariant.granted k)))
    c.enter_again-done.ensures.outcomes e other told_of in
    snoc c ∙ ap (λ (x : Entry). xs ++ x ∷ []) same ∙ ap (λ (v : Era). v.entries ++ e ∷ []) c.self.view_is
