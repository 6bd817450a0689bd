use Rattle.std.proofs.Common.{◌≡◌, ℕ, ◌+◌, ◌-◌, ◌<◌, ◌≤◌, ◌++◌, List, length, ap, sym, ◌∙◌, append_assoc, append-nil, refl, inl, inr, arith, rules}
use Rattle.std.proofs.lemmas.Bool.{cases_order}
use Rattle.swim_member.specs.declared.answer.Answer.{Answer}
use Rattle.swim_member.specs.declared.answer.Out.{Out}
use Rattle.swim_member.specs.State.{State}
use Rattle.swim_member.specs.Events.{Bye, each_from, perform, outs}
use Rattle.swim_member.specs.Machinery.Steps.{apply_all, after, outs_by}
use Rattle.swim_member.proofs.Actions.{each-next, settings-apply_all}
use Rattle.swim_member.proofs.member.Member.say_bye.Goals as goal

next-state : (s t : State) (k : ℕ) → k < 9 → t ≡ apply_all (perform s (Bye k)) s → after t (each_from (k + 1) (9 - (k + 1)) (λ j. Bye j)) ≡ after s (each_from k (9 - k) (λ j. Bye j))
next-state s t k l e =
    ap (λ u. after u (each_from (k + 1) (9 - (k + 1)) (λ j. Bye j))) e ∙ sym (ap (after s) (each-next 9 k (λ j. Bye j) l))

next-outs : (s t : State) (k : ℕ) (sent more one : List Out) → k < 9 → t ≡ apply_all (perform s (Bye k)) s → more ≡ sent ++ one → one ≡ outs (perform s (Bye k)) → more ++ outs_by t (each_from (k + 1) (9 - (k + 1)) (λ j. Bye j)) ≡ sent ++ outs_by s (each_from k (9 - k) (λ j. Bye j))
next-outs s t k sent more one l e p q =
    ap (λ os. os ++ outs_by t (each_from (k + 1) (9 - (k + 1)) (λ j. Bye j))) (p ∙ ap (λ os. sent ++ os) q)
    ∙ append_assoc sent (outs (perform s (Bye k))) (outs_by t (each_from (k + 1) (9 - (k + 1)) (λ j. Bye j)))
    ∙ ap (λ u. sent ++ (outs (perform s (Bye k)) ++ outs_by u (each_from (k + 1) (9 - (k + 1)) (λ j. Bye j)))) e
    ∙ ap (λ ms. sent ++ outs_by s ms) (sym (each-next 9 k (λ j. Bye j) l))

pub loop-number-preserved : goal.loop-number-preserved
loop-number-preserved c =
    let below : c.loop-number.number < 9 = search (arith, rules) in
    let more : length c.bye.new.answer.outs.items ≤ length c.loop-number.answer.outs.items + 1 = c.bye.ensures.answer.few in
    let count : length c.loop-number.answer.outs.items ≤ c.loop-number.number = c.loop-number.invariant.count in
    let few : length c.loop-number.answer.outs.items ≤ c.args.self.now.settings.helpers + 1 = c.loop-number.invariant.few in
    record {
      state = next-state c.loop-number.self c.bye.new.self c.loop-number.number below c.bye.ensures.state ∙ c.loop-number.invariant.state;
      outs =
          next-outs c.loop-number.self c.bye.new.self c.loop-number.number c.loop-number.answer.outs.items c.bye.new.answer.outs.items (outs (perform c.loop-number.self (Bye c.loop-number.number))) below c.bye.ensures.state c.bye.ensures.answer.outs refl
          ∙ c.loop-number.invariant.outs;
      notes = c.bye.ensures.answer.notes ∙ append-nil c.loop-number.answer.notes.items ∙ c.loop-number.invariant.notes;
      page = c.bye.ensures.answer.page ∙ c.loop-number.invariant.page;
      fit = c.bye.ensures.answer.fit c.loop-number.invariant.fit;
      count = omega arith;
      few = elim (cases_order c.args.self.now.settings.helpers c.loop-number.number) [
        | inl same ↦ omega arith
        | inr (inl past) ↦ let none : length c.bye.new.answer.outs.items ≡ length c.loop-number.answer.outs.items = ap (λ (a : Answer). length a.outs.items) (c.bye.ensures.few (rw c.loop-number.invariant.settings past)) in omega arith
        | inr (inr before) ↦ omega arith
      ];
      settings = ap (λ (s : State). s.settings) c.bye.ensures.state ∙ settings-apply_all (perform c.loop-number.self (Bye c.loop-number.number)) c.loop-number.self ∙ c.loop-number.invariant.settings;
    }
