use Rattle.std.proofs.Common.{◌≡◌, ◌≤◌, ℕ, false, not, List, IfSome, refl, ap, sym, ◌∙◌, subst}
use denote.Enum.Bare.{sameb}
use Rattle.arrayvec.specs.ArrayVec.{ArrayVec}
use Rattle.swim_wire.specs.Decoding.{decoded}
use Rattle.swim_wire.specs.declared.update.TheConstants.{NUMBER_MAX}
use Rattle.swim_member.specs.declared.event.Event.{Event}
use Rattle.swim_member.specs.declared.event.Event.TheVariants as event
use Rattle.swim_member.specs.declared.state.Phase.{Phase}
use Rattle.swim_member.specs.declared.state.Phase.TheVariants.{Running, Left, Expelled}
use Rattle.swim_member.specs.contracts.state.Phase.{the_type}
use Rattle.swim_member.specs.State.{State}
use Rattle.swim_member.specs.OwnNumber.{wanted_number}
use Rattle.swim_member.specs.Judge.{judge, judge_in, judge_running, judge_bytes, number_wanted}
use Rattle.swim_member.specs.Judged.{Judged}
use Rattle.swim_member.proofs.Showing.{low-wanted}
use Rattle.swim_member.proofs.member.Member.judge.Goals as goal

-- no other phase passes the test
is-running : (p : Phase) → not (sameb the_type p Running) ≡ false → p ≡ Running
is-running Running h = refl
is-running Left h = absurd (cc)
is-running Expelled h = absurd (cc)

-- received bytes are judged by what they spell
bytes-judged : (s : State) (e : Event) (from : ℕ) (bytes : ArrayVec ℕ) (text : List ℕ) → e ≡ event.Datagram from bytes → s.phase ≡ Running → text ≡ bytes.items → judge s e ≡ judge_bytes s from (decoded text)
bytes-judged s e from bytes text is running same =
    ap (λ (p : Phase). judge_in p s e) running ∙ ap (λ (x : Event). judge_running s x) is ∙ ap (λ t. judge_bytes s from (decoded t)) (sym same)

pub returns-in-Ok-clause-value : goal.returns-in-Ok-clause-value
returns-in-Ok-clause-value c =
    let running : c.args.self.now.phase ≡ Running = ap (λ (s : State). s.phase) (sym c.self.view_is) ∙ is-running c.self.inside.phase (sym c.ne.ensures ∙ c.if-ne.false) in
    sym (bytes-judged c.args.self.now c.args.event.now c.in-Datagram.from c.in-Datagram.bytes c.deref.result.now c.in-Datagram.is running c.deref.ensures.0 ∙ c.in-Ok.ensures.accepted)

pub returns-in-Ok-clause-bound : goal.returns-in-Ok-clause-bound
returns-in-Ok-clause-bound c =
    let running : c.args.self.now.phase ≡ Running = ap (λ (s : State). s.phase) (sym c.self.view_is) ∙ is-running c.self.inside.phase (sym c.ne.ensures ∙ c.if-ne.false) in
    subst (λ (j : Judged). IfSome (number_wanted j) (λ n. n ≤ NUMBER_MAX))
    (sym (bytes-judged c.args.self.now c.args.event.now c.in-Datagram.from c.in-Datagram.bytes c.deref.result.now c.in-Datagram.is running c.deref.ensures.0 ∙ c.in-Ok.ensures.accepted))
    (low-wanted c.args.self.now.number (wanted_number c.in-Ok.own) c.in-Ok.ensures.sound.1)

pub returns-in-Err-clause-value : goal.returns-in-Err-clause-value
returns-in-Err-clause-value c =
    let running : c.args.self.now.phase ≡ Running = ap (λ (s : State). s.phase) (sym c.self.view_is) ∙ is-running c.self.inside.phase (sym c.ne.ensures ∙ c.if-ne.false) in
    sym (bytes-judged c.args.self.now c.args.event.now c.in-Datagram.from c.in-Datagram.bytes c.deref.result.now c.in-Datagram.is running c.deref.ensures.0 ∙ c.in-Err.ensures.refused)

pub returns-in-Err-clause-bound : goal.returns-in-Err-clause-bound
returns-in-Err-clause-bound c =
    let running : c.args.self.now.phase ≡ Running = ap (λ (s : State). s.phase) (sym c.self.view_is) ∙ is-running c.self.inside.phase (sym c.ne.ensures ∙ c.if-ne.false) in
    subst (λ (j : Judged). IfSome (number_wanted j) (λ n. n ≤ NUMBER_MAX))
    (sym (bytes-judged c.args.self.now c.args.event.now c.in-Datagram.from c.in-Datagram.bytes c.deref.result.now c.in-Datagram.is running c.deref.ensures.0 ∙ c.in-Err.ensures.refused))
    (tt {0})
