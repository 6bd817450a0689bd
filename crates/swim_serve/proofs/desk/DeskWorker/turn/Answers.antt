use Rattle.std.proofs.Common.{rules, ap, refl, sym, ◌≡◌, ◌∷◌, [], ◌++◌, ◌∙◌}
use Rattle.std.specs.Prelude.{Some}
use Rattle.swim_serve.proofs.Tending.{held_from, tending_kept, tending_aside, tending_closed, tending_ended}
use Rattle.swim_serve.proofs.desk.DeskWorker.turn.Goals.{in_default-turn-via-in-Some-turn+else-is_of_connection, in_default-turn-via-in-None+else-not-is_waiting}
use Rattle.swim_serve.proofs.desk.DeskWorker.turn.Goals as goal

-- the line `reload` waits for the settings: its conversation stands aside
pub returns-then-must_hold-clause-on : goal.returns-then-must_hold-clause-on
returns-then-must_hold-clause-on g c s r n t =
    let was : c.args.self.now.conversation ≡ Some c.in-Some.conversation = ap (λ v. v.conversation) (sym c.self.view_is) ∙ sym c.take.ensures.value ∙ c.in-Some.is in
    let joiner = c.must_hold.ensures.joiner ∙ ap (λ v. v.joiner) c.self.view_is in
    let others = c.must_hold.ensures.others ∙ ap (λ v. v.others) c.self.view_is in
    let held = held_from g.C.Caller.limit c.turn-turn.result _ c.in-Some.conversation c.turn-turn.new.self c.hold.new.self _ _ (c.must_hold.ensures.reloading c.if-must_hold.true) c.turn-turn.ensures.end c.hold.ensures in
    let last = c.set_aside.ensures.last ∙ ap (λ w. w ++ c.hold.new.self ∷ []) others in
    tending_aside _ s _ _ c.in-Some.conversation c.hold.new.self r _ _ n was (c.set_aside.ensures.same.1 ∙ joiner) (c.set_aside.ensures.same.0 ∙ c.must_hold.ensures.conversation ∙ c.take.ensures.after) last held t

pub returns-in-Some-turn-clause-on : goal.returns-in-Some-turn-clause-on
returns-in-Some-turn-clause-on g c s r n t =
    let was : c.args.self.now.conversation ≡ Some c.in-Some.conversation = ap (λ v. v.conversation) (sym c.self.view_is) ∙ sym c.take.ensures.value ∙ c.in-Some.is in
    let joiner = c.must_hold.ensures.joiner ∙ ap (λ v. v.joiner) c.self.view_is in
    let others = c.must_hold.ensures.others ∙ ap (λ v. v.others) c.self.view_is in
    tending_closed _ s _ _ c.in-Some.conversation c.turn-turn.new.self c.in-Some-turn.end r _ _ n was joiner (c.must_hold.ensures.conversation ∙ c.take.ensures.after) others (c.if-is_of_connection.ensures.yes (search rules)) c.in-Some-turn.ensures.end t

pub returns-in-None-clause-on : goal.returns-in-None-clause-on
returns-in-None-clause-on g c s r n t =
    let was : c.args.self.now.conversation ≡ Some c.in-Some.conversation = ap (λ v. v.conversation) (sym c.self.view_is) ∙ sym c.take.ensures.value ∙ c.in-Some.is in
    let joiner = c.must_hold.ensures.joiner ∙ ap (λ v. v.joiner) c.self.view_is in
    let others = c.must_hold.ensures.others ∙ ap (λ v. v.others) c.self.view_is in
    let last = c.set_aside-in-None.ensures.last ∙ ap (λ w. w ++ c.turn-turn.new.self ∷ []) others in
    tending_aside _ s _ _ c.in-Some.conversation c.turn-turn.new.self r _ _ n was (c.set_aside-in-None.ensures.same.1 ∙ joiner) (c.set_aside-in-None.ensures.same.0 ∙ c.must_hold.ensures.conversation ∙ c.take.ensures.after) last c.in-None.ensures.on t

pub returns-in_default-turn-clause-on : goal.returns-in_default-turn-clause-on
returns-in_default-turn-clause-on g c =
    let was : c.args.self.now.conversation ≡ Some c.in-Some.conversation = ap (λ v. v.conversation) (sym c.self.view_is) ∙ sym c.take.ensures.value ∙ c.in-Some.is in
    let kept = c.self-in_default-turn.view_is in
    let joiner = ap (λ v. v.joiner) kept ∙ c.must_hold.ensures.joiner ∙ ap (λ v. v.joiner) c.self.view_is in
    let others = ap (λ v. v.others) kept ∙ c.must_hold.ensures.others ∙ ap (λ v. v.others) c.self.view_is in
    elim c.in_default-turn-1.branch [ in_default-turn-via-in-Some-turn+else-is_of_connection w ↦ rw w.turn-is tt | in_default-turn-via-in-None+else-not-is_waiting w ↦ rw (w.turn-is ∙ w.in-None.is) (λ s r n t. tending_kept _ s _ _ c.in-Some.conversation c.turn-turn.new.self r _ _ n was joiner refl others w.in-None.ensures.on t) ]

pub returns-in_default-turn-clause-end : goal.returns-in_default-turn-clause-end
returns-in_default-turn-clause-end g c =
    let was : c.args.self.now.conversation ≡ Some c.in-Some.conversation = ap (λ v. v.conversation) (sym c.self.view_is) ∙ sym c.take.ensures.value ∙ c.in-Some.is in
    let kept = c.self-in_default-turn.view_is in
    let joiner = ap (λ v. v.joiner) kept ∙ c.must_hold.ensures.joiner ∙ ap (λ v. v.joiner) c.self.view_is in
    let others = ap (λ v. v.others) kept ∙ c.must_hold.ensures.others ∙ ap (λ v. v.others) c.self.view_is in
    elim c.in_default-turn-1.branch [ in_default-turn-via-in-Some-turn+else-is_of_connection w ↦ rw w.turn-is (λ s r n t. tending_ended _ s _ _ c.in-Some.conversation c.turn-turn.new.self w.in-Some-turn.end r _ _ n was joiner refl others (w.if-is_of_connection.ensures.no (search rules)) w.in-Some-turn.ensures.end t) | in_default-turn-via-in-None+else-not-is_waiting w ↦ rw (w.turn-is ∙ w.in-None.is) tt ]
