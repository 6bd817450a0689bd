use Rattle.std.proofs.Common.{◌≡◌, ◌∷◌, ap, inl, inr, sym, ◌∙◌}
use Rattle.swim_serve.specs.Desks.{IsNew}
use Rattle.swim_serve.proofs.Tending.{opened}
use Rattle.swim_serve.proofs.desk.Desk.stand_by.Goals as goal
use Rattle.swim_serve.proofs.desk.Desk.stand_by.Goals.{then-len-lt-OPEN_MAX+in_default, else-len-lt-OPEN_MAX}

pub returns-in-Some-clause-opens : goal.returns-in-Some-clause-opens
returns-in-Some-clause-opens g c =
    let new : IsNew c.new.result = record { kept = ap (λ v. v.kept) c.new.ensures; left = ap (λ v. v.left) c.new.ensures; due = ap (λ v. v.due) c.new.ensures } in
    opened _ _ _ _ _ c.new.result (inl (new, c.begin_turns.ensures.same.0 ∙ ap (λ v. v.others) c.self.view_is)) c.begin_turns.ensures.begun c.begin_turns.ensures.some

pub returns-in-Some-resumed-clause-opens : goal.returns-in-Some-resumed-clause-opens
returns-in-Some-resumed-clause-opens g c =
    let next = c.in-Some-resumed.conversation in
    let same : c.if-len-lt-OPEN_MAX.self.others ≡ c.self.inside.others = elim c.if-len-lt-OPEN_MAX.branch [ then-len-lt-OPEN_MAX+in_default w ↦ ap (λ s. s.others) w.self-is | else-len-lt-OPEN_MAX w ↦ ap (λ s. s.others) w.self-is ] in
    let was : c.if-len-lt-OPEN_MAX.self.others ≡ c.args.self.now.others = same ∙ ap (λ v. v.others) c.self.view_is in
    let is : c.args.self.now.others ≡ next ∷ c.begin_turns-in-Some-resumed.new.self.others = sym was ∙ c.in-Some-resumed.ensures.next ∙ ap (λ rest. next ∷ rest) (sym c.begin_turns-in-Some-resumed.ensures.same.0) in
    opened _ _ _ _ _ next (inr is) c.begin_turns-in-Some-resumed.ensures.begun c.begin_turns-in-Some-resumed.ensures.some
