use Rattle.std.proofs.Common.{rules, ◌≡◌, ◌++◌, ◌∷◌, [], ap, sym, subst, ◌∙◌, false}
use Rattle.std.specs.Prelude.{None, Ok}
use Rattle.swim_shell.specs.Answers.{Gives}
use Rattle.swim_shell.specs.Views.{left_of}
use Rattle.swim_shell.proofs.Writing.{gives_on, on_more, on_fault}
use Rattle.swim_shell.proofs.Trying.{trying_more}
use Rattle.swim_shell.proofs.answer_writer.AnswerWriter.send.Goals.{then-self-len, else-self-len, in-Ok-false, in-Err+in_default}
use Rattle.swim_shell.proofs.answer_writer.AnswerWriter.send.Goals as goal

pub loop-preserved : goal.loop-preserved
loop-preserved g c =
    let contents = g.Wr.Write.contents in
    let was = c.loop.self in
    let now = c.if-self-len.self in
    let step = c.if-self-len.step in
    let gave : Gives (contents was.writer) (contents now.writer) (left_of was) (left_of now) [] = elim c.if-self-len.branch [ then-self-len w ↦ subst (λ s. Gives (contents was.writer) (contents s.writer) (left_of was) (left_of s) []) (sym w.self-is) w.write-step.ensures.gives | else-self-len w ↦ subst (λ s. Gives (contents was.writer) (contents s.writer) (left_of was) (left_of s) []) (sym w.self-is) w.flush-step.ensures.gives ] in
    let kept : now.steps ≡ was.steps = elim c.if-self-len.branch [ then-self-len w ↦ ap (λ s. s.steps) w.self-is ∙ w.write-step.ensures.steps | else-self-len w ↦ ap (λ s. s.steps) w.self-is ∙ w.flush-step.ensures.steps ] in
    let told = c.and-self.ensures ∙ ap (λ w. w ++ step ∷ []) kept in
    let gives = gives_on _ _ _ _ _ _ c.loop.invariant.gives gave in
    elim c.match-step.branch [ in-Ok-false w ↦ (let more : step ≡ Ok false = search rules in record { gives = gives; tried = trying_more _ _ _ _ _ step c.loop.invariant.tried told (on_more step more) }) | in-Err+in_default w ↦ (let none : w.sent_by.result ≡ None = search rules in record { gives = gives; tried = trying_more _ _ _ _ _ step c.loop.invariant.tried told (on_fault step w.in-Err.error w.kind.result w.sent_by.result w.in-Err.is w.sent_by.ensures w.kind.ensures none) }) ]
