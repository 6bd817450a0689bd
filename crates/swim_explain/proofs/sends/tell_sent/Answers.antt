use Rattle.std.proofs.Common.{◌≡◌, ◌<◌, ◌≤◌, ◌+◌, ◌++◌, List, drop, length, get_or, ap, sym, ◌∙◌, append_assoc, arith}
use Rattle.std.proofs.lemmas.Grind.{common_steps}
use Rattle.swim_explain.specs.declared.fact.Fact.{Fact}
use Rattle.swim_explain.specs.Facts.{sent, sent_about}
use Rattle.swim_explain.proofs.Sending.{sent_more, sent_end}
use Rattle.swim_explain.proofs.sends.tell_sent.Goals.{in-Some+in_ok-add, in_default}
use Rattle.swim_explain.proofs.sends.tell_sent.Goals as goal

pub loop-place-preserved : goal.loop-place-preserved
loop-place-preserved c = elim c.match-get.branch [
  | in-Some+in_ok-add w ↦ (
      let few : c.loop-place.place < length c.args.outcomes.now = (let q = w.in-Some.ensures.lookup in let r = w.in-Some.is in let s = w.in-Some.outcome-is in grind (arith, common_steps)) in
      let was : w.in-Some.outcome.now ≡ get_or c.args.outcomes.now c.loop-place.place w.in-Some.outcome.now = (let q = w.in-Some.ensures.lookup in grind (arith, common_steps)) in
      let more = sent_more c.args.who c.args.purpose.now c.args.outs.now c.args.outcomes.now c.loop-place.place c.index-outs-place.result w.in-Some.outcome.now c.loop-place-test.true c.index-outs-place.is few was in
      let left = sent c.args.who c.args.purpose.now (drop (c.loop-place.place + 1) c.args.outs.now) (drop (c.loop-place.place + 1) c.args.outcomes.now) in
      rw w.facts-is (ap (λ (told : List Fact). told ++ left) (w.in_ok-add.ensures ∙ ap (λ (told : List Fact). c.loop-place.facts.items ++ told) w.sent_about.ensures)
      ∙ append_assoc c.loop-place.facts.items (sent_about c.args.who c.args.purpose.now c.index-outs-place.result.datagram.kind c.index-outs-place.result w.in-Some.outcome.now) left
      ∙ ap (λ (told : List Fact). c.loop-place.facts.items ++ told) (sym more) ∙ c.loop-place.invariant)
      )
  | in_default w ↦ (
      let none : length c.args.outcomes.now ≤ c.loop-place.place = (let q = c.get.ensures.lookup in grind (arith, common_steps)) in
      rw (w.facts-is, sent_end c.args.who c.args.purpose.now c.args.outs.now c.args.outcomes.now c.loop-place.place none) c.loop-place.invariant
      )
]
