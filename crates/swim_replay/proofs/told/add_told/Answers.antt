use Rattle.std.proofs.Common.{◌≡◌, ◌+◌, ◌∷◌, drop, ap, ◌∙◌, sym, subst}
use Rattle.std.proofs.lemmas.List.{drop_more, take_rest}
use Rattle.swim_member.specs.State.{State}
use Rattle.swim_record.specs.declared.line.Line.{Line}
use Rattle.swim_record.specs.declared.line.Line.TheVariants as line
use Rattle.swim_replay.specs.Machinery.Told.{all_noted}
use Rattle.swim_replay.proofs.Walks.{IsLeft, left_last, left_next}
use Rattle.swim_replay.proofs.told.add_told.Goals as goal

pub returns-in-Begin-clause-back : goal.returns-in-Begin-clause-back
returns-in-Begin-clause-back c told start after is may =
    let place = c.loop-place.place in
    let lines = c.args.lines.now in
    let found : c.index-lines-place.result ≡ line.Begin c.in-Begin.start = c.in-Begin.is in
    let here : drop place lines ≡ line.Begin c.in-Begin.start ∷ drop (place + 1) lines =
    drop_more lines place c.index-lines-place.result c.loop-place-test.true ∙ ap (λ (l : Line). l ∷ drop (place + 1) lines) (sym c.index-lines-place.is ∙ found) in
    let last = left_last c.in-Begin.start (drop (place + 1) lines) lines place c.loop-place.state (all_noted c.args.state.now told) told start after here (c.loop-place.invariant.back told start after is may) in
    (last.0, take_rest lines (place + 1) ∙ last.1, last.2)

pub returns-in_default-add : goal.returns-in_default-add
returns-in_default-add c = record {
  settings = c.in_default-add.ensures.settings ∙ c.loop-place.invariant.settings;
  few = tt;
  back = λ told start after is may.
      let line = c.index-lines-place.result in
      let here = drop_more c.args.lines.now c.loop-place.place line c.loop-place-test.true ∙ ap (λ (l : Line). l ∷ drop (c.loop-place.place + 1) c.args.lines.now) (sym c.index-lines-place.is) in
      absurd (c.in_default-add.ensures.none (left_next line c.args.lines.now c.loop-place.place c.loop-place.state (all_noted c.args.state.now told) told start after c.in_default.not-Begin here (c.loop-place.invariant.back told start after is may)).0);
}

pub loop-place-preserved : goal.loop-place-preserved
loop-place-preserved c = record {
  settings = c.in-Some.ensures.settings ∙ c.loop-place.invariant.settings;
  back = λ told start after is may.
      let line = c.index-lines-place.result in
      let here = drop_more c.args.lines.now c.loop-place.place line c.loop-place-test.true ∙ ap (λ (l : Line). l ∷ drop (c.loop-place.place + 1) c.args.lines.now) (sym c.index-lines-place.is) in
      let next = left_next line c.args.lines.now c.loop-place.place c.loop-place.state (all_noted c.args.state.now told) told start after c.in_default.not-Begin here (c.loop-place.invariant.back told start after is may) in
      subst (λ (x : State). IsLeft c.args.lines.now (c.loop-place.place + 1) x (all_noted c.args.state.now told) told start after) (sym c.in-Some.ensures.some) next.1;
}
