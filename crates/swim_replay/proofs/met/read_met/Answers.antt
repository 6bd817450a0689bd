use Rattle.std.proofs.Common.{◌≡◌, subst, sym, ap, ◌∙◌}
use Rattle.std.proofs.lemmas.List.{drop_all}
use Rattle.std.proofs.lemmas.List.Elements.{All-get_or}
use Rattle.std.specs.Prelude.{List, All}
use Rattle.swim_record.specs.declared.line.Line.{Line}
use Rattle.swim_record.specs.Recording.{met_lines}
use Rattle.swim_replay.specs.declared.met.Met.{Met}
use Rattle.swim_replay.specs.Machinery.Calls.{IsMet, MayMeet, all_met}
use Rattle.swim_replay.proofs.Calls.{met-all, met-may, nothing_met}
use Rattle.swim_replay.proofs.met.read_met.Goals as goal

pub returns-in_default-clause-back : goal.returns-in_default-clause-back
returns-in_default-clause-back c e is says =
    let may : All MayMeet c.args.lines.now = subst (λ (ls : List Line). All MayMeet ls) (sym says) (met-may c.args.granted e is) in
    let one = All-get_or MayMeet c.args.lines.now c.loop-place.place c.index-lines-place.result c.loop-place-test.true may in
    absurd (c.in_default.ensures.none (subst MayMeet (sym c.index-lines-place.is) one))

pub returns-clause-back : goal.returns-clause-back
returns-clause-back c e is says =
    let met : c.loop-place.met ≡ all_met (nothing_met c.args.granted) (met_lines c.args.granted e) =
    sym (ap (λ (ls : List Line). all_met c.loop-place.met ls) (drop_all c.loop-place.place c.args.lines.now c.loop-place-test.false))
    ∙ c.loop-place.invariant.same
    ∙ ap (λ (ls : List Line). all_met (nothing_met c.args.granted) ls) says in
    subst (λ (m : Met). IsMet e m) (sym met) (met-all c.args.granted e is)
