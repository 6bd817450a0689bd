use Rattle.std.proofs.Common.{◌≡◌, ◌≤◌, ◌∙◌, sym, ap, length, length-append, [], ◌∷◌, get_or, slice_get, arith}
use Rattle.std.specs.Option.{option_copied}
use Rattle.swim_member.proofs.Dealing.{copied-item, dealt-one, dealt-nobody}
use Rattle.swim_member.proofs.turn.deal_out.Goals.{in-Some, in_default}
use Rattle.swim_member.proofs.turn.deal_out.Goals as goal

pub loop-number-preserved : goal.loop-number-preserved
loop-number-preserved c =
    let got : option_copied c.get.result ≡ slice_get c.args.names.now (get_or c.numbers-number-items.result.now c.loop-number.number-index 0) = copied-item _ _ c.get.result c.get.ensures.lookup in
    let few : length c.loop-number.listed.items ≤ c.loop-number.number-index = c.loop-number.invariant.room in
    record {
      items = elim c.match-get.branch [
        | in-Some w ↦ rw (w.listed-is, w.push.ensures.items) (dealt-one c.args.names.now c.numbers-number-items.result.now c.loop-number.listed.items _ c.loop-number.number-index w.in-Some.name.now c.loop-number-test.true (sym got ∙ ap option_copied w.in-Some.is) c.loop-number.invariant.items)
        | in_default w ↦ rw w.listed-is (dealt-nobody c.args.names.now c.numbers-number-items.result.now c.loop-number.listed.items _ c.loop-number.number-index c.loop-number-test.true (sym got ∙ ap option_copied w.in_default.is) c.loop-number.invariant.items)
      ];
      room = elim c.match-get.branch [
        | in-Some w ↦ rw (w.listed-is, w.push.ensures.items, length-append c.loop-number.listed.items (w.in-Some.name.now ∷ [])) (omega arith)
        | in_default w ↦ rw w.listed-is (omega arith)
      ];
    }
