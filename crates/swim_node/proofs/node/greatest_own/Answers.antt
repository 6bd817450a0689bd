use Rattle.std.proofs.Common.{◌≡◌, ◌==◌, ◌∙◌, drop, map, sym, ap, ◌∷◌, List, ◌+◌, Option, ℕ}
use Rattle.std.specs.List.{filter}
use Rattle.std.proofs.lemmas.List.{drop_more}
use Rattle.swim_wire.specs.declared.update.Update.{Update}
use Rattle.swim_wire.specs.Reading.{numbers_about}
use Rattle.swim_member.specs.declared.answer.Out.{Out}
use Rattle.swim_member.specs.Fit.{own_numbers_in}
use Rattle.swim_node.specs.Owns.{greatest_with}
use Rattle.swim_node.proofs.Lists.{greatest_with-append}
use Rattle.swim_node.proofs.node.greatest_own.Goals as goal

pub loop-out-preserved : goal.loop-out-preserved
loop-out-preserved c =
    let rest = drop (c.loop-out.out-index + 1) c.args.outs.now in
    let first : drop c.loop-out.out-index c.args.outs.now ≡ c.out-item.result ∷ rest =
    drop_more c.args.outs.now c.loop-out.out-index c.out-item.result c.loop-out-test.true ∙ ap (λ (o : Out). o ∷ rest) (sym c.out-item.is) in
    let one : c.greatest_in-greatest.result ≡ greatest_with c.loop-out.greatest (numbers_about c.args.me c.out-item.result.datagram) =
    c.greatest_in-greatest.ensures ∙ ap (λ (us : List Update). greatest_with c.loop-out.greatest (map (λ u. u.number) (filter (λ u. u.who == c.args.me) us))) c.deref.ensures.0 in
    ap (λ (o : Option ℕ). greatest_with o (own_numbers_in c.args.me rest)) one
    ∙ sym (greatest_with-append c.loop-out.greatest (numbers_about c.args.me c.out-item.result.datagram) (own_numbers_in c.args.me rest))
    ∙ ap (λ (os : List Out). greatest_with c.loop-out.greatest (own_numbers_in c.args.me os)) (sym first)
    ∙ c.loop-out.invariant
