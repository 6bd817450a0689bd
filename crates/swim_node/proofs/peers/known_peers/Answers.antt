use Rattle.std.proofs.Common.{◌≡◌, ◌∙◌, ◌++◌, ◌∷◌, [], ◌+◌, ◌<◌, ◌%◌, List, ℕ, All, ap, map, subst, sym, take}
use Rattle.std.proofs.lemmas.List.Elements.{All-append, All-cons, All-nil}
use Rattle.swim_rules.specs.Rows.{is_eligible}
use Rattle.swim_state.specs.Second.{ascend}
use Rattle.swim_member.specs.Member.{eligible, row_name}
use Rattle.swim_node.proofs.Known.{ascend-first, first_more}
use Rattle.swim_node.proofs.peers.known_peers.Goals as goal

pub loop-number-preserved : goal.loop-number-preserved
loop-number-preserved c =
    let n = c.loop-number.number in
    let rows = eligible c.args.member.now in
    let taken : c.push.new.self ≡ map row_name (take (n + 1) rows) =
    c.push.ensures
    ∙ ap (λ (l : List ℕ). l ++ c.who-who.result ∷ []) c.loop-number.invariant.taken
    ∙ ap (λ (who : ℕ). map row_name (take n rows) ++ who ∷ []) c.who-who.ensures
    ∙ sym (first_more n rows c.in-Some.row (sym c.in-Some.ensures.row)) in
    let ports : All (λ who. 0 < who % 65536) c.push.new.self =
    subst (All (λ who. 0 < who % 65536)) (sym c.push.ensures)
    (All-append (λ who. 0 < who % 65536) c.loop-number.peers (c.who-who.result ∷ []) c.loop-number.invariant.ports (All-cons (λ who. 0 < who % 65536) c.who-who.result [] c.is_above_zero.ensures.positive (All-nil (λ who. 0 < who % 65536)))) in
    record {
      taken = taken;
      ports = ports;
      up = ap (ascend 0) taken ∙ ascend-first is_eligible (n + 1) c.args.member.now.rows c.in-Some.ensures.order (subst (All (λ who. 0 < who % 65536)) taken ports);
    }
