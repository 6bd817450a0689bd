use Rattle.std.proofs.Common.{◌≡◌, rules, subst}
use Rattle.std.specs.Prelude.{IfSome, Some, None}
use Rattle.swim_join.proofs.Asking.{IsKnown, asks_looks, looked_then, looked_in_vain, looks_in_vain, round_joined, round_alone}
use Rattle.swim_join.specs.Joins.{AsksInVain}
use Rattle.swim_join.proofs.joiner.Joiner.look_round.Goals as goal

pub returns-in_err-look_on-clause-in_vain : goal.returns-in_err-look_on-clause-in_vain
returns-in_err-look_on-clause-in_vain g c =
    let known = g.C.Caller.known in
    let vain : AsksInVain g.C.Caller.limit c.in_err-look_on.field-0.0 c.args.self.now (known c.args.caller.now) (known c.look_on.new.caller) = looks_in_vain _ _ _ _ _ _ c.in_err-look_on.ensures.in_vain in
    search rules

pub returns-in-Some-clause-asks : goal.returns-in-Some-clause-asks
returns-in-Some-clause-asks g c =
    let is : c.end_look.new.self.drawn ≡ Some c.in-Some.peer = search rules in
    looked_then c.join_drawn.result c.args.self.now c.look_on.new.self _ _ _ c.in-Some.peer c.in_ok-look_on.ensures.looks c.look_on.ensures.same (subst (λ w. IfSome w (IsKnown c.look_on.new.self c.look_on.new.self.looked)) is c.end_look.ensures.known) c.join_drawn.ensures.joins

pub returns-in-Some-clause-in_vain : goal.returns-in-Some-clause-in_vain
returns-in-Some-clause-in_vain g c =
    let is : c.end_look.new.self.drawn ≡ Some c.in-Some.peer = search rules in
    looked_in_vain c.join_drawn.result _ c.args.self.now c.look_on.new.self _ _ _ c.in-Some.peer c.in_ok-look_on.ensures.looks c.look_on.ensures.same (subst (λ w. IfSome w (IsKnown c.look_on.new.self c.look_on.new.self.looked)) is c.end_look.ensures.known) c.join_drawn.ensures.refused

pub returns-in-Some-clause-looks : goal.returns-in-Some-clause-looks
returns-in-Some-clause-looks g c =
    let is : c.end_look.new.self.drawn ≡ Some c.in-Some.peer = search rules in
    round_joined c.join_drawn.result c.args.self.now c.look_on.new.self c.end_look.new.self c.join_drawn.new.self _ _ _ _ c.in-Some.peer c.in_ok-look_on.ensures.looks c.look_on.ensures.same c.end_look.ensures.told is c.join_drawn.ensures.joins c.join_drawn.ensures.then

pub returns-in-None-clause-asks : goal.returns-in-None-clause-asks
returns-in-None-clause-asks g c = asks_looks _ _ _ c.look_on.new.self.looked c.in_ok-look_on.ensures.looks.looks

pub returns-in-None-clause-looks : goal.returns-in-None-clause-looks
returns-in-None-clause-looks g c =
    let is : c.end_look.new.self.drawn ≡ None = search rules in
    round_alone c.args.self.now c.look_on.new.self c.end_look.new.self _ _ _ c.in_ok-look_on.ensures.looks c.look_on.ensures.same c.end_look.ensures.told is
