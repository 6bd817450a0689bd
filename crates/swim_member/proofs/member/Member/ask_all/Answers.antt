use Rattle.std.proofs.Common.{◌≡◌, ◌≤◌, ◌++◌, List, map, take, length, ap, sym, ◌∙◌, nat_lt, refl, Some, arith}
use Rattle.std.specs.List.{filter}
use Rattle.swim_rules.specs.declared.table.Row.{Row}
use Rattle.swim_rules.specs.Rows.{is_eligible}
use Rattle.swim_member.specs.State.{State}
use Rattle.swim_member.specs.Member.{row_name}
use Rattle.swim_member.specs.Probe.{helpers_about}
use Rattle.swim_member.proofs.Adding.{adds-as}
use Rattle.swim_member.proofs.Asking.{asked_probe, asks-all-state, asks-all-outs}
use Rattle.swim_member.proofs.member.Member.ask_all.Goals as goal

is_asking : (c : goal.After-ask_each) → asked_probe c.args.self.now ≡ Some c.in-Some.probe
is_asking c = rw c.requires.moment (sym c.open_probe.ensures ∙ c.in-Some.is)

helpers : (c : goal.After-ask_each) → c.deref.result.now ≡ helpers_about c.args.self.now c.in-Some.probe.target
helpers c =
    c.deref.ensures.0 ∙ c.helpers_about-helpers.ensures.helpers
    ∙ ap (λ (rs : List Row). take c.self.inside.settings.helpers (map row_name (filter (λ r. nat_lt c.in-Some.probe.target (row_name r)) (filter is_eligible rs) ++ filter (λ r. nat_lt (row_name r) c.in-Some.probe.target) (filter is_eligible rs)))) c.rows.ensures.rows
    ∙ ap (λ (s : State). helpers_about s c.in-Some.probe.target) c.self.view_is

room : (c : goal.After-ask_each) → length c.deref.result.now ≤ 8
room c =
    let count : length c.deref.result.now ≡ length c.helpers_about-helpers.result.items = ap length c.deref.ensures.0 in
    omega (arith, c.helpers_about-helpers.ensures.room, c.self.invariant.0.sound.helpers_high)

pub returns-in-Some-clause-state : goal.returns-in-Some-clause-state
returns-in-Some-clause-state c =
    c.ask_each.ensures.state ∙ sym (asks-all-state c.args.self.now c.in-Some.probe c.deref.result.now (is_asking c) (helpers c) (room c))

pub returns-in-Some-clause-answer : goal.returns-in-Some-clause-answer
returns-in-Some-clause-answer c =
    let few : length c.deref.result.now ≤ c.args.self.now.settings.helpers =
    let count : length c.deref.result.now ≡ length c.helpers_about-helpers.result.items = ap length c.deref.ensures.0 in
    let same : c.self.inside.settings.helpers ≡ c.args.self.now.settings.helpers = ap (λ (s : State). s.settings.helpers) c.self.view_is in
    omega (arith, c.helpers_about-helpers.ensures.room) in
    adds-as _ _ _ _ _ _ _ _ _ _ (sym (asks-all-outs c.args.self.now c.in-Some.probe c.deref.result.now (is_asking c) (helpers c) (room c))) few refl c.ask_each.ensures.answer
