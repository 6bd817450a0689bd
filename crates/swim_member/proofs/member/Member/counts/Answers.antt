use Rattle.std.proofs.Common.{◌≡◌, ◌-◌, length, ap, ◌∙◌, arith}
use Rattle.std.specs.List.{filter}
use Rattle.swim_wire.specs.declared.update.UpdateKind.TheVariants.{Alive, Suspect, Confirm}
use Rattle.swim_rules.specs.Rows.{is_of_kind}
use Rattle.swim_member.specs.Member.{counts}
use Rattle.swim_member.proofs.Parts.{AreCounted, counted}
use Rattle.swim_member.proofs.member.Member.counts.Goals as goal

parts : (c : goal.After-count_of-suspect) → AreCounted c.self.inside.table.rows
parts c = counted c.self.inside.table.rows

pub overflow_sub-result : goal.overflow_sub-result
overflow_sub-result c =
    let both = counted c.self.inside.table.rows in
    let e = both.0 in
    let eligible = c.count-eligible.ensures.count in
    let suspect = c.count_of-suspect.ensures.count in
    omega arith

pub overflow_sub-result-2 : goal.overflow_sub-result-2
overflow_sub-result-2 c =
    let all : length c.rows.result.now ≡ length c.self.inside.table.rows = ap length c.rows.ensures.rows in
    let e = (counted c.self.inside.table.rows).1 in
    let eligible = c.count-eligible.ensures.count in
    omega arith

pub returns : goal.returns
returns c =
    let both = counted c.self.inside.table.rows in
    let e = both.0 in
    let f = both.1 in
    let all : length c.rows.result.now ≡ length c.self.inside.table.rows = ap length c.rows.ensures.rows in
    let eligible = c.count-eligible.ensures.count in
    let suspect = c.count_of-suspect.ensures.count in
    let alive : c.count-eligible.result - c.count_of-suspect.result ≡ length (filter (is_of_kind Alive) c.self.inside.table.rows) = omega arith in
    let confirmed : length c.rows.result.now - c.count-eligible.result ≡ length (filter (is_of_kind Confirm) c.self.inside.table.rows) = omega arith in
    ap (λ a. record { alive = a; suspect = c.count_of-suspect.result; confirmed = length c.rows.result.now - c.count-eligible.result }) alive
    ∙ ap (λ s. record { alive = length (filter (is_of_kind Alive) c.self.inside.table.rows); suspect = s; confirmed = length c.rows.result.now - c.count-eligible.result }) suspect
    ∙ ap (λ x. record { alive = length (filter (is_of_kind Alive) c.self.inside.table.rows); suspect = length (filter (is_of_kind Suspect) c.self.inside.table.rows); confirmed = x }) confirmed
    ∙ ap counts c.self.view_is
