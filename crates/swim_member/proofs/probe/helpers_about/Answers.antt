use Rattle.std.proofs.Common.{ℕ, true, false, ◌++◌, List, map, take, ap, ◌∙◌}
use Rattle.std.specs.List.{filter}
use Rattle.swim_member.specs.Member.{row_name}
use Rattle.swim_member.specs.Machinery.Steps.{is_helper}
use Rattle.swim_member.proofs.Asking.{helpers-passes}
use Rattle.swim_member.proofs.probe.helpers_about.Goals as goal

pub returns-clause-helpers : goal.returns-clause-helpers
returns-clause-helpers c =
    let later : List ℕ = map row_name (filter (is_helper c.args.target true) c.args.rows.now) in
    let earlier : List ℕ = map row_name (filter (is_helper c.args.target false) c.args.rows.now) in
    c.add_helpers-2.ensures.items
    ∙ ap (λ hs. take c.args.most (hs ++ earlier)) (c.add_helpers.ensures.items ∙ ap (λ hs. take c.args.most (hs ++ later)) c.new-helpers.ensures)
    ∙ helpers-passes c.args.most c.args.target c.args.rows.now
