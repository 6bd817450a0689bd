use Rattle.std.proofs.Common.{sym, ◌∙◌}
use Rattle.std.specs.Prelude.{codes}
use Rattle.std.proofs.lemmas.Bool.{false≢true}
use Rattle.std.proofs.lemmas.Bool.Decides.{Decides-eqb}
use Rattle.std.proofs.lemmas.Slice.Eq.{slice_eq-Decides, starts_is}
use Rattle.std.proofs.lemmas.Str.Pattern.{starts_text}
use Rattle.swim_ask.proofs.Wholes.{asks_by}
use Rattle.swim_ask.proofs.asking.asks_lines.Goals as goal
use Rattle.swim_ask.proofs.asking.asks_lines.Goals.{then-eq, else-eq}

-- a line that is none of the first two
pub returns-else-starts_with : goal.returns-else-starts_with
returns-else-starts_with c =
    let members = slice_eq-Decides Decides-eqb c.args.line.now (codes "members") c.eq.result c.eq.ensures in
    let counters = slice_eq-Decides Decides-eqb c.args.line.now (codes "counters") c.eq-else-starts_with.result c.eq-else-starts_with.ensures in
    elim c.if-eq.branch [
      | then-eq w ↦ absurd (false≢true (sym c.if-starts_with.false ∙ w.value-is ∙ w.if-eq.true))
      | else-eq w ↦
          let begins = starts_is Decides-eqb c.args.line.now (codes "members ") w.starts_with.result (starts_text w.starts_with.result (codes "members ") c.args.line.now w.starts_with.ensures.cases) in
          asks_by c.args.line.now c.eq.result w.starts_with.result c.eq-else-starts_with.result w.if-eq.false members.1 (sym w.value-is ∙ c.if-starts_with.false) begins.1 counters.0 counters.1
    ]
