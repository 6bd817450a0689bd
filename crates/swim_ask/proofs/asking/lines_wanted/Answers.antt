use Rattle.std.proofs.Common.{Some, None, ◌∙◌, ap, min, ◌+◌, arith}
use Rattle.std.specs.Prelude.{codes}
use Rattle.std.proofs.lemmas.Bool.Decides.{Decides-eqb}
use Rattle.std.proofs.lemmas.Slice.Eq.{strip_prefix_is}
use Rattle.swim_words.proofs.Splits.{no_split}
use Rattle.swim_ask.proofs.Wholes.{as_read, none_begun}
use Rattle.swim_ask.proofs.asking.lines_wanted.Goals as goal
use Rattle.swim_ask.proofs.asking.lines_wanted.Goals.{in-Some, in-None}

pub returns-then-not-asks_lines-clause-ended : goal.returns-then-not-asks_lines-clause-ended
returns-then-not-asks_lines-clause-ended c = λ lacks. no_split 10 c.in_ok-first.first.now c.in_ok-first.field-0-1.now c.args.answer.now lacks c.in_ok-first.ensures.parts

pub returns-clause-ended : goal.returns-clause-ended
returns-clause-ended c = λ lacks. no_split 10 c.in_ok-first.first.now c.in_ok-first.field-0-1.now c.args.answer.now lacks c.in_ok-first.ensures.parts

-- how many lines the first one says follow
pub returns-clause-wanted : goal.returns-clause-wanted
returns-clause-wanted c =
    let first = c.in_ok-first.ensures in
    elim c.match-strip_prefix.branch [
      | in-Some w ↦
          let begins = strip_prefix_is Decides-eqb c.in_ok-first.first.now (codes "ok ") (Some w.in-Some.count) w.in-Some.ensures.cases in
          (c.match-strip_prefix.more, as_read c.args.line.now c.args.answer.now c.in_ok-first.first.now c.in_ok-first.field-0-1.now w.in-Some.count.now w.read_number.result c.match-strip_prefix.more (c.asks_lines.ensures.0 c.if-not-asks_lines.false) first.first first.parts begins w.read_number.ensures.number w.read_number.ensures.none (w.more-is ∙ w.unwrap_or-more.ensures) (omega (arith, w.more-is, w.unwrap_or-more.type_inv)), c.saturating_add.ensures)
      | in-None w ↦
          let begins = strip_prefix_is Decides-eqb c.in_ok-first.first.now (codes "ok ") None w.in-None.ensures.cases in
          (0, none_begun c.args.line.now c.args.answer.now c.in_ok-first.first.now c.in_ok-first.field-0-1.now first.first first.parts begins, c.saturating_add.ensures ∙ ap (λ n. min (n + 1) 18446744073709551615) w.more-is)
    ]
