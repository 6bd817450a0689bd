use Rattle.std.specs.Prelude.{codes}
use Rattle.std.proofs.lemmas.Bool.Decides.{Decides-eqb}
use Rattle.std.proofs.lemmas.Slice.Eq.{starts_is}
use Rattle.swim_ask.proofs.Pages.{after_first, no_first, no_fit}
use Rattle.swim_ask.proofs.paging.take_answer.Goals as goal

pub returns-in_default-clause-refused : goal.returns-in_default-clause-refused
returns-in_default-clause-refused c = λ lines has. absurd (no_first c.args.answer.now lines c.in_default.ensures.none has)

pub returns-in-Some-eq30-clause-rows : goal.returns-in-Some-eq30-clause-rows
returns-in-Some-eq30-clause-rows c = λ other.
    let begins = starts_is Decides-eqb c.in-Some.first.now (codes "ok ") c.starts_with-2.result c.starts_with-2.ensures.value in
    record {
      lines = c.in-Some.lines.now;
      after = after_first c.args.answer.now c.in-Some.first.now c.in-Some.lines.now c.in-Some.ensures.first c.in-Some.ensures.parts (begins.0 c.if-not-starts_with.false);
      count = c.in-Some-eq30.field-0;
      adds = c.in-Some-eq30.ensures.rows;
    }

pub returns-in-Some-add_rows-clause-rows : goal.returns-in-Some-add_rows-clause-rows
returns-in-Some-add_rows-clause-rows c = λ other.
    let begins = starts_is Decides-eqb c.in-Some.first.now (codes "ok ") c.starts_with-2.result c.starts_with-2.ensures.value in
    record {
      lines = c.in-Some.lines.now;
      after = after_first c.args.answer.now c.in-Some.first.now c.in-Some.lines.now c.in-Some.ensures.first c.in-Some.ensures.parts (begins.0 c.if-not-starts_with.false);
      count = c.in-Some-add_rows.field-0;
      adds = c.in-Some-add_rows.ensures.rows;
    }

pub returns-in-None-clause-refused : goal.returns-in-None-clause-refused
returns-in-None-clause-refused c = λ lines has.
    no_fit c.args.answer.now c.in-Some.first.now c.in-Some.lines.now lines c.args.rows.now c.in-Some.ensures.first c.in-Some.ensures.parts c.in-None.ensures.none has
