use Rattle.std.proofs.Common.{◌∷◌, length, sym, ap, ◌∙◌}
use Rattle.std.proofs.lemmas.Bool.{eqb-true}
use Rattle.swim_record.proofs.Texts.{all_more, fit_more, none_full, none_space, none_word, read_more}
use Rattle.swim_record.proofs.argument.read_arguments.Goals as goal
use Rattle.swim_record.proofs.argument.read_arguments.Goals.{then-space-ne32-via-then-space-ne32, then-space-ne32-via-else-space-ne32+then-is_full}

pub returns-then-space-ne32-clause-none : goal.returns-then-space-ne32-clause-none
returns-then-space-ne32-clause-none c args says =
    let left = c.loop-space.invariant.all args says.0 in
    elim c.then-space-ne32.branch [
      | then-space-ne32-via-then-space-ne32 w ↦ none_space c.loop-space.rest.now c.in-Some.after.now c.in-Some.space.now left.0 c.in-Some.ensures.cases.0 w.if-space-ne32.true left.2
      | then-space-ne32-via-else-space-ne32+then-is_full w ↦ none_full c.loop-space.rest.now c.in-Some.after.now c.in-Some.space.now args c.loop-space.arguments.items left.0 c.in-Some.ensures.cases.0 left.1 (eqb-true (length c.loop-space.arguments.items) 8 (sym w.if-is_full.ensures.value)) left.2 says.1
    ]

pub returns-in_err-read_argument-clause-none : goal.returns-in_err-read_argument-clause-none
returns-in_err-read_argument-clause-none c =
    let begins = c.in-Some.ensures.cases.0 ∙ ap (λ space. space ∷ c.in-Some.after.now) c.if-space-ne32.false in
    rw c.from_residual.ensures (λ args says.
    let left = c.loop-space.invariant.all args says.0 in
    none_word c.loop-space.rest.now c.in-Some.after.now c.first_word.result.0.now c.first_word.result.1.now left.0 begins c.first_word.ensures.parts c.first_word.ensures.first c.first_word.ensures.rest c.in_err-read_argument.ensures.none left.2)

pub loop-space-preserved : goal.loop-space-preserved
loop-space-preserved c =
    let begins = c.in-Some.ensures.cases.0 ∙ ap (λ space. space ∷ c.in-Some.after.now) c.if-space-ne32.false in
    let said = c.in_ok-read_argument.ensures.argument in
    rw c.push.ensures.items (record {
      read = read_more c.args.text.now c.loop-space.rest.now c.in-Some.after.now c.first_word.result.0.now c.first_word.result.1.now c.loop-space.arguments.items c.in_ok-read_argument.field-0 c.loop-space.invariant.read begins c.first_word.ensures.parts said.0;
      fit = fit_more c.loop-space.arguments.items c.in_ok-read_argument.field-0 c.loop-space.invariant.fit said.1;
      all = λ args says.
          let left = c.loop-space.invariant.all args says in
          all_more c.loop-space.rest.now c.in-Some.after.now c.first_word.result.0.now c.first_word.result.1.now args c.loop-space.arguments.items left.0 c.in_ok-read_argument.field-0 begins c.first_word.ensures.parts c.first_word.ensures.first c.first_word.ensures.rest said.0 said.1 left.1 left.2;
    })
