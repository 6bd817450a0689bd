use Rattle.std.proofs.Common.{[], ◌∷◌, ◌∙◌, ap, sym, arith, length, length-append}
use Rattle.std.proofs.lemmas.Bool.{false≢true}
use Rattle.swim_ask.proofs.Rows.{all_added, none_added, one_added, too_many, unfit, unread}
use Rattle.swim_ask.proofs.paging.add_rows.Goals as goal

pub loop-count-init : goal.loop-count-init
loop-count-init c = record {
  long = omega arith;
  so_far = none_added c.args.lines.now c.args.rows.now;
}

pub loop-count-preserved : goal.loop-count-preserved
loop-count-preserved c =
    let added = c.add.ensures.added c.if-not-add.false in
    record {
      long = omega (arith, c.loop-count.invariant.long, ap length added, length-append c.loop-count.rows (c.in_ok-read_row.field-0 ∷ []));
      so_far = one_added c.args.lines.now c.loop-count.left.now c.in-Some.line.now c.in-Some.rest.now c.args.rows.now c.loop-count.rows c.add.new.self c.in_ok-read_row.field-0 c.loop-count.count c.loop-count.invariant.so_far c.in-Some.ensures.first c.in-Some.ensures.parts c.in_ok-read_row.ensures.row added;
    }

pub returns-in_default-clause-rows : goal.returns-in_default-clause-rows
returns-in_default-clause-rows c = all_added c.args.lines.now c.loop-count.left.now c.args.rows.now c.loop-count.rows c.loop-count.count c.loop-count.invariant.so_far c.in_default.ensures.none

pub returns-in_err-read_row-clause-none : goal.returns-in_err-read_row-clause-none
returns-in_err-read_row-clause-none c =
    rw c.from_residual.ensures
    (unread c.args.lines.now c.loop-count.left.now c.in-Some.line.now c.in-Some.rest.now c.args.rows.now c.loop-count.rows c.loop-count.count c.loop-count.invariant.so_far c.in-Some.ensures.first c.in-Some.ensures.parts c.in_err-read_row.ensures.none)

pub returns-then-not-add-clause-none : goal.returns-then-not-add-clause-none
returns-then-not-add-clause-none c =
    unfit c.args.lines.now c.loop-count.left.now c.in-Some.line.now c.in-Some.rest.now c.args.rows.now c.loop-count.rows c.in_ok-read_row.field-0 c.loop-count.count c.loop-count.invariant.so_far c.in-Some.ensures.first c.in-Some.ensures.parts c.in_ok-read_row.ensures.row
    (λ order room. false≢true (sym c.if-not-add.true ∙ c.add.ensures.fits.1 (order, room)))

pub returns-clause-none : goal.returns-clause-none
returns-clause-none c = too_many c.args.lines.now c.loop-count.left.now c.args.rows.now c.loop-count.rows c.loop-count.count c.loop-count.invariant.so_far (omega arith)
