use Rattle.std.proofs.Common.{◌≡◌, ◌∙◌, ◌+◌, suc, ℕ, Bool, true, false, arith, inl, inr, rules, subst}
use Rattle.swim_news.specs.declared.rows.TheConstants.{PAGES_MAX}
use Rattle.swim_library.specs.Changes.{AddsFullPages, AddsPage}
use Rattle.swim_library.proofs.running.Running.read_rows.Goals as goal
use Rattle.swim_library.proofs.running.Running.read_rows.Goals.{else-loop-test, then-loop-test+in-Ok-false}

pub loop-preserved : goal.loop-preserved
loop-preserved c =
    let full : c.in-Ok-true.field-0 ≡ true = search rules in
    let next : suc c.loop.counter ≡ c.loop.counter + 1 = omega arith in (
      subst (λ (n : ℕ). AddsFullPages c.args.self.now n c.read_page.new.self c.read_page.new.rows) next
          (c.loop.self, c.loop.rows, c.loop.invariant.0, subst (λ (b : Bool). AddsPage c.loop.self c.read_page.new.self c.loop.rows c.read_page.new.rows b) full c.in-Ok-true.ensures.read),
      (c.read_page.ensures.told ∙ c.loop.invariant.1.0, c.read_page.ensures.seeking ∙ c.loop.invariant.1.1),
    )

pub returns-clause-read : goal.returns-clause-read
returns-clause-read c = elim c.loop-test.branch [
  | else-loop-test w ↦
      let all : c.loop.counter ≡ PAGES_MAX = omega arith in
      rw (w.self-is, w.rows-is) (inr (subst (λ (n : ℕ). AddsFullPages c.args.self.now n c.loop.self c.loop.rows) all c.loop.invariant.0))
  | then-loop-test+in-Ok-false w ↦
      let short : w.in-Ok-false.field-0 ≡ false = search rules in
      rw (w.self-is, w.rows-is) (inl (record {
        pages = c.loop.counter;
        between = c.loop.self;
        before = c.loop.rows;
        full = c.loop.invariant.0;
        last = subst (λ (b : Bool). AddsPage c.loop.self w.read_page.new.self c.loop.rows w.read_page.new.rows b) short w.in-Ok-false.ensures.read;
      }))
]
