use Rattle.std.proofs.Common.{◌≡◌, true, false, rules, arith, subst, sym}
use Rattle.swim_news.specs.declared.rows.TheConstants.{PAGES_MAX}
use Rattle.swim_join.specs.Joins.{LooksInVain, ReadsPage}
use Rattle.swim_join.proofs.Asking.{LooksSoFar, looks_on, looks_short, looks_whole, looks_refused}
use Rattle.swim_join.proofs.look.look.Goals as goal

pub returns-in_err-read_page-clause-err : goal.returns-in_err-read_page-clause-err
returns-in_err-read_page-clause-err g c =
    let known = g.C.Caller.known in
    let limit = g.C.Caller.limit in
    let why = c.in_err-read_page.field-0.0 in
    let vain : LooksInVain limit why c.args.rows.now (known c.args.caller.now) (known c.read_page.new.caller) c.read_page.new.rows = subst (LooksInVain limit why c.args.rows.now (known c.args.caller.now) (known c.read_page.new.caller)) (sym c.in_err-read_page.ensures.same) (looks_refused _ _ _ _ _ _ _ c.loop.counter c.loop.invariant (omega arith) c.in_err-read_page.ensures.err) in
    search rules

pub loop-preserved : goal.loop-preserved
loop-preserved g c =
    let known = g.C.Caller.known in
    let full : c.in_ok-read_page.field-0 ≡ true = search rules in
    looks_on _ _ _ _ _ _ c.loop.counter c.loop.invariant (subst (ReadsPage (known c.loop.caller) (known c.read_page.new.caller) c.loop.rows c.read_page.new.rows) full c.in_ok-read_page.ensures.ok)

pub returns-after-loop-clause-ok : goal.returns-after-loop-clause-ok
returns-after-loop-clause-ok g c =
    let known = g.C.Caller.known in
    let all : c.loop.counter ≡ PAGES_MAX = omega arith in
    looks_whole _ _ _ _ (subst (LooksSoFar c.args.rows.now (known c.args.caller.now) (known c.loop.caller) c.loop.rows) all c.loop.invariant)

pub returns-then-not-branch-clause-ok : goal.returns-then-not-branch-clause-ok
returns-then-not-branch-clause-ok g c =
    let known = g.C.Caller.known in
    let short : c.in_ok-read_page.field-0 ≡ false = search rules in
    looks_short _ _ _ _ _ _ c.loop.counter c.loop.invariant (omega arith) (subst (ReadsPage (known c.loop.caller) (known c.read_page.new.caller) c.loop.rows c.read_page.new.rows) short c.in_ok-read_page.ensures.ok)
