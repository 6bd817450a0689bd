use Rattle.std.proofs.lemmas.Result.{err_from_is_err_and}
use Rattle.toml.specs.View.{table_view}
use Rattle.swim_settings.proofs.MemberTimes.{to_period, to_direct, to_suspect, to_forget, to_helpers, to_limit}
use Rattle.swim_settings.proofs.settings.read_member.Goals as goal

pub returns-in_err-lambda-clause-refused : goal.returns-in_err-lambda-clause-refused
returns-in_err-lambda-clause-refused c =
    let fault = err_from_is_err_and c.from_residual.result c.from_residual.ensures.1 in
    rw (fault.1, fault.2, c.in_err-lambda.ensures.none.0)
    (c.requires.taken, (c.args.times, c.requires.times, c.in_err-lambda.ensures.none.1))

pub returns-in_err-period-clause-refused : goal.returns-in_err-period-clause-refused
returns-in_err-period-clause-refused c =
    let t = table_view c.args.table.now in
    let fault = err_from_is_err_and c.from_residual-in_err-period.result c.from_residual-in_err-period.ensures.1 in
    rw (fault.1, fault.2, c.in_err-period.ensures.none.0)
    (to_period t c.args.times c.requires.times c.requires.taken c.in_ok-lambda.lambda (c.in_ok-lambda.ensures.number, c.in_ok-lambda.ensures.range.0, c.in_ok-lambda.ensures.range.1), (c.args.times, c.requires.times, c.in_err-period.ensures.none.1))

pub returns-in_err-direct-clause-refused : goal.returns-in_err-direct-clause-refused
returns-in_err-direct-clause-refused c =
    let t = table_view c.args.table.now in
    let period = to_period t c.args.times c.requires.times c.requires.taken c.in_ok-lambda.lambda (c.in_ok-lambda.ensures.number, c.in_ok-lambda.ensures.range.0, c.in_ok-lambda.ensures.range.1) in
    let fault = err_from_is_err_and c.from_residual-in_err-direct.result c.from_residual-in_err-direct.ensures.1 in
    rw (fault.1, fault.2, c.in_err-direct.ensures.none.0)
    (to_direct t c.args.times c.requires.times period c.in_ok-period.period (c.in_ok-period.ensures.number, c.in_ok-period.ensures.range.0, c.in_ok-period.ensures.range.1), (c.args.times, c.in_ok-period.period, c.requires.times, c.in_ok-period.ensures.number, c.in_err-direct.ensures.none.1))

pub returns-in_err-suspect-clause-refused : goal.returns-in_err-suspect-clause-refused
returns-in_err-suspect-clause-refused c =
    let t = table_view c.args.table.now in
    let period = to_period t c.args.times c.requires.times c.requires.taken c.in_ok-lambda.lambda (c.in_ok-lambda.ensures.number, c.in_ok-lambda.ensures.range.0, c.in_ok-lambda.ensures.range.1) in
    let direct = to_direct t c.args.times c.requires.times period c.in_ok-period.period (c.in_ok-period.ensures.number, c.in_ok-period.ensures.range.0, c.in_ok-period.ensures.range.1) in
    let fault = err_from_is_err_and c.from_residual-in_err-suspect.result c.from_residual-in_err-suspect.ensures.1 in
    rw (fault.1, fault.2, c.in_err-suspect.ensures.none.0)
    (to_suspect t c.args.times c.requires.times direct c.in_ok-period.period c.in_ok-direct.direct c.in_ok-period.ensures.number (c.in_ok-direct.ensures.number, c.in_ok-direct.ensures.range.0, c.in_ok-direct.ensures.range.1), (c.args.times, c.requires.times, c.in_err-suspect.ensures.none.1))

pub returns-in_err-forget-clause-refused : goal.returns-in_err-forget-clause-refused
returns-in_err-forget-clause-refused c =
    let t = table_view c.args.table.now in
    let period = to_period t c.args.times c.requires.times c.requires.taken c.in_ok-lambda.lambda (c.in_ok-lambda.ensures.number, c.in_ok-lambda.ensures.range.0, c.in_ok-lambda.ensures.range.1) in
    let direct = to_direct t c.args.times c.requires.times period c.in_ok-period.period (c.in_ok-period.ensures.number, c.in_ok-period.ensures.range.0, c.in_ok-period.ensures.range.1) in
    let suspect = to_suspect t c.args.times c.requires.times direct c.in_ok-period.period c.in_ok-direct.direct c.in_ok-period.ensures.number (c.in_ok-direct.ensures.number, c.in_ok-direct.ensures.range.0, c.in_ok-direct.ensures.range.1) in
    let fault = err_from_is_err_and c.from_residual-in_err-forget.result c.from_residual-in_err-forget.ensures.1 in
    rw (fault.1, fault.2, c.in_err-forget.ensures.none.0)
    (to_forget t c.args.times c.requires.times suspect c.in_ok-suspect.suspect (c.in_ok-suspect.ensures.number, c.in_ok-suspect.ensures.range.0, c.in_ok-suspect.ensures.range.1), (c.args.times, c.requires.times, c.in_err-forget.ensures.none.1))

pub returns-in_err-helpers-clause-refused : goal.returns-in_err-helpers-clause-refused
returns-in_err-helpers-clause-refused c =
    let t = table_view c.args.table.now in
    let period = to_period t c.args.times c.requires.times c.requires.taken c.in_ok-lambda.lambda (c.in_ok-lambda.ensures.number, c.in_ok-lambda.ensures.range.0, c.in_ok-lambda.ensures.range.1) in
    let direct = to_direct t c.args.times c.requires.times period c.in_ok-period.period (c.in_ok-period.ensures.number, c.in_ok-period.ensures.range.0, c.in_ok-period.ensures.range.1) in
    let suspect = to_suspect t c.args.times c.requires.times direct c.in_ok-period.period c.in_ok-direct.direct c.in_ok-period.ensures.number (c.in_ok-direct.ensures.number, c.in_ok-direct.ensures.range.0, c.in_ok-direct.ensures.range.1) in
    let forget = to_forget t c.args.times c.requires.times suspect c.in_ok-suspect.suspect (c.in_ok-suspect.ensures.number, c.in_ok-suspect.ensures.range.0, c.in_ok-suspect.ensures.range.1) in
    let fault = err_from_is_err_and c.from_residual-in_err-helpers.result c.from_residual-in_err-helpers.ensures.1 in
    rw (fault.1, fault.2, c.in_err-helpers.ensures.none.0)
    (to_helpers t c.args.times c.requires.times forget c.in_ok-forget.forget (c.in_ok-forget.ensures.number, c.in_ok-forget.ensures.range.0, c.in_ok-forget.ensures.range.1), (c.args.times, c.requires.times, c.in_err-helpers.ensures.none.1))

pub returns-clause-taken : goal.returns-clause-taken
returns-clause-taken c =
    let t = table_view c.args.table.now in
    let period = to_period t c.args.times c.requires.times c.requires.taken c.in_ok-lambda.lambda (c.in_ok-lambda.ensures.number, c.in_ok-lambda.ensures.range.0, c.in_ok-lambda.ensures.range.1) in
    let direct = to_direct t c.args.times c.requires.times period c.in_ok-period.period (c.in_ok-period.ensures.number, c.in_ok-period.ensures.range.0, c.in_ok-period.ensures.range.1) in
    let suspect = to_suspect t c.args.times c.requires.times direct c.in_ok-period.period c.in_ok-direct.direct c.in_ok-period.ensures.number (c.in_ok-direct.ensures.number, c.in_ok-direct.ensures.range.0, c.in_ok-direct.ensures.range.1) in
    let forget = to_forget t c.args.times c.requires.times suspect c.in_ok-suspect.suspect (c.in_ok-suspect.ensures.number, c.in_ok-suspect.ensures.range.0, c.in_ok-suspect.ensures.range.1) in
    to_limit t c.args.times c.requires.times
    (to_helpers t c.args.times c.requires.times forget c.in_ok-forget.forget (c.in_ok-forget.ensures.number, c.in_ok-forget.ensures.range.0, c.in_ok-forget.ensures.range.1))
    c.in_ok-helpers.helpers (c.in_ok-helpers.ensures.number, c.in_ok-helpers.ensures.range.0, c.in_ok-helpers.ensures.range.1)
