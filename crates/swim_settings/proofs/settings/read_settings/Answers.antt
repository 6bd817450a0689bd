use Rattle.std.proofs.lemmas.Result.{err_from_is_err_and}
use Rattle.toml.specs.View.{table_view}
use Rattle.swim_settings.proofs.Naming.{unknown_is_reason}
use Rattle.swim_settings.proofs.settings.read_settings.Goals as goal

pub returns-in_err-refuse_unknown-clause-refused : goal.returns-in_err-refuse_unknown-clause-refused
returns-in_err-refuse_unknown-clause-refused c =
    let fault = err_from_is_err_and c.from_residual-in_err-refuse_unknown.result c.from_residual-in_err-refuse_unknown.ensures.1 in
    rw (fault.1, fault.2)
    (unknown_is_reason c.args.bytes.now (table_view c.in_ok-table.table) c.in_ok-settings.settings _ c.in_ok-table.ensures.table c.in_ok-settings.ensures.said c.in_err-refuse_unknown.ensures.unknown)
