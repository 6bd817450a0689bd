use Rattle.std.proofs.lemmas.Result.{err_from_is_err_and}
use Rattle.toml.specs.View.{table_view}
use Rattle.swim_settings.specs.declared.key.Key.TheVariants as keys
use Rattle.swim_settings.specs.Keys.{keys_before}
use Rattle.swim_settings.proofs.Taken.{AreTaken-push}
use Rattle.swim_settings.proofs.settings.read_block_and_rules.Goals as goal

pub returns-in_err-rules-clause-refused : goal.returns-in_err-rules-clause-refused
returns-in_err-rules-clause-refused c =
    let t = table_view c.args.table.now in
    let block = c.in_ok-block in
    let taken = AreTaken-push t (keys_before keys.Block) keys.Block c.requires.taken (block.block, (block.ensures.number, block.ensures.range.0, block.ensures.range.1)) in
    let fault = err_from_is_err_and c.from_residual-in_err-rules.result c.from_residual-in_err-rules.ensures.1 in
    rw (fault.1, fault.2, c.in_err-rules.ensures.none.0) (taken, c.in_err-rules.ensures.none.1)

pub returns-clause-taken : goal.returns-clause-taken
returns-clause-taken c =
    let t = table_view c.args.table.now in
    let block = c.in_ok-block in
    let asked = c.in_ok-rules in
    let to_block = AreTaken-push t (keys_before keys.Block) keys.Block c.requires.taken (block.block, (block.ensures.number, block.ensures.range.0, block.ensures.range.1)) in
    AreTaken-push t (keys_before keys.Rules) keys.Rules to_block (asked.rules, (asked.ensures.number, asked.ensures.range.0, asked.ensures.range.1))
