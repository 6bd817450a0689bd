use Rattle.std.proofs.Common.{sym}
use Rattle.std.proofs.lemmas.List.{get_or_default, get_or_past}
use Rattle.swim_shell.specs.declared.counters.TheConstants.{ALL}
use Rattle.swim_shell.proofs.counters.Counter.at.Goals as goal

-- within the list any default serves
pub returns-then-place-lt-COUNTERS : goal.returns-then-place-lt-COUNTERS
returns-then-place-lt-COUNTERS c = get_or_default ALL c.args.place _ _ c.if-place-lt-COUNTERS.true

pub returns-else-place-lt-COUNTERS : goal.returns-else-place-lt-COUNTERS
returns-else-place-lt-COUNTERS c = sym (get_or_past ALL c.args.place _ c.if-place-lt-COUNTERS.false)
