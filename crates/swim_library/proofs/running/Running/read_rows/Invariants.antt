use Rattle.std.proofs.Common.{◌≡◌}
use Rattle.swim_library.specs.Changes.{AddsFullPages}
use Rattle.swim_library.proofs.running.Running.read_rows.Given as goal

-- the full pages so far
abbrev pub invariant-loop : goal.invariant-loop
invariant-loop l = AddsFullPages l.initial.self l.counter l.self l.rows × ((l.self.told ≡ l.initial.self.told) × (l.self.seeking ≡ l.initial.self.seeking))
