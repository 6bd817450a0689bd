use Rattle.toml.specs.View.{table_view}
use Rattle.swim_settings.specs.Unknown.{IsNamed}
use Rattle.swim_settings.proofs.Naming.{KnownSoFar}
use Rattle.swim_settings.proofs.table.refuse_unknown.Given as goal

abbrev pub invariant-loop-name : goal.invariant-loop-name
invariant-loop-name g l = KnownSoFar (IsNamed g.K.Word.text_of l.keys) (table_view l.table) l.name-iterator
