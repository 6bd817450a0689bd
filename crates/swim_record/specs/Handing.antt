-- What a recorder is given where an era ends.
use Rattle.std.specs.Prelude.{List, []}
use Rattle.swim_node.specs.declared.entry.Entry.{Entry}
use Rattle.swim_node.specs.History.{Base}
use Rattle.swim_node.specs.Lives.{Era}
use Rattle.swim_node.specs.Node.{next_base}

-- where an era with this base begins, as plain data
abbrev pub begun_at : Base → Base
begun_at base = next_base base []

-- the era with this base and these entries, as it is recorded
abbrev pub recorded : Base → List Entry → Era
recorded base entries = record { base = begun_at base; entries = entries }
