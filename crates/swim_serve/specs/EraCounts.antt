-- What is counted of the eras of a member.
use Rattle.std.specs.Prelude.{ℕ, Bool, true, false, List, length}
use Rattle.std.specs.List.{filter}
use Rattle.swim_node.specs.declared.entry.Entry.{Entry}
use Rattle.swim_node.specs.declared.entry.Save.{Save}
use Rattle.swim_node.specs.declared.entry.Save.TheVariants as save
use Rattle.swim_shell.specs.CallCounts.{more}
use Rattle.swim_serve.specs.declared.era_saves.EraSaves.{EraSaves}
use Rattle.swim_serve.specs.declared.era_saves.PeersSave.{PeersSave}
use Rattle.swim_serve.specs.declared.era_saves.PeersSave.TheVariants as peers
use Rattle.swim_serve.specs.declared.era_counts.EraCounts.{EraCounts}

-- the save was made
abbrev pub is_done : Save → Bool
is_done save.Done = true
is_done _ = false

-- a number was saved for the entry
abbrev pub has_saved : Entry → Bool
has_saved entry = is_done entry.save

-- for how many entries one was
abbrev pub number_saves : List Entry → ℕ
number_saves entries = length (filter has_saved entries)

-- an era more, at whose end this became of the peers that the member knew
abbrev pub with_peers : PeersSave → EraCounts → EraCounts
with_peers peers.Spared c = record c { ended = more c.ended 1 }
with_peers peers.Done c = record c { ended = more c.ended 1; saved = more c.saved 1 }
with_peers peers.Failed c = record c { ended = more c.ended 1; unsaved = more c.unsaved 1 }

-- an era more, in which this was saved
abbrev pub with_era : EraSaves → EraCounts → EraCounts
with_era saves c = record (with_peers saves.peers c) { numbers = more c.numbers saves.numbers }
