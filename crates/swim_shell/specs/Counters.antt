-- The counters of a member, and the text by which they are told.
use Rattle.std.specs.Prelude.{ℕ, ◌+◌, List, [], ◌∷◌, ◌++◌, codes, get_or}
use Rattle.std.specs.Fmt.{decimal}
use Rattle.swim_member.specs.Texts.{note_name}
use Rattle.swim_member.specs.declared.note.Note.TheVariants.{OtherVersion}
use Rattle.swim_shell.specs.declared.counters.Counter.{Counter}
use Rattle.swim_shell.specs.declared.counters.Counter.TheVariants as counter
use Rattle.swim_shell.specs.declared.counters.TheConstants.{ALL, COUNTERS}

-- the counter at a place, or the last one beyond it
abbrev pub counter_at : ℕ → Counter
counter_at place = get_or ALL place (counter.Noted OtherVersion)

-- the name of a counter, which is that of the note where it counts notes
abbrev pub counter_name : Counter → List ℕ
counter_name counter.Eras = codes "eras"
counter_name counter.NumberSaves = codes "number_saves"
counter_name counter.PeerSaves = codes "peer_saves"
counter_name counter.PeerSavesFailed = codes "peer_saves_failed"
counter_name counter.Entries = codes "entries"
counter_name counter.Ticks = codes "ticks"
counter_name counter.Joins = codes "joins"
counter_name counter.Received = codes "datagrams_received"
counter_name counter.ReceiveFailures = codes "receive_failures"
counter_name counter.Sent = codes "datagrams_sent"
counter_name counter.Lost = codes "datagrams_lost"
counter_name counter.Refutations = codes "refutations"
counter_name (counter.Noted note) = note_name note

-- the line of a counter
abbrev pub counter_line : Counter → ℕ → List ℕ
counter_line c count = counter_name c ++ (codes " " ++ (decimal count ++ codes "\n"))

-- such lines of counts, in order, for the counters from this place on
abbrev pub lines_from : (Counter → ℕ → List ℕ) → ℕ → List ℕ → List ℕ
lines_from line place [] = []
lines_from line place (count ∷ counts) =
    line (counter_at place) count ++ lines_from line (place + 1) counts

-- how many lines follow, and the lines
abbrev pub counters_text : List ℕ → List ℕ
counters_text counts =
    codes "ok " ++ (decimal COUNTERS ++ (codes "\n" ++ lines_from counter_line 0 counts))
