-- What a recording of an era is: when it was, its settings, where it began, and its calls.
use Rattle.std.specs.Prelude.{ℕ, ◌+◌, ◌==◌, List, [], ◌∷◌, ◌++◌, map, Option, Some, None, codes}
use Rattle.std.specs.Prelude.{if◌then◌else◌}
use Rattle.std.specs.Fmt.{decimal}
use Rattle.hex.specs.Hex.{encode_lower}
use Rattle.swim_words.specs.Words.{endpoint_text}
use Rattle.swim_rules.specs.declared.table.Row.{Row}
use Rattle.swim_gossip.specs.declared.buffer.Waiting.{Waiting}
use Rattle.swim_member.specs.declared.event.Event.{Event}
use Rattle.swim_member.specs.declared.event.Event.TheVariants as event
use Rattle.swim_member.specs.declared.settings.Settings.{Settings}
use Rattle.swim_member.specs.declared.state.Joining.{Joining}
use Rattle.swim_member.specs.declared.state.Probe.{Probe}
use Rattle.swim_member.specs.declared.state.Relay.{Relay}
use Rattle.swim_node.specs.declared.entry.Entry.{Entry}
use Rattle.swim_node.specs.declared.entry.Outcome.{Outcome}
use Rattle.swim_node.specs.declared.entry.Outcome.TheVariants.{Taken, Lost}
use Rattle.swim_node.specs.History.{Base}
use Rattle.swim_record.specs.declared.line.Line.{Line}
use Rattle.swim_record.specs.declared.line.Line.TheVariants as line
use Rattle.swim_record.specs.declared.time.EraTime.{EraTime}
use Rattle.swim_record.specs.Lines.{line_text}
use Rattle.swim_record.specs.EraTimes.{time_text}

-- each line, with its end
abbrev pub lines_text : List Line → List ℕ
lines_text [] = []
lines_text (l ∷ lines) = line_text l ++ 10 ∷ lines_text lines

-- ---- where the era began

abbrev pub row_line : Row → Line
row_line r = line.Row r.update.kind r.update.who r.update.number r.since

abbrev pub say_line : Waiting → Line
say_line w = line.Say w.update.kind w.update.who w.update.number w.count

abbrev pub relay_line : Relay → Line
relay_line r = line.Relay r.target r.seq r.asker r.asked r.made

abbrev pub listed_line : ℕ → Line
listed_line who = line.Listed who

abbrev pub probe_line : Probe → Line
probe_line p = if p.answered then line.Answered p.target p.seq else line.Probe p.target p.seq

abbrev pub joining_line : Joining → Line
joining_line j =
    if j.cursor == 0 then line.Joining j.peer j.seq else line.JoiningAfter j.peer j.seq j.cursor

-- the line of a probe, or of a join, if there is one
abbrev pub probe_lines : Option Probe → List Line
probe_lines None = []
probe_lines (Some p) = probe_line p ∷ []

abbrev pub joining_lines : Option Joining → List Line
joining_lines None = []
joining_lines (Some j) = joining_line j ∷ []

-- the line with which the era begins
abbrev pub begin_line : Base → Line
begin_line b = line.Begin (record {
  phase = b.state.phase;
  number = b.state.number;
  time = b.state.time;
  seq = b.state.seq;
  place = b.state.place;
  granted = b.granted;
  past = b.past;
})

-- the settings of the member, and the limit of its eras
abbrev pub member_line : Settings → Line
member_line s = line.Member s.group s.me s.lambda s.rules

abbrev pub times_line : Settings → ℕ → Line
times_line s limit = line.Times (record {
  period = s.period;
  direct = s.direct;
  suspect = s.suspect;
  forget = s.forget;
  helpers = s.helpers;
  block = s.block;
  limit = limit;
})

-- who the member is and what it knows: its settings, rows and waiting updates
abbrev pub known_text : Base → List ℕ
known_text b =
    lines_text (member_line b.state.settings ∷ times_line b.state.settings b.limit ∷ [])
    ++ lines_text (map row_line b.state.rows) ++ lines_text (map say_line b.state.queue)

-- what it waits for, whom it lists, and the beginning
abbrev pub begun_text : Base → List ℕ
begun_text b =
    lines_text (probe_lines b.state.probe) ++ lines_text (map relay_line b.state.relays)
    ++ lines_text (joining_lines b.state.joining)
    ++ lines_text (map listed_line b.state.listed) ++ lines_text (begin_line b ∷ [])

-- ---- its calls

-- bytes in hex; `-` for none
abbrev pub bytes_text : List ℕ → List ℕ
bytes_text [] = codes "-"
bytes_text (b ∷ bytes) = encode_lower (b ∷ bytes)

-- the line of an event: those of scripts, and `deal` with all that a tick deals
abbrev pub event_words : Event → List ℕ
event_words (event.Tick deal) = codes "deal " ++ encode_lower deal
event_words (event.Datagram from bytes) =
    codes "recv " ++ endpoint_text from ++ codes " " ++ bytes_text bytes.items
event_words event.ReceiveFailed = codes "recvfail"
event_words (event.SendFailed count) = codes "sendfail " ++ decimal count
event_words (event.Join peer) = codes "join " ++ endpoint_text peer
event_words event.Leave = codes "leave"
event_words (event.Members after) =
    if after == 0 then codes "members" else codes "members " ++ endpoint_text after

-- a line for each datagram that was lost, from this place on
abbrev pub lost_lines : ℕ → List Outcome → List Line
lost_lines place [] = []
lost_lines place (Taken ∷ outcomes) = lost_lines (place + 1) outcomes
lost_lines place (Lost ∷ outcomes) = line.Lost place ∷ lost_lines (place + 1) outcomes

-- what a call met: its caller, if it is not 0, the ceiling, if it
-- is another than before, and which of its datagrams were lost
abbrev pub met_lines : ℕ → Entry → List Line
met_lines granted e =
    (if e.tag.caller == 0 then [] else line.Caller e.tag.caller ∷ [])
    ++ (if e.granted == granted then [] else line.Granted e.granted ∷ [])
    ++ lost_lines 1 e.outcomes.items

-- a call, after this ceiling: what it met, and its event
abbrev pub call_text : ℕ → Entry → List ℕ
call_text granted e = lines_text (met_lines granted e) ++ event_words e.event ++ 10 ∷ []

-- the calls, after this ceiling
abbrev pub calls_text : ℕ → List Entry → List ℕ
calls_text granted [] = []
calls_text granted (e ∷ entries) = call_text granted e ++ calls_text e.granted entries

-- ---- the whole

-- its first lines: the version, and with the second one when the era was
abbrev pub recording_head : Option EraTime → List ℕ
recording_head None = codes "recording 1" ++ 10 ∷ []
recording_head (Some t) = codes "recording 2" ++ 10 ∷ time_text t ++ 10 ∷ []

abbrev pub recording_text : Option EraTime → Base → List Entry → List ℕ
recording_text time b entries =
    recording_head time ++ known_text b ++ begun_text b ++ calls_text b.granted entries
