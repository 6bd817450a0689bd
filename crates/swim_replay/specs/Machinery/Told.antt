-- What a line of a beginning adds to a member's state, and whether there is room for it.
use Rattle.std.specs.Prelude.{◌≡◌, ◌<◌, true, false, List, [], ◌∷◌, ◌++◌, length, Some, None}
use Rattle.swim_rules.specs.declared.table.TheConstants.{ROWS_MAX}
use Rattle.swim_gossip.specs.declared.buffer.TheConstants.{WAITING_MAX}
use Rattle.swim_member.specs.declared.member.TheConstants.{RELAYS_MAX}
use Rattle.swim_member.specs.declared.settings.Settings.{Settings}
use Rattle.swim_member.specs.declared.state.Phase.TheVariants.{Running}
use Rattle.swim_member.specs.State.{State}
use Rattle.swim_record.specs.declared.line.Line.{Line}
use Rattle.swim_record.specs.declared.line.Line.TheVariants as line
use Rattle.swim_record.specs.declared.line.Start.{Start}
use Rattle.swim_replay.specs.Recorded.{IsWord}

-- a member of which nothing is told but its settings
abbrev pub blank_state : Settings → State
blank_state settings = record {
  settings = settings;
  number = 0;
  phase = Running;
  time = 0;
  rows = [];
  queue = [];
  seq = 0;
  probe = None;
  relays = [];
  joining = None;
  listed = [];
  place = 0;
}

-- the state with what a line says
abbrev pub noted : State → Line → State
noted s (line.Row kind who number since) = record s {
  rows = s.rows
      ++ record { update = record { kind = kind; who = who; number = number }; since = since } ∷ [];
}
noted s (line.Say kind who number count) = record s {
  queue = s.queue
      ++ record { update = record { kind = kind; who = who; number = number }; count = count } ∷ [];
}
noted s (line.Probe target seq) =
    record s { probe = Some (record { target = target; seq = seq; answered = false }) }
noted s (line.Answered target seq) =
    record s { probe = Some (record { target = target; seq = seq; answered = true }) }
noted s (line.Relay target seq asker asked made) = record s {
  relays = s.relays
      ++ record { target = target; seq = seq; asker = asker; asked = asked; made = made } ∷ [];
}
noted s (line.Joining peer seq) =
    record s { joining = Some (record { peer = peer; seq = seq; cursor = 0 }) }
noted s (line.JoiningAfter peer seq after) =
    record s { joining = Some (record { peer = peer; seq = seq; cursor = after }) }
noted s (line.Listed who) = record s { listed = s.listed ++ who ∷ [] }
noted s _ = s

-- the line says something of a member, and there is room for it
abbrev pub MayNote : State → Line → Type 0
MayNote s (line.Row kind who number since) = length s.rows < ROWS_MAX
MayNote s (line.Say kind who number count) = IsWord count × (length s.queue < WAITING_MAX)
MayNote s (line.Probe target seq) = IsWord seq
MayNote s (line.Answered target seq) = IsWord seq
MayNote s (line.Relay target seq asker asked made) =
    IsWord seq × IsWord asked × (length s.relays < RELAYS_MAX)
MayNote s (line.Joining peer seq) = IsWord seq
MayNote s (line.JoiningAfter peer seq after) = IsWord seq
MayNote s (line.Listed who) = length s.listed < ROWS_MAX
MayNote s _ = ⊥

-- the state with what these lines say
abbrev pub all_noted : State → List Line → State
all_noted s [] = s
all_noted s (l ∷ lines) = all_noted (noted s l) lines

-- there is room for what they say
abbrev pub MayNoteAll : State → List Line → Type 0
MayNoteAll s [] = Unit {0}
MayNoteAll s (l ∷ lines) = MayNote s l × MayNoteAll (noted s l) lines

-- lines say all that the one state has and the other has not
pub record Makes (s : State) (lines : List Line) (t : State) : Type 0 where
  pub may : MayNoteAll s lines
  pub is : all_noted s lines ≡ t

-- the state with which an era begins
abbrev pub started : State → Start → State
started s start = record s {
  number = start.number;
  phase = start.phase;
  time = start.time;
  seq = start.seq;
  place = start.place;
}
