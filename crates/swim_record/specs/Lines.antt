-- The lines of a recording, and what each of them says.
use Rattle.std.specs.Prelude.{◌≡◌, ℕ, List, [], ◌∷◌, ◌++◌, All, Option, Some, None}
use Rattle.swim_wire.specs.declared.update.UpdateKind.{UpdateKind}
use Rattle.swim_wire.specs.declared.update.UpdateKind.TheVariants.{Alive, Suspect, Confirm}
use Rattle.swim_member.specs.declared.state.Phase.{Phase}
use Rattle.swim_member.specs.declared.state.Phase.TheVariants as phase
use Rattle.swim_record.specs.declared.argument.Argument.{Argument}
use Rattle.swim_record.specs.declared.argument.Argument.TheVariants.{Number, Who}
use Rattle.swim_record.specs.declared.head.Head.{Head}
use Rattle.swim_record.specs.declared.head.Head.TheVariants as head
use Rattle.swim_record.specs.declared.line.Line.{Line}
use Rattle.swim_record.specs.declared.line.Line.TheVariants as line
use Rattle.swim_record.specs.Text.{IsArgument, arguments_text, head_word}

-- the head of a row, and of an update that waits, by what the update says
abbrev pub row_head : UpdateKind → Head
row_head Alive = head.RowAlive
row_head Suspect = head.RowSuspect
row_head Confirm = head.RowConfirm

abbrev pub say_head : UpdateKind → Head
say_head Alive = head.SayAlive
say_head Suspect = head.SaySuspect
say_head Confirm = head.SayConfirm

-- the head of the line with which an era begins, by the member's phase
abbrev pub phase_head : Phase → Head
phase_head phase.Running = head.Running
phase_head phase.Left = head.Left
phase_head phase.Expelled = head.Expelled

-- a number that may be missing
abbrev pub number_or_none : Option ℕ → List Argument
number_or_none None = []
number_or_none (Some n) = Number n ∷ []

-- the first word of a line
abbrev pub head_in : Line → Head
head_in (line.Member group me lambda rules) = head.Member
head_in (line.Times times) = head.Times
head_in (line.Row kind who number since) = row_head kind
head_in (line.Say kind who number count) = say_head kind
head_in (line.Probe target seq) = head.Probe
head_in (line.Answered target seq) = head.Answered
head_in (line.Relay target seq asker asked made) = head.Relay
head_in (line.Joining peer seq) = head.Joining
head_in (line.JoiningAfter peer seq after) = head.Joining
head_in (line.Listed who) = head.Listed
head_in (line.Begin start) = phase_head start.phase
head_in (line.Caller caller) = head.Caller
head_in (line.Granted ceiling) = head.Granted
head_in (line.Lost place) = head.Lost

-- its other words
abbrev pub arguments_of : Line → List Argument
arguments_of (line.Member group me lambda rules) =
    Number group ∷ Who me ∷ Number lambda ∷ Number rules ∷ []
arguments_of (line.Times times) =
    Number times.period ∷ Number times.direct ∷ Number times.suspect ∷ Number times.forget
    ∷ Number times.helpers ∷ Number times.block ∷ Number times.limit ∷ []
arguments_of (line.Row kind who number since) = Who who ∷ Number number ∷ Number since ∷ []
arguments_of (line.Say kind who number count) = Who who ∷ Number number ∷ Number count ∷ []
arguments_of (line.Probe target seq) = Who target ∷ Number seq ∷ []
arguments_of (line.Answered target seq) = Who target ∷ Number seq ∷ []
arguments_of (line.Relay target seq asker asked made) =
    Who target ∷ Number seq ∷ Who asker ∷ Number asked ∷ Number made ∷ []
arguments_of (line.Joining peer seq) = Who peer ∷ Number seq ∷ []
arguments_of (line.JoiningAfter peer seq after) = Who peer ∷ Number seq ∷ Who after ∷ []
arguments_of (line.Listed who) = Who who ∷ []
arguments_of (line.Begin start) =
    Number start.number ∷ Number start.time ∷ Number start.seq ∷ Number start.place
    ∷ Number start.granted ∷ number_or_none start.past
arguments_of (line.Caller caller) = Number caller ∷ []
arguments_of (line.Granted ceiling) = Number ceiling ∷ []
arguments_of (line.Lost place) = Number place ∷ []

-- the text of a line
abbrev pub line_text : Line → List ℕ
line_text l = head_word (head_in l) ++ arguments_text (arguments_of l)

-- the text is this line, and its numbers and endpoints are such
abbrev pub Says : List ℕ → Line → Type 0
Says text l = (text ≡ line_text l) × All IsArgument (arguments_of l)
