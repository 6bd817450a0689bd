-- The words for phases, and the numbers, names and texts of notes and of faults of settings.
use Rattle.std.specs.Prelude.{ℕ, List, [], ◌++◌, codes}
use Rattle.std.specs.Fmt.{decimal}
use Rattle.swim_wire.specs.Codes.{fault_text, number_and_name}
use Rattle.swim_member.specs.declared.note.Note.{Note}
use Rattle.swim_member.specs.declared.note.Note.TheVariants as note
use Rattle.swim_member.specs.declared.settings.SettingsFault.{SettingsFault}
use Rattle.swim_member.specs.declared.settings.SettingsFault.TheVariants as setting
use Rattle.swim_member.specs.declared.state.Phase.{Phase}
use Rattle.swim_member.specs.declared.state.Phase.TheVariants.{Running, Left, Expelled}

-- the word for a phase
abbrev pub phase_word : Phase → List ℕ
phase_word Running = codes "running"
phase_word Left = codes "left"
phase_word Expelled = codes "expelled"

-- the number and the name of each fault of the settings, and its text
abbrev pub setting_number : SettingsFault → ℕ
setting_number setting.Lambda = 1
setting_number setting.Period = 2
setting_number setting.Direct = 3
setting_number setting.Suspect = 4
setting_number setting.Forget = 5
setting_number setting.Helpers = 6
setting_number setting.Block = 7
setting_number setting.Rules = 8

abbrev pub setting_name : SettingsFault → List ℕ
setting_name setting.Lambda = codes "Lambda"
setting_name setting.Period = codes "Period"
setting_name setting.Direct = codes "Direct"
setting_name setting.Suspect = codes "Suspect"
setting_name setting.Forget = codes "Forget"
setting_name setting.Helpers = codes "Helpers"
setting_name setting.Block = codes "Block"
setting_name setting.Rules = codes "Rules"

abbrev pub setting_text : SettingsFault → List ℕ
setting_text fault = number_and_name (setting_number fault) (setting_name fault)

-- the number and the name of each note, as PROTOCOL.md has them
abbrev pub note_number : Note → ℕ
note_number (note.BadDatagram fault) = 1
note_number note.OtherGroup = 2
note_number note.NotSender = 3
note_number note.FromSelf = 4
note_number note.Leap = 5
note_number note.NoNumberLeft = 6
note_number note.TableFull = 7
note_number note.Misdirected = 8
note_number note.RelaysFull = 9
note_number note.UnknownTarget = 10
note_number note.Unasked = 11
note_number note.SaveFailed = 12
note_number note.Expelled = 13
note_number note.Stopped = 14
note_number note.ReceiveFailed = 15
note_number (note.SendFailed count) = 16
note_number note.TimeOver = 17
note_number note.OtherVersion = 18

abbrev pub note_name : Note → List ℕ
note_name (note.BadDatagram fault) = codes "BadDatagram"
note_name note.OtherGroup = codes "OtherGroup"
note_name note.NotSender = codes "NotSender"
note_name note.FromSelf = codes "FromSelf"
note_name note.Leap = codes "Leap"
note_name note.NoNumberLeft = codes "NoNumberLeft"
note_name note.TableFull = codes "TableFull"
note_name note.Misdirected = codes "Misdirected"
note_name note.RelaysFull = codes "RelaysFull"
note_name note.UnknownTarget = codes "UnknownTarget"
note_name note.Unasked = codes "Unasked"
note_name note.SaveFailed = codes "SaveFailed"
note_name note.Expelled = codes "Expelled"
note_name note.Stopped = codes "Stopped"
note_name note.ReceiveFailed = codes "ReceiveFailed"
note_name (note.SendFailed count) = codes "SendFailed"
note_name note.TimeOver = codes "TimeOver"
note_name note.OtherVersion = codes "OtherVersion"

-- what comes after the name: the fault of a datagram, or how many sends failed
abbrev pub note_rest : Note → List ℕ
note_rest (note.BadDatagram fault) = codes " " ++ fault_text fault
note_rest (note.SendFailed count) = codes " " ++ decimal count
note_rest _ = []

-- the text of a note: number and name, and what it is about
abbrev pub note_text : Note → List ℕ
note_text said = number_and_name (note_number said) (note_name said) ++ note_rest said
