-- What crosses to C, by the values that it stands for.
use Rattle.std.specs.Prelude.{ℕ, ◌+◌, ◌*◌, ◌/◌, ◌%◌, ◌==◌, if◌then◌else◌}
use Rattle.swim_member.specs.Texts.{note_number}
use Rattle.swim_member.specs.declared.note.Note.{Note}
use Rattle.swim_member.specs.declared.settings.Settings.{Settings}
use Rattle.swim_member.specs.declared.state.Phase.{Phase}
use Rattle.swim_member.specs.declared.state.Phase.TheVariants.{Running, Left, Expelled}
use Rattle.swim_node.specs.declared.entry.Status.{Status}
use Rattle.swim_wire.specs.Updates.{update_code}
use Rattle.swim_wire.specs.declared.update.Update.{Update}
use Rattle.swim_library.specs.declared.shapes.SwimEndpoint.{SwimEndpoint}
use Rattle.swim_library.specs.declared.shapes.SwimRow.{SwimRow}
use Rattle.swim_library.specs.declared.shapes.SwimSettings.{SwimSettings}
use Rattle.swim_library.specs.declared.shapes.SwimStatus.{SwimStatus}

-- the endpoint that C named
abbrev pub number_of_endpoint : SwimEndpoint → ℕ
number_of_endpoint e = e.address * 65536 + e.port

-- the place at it, or before all members where the port is 0
abbrev pub cursor_of : SwimEndpoint → ℕ
cursor_of e = if e.port == 0 then 0 else number_of_endpoint e

-- an endpoint as C sees it
abbrev pub endpoint_as : ℕ → SwimEndpoint
endpoint_as e = record { address = e / 65536; port = e % 65536 }

-- the settings that C named
abbrev pub settings_of : SwimSettings → Settings
settings_of s = record {
  group = s.group;
  me = s.address * 65536 + s.port;
  lambda = s.lambda;
  period = s.period;
  direct = s.direct;
  suspect = s.suspect;
  forget = s.forget;
  helpers = s.helpers;
  block = s.block;
  rules = s.rules;
}

-- an update as C sees it
abbrev pub row_as : Update → SwimRow
row_as u = record {
  number = u.number;
  address = u.who / 65536;
  port = u.who % 65536;
  kind = update_code u.kind;
}

-- a note as C sees it
abbrev pub note_as : Note → ℕ
note_as = note_number

-- a phase as C sees it
abbrev pub phase_as : Phase → ℕ
phase_as Running = 0
phase_as Left = 1
phase_as Expelled = 2

-- a status as C sees it, with the first number of the life
abbrev pub status_as : Status → ℕ → SwimStatus
status_as s first = record {
  number = s.number;
  first = first;
  alive = s.alive;
  suspect = s.suspect;
  confirmed = s.confirmed;
  phase = phase_as s.phase;
}
