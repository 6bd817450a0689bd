-- Notes of a reply.
use Rattle.std.specs.Prelude.{◌==◌, Bool, true, false, if◌then◌else◌, List}
use Rattle.std.specs.List.{list_any}
use Rattle.swim_member.specs.declared.note.Note.{Note}
use Rattle.swim_member.specs.declared.note.Note.TheVariants as note
use Rattle.swim_member.specs.Texts.{note_number}
use Rattle.log.specs.declared.level.Level.{Level}
use Rattle.log.specs.declared.level.Level.TheVariants.{Debug, Warn}

-- whether one of the notes has the number of this one
abbrev pub has_note : Note → List Note → Bool
has_note wanted notes = list_any (λ note. note_number note == note_number wanted) notes

-- a healthy group makes such notes too
abbrev pub is_usual : Note → Bool
is_usual note.Misdirected = true
is_usual note.UnknownTarget = true
is_usual note.Unasked = true
is_usual note.Stopped = true
is_usual _ = false

-- the level at which a note is logged
abbrev pub note_level : Note → Level
note_level said = if is_usual said then Debug else Warn
