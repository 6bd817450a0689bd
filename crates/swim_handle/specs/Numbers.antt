-- What received datagrams say of the own number.
use Rattle.std.specs.Prelude.{◌≡◌, ◌<◌, ◌+◌, ℕ, List, [], ◌∷◌, Bool, true, false, Option, Some}
use Rattle.std.specs.Prelude.{None, IsTrue}
use Rattle.swim_member.specs.declared.event.Event.{Event}
use Rattle.swim_member.specs.declared.event.Event.TheVariants as event
use Rattle.swim_member.specs.declared.note.Note.{Note}
use Rattle.swim_member.specs.declared.note.Note.TheVariants as note
use Rattle.swim_node.specs.declared.entry.Reply.{Reply}
use Rattle.swim_wire.specs.Decoding.{decoded}
use Rattle.swim_wire.specs.Said.{number_said}
use Rattle.swim_handle.specs.Notes.{has_note}
use Rattle.swim_handle.specs.declared.call_log.NumberLog.{NumberLog}
use Rattle.swim_handle.specs.declared.call_log.TheConstants.{LIVES_MAX}

-- what the datagram of an event says of a member; nothing if it is of no datagram
abbrev pub said_in : ℕ → Event → Option ℕ
said_in me (event.Datagram from bytes) = Some (number_said me (decoded bytes.items))
said_in me _ = None

-- whence the bytes came that an event is about
abbrev pub origin_of : Event → Option ℕ
origin_of (event.Datagram from bytes) = Some from
origin_of _ = None

-- the note says that a datagram was read, and not taken
abbrev pub is_refusal : Note → Bool
is_refusal note.OtherGroup = true
is_refusal note.NotSender = true
is_refusal note.FromSelf = true
is_refusal note.Stopped = true
is_refusal note.OtherVersion = true
is_refusal _ = false

-- the notes of a datagram that was read, and not taken, are one such note
abbrev pub is_refused : List Note → Bool
is_refused [] = false
is_refused (n ∷ notes) = is_refusal n

-- the number that a datagram said is one of another life, and is to be logged; before its call,
-- which took these notes, the own number was this one
abbrev pub IsOtherLife : NumberLog → ℕ → ℕ → List Note → Type 0
IsOtherLife log own said notes = (own < said) × (log.told < said) × (log.lives < LIVES_MAX)
    × (is_refused notes ≡ false)

-- what a log is after the reply to a datagram that said a number of the member: it has told that of
-- another life, once, and a failed save, once until one is done
pub record Minds (own said : ℕ) (reply : Reply) (old new : NumberLog) : Type 0 where
  pub other : IsOtherLife old own said reply.notes.items
      → (new.told ≡ said) × (new.lives ≡ old.lives + 1)
  pub same : (IsOtherLife old own said reply.notes.items → ⊥)
      → (new.told ≡ old.told) × (new.lives ≡ old.lives)
  pub failed : IsTrue (has_note note.SaveFailed reply.notes.items)
      → new.failed_at ≡ Some reply.status.number
  pub saved : has_note note.SaveFailed reply.notes.items ≡ false → new.failed_at ≡ old.failed_at
