-- What a log minds of a reply.
use Rattle.std.proofs.Common.{◌≡◌, ℕ, ◌+◌, false, Some}
use Rattle.std.specs.Prelude.{IsTrue}
use Rattle.swim_member.specs.declared.note.Note.TheVariants as note
use Rattle.swim_node.specs.declared.entry.Reply.{Reply}
use Rattle.swim_handle.specs.Notes.{has_note}
use Rattle.swim_handle.specs.Numbers.{IsOtherLife, Minds}
use Rattle.swim_handle.specs.declared.call_log.NumberLog.{NumberLog}

pub minds : (own said : ℕ) (reply : Reply) (old new : NumberLog) → (IsOtherLife old own said reply.notes.items → (new.told ≡ said) × (new.lives ≡ old.lives + 1)) → ((IsOtherLife old own said reply.notes.items → ⊥) → (new.told ≡ old.told) × (new.lives ≡ old.lives)) → (IsTrue (has_note note.SaveFailed reply.notes.items) → new.failed_at ≡ Some reply.status.number) → (has_note note.SaveFailed reply.notes.items ≡ false → new.failed_at ≡ old.failed_at) → Minds own said reply old new
minds own said reply old new other same failed saved = record { other = other; same = same; failed = failed; saved = saved }
