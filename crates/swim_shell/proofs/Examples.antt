-- What the definitions of specs/ make of a status and of a few counts.
use Rattle.std.proofs.Common.{◌≡◌, ℕ, List, [], ◌∷◌, ◌++◌, codes, refl}
use Rattle.std.specs.Fmt.{decimal}
use Rattle.swim_member.specs.declared.state.Phase.TheVariants.{Running}
use Rattle.swim_node.specs.declared.entry.Status.{Status}
use Rattle.swim_member.specs.declared.event.Event.TheVariants.{Leave}
use Rattle.swim_member.specs.declared.note.Note.TheVariants as note
use Rattle.swim_shell.specs.declared.counts.CallCounts.{CallCounts}
use Rattle.swim_shell.specs.declared.counts.EventKind.TheVariants as kind
use Rattle.swim_shell.specs.Answers.{status_head, status_rest}
use Rattle.swim_shell.specs.Counters.{counter_at, counter_line, counter_name}
use Rattle.swim_shell.specs.CallCounts.{call_counts, event_kind, refutations_by, with_call, with_notes}

abbrev status : Status
status = record { phase = Running; number = 3; alive = 2; suspect = 1; confirmed = 5; length = 42 }

head_line : status_head status ≡ codes "ok running number " ++ (decimal 3 ++ (codes " alive " ++ decimal 2))
head_line = refl

rest_line : status_rest status ≡ codes " suspect " ++ (decimal 1 ++ (codes " confirmed " ++ (decimal 5 ++ (codes " length " ++ (decimal 42 ++ codes "\n")))))
rest_line = refl

-- ---- counters

names : counter_name (counter_at 0) ∷ counter_name (counter_at 11) ∷ counter_name (counter_at 23) ∷ [] ≡ codes "eras" ∷ codes "refutations" ∷ codes "SaveFailed" ∷ []
names = refl

line_of_sent : counter_line (counter_at 9) 12 ≡ codes "datagrams_sent " ++ (decimal 12 ++ codes "\n")
line_of_sent = refl

abbrev zeros : List ℕ
zeros = 0 ∷ 0 ∷ 0 ∷ 0 ∷ 0 ∷ 0 ∷ 0 ∷ 0 ∷ 0 ∷ 0 ∷ 0 ∷ 0 ∷ 0 ∷ 0 ∷ 0 ∷ 0 ∷ 0 ∷ 0 ∷ []

abbrev counts : CallCounts
counts = record { number = 3; entries = 9; ticks = 4; joins = 1; received = 3; receive_failures = 0; sent = 5; lost = 2; refutations = 0; notes = zeros }

-- losses that an event tells are added, and a leave is counted as an entry alone
losses_told : call_counts (with_call (kind.SendFailed 7) counts) ≡ 9 ∷ 4 ∷ 1 ∷ 3 ∷ 0 ∷ 5 ∷ 9 ∷ 0 ∷ []
losses_told = refl

leave_is_other : with_call (event_kind Leave) counts ≡ counts
leave_is_other = refl

-- only a datagram refutes, and only where the number rose
refuted : refutations_by kind.Datagram 3 4 ∷ refutations_by kind.Datagram 4 4 ∷ refutations_by kind.Tick 3 4 ∷ [] ≡ 1 ∷ 0 ∷ 0 ∷ []
refuted = refl

-- two notes of one kind, and one of the last
noted : with_notes (note.OtherGroup ∷ note.OtherVersion ∷ note.OtherGroup ∷ []) zeros ≡ 0 ∷ 2 ∷ 0 ∷ 0 ∷ 0 ∷ 0 ∷ 0 ∷ 0 ∷ 0 ∷ 0 ∷ 0 ∷ 0 ∷ 0 ∷ 0 ∷ 0 ∷ 0 ∷ 0 ∷ 1 ∷ []
noted = refl
