-- From which states a member may go on, and what refuses one.
use Rattle.std.specs.Prelude.{ℕ, ◌+◌, ◌*◌, ◌==◌, ◌&&◌, ◌||◌, nat_lt, nat_le, Bool, true, not, List}
use Rattle.std.specs.Prelude.{[], ◌∷◌, length, if◌then◌else◌, Option, Some, None, codes}
use Rattle.std.specs.List.{list_all, list_any}
use Rattle.swim_wire.specs.Codes.{number_and_name}
use Rattle.swim_wire.specs.declared.update.TheConstants.{NUMBER_MAX}
use Rattle.swim_rules.specs.declared.table.Row.{Row}
use Rattle.swim_rules.specs.Rules.{is_about}
use Rattle.swim_gossip.specs.declared.buffer.Waiting.{Waiting}
use Rattle.swim_gossip.specs.Queue.{is_queued}
use Rattle.swim_member.specs.declared.resume.ResumeFault.{ResumeFault}
use Rattle.swim_member.specs.declared.resume.ResumeFault.TheVariants as fault
use Rattle.swim_member.specs.declared.tick.TheConstants.{LAST_TIME}
use Rattle.swim_member.specs.Fit.{may_stand, may_wait}
use Rattle.swim_member.specs.Machinery.Steps.{is_live}
use Rattle.swim_member.specs.State.{State}

-- each row is about a member above x and above those of the rows before it
abbrev pub are_ascending : ℕ → List Row → Bool
are_ascending x [] = true
are_ascending x (r ∷ rows) = nat_lt x r.update.who && are_ascending r.update.who rows

-- in the order of the members, each once, and each about another member, with a number that has
-- a text; every member is above 0
abbrev pub may_be_rows : ℕ → List Row → Bool
may_be_rows me rows = are_ascending 0 rows && list_all (may_stand me) rows

-- no two wait about one member
abbrev pub are_apart : List Waiting → Bool
are_apart [] = true
are_apart (w ∷ queue) = not (is_queued w.update.who queue) && are_apart queue

-- what waits is about the member itself or one that has a row
abbrev pub is_known : ℕ → List Row → Waiting → Bool
is_known me rows w = me == w.update.who || list_any (is_about w.update.who) rows

-- an update about the row's member waits
abbrev pub is_told : List Waiting → Row → Bool
is_told queue r = is_queued r.update.who queue

-- one update waits about the member itself and about each one that has a row, and no other
abbrev pub is_queue : ℕ → List Row → List Waiting → Bool
is_queue me rows queue =
    length queue == length rows + 1 && (are_apart queue && (is_queued me queue
    && (list_all (is_told queue) rows && list_all (is_known me rows) queue)))

-- it was sent at most so often
abbrev pub is_within_sends : ℕ → Waiting → Bool
is_within_sends most w = nat_le w.count most

-- the first was sent at most so often, and each at most as often as the one before it
abbrev pub are_falling : ℕ → List Waiting → Bool
are_falling most [] = true
are_falling most (w ∷ queue) = nat_le w.count most && are_falling w.count queue

-- nobody stands in the list twice
abbrev pub are_distinct : List ℕ → Bool
are_distinct [] = true
are_distinct (x ∷ names) = not (list_any (λ y. x == y) names) && are_distinct names

-- why no member goes on from a state with sound settings: the first that holds
abbrev pub resume_fault : State → Option ResumeFault
resume_fault s =
    if not (nat_le s.number NUMBER_MAX) then Some fault.Number
    else (if not (nat_le s.time LAST_TIME) then Some fault.Time
    else (if not (may_be_rows s.settings.me s.rows) then Some fault.Rows
    else (if not (is_queue s.settings.me s.rows s.queue) then Some fault.Queue
    else (if not (list_all (may_wait s.settings.me s.number) s.queue) then Some fault.Said
    else (if not (list_all (is_within_sends (s.settings.lambda * 9)) s.queue) then Some fault.Sent
    else (if not (list_all (is_live s.time s.settings.period) s.relays) then Some fault.Relays
    else (if not (are_distinct s.listed) then Some fault.Listed
    else (if not (nat_le s.place (length s.listed)) then Some fault.Place
    else (if not (are_falling (s.settings.lambda * 9) s.queue) then Some fault.Order
    else None)))))))))

-- the number, the name and the text of each; 10 to 13 are numbers of other faults of a beginning
abbrev pub resume_number : ResumeFault → ℕ
resume_number fault.Number = 1
resume_number fault.Time = 2
resume_number fault.Rows = 3
resume_number fault.Queue = 4
resume_number fault.Said = 5
resume_number fault.Sent = 6
resume_number fault.Relays = 7
resume_number fault.Listed = 8
resume_number fault.Place = 9
resume_number fault.Order = 14

abbrev pub resume_name : ResumeFault → List ℕ
resume_name fault.Number = codes "Number"
resume_name fault.Time = codes "Time"
resume_name fault.Rows = codes "Rows"
resume_name fault.Queue = codes "Queue"
resume_name fault.Said = codes "Said"
resume_name fault.Sent = codes "Sent"
resume_name fault.Relays = codes "Relays"
resume_name fault.Listed = codes "Listed"
resume_name fault.Place = codes "Place"
resume_name fault.Order = codes "Order"

abbrev pub resume_text : ResumeFault → List ℕ
resume_text fault = number_and_name (resume_number fault) (resume_name fault)
