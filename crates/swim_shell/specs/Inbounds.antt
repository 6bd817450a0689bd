-- What an inbound answers, and what a receiver makes of it.
use Rattle.std.specs.Prelude.{◌≡◌, ℕ, ◌+◌, ◌≤◌, min, ◌&&◌, nat_lt, Bool, true}
use Rattle.std.specs.Prelude.{List, [], ◌∷◌, ◌++◌, length, Option, Some, None, Result, Ok, Err}
use Rattle.swim_member.specs.declared.event.Event.{Event}
use Rattle.swim_member.specs.declared.event.Event.TheVariants.{Datagram, ReceiveFailed}
use Rattle.swim_shell.specs.declared.caller.Refusal.{Refusal}
use Rattle.swim_shell.specs.declared.caller.Refusal.TheVariants as refusal
use Rattle.swim_shell.specs.declared.receiver.TheConstants.{FAILURES_MAX}
use Rattle.swim_shell.specs.declared.worker.WorkerEnd.{WorkerEnd}
use Rattle.swim_shell.specs.declared.worker.WorkerEnd.TheVariants as ends
use Rattle.swim_shell.specs.Calls.{CallerView, NewCalls, Refuses}

-- what an inbound gave in one turn: a datagram and its sender, nothing, or a failure
pub data Came : Type 0 where
  Received : (from : ℕ) → (bytes : List ℕ) → Came
  Nothing : Came
  Failed : Came

-- what an answer of `receive` says
abbrev pub came_of : {E : Type 0} → Result (Option ℕ) E → List ℕ → Came
came_of (Ok (Some from)) bytes = Received from bytes
came_of (Ok None) bytes = Nothing
came_of (Err _) bytes = Failed

-- each datagram is one call, and so is each failure
abbrev pub events_at : Came → List Event
events_at (Received from bytes) = Datagram from (record { items = bytes }) ∷ []
events_at Nothing = []
events_at Failed = ReceiveFailed ∷ []

-- the events that these make, in order
abbrev pub events_for : List Came → List Event
events_for [] = []
events_for (c ∷ cs) = events_at c ++ events_for cs

-- how many failures are among these
abbrev pub failures_at : Came → ℕ
failures_at Failed = 1
failures_at _ = 0

abbrev pub failures_in : List Came → ℕ
failures_in [] = 0
failures_in (c ∷ cs) = failures_at c + failures_in cs

-- the failures in a row after n of them and one more answer, counted up to 16
abbrev pub row_after : ℕ → Came → ℕ
row_after n Failed = min (n + 1) FAILURES_MAX
row_after n _ = 0

-- how many failures in a row stand at the end, after n of them
abbrev pub failures_in_a_row : ℕ → List Came → ℕ
failures_in_a_row n [] = n
failures_in_a_row n (c ∷ cs) = failures_in_a_row (row_after n c) cs

-- nowhere are there 16 failures in a row, after n of them
abbrev pub is_calm : ℕ → List Came → Bool
is_calm n [] = true
is_calm n (c ∷ cs) = nat_lt (row_after n c) FAILURES_MAX && is_calm (row_after n c) cs

-- these are the answers of an inbound between two of its states, as far as it tells
pub record Took (tells : Type 0) (old new : List Came) (f g : ℕ) (came : List Came) : Type 0 where
  pub told : tells → new ≡ old ++ came
  pub failed : g ≡ f + failures_in came

-- the event that waits to be entered, if one does
abbrev pub waiting : Option Event → List Event
waiting None = []
waiting (Some event) = event ∷ []

-- what a contract sees of a receiver: what its inbound answered, and how many of it were failures;
-- how many in a row were, last; and what came and found the era full, so that it waits for the next
pub record ReceiverView : Type 0 where
  pub came : List Came
  pub failures : ℕ
  pub row : ℕ
  pub kept : Option Event

-- the same of these parts
abbrev pub receiver_of : List Came → ℕ → ℕ → Option Event → ReceiverView
receiver_of came failures row kept = record {
  came = came;
  failures = failures;
  row = row;
  kept = kept;
}

-- what a turn takes: what waits, or else one answer of the inbound
pub record Takes (tells : Type 0) (a b : ReceiverView) (taken : Option Event) : Type 0 where
  pub came : List Came
  pub took : Took tells a.came b.came a.failures b.failures came
  pub row_is : b.row ≡ failures_in_a_row a.row came
  pub events_are : waiting a.kept ++ events_for came ≡ waiting taken
  pub one : length came + length (waiting a.kept) ≡ 1

-- the turns of a receiver that goes on: it has entered, in order, what waited and what came, and at
-- no time had 16 receives in a row failed
pub record Receiving (tells : Type 0) (a : ReceiverView) (p : CallerView) (b : ReceiverView)
    (q : CallerView) (turns : ℕ)
    : Type 0 where
  pub came : List Came
  pub entered : List Event
  pub took : Took tells a.came b.came a.failures b.failures came
  pub calls : NewCalls p q entered
  pub all_entered : waiting a.kept ++ events_for came ≡ entered ++ waiting b.kept
  pub row_is : b.row ≡ failures_in_a_row a.row came
  pub calm : is_calm a.row came ≡ true
  pub each : length came + length (waiting a.kept) ≡ turns + length (waiting b.kept)

-- what waits after a call that was refused so: what found the era full is not lost
abbrev pub kept_after : Refusal → Event → Option Event
kept_after refusal.EraFull a = Some a
kept_after _ a = None

-- the call for what was taken was refused
pub record EntersInVain (limit : ℕ) (why : Refusal) (p q : CallerView) (taken kept : Option Event)
    : Type 0 where
  pub last : Event
  pub taken_is : taken ≡ Some last
  pub refused : Refuses limit why p q last
  pub kept_is : kept ≡ kept_after why last

-- how the last turn ended a receiver: it was entered, and 16 failures in a row were; or its call
-- was refused
abbrev pub EndsBy : ℕ → WorkerEnd → CallerView → CallerView → Option Event → ReceiverView → Type 0
EndsBy limit ends.Fault p q taken b =
    NewCalls p q (waiting taken) × (FAILURES_MAX ≤ b.row) × (b.kept ≡ None)
EndsBy limit (ends.Refused why) p q taken b = EntersInVain limit why p q taken b.kept

-- the last turn of a receiver
pub record ReceivesLast (tells : Type 0) (limit : ℕ) (end : WorkerEnd) (a : ReceiverView)
    (p : CallerView) (b : ReceiverView) (q : CallerView)
    : Type 0 where
  pub taken : Option Event
  pub takes : Takes tells a b taken
  pub ends_by : EndsBy limit end p q taken b
