-- What a judgement tells of the event: which one it was, and that the member runs.
use Rattle.std.proofs.Common.{◌≡◌, ℕ, ◌==◌, Bool, true, false, cond, refl, subst, List, Option, Some, None}
use Rattle.std.specs.Prelude.{Result, Ok, Err}
use Rattle.swim_wire.specs.declared.datagram.Datagram.{Datagram}
use Rattle.swim_wire.specs.declared.fault.WireFault.{WireFault}
use Rattle.swim_wire.specs.Decoding.{decoded}
use Rattle.swim_member.specs.declared.event.Event.{Event}
use Rattle.swim_member.specs.declared.event.Event.TheVariants as event
use Rattle.swim_member.specs.Judged.{Judged}
use Rattle.swim_member.specs.Judged as judged
use Rattle.swim_member.specs.declared.note.Note.{Note}
use Rattle.swim_member.specs.declared.note.Note.TheVariants as note
use Rattle.swim_member.specs.declared.own_number.OwnNumber.{OwnNumber}
use Rattle.swim_member.specs.declared.state.Phase.{Phase}
use Rattle.swim_member.specs.declared.state.Phase.TheVariants.{Running, Left, Expelled}
use Rattle.swim_member.specs.Judge.{judge, judge_in, judge_running, judge_stopped, judge_bytes, judge_read, refusal_of}
use Rattle.swim_member.specs.OwnNumber.{own_number_by}
use Rattle.swim_member.specs.State.{State}

-- what an event is read as
abbrev pub ReadAs : Event → Datagram → Type 0
ReadAs (event.Datagram from bytes) d = decoded bytes.items ≡ Ok d
ReadAs _ d = ⊥

-- only a tick of a running member is judged a tick
pub record IsTick (s : State) (e : Event) (deal : List ℕ) : Type 0 where
  pub tick : e ≡ event.Tick deal
  pub running : s.phase ≡ Running

-- only a running member accepts a datagram, and its updates say what it asks of the own number
pub record IsAccepted (s : State) (e : Event) (d : Datagram) (own : OwnNumber) : Type 0 where
  pub read : ReadAs e d
  pub asks : own_number_by s d.updates.items ≡ own
  pub running : s.phase ≡ Running

-- only a running member leaves
pub record IsLeave (s : State) (e : Event) : Type 0 where
  pub leave : e ≡ event.Leave
  pub running : s.phase ≡ Running

abbrev IsKnown : State → Event → Judged → Type 0
IsKnown s e (judged.Tick deal) = IsTick s e deal
IsKnown s e (judged.Datagram d own) = IsAccepted s e d own
IsKnown s e judged.Leave = IsLeave s e
IsKnown s e _ = Unit {0}

known : (s : State) (e : Event) → IsKnown s e (judge s e)
known s e = by_phase s.phase refl e
  where
    stopped : (e : Event) → IsKnown s e (judge_stopped e)
    stopped (event.Members cursor) = tt
    stopped _ = tt

    read : (e : Event) (d : Datagram) (o : Option Note) → ReadAs e d → s.phase ≡ Running → IsKnown s e (judge_read s d o)
    read e d (Some n) h running = tt
    read e d None h running = record { read = h; asks = refl; running = running }

    received : (e : Event) (from : ℕ) (r : Result Datagram WireFault) → ((d : Datagram) → r ≡ Ok d → ReadAs e d) → s.phase ≡ Running → IsKnown s e (judge_bytes s from r)
    received e from (Err fault) h running = tt
    received e from (Ok d) h running = read e d (refusal_of s.settings from d) (h d refl) running

    ticked : (deal : List ℕ) (b : Bool) → s.phase ≡ Running → IsKnown s (event.Tick deal) (cond b (judged.Note note.TimeOver) (judged.Tick deal))
    ticked deal true running = tt
    ticked deal false running = record { tick = refl; running = running }

    runs : (e : Event) → s.phase ≡ Running → IsKnown s e (judge_running s e)
    runs (event.Tick deal) running = ticked deal (s.time == 4611686018427387904) running
    runs (event.Datagram from bytes) running = received (event.Datagram from bytes) from (decoded bytes.items) (λ d h. h) running
    runs event.Leave running = record { leave = refl; running = running }
    runs _ running = tt

    by_phase : (phase : Phase) → s.phase ≡ phase → (e : Event) → IsKnown s e (judge_in phase s e)
    by_phase Running same e = runs e same
    by_phase Left same e = stopped e
    by_phase Expelled same e = stopped e

pub judged-tick : (s : State) (e : Event) (deal : List ℕ) → judge s e ≡ judged.Tick deal → IsTick s e deal
judged-tick s e deal h = subst (IsKnown s e) h (known s e)

pub judged-datagram : (s : State) (e : Event) (d : Datagram) (own : OwnNumber) → judge s e ≡ judged.Datagram d own → IsAccepted s e d own
judged-datagram s e d own h = subst (IsKnown s e) h (known s e)

pub judged-leave : (s : State) (e : Event) → judge s e ≡ judged.Leave → IsLeave s e
judged-leave s e h = subst (IsKnown s e) h (known s e)
