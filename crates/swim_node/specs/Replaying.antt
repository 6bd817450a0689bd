-- What made an entry what it is beside the member, and where an era may begin anew.
use Rattle.std.specs.Prelude.{◌≡◌, ℕ, nat_lt, ◌==◌, ◌||◌, Bool, false, List, ◌++◌}
use Rattle.std.specs.Prelude.{if◌then◌else◌, Option, Some, None, codes}
use Rattle.std.specs.Option.{option_map}
use Rattle.swim_wire.specs.Codes.{number_and_name}
use Rattle.swim_member.specs.State.{State}
use Rattle.swim_member.specs.Resuming.{resume_fault, resume_number, resume_name}
use Rattle.swim_node.specs.declared.beginning.BeginFault.{BeginFault}
use Rattle.swim_node.specs.declared.beginning.BeginFault.TheVariants as fault
use Rattle.swim_node.specs.declared.entry.Entry.{Entry}
use Rattle.swim_node.specs.declared.entry.Outcome.{Outcome}
use Rattle.swim_node.specs.declared.opening.TheConstants.{LIMIT_MAX}
use Rattle.swim_node.specs.declared.replay.Cause.{Cause}
use Rattle.swim_node.specs.History.{Base}

-- of an entry all that the member did not make: who called, what happened,
-- what the state file granted, and what became of the datagrams
abbrev pub cause_of : Entry → Cause
cause_of e =
    record { tag = e.tag; event = e.event; granted = e.granted; outcomes = e.outcomes }

-- this was told of the entry: what made it, where more may be told of
-- datagrams than there are, since who tells it may not know how many there were
pub record IsTold (cause : Cause) (e : Entry) : Type 0 where
  pub tag : e.tag ≡ cause.tag
  pub event : e.event ≡ cause.event
  pub granted : e.granted ≡ cause.granted
  pub more : List Outcome
  pub outcomes : cause.outcomes.items ≡ e.outcomes.items ++ more

-- there is such a number, and it is above the ceiling
abbrev pub is_above : ℕ → Option ℕ → Bool
is_above ceiling None = false
is_above ceiling (Some n) = nat_lt ceiling n

-- what refuses an era of so many entries, whose member has this number, with this
-- ceiling and this greatest number of earlier eras: the first that holds
abbrev pub bounds_fault : ℕ → ℕ → ℕ → Option ℕ → Option BeginFault
bounds_fault limit number granted past =
    if limit == 0 || nat_lt LIMIT_MAX limit then Some fault.Limit
    else (if nat_lt granted number then Some fault.Ceiling
    else (if is_above granted past then Some fault.Past else None))

-- that fault, if there is one, or else what refuses the state
abbrev pub or_state : Option BeginFault → State → Option BeginFault
or_state (Some f) s = Some f
or_state None s = option_map (λ f. fault.State f) (resume_fault s)

-- why no era begins with this base, whose settings are sound
abbrev pub begin_fault : Base → Option BeginFault
begin_fault b = or_state (bounds_fault b.limit b.state.number b.granted b.past) b.state

-- the number, the name and the text of each; a fault of the state keeps its number, 1 to 9 or 14
abbrev pub begin_number : BeginFault → ℕ
begin_number (fault.State f) = resume_number f
begin_number fault.Limit = 10
begin_number fault.Ceiling = 11
begin_number fault.Past = 12
begin_number fault.NoMemory = 13

abbrev pub begin_name : BeginFault → List ℕ
begin_name (fault.State f) = resume_name f
begin_name fault.Limit = codes "Limit"
begin_name fault.Ceiling = codes "Ceiling"
begin_name fault.Past = codes "Past"
begin_name fault.NoMemory = codes "NoMemory"

abbrev pub begin_text : BeginFault → List ℕ
begin_text fault = number_and_name (begin_number fault) (begin_name fault)
