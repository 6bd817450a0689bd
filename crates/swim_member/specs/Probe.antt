-- The probe: ping, helpers, and the suspicion at its end (SWIM, section 3.1).
use Rattle.std.specs.List.{filter}
use Rattle.std.specs.Prelude.{ℕ, ◌+◌, ◌%◌, ◌==◌, ◌&&◌, nat_lt, Bool, false, not, List, [], ◌∷◌}
use Rattle.std.specs.Prelude.{◌++◌, map, take, if◌then◌else◌, Option, Some, None, slice_get}
use Rattle.swim_member.specs.Hearing.{hear_other}
use Rattle.swim_member.specs.Member.{eligible, row_name, is_eligible_name}
use Rattle.swim_member.specs.Send.{send}
use Rattle.swim_member.specs.State.{State, Change, SequenceTaken, Probed}
use Rattle.swim_member.specs.declared.state.Probe.{Probe}
use Rattle.swim_rules.specs.Rows.{is_kind, row_of}
use Rattle.swim_rules.specs.declared.table.Row.{Row}
use Rattle.swim_wire.specs.declared.datagram.Kind.TheVariants.{Ping, PingReq}
use Rattle.swim_wire.specs.declared.update.Update.{Update}
use Rattle.swim_wire.specs.declared.update.UpdateKind.TheVariants.{Alive, Suspect}

-- the moment is this far into a period
abbrev pub is_at : State → ℕ → Bool
is_at s moment = s.time % s.settings.period == moment

-- the next tick ends a period: the probe is over then, and the next one begins
abbrev pub ends_period : State → Bool
ends_period s = (s.time + 1) % s.settings.period == 0

-- the Suspect about the member of an Alive row
abbrev pub suspect_of : Row → Update
suspect_of r = record { kind = Suspect; who = r.update.who; number = r.update.number }

-- an Alive target that did not answer is suspected
abbrev pub suspect_target : State → Option Row → List Change
suspect_target s None = []
suspect_target s (Some r) =
    if is_kind Alive r.update.kind then hear_other s (suspect_of r) else []

-- the target of a probe that nobody answered is suspected
abbrev pub blame : State → Option Probe → List Change
blame s None = []
blame s (Some q) = if q.answered then [] else suspect_target s (row_of s.rows q.target)

-- a ping to x begins a probe
abbrev pub probe_of : State → ℕ → List Change
probe_of s x =
    send s x Ping s.seq x
    ∷ Probed (Some (record { target = x; seq = s.seq; answered = false })) ∷ SequenceTaken ∷ []

-- the members to ask about x: those after it and then those before it
abbrev pub helpers_about : State → ℕ → List ℕ
helpers_about s x =
    take s.settings.helpers (map row_name (filter (λ r. nat_lt x (row_name r)) (eligible s)
    ++ filter (λ r. nat_lt (row_name r) x) (eligible s)))

-- a ping-req about the target of the probe to one helper
abbrev pub ask_one : State → Probe → Option ℕ → List Change
ask_one s q None = []
ask_one s q (Some helper) = send s helper PingReq q.seq q.target ∷ []

-- the k-th helper is asked about the target, if the probe is still open
abbrev pub ask : State → Option Probe → ℕ → List Change
ask s None k = []
ask s (Some q) k =
    if not q.answered && is_eligible_name s q.target
    then ask_one s q (slice_get (helpers_about s q.target) k)
    else []
