-- What a log says of turns: the lists that were made, the looks for a target, and who was pinged.
use Rattle.std.specs.List.{filter, list_any}
use Rattle.std.specs.Prelude.{ℕ, ◌==◌, Bool, true, false, List, [], ◌∷◌, ◌++◌, map}
use Rattle.swim_member.specs.State.{Change, Looked, Listed}
use Rattle.swim_member.specs.declared.answer.Out.{Out}
use Rattle.swim_member.specs.declared.event.Event.{Event}
use Rattle.swim_member.specs.declared.event.Event.TheVariants as event
use Rattle.swim_wire.specs.declared.datagram.Kind.{Kind}
use Rattle.swim_wire.specs.declared.datagram.Kind.TheVariants.{Ping}

-- the lists that were made, in order
abbrev pub lists_in : List Change → List (List ℕ)
lists_in [] = []
lists_in (Listed names ∷ log) = lists_in log ++ names ∷ []
lists_in (_ ∷ log) = lists_in log

-- of each look for a target, the members that were eligible
abbrev pub looks_in : List Change → List (List ℕ)
looks_in [] = []
looks_in (Looked names ∷ log) = looks_in log ++ names ∷ []
looks_in (_ ∷ log) = looks_in log

-- a datagram of this kind is a ping
abbrev pub is_ping : Kind → Bool
is_ping Ping = true
is_ping _ = false

-- to whom these datagrams are pings
abbrev pub pinged_by : List Out → List ℕ
pinged_by outs = map (λ (o : Out). o.to) (filter (λ (o : Out). is_ping o.datagram.kind) outs)

-- whom an event with these datagrams probes: whom a tick pings.
-- A ping for another member, or of a leave, is no probe
abbrev pub probed_at : Event → List Out → List ℕ
probed_at (event.Tick deal) outs = pinged_by outs
probed_at _ outs = []

-- x is one of these members
abbrev pub is_among : ℕ → List ℕ → Bool
is_among x names = list_any (λ y. y == x) names
