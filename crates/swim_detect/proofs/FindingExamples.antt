-- Worked bounds, and what spares and accuses, by computation. M is 1, P is 2, Q is 3. A period has 4 ticks, a suspicion 8.
use Rattle.std.proofs.Common.{◌≡◌, ℕ, ◌+◌, ◌*◌, refl, Option, Some, None, List, [], ◌∷◌, ◌++◌, replicate, true, false}
use Rattle.swim_wire.specs.declared.rules.Rules.TheVariants.{One}
use Rattle.swim_wire.specs.declared.update.Update.{Update}
use Rattle.swim_wire.specs.declared.update.UpdateKind.TheVariants.{Alive, Suspect, Confirm}
use Rattle.swim_wire.specs.declared.datagram.Kind.{Kind}
use Rattle.swim_wire.specs.declared.datagram.Kind.TheVariants.{Ping, Ack}
use Rattle.swim_wire.specs.declared.datagram.Datagram.{Datagram}
use Rattle.swim_wire.specs.Spelling.{spelling}
use Rattle.swim_wire.specs.Reading.{updates_of}
use Rattle.swim_member.specs.declared.settings.Settings.{Settings}
use Rattle.swim_member.specs.declared.event.Event.{Event}
use Rattle.swim_member.specs.declared.event.Event.TheVariants as event
use Rattle.swim_rules.specs.Deals.{deal_from}
use Rattle.swim_member.specs.Events.{Step, state_of}
use Rattle.swim_member.specs.Member.{new_state, is_eligible_name}
use Rattle.swim_member.specs.State.{State, Change, Heard, Probed}
use Rattle.swim_member.specs.Turn.{still_listed}
use Rattle.swim_member.specs.declared.state.Probe.{Probe}
use Rattle.swim_member.specs.declared.state.Phase.TheVariants.{Running}
use Rattle.std.proofs.lemmas.Bool.{false≢true}
use Rattle.swim_detect.specs.Fairness.{Accuses}
use Rattle.swim_detect.specs.Finding.{ticks_left, spares}

abbrev a : ℕ → ℕ → Update
a x i = record { kind = Alive; who = x; number = i }

abbrev settings : Settings
settings = record { group = 7; me = 1; lambda = 2; period = 4; direct = 2; suspect = 8; forget = 40; helpers = 2; block = 1; rules = 1 }

abbrev d : Kind → ℕ → ℕ → ℕ → List Update → Datagram
d kind seq from subject updates = record { version = One; kind = kind; group = 7; seq = seq; sender = from; subject = subject; updates = record { items = updates } }

abbrev at : Event → Step
at e = record { event = e; granted = 100 }

abbrev recv : ℕ → Datagram → Step
recv from p = at (event.Datagram from (record { items = spelling p }))

-- so many ticks, each with the deal that begins with this number
abbrev ticks : ℕ → ℕ → List Step
ticks n first = replicate n (at (event.Tick (deal_from first)))

abbrev after_all : List Step → State
after_all steps = state_of (new_state settings 1) steps

-- P and Q are known, and P is probed at time 4
abbrev begun : List Step
begun = recv 2 (d Ping 1 2 1 (a 2 1 ∷ a 3 1 ∷ [])) ∷ ticks 4 0

-- a member at this time, with this probe and this turn, that knows P and Q as Alive
abbrev with_turn : ℕ → Option Probe → List ℕ → ℕ → State
with_turn time probe listed place = record {
  settings = settings;
  number = 1;
  phase = Running;
  time = time;
  rows = record { update = a 2 1; since = 0 } ∷ record { update = a 3 1; since = 0 } ∷ [];
  queue = [];
  seq = 2;
  probe = probe;
  relays = [];
  joining = None;
  listed = listed;
  place = place;
}

-- P is waited for: the rest of the period and the suspicion
probed : ticks_left 2 2 (with_turn 4 (Some (record { target = 2; seq = 1; answered = false })) (2 ∷ 3 ∷ []) 1) ≡ 4 + 8
probed = refl

-- so it stands at time 4
probed-probe : (after_all begun).probe ≡ Some (record { target = 2; seq = 1; answered = false })
unfolding updates_of
probed-probe = refl

probed-left : still_listed (after_all begun) ≡ 3 ∷ []
unfolding updates_of
probed-left = refl

probed-last : is_eligible_name (after_all (begun ++ ticks 11 0)) 2 ≡ true
unfolding updates_of
probed-last = refl

probed-found : is_eligible_name (after_all (begun ++ ticks 12 0)) 2 ≡ false
unfolding updates_of
probed-found = refl

-- Q is next in the list: a period more
next : ticks_left 2 3 (with_turn 4 (Some (record { target = 2; seq = 1; answered = false })) (2 ∷ 3 ∷ []) 1) ≡ 4 + 4 + 8
next = refl

next-last : is_eligible_name (after_all (begun ++ ticks 15 0)) 3 ≡ true
unfolding updates_of
next-last = refl

next-found : is_eligible_name (after_all (begun ++ ticks 16 0)) 3 ≡ false
unfolding updates_of
next-found = refl

-- P answers, and fails then. It comes first in this list and last in the next one, so with two others it waits for three probes,
-- 2 m - 1 periods for m members that are listed
abbrev answered : List Step
answered = begun ++ recv 2 (d Ack 1 2 2 []) ∷ []

longest : ticks_left 2 2 (with_turn 4 (Some (record { target = 2; seq = 1; answered = true })) (2 ∷ 3 ∷ []) 1) ≡ 4 + 3 * 4 + 8
longest = refl

-- Q answers its probe of time 8; the list of time 12 begins with Q
abbrev waiting : List Step
waiting = answered ++ ticks 4 0 ++ recv 3 (d Ack 2 3 3 []) ∷ ticks 4 1 ++ recv 3 (d Ack 3 3 3 []) ∷ []

longest-last : is_eligible_name (after_all (waiting ++ ticks 15 0)) 2 ≡ true
unfolding updates_of
longest-last = refl

longest-found : is_eligible_name (after_all (waiting ++ ticks 16 0)) 2 ≡ false
unfolding updates_of
longest-found = refl

-- What spares

abbrev s : ℕ → ℕ → Update
s x i = record { kind = Suspect; who = x; number = i }

abbrev c : ℕ → ℕ → Update
c x i = record { kind = Confirm; who = x; number = i }

abbrev waited : Option Probe
waited = Some (record { target = 2; seq = 1; answered = false })

abbrev acked : Change
acked = Probed (Some (record { target = 2; seq = 1; answered = true }))

-- P is Alive and waited for, or Suspect and waited for
abbrev alive : State
alive = with_turn 4 waited (2 ∷ 3 ∷ []) 1

abbrev suspected : State
suspected = record alive { rows = record { update = s 2 5; since = 3 } ∷ [] }

-- an ack spares who is Alive, and not who is Suspect already
ack-spares : spares 2 alive acked ≡ true
ack-spares = refl

ack-late : spares 2 suspected acked ≡ false
ack-late = refl

ack-other : spares 3 alive acked ≡ false
ack-other = refl

-- a greater Alive spares who is Suspect, and not who is Alive
alive-spares : spares 2 suspected (Heard (a 2 6)) ≡ true
alive-spares = refl

alive-same : spares 2 suspected (Heard (a 2 5)) ≡ false
alive-same = refl

alive-early : spares 2 alive (Heard (a 2 6)) ≡ false
alive-early = refl

-- a greater Suspect begins anew, and a Confirm does not
suspect-anew : spares 2 suspected (Heard (s 2 6)) ≡ true
suspect-anew = refl

confirm-spares : spares 2 suspected (Heard (c 2 6)) ≡ false
confirm-spares = refl

-- Accusations: by the tick that ends the period, of one who is Alive and did not answer
accused : Accuses (record alive { time = 7 }) (event.Tick (deal_from 0)) 2
accused = record { deal = deal_from 0; tick = refl; ends = refl; unanswered = refl; alive = refl }

-- not before that, nor of one who answered, nor of one who is Suspect already
accused-early : Accuses alive (event.Tick (deal_from 0)) 2 → ⊥
accused-early h = false≢true h.ends

accused-answered : Accuses (record alive { time = 7; probe = Some (record { target = 2; seq = 1; answered = true }) }) (event.Tick (deal_from 0)) 2 → ⊥
accused-answered h = false≢true h.unanswered

accused-again : Accuses (record suspected { time = 7 }) (event.Tick (deal_from 0)) 2 → ⊥
accused-again h = false≢true h.alive
