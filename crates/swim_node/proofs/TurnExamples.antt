-- Worked turns, by computation. M is 1, P is 2, Q is 3, R is 4.
use Rattle.std.proofs.Common.{◌≡◌, ℕ, ◌+◌, refl, List, [], ◌∷◌, ◌++◌, length, map, take, drop, replicate, None}
use Rattle.swim_wire.specs.declared.rules.Rules.TheVariants.{One}
use Rattle.swim_wire.specs.declared.update.Update.{Update}
use Rattle.swim_wire.specs.declared.update.UpdateKind.TheVariants.{Alive, Confirm}
use Rattle.swim_wire.specs.declared.datagram.Datagram.{Datagram}
use Rattle.swim_wire.specs.declared.datagram.Kind.{Kind}
use Rattle.swim_wire.specs.declared.datagram.Kind.TheVariants.{Ping, PingReq}
use Rattle.swim_wire.specs.Spelling.{spelling}
use Rattle.swim_wire.specs.Reading.{updates_of}
use Rattle.swim_member.specs.declared.settings.Settings.{Settings}
use Rattle.swim_member.specs.declared.answer.Out.{Out}
use Rattle.swim_member.specs.declared.event.Event.{Event}
use Rattle.swim_member.specs.declared.event.Event.TheVariants as event
use Rattle.swim_member.specs.State.{State}
use Rattle.swim_member.specs.Member.{new_state}
use Rattle.swim_rules.specs.Deals.{deal_from}
use Rattle.swim_member.specs.Turn.{still_listed}
use Rattle.swim_member.specs.Events.{Step, answer, state_of}
use Rattle.swim_node.specs.declared.entry.Entry.{Entry}
use Rattle.swim_node.specs.declared.entry.Outcome.TheVariants.{Taken}
use Rattle.swim_node.specs.declared.entry.Save.TheVariants.{Kept}
use Rattle.swim_node.specs.History.{Base, status_at}
use Rattle.swim_node.specs.Probing.{lists_at, looks_at, probed_by, probes_of}

abbrev a : ℕ → ℕ → Update
a x i = record { kind = Alive; who = x; number = i }

abbrev c : ℕ → ℕ → Update
c x i = record { kind = Confirm; who = x; number = i }

abbrev settings : Settings
settings = record { group = 7; me = 1; lambda = 2; period = 4; direct = 2; suspect = 8; forget = 40; helpers = 2; block = 1; rules = 1 }

abbrev d : Kind → ℕ → ℕ → ℕ → List Update → Datagram
d kind seq from subject updates = record { version = One; kind = kind; group = 7; seq = seq; sender = from; subject = subject; updates = record { items = updates } }

abbrev recv : ℕ → Datagram → Event
recv from p = event.Datagram from (record { items = spelling p })

abbrev ping : List Update → Event
ping updates = recv 2 (d Ping 1 2 1 updates)

-- so many ticks, each with the deal that begins with 0
abbrev ticks : ℕ → List Event
ticks n = replicate n (event.Tick (deal_from 0))

abbrev start : Base
start = record { state = new_state settings 1; granted = 100; past = None; limit = 100 }

abbrev step : Event → Step
step e = record { event = e; granted = 100 }

-- what is entered of an event after these
abbrev entry : State → List Step → Event → Entry
entry s before e = record {
  tag = record { caller = 0; turn = length before + 1 };
  event = e;
  granted = 100;
  save = Kept;
  outs = (answer s before e 100).outs;
  outcomes = record { items = map (λ (o : Out). Taken) (answer s before e 100).outs.items };
  reply = record {
    status = status_at (state_of s (before ++ step e ∷ [])) (length before + 1);
    notes = (answer s before e 100).notes;
    page = (answer s before e 100).page;
    sent = length (answer s before e 100).outs.items;
    lost = 0;
  };
}

abbrev entries : State → List Step → List Event → List Entry
entries s before [] = []
entries s before (e ∷ events) = entry s before e ∷ entries s (before ++ step e ∷ []) events

abbrev all_lists : Base → List Entry → List Entry → List (List ℕ)
all_lists b before [] = []
all_lists b before (e ∷ rest) = lists_at b before e ++ all_lists b (before ++ e ∷ []) rest

abbrev all_looks : Base → List Entry → List Entry → List (List ℕ)
all_looks b before [] = []
all_looks b before (e ∷ rest) = looks_at b before e ++ all_looks b (before ++ e ∷ []) rest

abbrev all_probes : List Entry → List ℕ
all_probes [] = []
all_probes (e ∷ rest) = probed_by e ++ all_probes rest

-- A turn

-- P and Q are listed at time 4, the newcomer R at the next list, at time 12
abbrev newcomer : List Entry
newcomer = entries start.state [] (ping (a 2 1 ∷ a 3 1 ∷ []) ∷ ticks 4 ++ ping (a 4 1 ∷ []) ∷ ticks 8)

newcomer-lists : all_lists start [] newcomer ≡ (2 ∷ 3 ∷ []) ∷ (2 ∷ 3 ∷ 4 ∷ []) ∷ []
unfolding updates_of
newcomer-lists = refl

newcomer-looks : all_looks start [] newcomer ≡ (2 ∷ 3 ∷ []) ∷ (2 ∷ 3 ∷ 4 ∷ []) ∷ (2 ∷ 3 ∷ 4 ∷ []) ∷ []
unfolding updates_of
newcomer-looks = refl

newcomer-probes : all_probes newcomer ≡ 2 ∷ 3 ∷ 2 ∷ []
unfolding updates_of
newcomer-probes = refl

-- The look of the next list counts

-- Q is Confirm at time 8, where the next list is made: it was eligible at each look of the turn, and was not probed
abbrev failed : List Entry
failed = entries start.state [] (ping (a 2 1 ∷ a 3 1 ∷ []) ∷ ticks 4 ++ ping (c 3 0 ∷ []) ∷ ticks 4)

failed-unprobed : probes_of 3 (take 5 (drop 4 failed)) ≡ 0
unfolding updates_of
failed-unprobed = refl

failed-turn : all_looks start (take 4 failed) (take 5 (drop 4 failed)) ≡ (2 ∷ 3 ∷ []) ∷ []
unfolding updates_of
failed-turn = refl

failed-next : all_looks start (take 9 failed) (drop 9 failed) ≡ (2 ∷ []) ∷ []
unfolding updates_of
failed-next = refl

-- A ping for another member is no probe

-- R asks about Q in the turn of P and Q
abbrev asked : List Entry
asked = entries start.state [] (ping (a 2 1 ∷ a 3 1 ∷ []) ∷ ticks 4 ++ recv 4 (d PingReq 9 4 3 []) ∷ ticks 4)

asked-once : probes_of 3 asked ≡ 1
unfolding updates_of
asked-once = refl

-- A turn that an earlier era began

abbrev middle : State
middle = state_of start.state (map step (ping (a 2 1 ∷ a 3 1 ∷ []) ∷ ticks 4))

middle-left : still_listed middle ≡ 3 ∷ []
unfolding updates_of
middle-left = refl

middle-probes : all_probes (entries middle [] (ticks 8)) ≡ 3 ∷ 2 ∷ []
unfolding updates_of
middle-probes = refl

-- Nobody to probe

-- each look makes an empty list
alone : all_lists start [] (entries start.state [] (ticks 8)) ≡ [] ∷ [] ∷ []
alone = refl
