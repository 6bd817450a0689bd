-- Real members of a group with what is kept of their datagrams, and what each call makes of them.
use Rattle.std.specs.Prelude.{◌≡◌, ◌≢◌, ℕ, ◌+◌, ◌<◌, ◌≤◌, max, List, [], ◌∷◌, ◌++◌, map, take}
use Rattle.std.specs.Prelude.{length, slice_get, slice_set, Option, Some, None, Ok, IsOk, All, Any}
use Rattle.std.specs.Prelude.{◌==◌}
use Rattle.std.specs.List.{AllByRecursion, IsDistinct}
use Rattle.swim_wire.specs.Decoding.{decoded}
use Rattle.swim_wire.specs.Spelling.{HasText}
use Rattle.swim_wire.specs.declared.update.TheConstants.{NUMBER_MAX}
use Rattle.swim_member.specs.declared.answer.Out.{Out}
use Rattle.swim_member.specs.declared.event.Event.{Event}
use Rattle.swim_member.specs.declared.settings.Settings.{Settings}
use Rattle.swim_member.specs.Checks.{AreSound, fault_of}
use Rattle.swim_member.specs.Events.{state_of, answer}
use Rattle.swim_member.specs.Member.{new_state}
use Rattle.swim_member.specs.State.{State}
use Rattle.swim_group.specs.Group.{Group, Move, Begins, IsRunOf, after_moves, state_at}
use Rattle.swim_group.specs.Network.{WasSent}
use Rattle.swim_group.specs.Numbers.{IsTold, IsUnpassed}
use Rattle.swim_group.specs.declared.fault.GroupFault.{GroupFault}
use Rattle.swim_group.specs.declared.fault.GroupFault.TheVariants.{OtherName, Unsound, NoNumberLeft}
use Rattle.swim_group.specs.declared.fault.GroupFault.TheVariants.{SameName, NoMember}
use Rattle.swim_group.specs.declared.fault.GroupFault.TheVariants.{NoDatagram, Readable, NoMemory}
use Rattle.swim_member.specs.declared.event.Event.TheVariants as event

-- what a group of real members is seen as: their states, the datagrams
-- that may still come, and how many of these are kept at most
pub record RealGroup : Type 0 where
  pub members : List State
  pub kept : List Out
  pub room : ℕ

-- the members have these states after some run of a group
-- from its beginning, and each of these datagrams was sent in it, and has a text
pub record HasRun (members : List State) (kept : List Out) : Type 0 where
  pub group : Group
  pub moves : List Move
  pub begins : Begins group
  pub run : IsRunOf group moves
  pub states : map state_at (after_moves group moves).places ≡ members
  pub sent : AllByRecursion (λ (out : Out).
      WasSent (after_moves group moves).sent out.datagram) kept
  pub fit : AllByRecursion (λ (out : Out). HasText out.datagram) kept

-- and in this run nothing is invented, and no number is passed
pub record HasSoundRun (view : RealGroup) : Type 0 where
  pub ran : HasRun view.members view.kept
  pub told : IsTold (after_moves ran.group ran.moves)
  pub within : AllByRecursion (IsUnpassed (after_moves ran.group ran.moves))
      (after_moves ran.group ran.moves).places

-- the names in these settings
abbrev pub names_in : List Settings → List ℕ
names_in settings = map (λ (s : Settings). s.me) settings

-- new members with these settings, each with the number 1
abbrev pub new_states : List Settings → List State
new_states settings = map (λ (s : Settings). new_state s 1) settings

-- Beginning

-- members with these settings may begin together
pub record MayBegin (settings : List Settings) : Type 0 where
  pub sound : All AreSound settings
  pub names : IsDistinct (λ x y. x == y) (names_in settings)

-- and why they may not: one has a setting out of its range,
-- or all are sound and two have one name
abbrev pub IsUnfit : List Settings → GroupFault → Type 0
IsUnfit settings (Unsound fault) = Any (λ s. fault_of s ≡ Some fault) settings
IsUnfit settings SameName =
    All AreSound settings × ¬ (IsDistinct (λ x y. x == y) (names_in settings))
IsUnfit settings _ = ⊥

-- why a group does not begin: that, or nothing but memory lacks
abbrev pub IsUnbegun : List Settings → GroupFault → Type 0
IsUnbegun settings NoMemory = MayBegin settings
IsUnbegun settings fault = IsUnfit settings fault

-- Events

-- a member with this state after one more event, with this ceiling
abbrev pub next_state : State → Event → ℕ → State
next_state s event ceiling = state_of s (record { event = event; granted = ceiling } ∷ [])

-- what it sends at this event
abbrev pub next_sent : State → Event → ℕ → List Out
next_sent s event ceiling = (answer s [] event ceiling).outs.items

-- the ceiling of an event: what is granted, or the own number if that is above
abbrev pub ceiling_of : State → ℕ → ℕ
ceiling_of s granted = max granted s.number

-- the group after an event of the member that has this state: this member
-- goes on, and what it sends is kept after the rest, as far as there is room
abbrev pub event_at : RealGroup → ℕ → Event → ℕ → Option State → Option RealGroup
event_at g k event granted None = None
event_at g k event granted (Some s) = Some (record {
  members = slice_set g.members k (next_state s event (ceiling_of s granted));
  kept = take g.room (g.kept ++ next_sent s event (ceiling_of s granted));
  room = g.room;
})

-- the group after an event of the member with this number, if there is one
abbrev pub after_event : RealGroup → ℕ → Event → ℕ → Option RealGroup
after_event g k event granted = event_at g k event granted (slice_get g.members k)

-- what comes is a datagram
abbrev pub IsReadable : Event → Type 0
IsReadable (event.Datagram from bytes) = IsOk (decoded bytes.items)
IsReadable _ = ⊥

-- the event is that bytes come from the sender of this datagram, and are read as the datagram
abbrev pub Arrives : Out → Event → Type 0
Arrives out (event.Datagram from bytes) =
    (from ≡ out.datagram.sender) × (decoded bytes.items ≡ Ok out.datagram)
Arrives out _ = ⊥

-- the kept datagram with this number comes to the member with that one
pub record Delivers (old new : RealGroup) (member datagram granted : ℕ) : Type 0 where
  pub out : Out
  pub kept : slice_get old.kept datagram ≡ Some out
  pub event : Event
  pub arrives : Arrives out event
  pub moved : after_event old member event granted ≡ Some new

-- why an event does not come to a member: there is none,
-- the bytes are a datagram, or memory lacks
abbrev pub IsNoEvent : RealGroup → ℕ → Event → GroupFault → Type 0
IsNoEvent g k event NoMember = length g.members ≤ k
IsNoEvent g k event Readable = IsReadable event
IsNoEvent g k event NoMemory = Unit {0}
IsNoEvent g k event _ = ⊥

-- and a datagram: there is no member, none that is kept, or no memory
abbrev pub IsNoArrival : RealGroup → ℕ → ℕ → GroupFault → Type 0
IsNoArrival g k datagram NoMember = length g.members ≤ k
IsNoArrival g k datagram NoDatagram = length g.kept ≤ datagram
IsNoArrival g k datagram NoMemory = Unit {0}
IsNoArrival g k datagram _ = ⊥

-- Restarts

-- a member with this state may begin anew with these settings
pub record MayRestart (s : State) (settings : Settings) : Type 0 where
  pub name : settings.me ≡ s.settings.me
  pub sound : AreSound settings
  pub left : s.number < NUMBER_MAX

-- and why it may not
abbrev pub IsRefused : State → Settings → GroupFault → Type 0
IsRefused s settings OtherName = settings.me ≢ s.settings.me
IsRefused s settings (Unsound fault) = fault_of settings ≡ Some fault
IsRefused s settings NoNumberLeft = NUMBER_MAX ≤ s.number
IsRefused s settings _ = ⊥

-- the group after the member that has this state began anew, with the number after its own
abbrev pub restart_at : RealGroup → ℕ → Settings → Option State → Option RealGroup
restart_at g k settings None = None
restart_at g k settings (Some s) = Some (record {
  members = slice_set g.members k (new_state settings (s.number + 1));
  kept = g.kept;
  room = g.room;
})

-- the group after the member with this number began anew, if there is one
abbrev pub after_restart : RealGroup → ℕ → Settings → Option RealGroup
after_restart g k settings = restart_at g k settings (slice_get g.members k)
