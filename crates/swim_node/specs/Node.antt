-- A node, as its callers see it and as it keeps itself.
use Rattle.std.specs.Prelude.{◌≡◌, ℕ, ◌+◌, ◌<◌, ◌≤◌, List, [], ◌∷◌, ◌++◌, length, All, Bool, Result}
use Rattle.std.specs.Prelude.{Ok, Err, Option, None}
use Rattle.swim_disk.specs.Disk.{DiskState as DiskState}
use Rattle.swim_state.specs.Store.{StoreView}
use Rattle.swim_state.specs.declared.owner.Owner.{Owner}
use Rattle.swim_member.specs.State.{State}
use Rattle.swim_member.specs.declared.answer.Answer.{Answer}
use Rattle.swim_member.specs.declared.event.Event.{Event}
use Rattle.swim_member.specs.declared.settings.Settings.{Settings}
use Rattle.swim_member.specs.Judge.{wanted}
use Rattle.swim_member.specs.Fit.{AreAll, own_numbers_in}
use Rattle.swim_node.specs.declared.opening.TheConstants.{LIMIT_MAX}
use Rattle.swim_node.specs.declared.base.Base.{Base as Start}
use Rattle.swim_node.specs.declared.entering.Done.{Done}
use Rattle.swim_node.specs.declared.entry.Entry.{Entry}
use Rattle.swim_node.specs.declared.entry.Status.{Status}
use Rattle.swim_node.specs.declared.entry.Tag.{Tag}
use Rattle.swim_node.specs.declared.entry.Reply.{Reply}
use Rattle.swim_node.specs.declared.entry.Save.TheVariants.{Kept, Failed}
use Rattle.swim_node.specs.declared.fault.ApplyFault.{ApplyFault}
use Rattle.swim_node.specs.declared.fault.ApplyFault.TheVariants.{NoMemory, EraFull, OutOfTurn}
use Rattle.swim_node.specs.declared.fault.OpenFault.{OpenFault}
use Rattle.swim_node.specs.History.{Base, IsLegal, state_after, granted_of, calls_by, taken_in}
use Rattle.swim_node.specs.History.{lost_in}
use Rattle.swim_node.specs.Probing.{IsStart}
use Rattle.swim_node.specs.Replaying.{begin_fault}
use Rattle.swim_node.specs.Saving.{Grants, Fails, broken_after, ceiling_asked}
use Rattle.swim_node.specs.Peers.{NamesPeers, known_peers}
use Rattle.swim_node.specs.Sending.{HasTexts}
use Rattle.swim_node.specs.Owns.{owns, greatest_of, AreAtMost, AreAtLeast}

-- what a contract sees of a node
pub record NodeView (D : Type 0) : Type 0 where
  pub base : Base
  pub entries : List Entry
  pub disk : D
  pub owner : Owner
  pub first : ℕ  -- the number with which this life began
  pub peers : List ℕ  -- those that were saved with the ceiling
  pub broken : Bool  -- whether the last save that was tried failed

-- the state file of a node whose era has no entry yet, as a store
abbrev pub store_of : {D : Type 0} → NodeView D → StoreView D
store_of node = record {
  disk = node.disk;
  owner = node.owner;
  ceiling = node.base.granted;
  peers = node.peers;
  broken = node.broken;
}

-- a base, as the definitions take it
abbrev pub base_of : Start → Base
base_of b = record { state = b.state.value; granted = b.granted; past = b.past; limit = b.limit }

-- whose state file a member with these settings has
abbrev pub owner_of : Settings → Owner
owner_of settings = record { group = settings.group; me = settings.me }

-- the entry's caller is one of the sixteen
abbrev pub HasCaller : Entry → Type 0
HasCaller e = e.tag.caller < 16

-- how a node keeps itself
pub record IsNode (base : Base) (entries : List Entry) (first : ℕ) (s : State) (ceiling : ℕ)
    (top : Option ℕ) : Type 0 where
  pub legal : IsLegal base entries
  pub start : IsStart (state_after base [])
  pub reads : state_after base [] ≡ base.state
  pub begins : begin_fault base ≡ None  -- an era begins so
  pub member : state_after base entries ≡ s
  pub settings : s.settings ≡ base.state.settings
  pub granted : granted_of base entries ≡ ceiling
  pub low : s.number ≤ ceiling
  pub high : first ≤ s.number
  pub covers : AreAtMost ceiling (owns base entries)
  pub begun : AreAtLeast first (owns base entries)
  pub most : greatest_of (owns base entries) ≡ top
  pub texts : All HasTexts entries
  pub callers : All HasCaller entries
  pub short : base.limit ≤ LIMIT_MAX

-- the turn is the caller's next one
abbrev pub IsTurn : List Entry → Tag → Type 0
IsTurn entries tag = tag.turn ≡ length (calls_by tag.caller entries) + 1

-- the era has as many entries as its limit allows
abbrev pub IsFull : Base → List Entry → Type 0
IsFull base entries = length entries ≡ base.limit

-- when each refusal comes: the turn is judged first, then the era, then memory
abbrev pub Refused : Base → List Entry → Tag → ApplyFault → Type 0
Refused base entries tag OutOfTurn = ¬ (IsTurn entries tag)
Refused base entries tag EraFull = IsTurn entries tag × IsFull base entries
Refused base entries tag NoMemory = IsTurn entries tag × (length entries < base.limit)

-- the entries are these calls, in order
abbrev pub AreCalls : List (Tag × Event) → List Entry → Type 0
AreCalls [] [] = Unit {0}
AreCalls [] (e ∷ history) = ⊥
AreCalls (c ∷ calls) [] = ⊥
AreCalls (c ∷ calls) (e ∷ history) = (e.tag ≡ c.0) × (e.event ≡ c.1) × AreCalls calls history

-- these calls were entered, and no other
pub record Ran {D : Type 0} (old new : NodeView D) (calls : List (Tag × Event)) : Type 0 where
  pub added : List Entry
  pub entries : new.entries ≡ old.entries ++ added
  pub are : AreCalls calls added
  pub base : new.base ≡ old.base
  pub owner : new.owner ≡ old.owner
  pub first : new.first ≡ old.first

-- the disk of a node, or the one that a refused opening gives back
abbrev pub disk_of : {D : Type 0} → Result (NodeView D) (D × OpenFault) → D
disk_of (Ok node) = node.disk
disk_of (Err refused) = refused.0

-- what the caller is told of a call that did this, with the status after it
abbrev pub reply_with : Done → Answer → Status → Reply
reply_with done answer status = record {
  status = status;
  notes = answer.notes;
  page = answer.page;
  sent = taken_in done.outcomes.items;
  lost = lost_in done.outcomes.items;
}

-- the entry of a call that did this, with what the member answered and the status after it
abbrev pub entry_with : Tag → Event → Done → Answer → Status → Entry
entry_with tag event done answer status = record {
  tag = tag;
  event = event;
  granted = done.granted;
  save = done.save;
  outs = answer.outs;
  outcomes = done.outcomes;
  reply = reply_with done answer status;
}

-- one entry came: this caller's, with this event and this reply
pub record Added {D : Type 0} (keeps : Type 0) (state : D → DiskState) (old new : NodeView D)
    (tag : Tag) (event : Event) (reply : Reply) (e : Entry) : Type 0 where
  pub entries : new.entries ≡ old.entries ++ e ∷ []
  pub tag_is : e.tag ≡ tag
  pub event_is : e.event ≡ event
  pub reply_is : e.reply ≡ reply
  pub texts : HasTexts e
  pub kept : e.save ≡ Kept → new.disk ≡ old.disk
  pub broken : new.broken ≡ broken_after e.save old.broken
  pub grants : Grants keeps
      (ceiling_asked old.base.state.settings.block
      (wanted (state_after old.base old.entries) event))
      e.save old.broken (state old.disk) (state new.disk)
      (granted_of old.base old.entries) e.granted
  pub names : NamesPeers keeps (known_peers (state_after old.base old.entries)) e.save old.broken
      (state old.disk) (state new.disk) old.peers new.peers
  pub fails : Fails keeps e.save old.broken (state old.disk) (state new.disk)
  pub said : AreAll (state_after new.base new.entries).number
      (own_numbers_in new.base.state.settings.me e.outs.items)
  pub unsaved : e.save ≡ Failed
      → AreAll (state_after old.base old.entries).number
      (own_numbers_in old.base.state.settings.me e.outs.items)

-- the state after an era as the base of the next
abbrev pub next_base : Base → List Entry → Base
next_base base entries = record {
  state = state_after base entries;
  granted = granted_of base entries;
  past = greatest_of (owns base entries);
  limit = base.limit;
}

-- this base with another ceiling
abbrev pub granted_base : Base → ℕ → Base
granted_base base granted =
    record { state = base.state; granted = granted; past = base.past; limit = base.limit }
