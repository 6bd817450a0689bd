-- What a call does to a member that runs.
use Rattle.std.specs.Prelude.{◌≡◌, ◌⊎◌, ◌+◌, List, [], ◌∷◌, ◌++◌, false, map, ℕ}
use Rattle.swim_disk.specs.File.{FileView, file_state}
use Rattle.swim_rules.specs.Deals.{deal_from}
use Rattle.swim_member.specs.Events.{DealIsOfNoMatter}
use Rattle.swim_member.specs.Probe.{ends_period}
use Rattle.swim_member.specs.declared.event.Event.{Event}
use Rattle.swim_member.specs.declared.event.Event.TheVariants.{Tick}
use Rattle.swim_node.specs.declared.entry.Entry.{Entry}
use Rattle.swim_node.specs.declared.entry.Reply.{Reply}
use Rattle.swim_node.specs.History.{IsLegal, granted_of, state_after, steps}
use Rattle.swim_member.specs.declared.settings.Settings.{Settings}
use Rattle.swim_node.specs.Lives.{EndsEra, Era, GoesOn, IsLiving, MayEnd, life_of}
use Rattle.swim_node.specs.Node.{NodeView, next_base}
use Rattle.swim_node.specs.Peers.{known_peers}
use Rattle.swim_node.specs.Sending.{taken_by}
use Rattle.swim_state.specs.Held.{Covers, HasPeers, Through}
use Rattle.swim_state.specs.declared.fault.SaveFault.TheVariants.{Device, Exhausted}
use Rattle.swim_wire.specs.declared.update.TheConstants.{NUMBER_MAX}
use Rattle.swim_library.specs.Outbox.{waiting_in}
use Rattle.swim_library.specs.Shapes.{endpoint_as, row_as}
use Rattle.swim_library.specs.declared.refusal.Refusal.{Refusal}
use Rattle.swim_library.specs.declared.refusal.Refusal.TheVariants as why
use Rattle.swim_library.specs.declared.running.Running.{Running}
use Rattle.swim_library.specs.declared.shapes.SwimEndpoint.{SwimEndpoint}
use Rattle.swim_library.specs.declared.shapes.SwimRow.{SwimRow}

-- the era goes on as it is, or it has ended and the next one began; and so the life goes on
abbrev pub MayEndEra : NodeView FileView → NodeView FileView → Type 0
MayEndEra old new =
    ((new.base ≡ old.base) × (new.entries ≡ old.entries) × GoesOn file_state old new)
    ⊎ ((new.base ≡ next_base old.base old.entries) × (new.entries ≡ [])
    × EndsEra file_state old new)

-- the life goes on, with one ended era more: that of a node, which this entry filled
abbrev pub EndsFilled : NodeView FileView → Entry → NodeView FileView → Type 0
EndsFilled old e new = (settings : Settings) → (limit : ℕ) → (opened : FileView)
    → (eras : List Era)
    → IsLiving file_state old.owner (life_of settings limit opened eras old)
    → IsLiving file_state new.owner (life_of settings limit opened
    (eras ++ (record { base = old.base; entries = old.entries ++ e ∷ [] }) ∷ []) new)

-- no moment of the call left less on the disk, after a crash, than had been granted before it, and
-- as it is now the life may end: a kill here leaves one that was lived
pub record KeepsHeld (old new : NodeView FileView) : Type 0 where
  pub moments : Through (Covers old.owner (granted_of old.base old.entries))
      (file_state old.disk) (file_state new.disk)
  pub ends : MayEnd file_state new

-- the node made one call, with this event: this is its entry, and what was sent of it, and no more,
-- waits too
pub record CallsNode (old new : NodeView FileView) (waited waits : List (ℕ × List ℕ))
    (event : Event) : Type 0 where
  pub entry : Entry
  pub event_is : entry.event ≡ event
  pub base : new.base ≡ old.base
  pub entries : new.entries ≡ old.entries ++ entry ∷ []
  pub waits_are : waits ≡ waited ++ taken_by entry.outs.items entry.outcomes.items
  pub owner : new.owner ≡ old.owner
  pub first : new.first ≡ old.first
  pub lives : GoesOn file_state old new
  pub moments : Through (Covers old.owner (granted_of old.base old.entries))
      (file_state old.disk) (file_state new.disk)

-- the entry is the last of the era, or it filled it, and the next era began; and so the life goes
-- on
abbrev pub GoesInto : NodeView FileView → NodeView FileView → Entry → Type 0
GoesInto old new e = ((new.base ≡ old.base) × (new.entries ≡ old.entries ++ e ∷ [])
    × GoesOn file_state old new)
    ⊎ ((new.base ≡ next_base old.base (old.entries ++ e ∷ [])) × (new.entries ≡ [])
    × EndsFilled old e new)

-- one call of the node, with this event and this reply: what it sent, and no more, waits too; what
-- was told of members stays
pub record AddsTo (old new : Running) (event : Event) (reply : Reply) : Type 0 where
  pub entry : Entry
  pub event_is : entry.event ≡ event
  pub reply_is : entry.reply ≡ reply
  pub legal : IsLegal old.node.base (old.node.entries ++ entry ∷ [])
  pub era : GoesInto old.node new.node entry
  pub waits : waiting_in new.outbox
      ≡ waiting_in old.outbox ++ taken_by entry.outs.items entry.outcomes.items
  pub told : new.told ≡ old.told
  pub due : new.due ≡ old.due
  pub seeking : new.seeking ≡ old.seeking
  pub owner : new.node.owner ≡ old.node.owner
  pub first : new.node.first ≡ old.node.first
  pub held : KeepsHeld old.node new.node

-- the event was entered: what it sent is all that waits
pub record EntersEvent (old new : Running) (event : Event) : Type 0 where
  pub reply : Reply
  pub adds : AddsTo old new event reply
  pub empty : waiting_in old.outbox ≡ []
  pub notes : new.notes ≡ reply.notes

-- A tick was entered that deals these numbers. Unless it ends a period they are 0 to 255 in
-- order, and with any others the answer would be the same, and so would the next state.
pub record EntersTick (old new : Running) (numbers : List ℕ) : Type 0 where
  pub enters : EntersEvent old new (Tick numbers)
  pub undrawn : ends_period (state_after old.node.base old.node.entries) ≡ false
      → (numbers ≡ deal_from 0)
      × DealIsOfNoMatter old.node.base.state (steps old.node.entries)

-- the first datagram that waited goes there, with these bytes, and the others still wait
pub record Hands (old new : Running) (to : SwimEndpoint) (bytes : List ℕ) : Type 0 where
  pub who : ℕ
  pub first : waiting_in old.outbox ≡ (who, bytes) ∷ waiting_in new.outbox
  pub to_is : to ≡ endpoint_as who
  pub node : new.node ≡ old.node
  pub notes : new.notes ≡ old.notes
  pub told : new.told ≡ old.told
  pub due : new.due ≡ old.due
  pub seeking : new.seeking ≡ old.seeking

-- these rows are those of the page that was answered
pub record ShowsRows (old new : Running) (event : Event) (rows : List SwimRow) : Type 0 where
  pub reply : Reply
  pub adds : AddsTo old new event reply
  pub rows_are : rows ≡ map row_as reply.page.items

-- the member goes on, with what waits, its notes, and what it has told
pub record GoesOnOpen (old new : Running) : Type 0 where
  pub outbox : new.outbox ≡ old.outbox
  pub notes : new.notes ≡ old.notes
  pub told : new.told ≡ old.told
  pub due : new.due ≡ old.due
  pub seeking : new.seeking ≡ old.seeking
  pub owner : new.node.owner ≡ old.node.owner
  pub first : new.node.first ≡ old.node.first
  pub lives : GoesOn file_state old.node new.node ⊎ EndsEra file_state old.node new.node
  pub held : KeepsHeld old.node new.node

-- the peers that it knows are saved, and a crash leaves them
pub record SavesPeers (new : NodeView FileView) : Type 0 where
  pub peers : new.peers ≡ known_peers (state_after new.base new.entries)
  pub named : HasPeers (file_state new.disk) new.peers

-- they were not saved, and this is told: that a call on the file failed, or that there is no number
-- left, and none did; never anything else
abbrev pub RefusesPeers : NodeView FileView → NodeView FileView → Refusal → Type 0
RefusesPeers old new (why.Keeping Device) =
    (file_state new.disk).failures ≡ (file_state old.disk).failures + 1
RefusesPeers old new (why.Keeping Exhausted) =
    ((file_state new.disk).failures ≡ (file_state old.disk).failures)
    × (new.base.granted ≡ NUMBER_MAX)
RefusesPeers old new _ = ⊥
