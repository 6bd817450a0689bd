-- What the workers of an era do, and what its journal has of them.
use Rattle.std.specs.Prelude.{◌≡◌, ◌⊎◌, ℕ, zero, suc, true, List, [], ◌∷◌, ◌++◌, Option}
use mathlib.Core.List.{IsPrefix}
use Rattle.logbook.specs.Pages.{Book}
use Rattle.rand_chacha.specs.ChaCha.{ChaCha}
use Rattle.swim_member.specs.declared.event.Event.{Event}
use Rattle.swim_member.specs.declared.event.Event.TheVariants.{SendFailed}
use Rattle.swim_node.specs.declared.entry.Entry.{Entry}
use Rattle.swim_node.specs.Link.{Fate, LinkId}
use Rattle.swim_disk.specs.Disk.{DiskState}
use Rattle.swim_member.specs.declared.settings.Settings.{Settings}
use Rattle.swim_node.specs.History.{Base, IsLegal, calls_by}
use Rattle.swim_node.specs.Lives.{Era, IsLiving, IsRaised, life_of}
use Rattle.swim_node.specs.Node.{NodeView, next_base}
use Rattle.swim_state.specs.declared.owner.Owner.{Owner}
use Rattle.swim_shared.specs.Moments.{CoversEra}
use Rattle.swim_shared.specs.Outboxes.{OutboxView, SenderView, owed_after}
use Rattle.swim_shared.specs.Parts.{PartsView}
use Rattle.swim_shared.specs.Passes.{PassView}
use Rattle.swim_shared.specs.Taken.{taken_of}
use Rattle.swim_shell.specs.declared.caller.Refusal.{Refusal}
use Rattle.swim_shell.specs.Calls.{CallerView, NewCalls, calls_of}
use Rattle.swim_shell.specs.Inbounds.{ReceiverView}
use Rattle.swim_shell.specs.Losses.{OutgoingView, Handed}
use Rattle.swim_serve.specs.declared.era.TheConstants.{CALLERS}
use Rattle.swim_serve.specs.declared.era_counts.EraCounts.{EraCounts}
use Rattle.swim_serve.specs.Desks.{DeskView, Tended}
use Rattle.swim_handle.specs.Views.{HasParts, new_caller}
use Rattle.swim_serve.specs.Views.{LinkView, RingView}
use Rattle.swim_serve.specs.Works.{EraEnds, LeftBy, Received, Sent, Ticked}

-- the parts of an era that begins, and the sender of its ring, are those that these ghost members
-- of a name tell of
pub record NamesParts {D : Type 0} (state : D → DiskState) (book : Book) (base : Base)
    (disk clock : ℕ) (owner : Owner) (first : ℕ) (link : LinkId) (start : List (ℕ × List ℕ))
    (parts : PartsView D OutboxView) (ring : SenderView)
    : Type 0 where
  pub book_is : parts.book ≡ book
  pub base_is : parts.node.base ≡ base
  pub disk_is : (state parts.node.disk).name ≡ disk
  pub clock_is : (state parts.node.disk).clock ≡ clock
  pub owner_is : parts.node.owner ≡ owner
  pub first_is : parts.node.first ≡ first
  pub link_is : parts.link.ring ≡ link
  pub start_is : parts.link.put ≡ start
  pub ring_is : link ≡ ring.ring
  pub nothing : start ≡ []
  pub callers : parts.callers ≡ CALLERS

-- what a contract sees of what a member works with from one era to the next: its receiver, the
-- generator of its ticks, its desk, its link, the losses that no call has told, what became of
-- its eras, and for how many ticks it waits before it ends once it is expelled, if it does
pub record OutsideView : Type 0 where
  pub receiver : ReceiverView
  pub ticker : ChaCha
  pub desk : DeskView
  pub link : LinkView
  pub owed : ℕ
  pub eras : EraCounts
  pub expelled_ends : Option ℕ

-- what is told first where so many losses are owed
abbrev pub owed_first : ℕ → List Event
owed_first zero = []
owed_first (suc n) = SendFailed (suc n) ∷ []

-- the journal has of this caller just the calls that it has seen, and one more at most where it
-- can see no more
abbrev pub HasCalls : List Entry → CallerView → Type 0
HasCalls journal q =
    (calls_by q.caller journal ≡ calls_of q)
    ⊎ ((q.spent ≡ true) × (last : Entry)
    × (calls_by q.caller journal ≡ calls_of q ++ last ∷ []))

-- what it has seen begins the journal, which has its calls
abbrev pub Knows : List Entry → CallerView → Type 0
Knows journal q = IsPrefix q.seen journal × HasCalls journal q

-- what a worker does between two of its states, with what its caller knows then, and how it ends
module _ {S E : Type 0} (does : S → CallerView → S → CallerView → Option E → Type 0) where
  -- a worker did so, and its calls are those of this pass
  abbrev pub ByPass : Base → S → CallerView → S → PassView → Option E → Type 0
  ByPass base = LeftBy does (HasParts base)

  -- a worker did so in an era that left this journal, which has its calls
  pub record Served (a : S) (p : CallerView) (b : S) (end : Option E) (journal : List Entry)
      : Type 0 where
    pub then : CallerView
    pub did : does a p b then end
    pub knows : Knows journal then

-- what a contract sees of a ring and its link, after so many turns
abbrev pub outgoing_of : ℕ → SenderView → LinkView → OutgoingView
outgoing_of turns ring link = record {
  turns = turns;
  out = ring.got;
  took = link.took;
  lost = link.lost;
  owed = ring.owed;
}

-- what was handed on so
abbrev pub handed_by : RingView → OutgoingView
handed_by r = outgoing_of r.turns r.ring r.link

-- first it was told what was owed, and then the sender worked, as far as its link tells
pub record SendsBy (tells : Type 0) (base : Base) (owed : ℕ) (ring : SenderView) (link : LinkView)
    (then : SenderView) (after : LinkView) (pass : PassView) (end : Option Refusal)
    : Type 0 where
  pub first : CallerView
  pub told : NewCalls (new_caller 2) first (owed_first owed)
  pub turns : ℕ
  pub by : ByPass (Sent tells base.limit) base (outgoing_of 0 ring link) first
      (outgoing_of turns then after) pass end

-- the same in an era that left this journal: all that its calls took for sending went to the link
-- in order, what was left at the end too; and so many losses are owed now
pub record Sends (tells : Type 0) (limit owed : ℕ) (ring : SenderView) (link after : LinkView)
    (end : Option Refusal) (owes : ℕ) (journal : List Entry)
    : Type 0 where
  pub first : CallerView
  pub told : NewCalls (new_caller 2) first (owed_first owed)
  pub then : OutgoingView
  pub served : Served (Sent tells limit) (outgoing_of 0 ring link) first then end journal
  pub fates : List Fate
  pub rest : Handed tells then (record {
    turns = then.turns;
    out = taken_of journal;
    took = after.took;
    lost = after.lost;
    owed = owes;
  }) fates
  pub owes_are : owes ≡ owed_after then.owed then.lost after.lost

-- what the workers of an era did that left this journal, from what it began with to what it left,
-- and how each of them ended: as far as the inbound and the link tell
pub record Serves (came tells : Type 0) (limit : ℕ) (ring : SenderView) (a b : OutsideView)
    (ends : EraEnds) (journal : List Entry)
    : Type 0 where
  pub receiver : Served (Received came limit) a.receiver (new_caller 0) b.receiver ends.receiver
      journal
  pub ticker : Served (Ticked limit) a.ticker (new_caller 1) b.ticker ends.ticker journal
  pub sender : Sends tells limit a.owed ring a.link b.link ends.sender b.owed journal
  pub control : Served (Tended limit) a.desk (new_caller 3) b.desk ends.control journal

-- the same by a new ring
abbrev pub ServesAnew : (came tells : Type 0) → ℕ → OutsideView → OutsideView → EraEnds
    → List Entry → Type 0
ServesAnew came tells limit a b ends journal =
    (ring : SenderView) × (ring.got ≡ []) × Serves came tells limit ring a b ends journal

-- a node after some calls of its era: the same life of the same owner, on the same disk, with a
-- journal that is a legal history; and no moment of them left less on that disk, after a crash,
-- than had been sent by then, if the disk keeps its model
pub record StaysIn {D : Type 0} (keeps : Type 0) (state : D → DiskState) (a b : NodeView D)
    : Type 0 where
  pub base : b.base ≡ a.base
  pub legal : IsLegal b.base b.entries
  pub disk : (state b.disk).name ≡ (state a.disk).name
  pub owner : b.owner ≡ a.owner
  pub first : b.first ≡ a.first
  pub covers : keeps
      → CoversEra (state b.disk) a.owner a.base (state a.disk).clock b.entries

-- whichever life goes on with the one node goes on with the other, and these eras of it more have
-- ended
abbrev pub LivesThrough : {D : Type 0} → (D → DiskState) → NodeView D → List Era → NodeView D
    → Type 0
LivesThrough {D} state a more b =
    (settings : Settings) → (limit : ℕ) → (opened : D) → (eras : List Era)
    → IsLiving state a.owner (life_of settings limit opened eras a)
    → IsLiving state b.owner (life_of settings limit opened (eras ++ more) b)

-- one era of a member, from its node as the era begins to that of the next one: its journal is a
-- legal history, which each worker's calls are of; it is an era of the node's life; and no moment
-- up to the next one left less on the disk, after a crash, than had been sent by then
pub record EraOf {D : Type 0} (keeps : Type 0) (state : D → DiskState) (a b : NodeView D)
    (era : Era)
    (serves : List Entry → Type 0)
    : Type 0 where
  pub base : era.base ≡ a.base
  pub legal : IsLegal era.base era.entries
  pub served : serves era.entries
  pub goes_on : IsRaised (next_base era.base era.entries) b.base
  pub disk : (state b.disk).name ≡ (state a.disk).name
  pub owner : b.owner ≡ a.owner
  pub first : b.first ≡ a.first
  pub life : LivesThrough state a (era ∷ []) b
  pub covers : keeps
      → CoversEra (state b.disk) a.owner a.base (state a.disk).clock era.entries
