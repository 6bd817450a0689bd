-- What a desk does with its caller.
use Rattle.std.specs.Prelude.{◌≡◌, ◌≢◌, ℕ, Bool, List, [], ◌∷◌, ◌++◌, ◌⊎◌, Option, Some, None}
use Rattle.swim_shell.specs.declared.caller.Refusal.{Refusal}
use Rattle.swim_shell.specs.declared.conversation.ControlEnd.{ControlEnd}
use Rattle.swim_shell.specs.declared.conversation.ControlEnd.TheVariants as ends
use Rattle.swim_shell.specs.Calls.{CallerView}
use Rattle.swim_join.specs.declared.intervals.Intervals.{Intervals}
use Rattle.swim_join.specs.Joins.{JoinerView, IsRelisted}
use Rattle.swim_join.specs.Turns.{Turned, TurnedInVain}
use Rattle.swim_shell.specs.Views.{ConversationView}
use Rattle.swim_shell.specs.Control.{Converses, ConversedBy, IsTold}
use Rattle.swim_serve.specs.Works.{Worked}

-- what a contract sees of a desk: its joiner, the conversation that has the turns, and those that
-- are open beside it, the next one first; to how many of them in a row nothing had come; and
-- whether what the line `reload` of one of them asks for is being made ready
pub record DeskView : Type 0 where
  pub joiner : JoinerView
  pub conversation : Option ConversationView
  pub others : List ConversationView
  pub silent : ℕ
  pub preparing : Bool

-- what a desk does next: its joiner has a turn, after which it is so; a conversation is opened, or
-- the next one goes on; and the one that has the turns stands aside after so many of them, or comes
-- to its end
pub data Step : Type 0 where
  Joining : JoinerView → Step
  Opening : ConversationView → Step
  Resuming : ConversationView → Step
  Pausing : ConversationView → (turns : ℕ) → Step
  Shutdown : ConversationView → ControlEnd → (turns : ℕ) → Step

-- the end of the connection alone
abbrev pub OfConnection : ControlEnd → Type 0
OfConnection ends.Closed = Unit {0}
OfConnection ends.ReadFault = Unit {0}
OfConnection ends.WriteFault = Unit {0}
OfConnection ends.Asked = ⊥
OfConnection ends.EraAsked = ⊥
OfConnection ends.Reloading = ⊥
OfConnection (ends.Refused why) = ⊥

-- the end of the desk's worker
abbrev pub OfMember : ControlEnd → Type 0
OfMember ends.Closed = ⊥
OfMember ends.ReadFault = ⊥
OfMember ends.WriteFault = ⊥
OfMember ends.Asked = Unit {0}
OfMember ends.EraAsked = Unit {0}
OfMember ends.Reloading = Unit {0}
OfMember (ends.Refused why) = Unit {0}

-- of a connection that is new nothing was heard, and nothing is left to write
pub record IsNew (c : ConversationView) : Type 0 where
  pub kept : c.kept ≡ []
  pub left : c.left ≡ []
  pub due : c.due ≡ None

-- the conversation whose turn is next: a new one, or the first of the others
abbrev pub IsTurnIn : ConversationView → List ConversationView → List ConversationView → Type 0
IsTurnIn c os us = (IsNew c × (us ≡ os)) ⊎ (os ≡ c ∷ us)

-- of a caller whose era has room for so many calls
module _ (limit : ℕ) where
  -- these steps, one after another, from this joiner, this conversation and these others: the
  -- joiner has a turn, and a conversation is opened or goes on, only where none has the turns; one
  -- that stands aside is the last of the others, as it is then
  abbrev pub Steps : JoinerView → Option ConversationView → List ConversationView → CallerView
      → List Step → JoinerView → Option ConversationView → List ConversationView → CallerView
      → Type 0
  Steps j from os p [] k to us q = (k ≡ j) × (to ≡ from) × (us ≡ os) × (q ≡ p)
  Steps j from os p (Joining i ∷ ss) k to us q =
      (from ≡ None) × (then : CallerView) × Turned j p i then × Steps i None os then ss k to us q
  Steps j from os p (Opening c ∷ ss) k to us q =
      (from ≡ None) × IsNew c × Steps j (Some c) os p ss k to us q
  Steps j from os p (Resuming c ∷ ss) k to us q =
      (from ≡ None) × (rest : List ConversationView) × (os ≡ c ∷ rest)
      × Steps j (Some c) rest p ss k to us q
  Steps j from os p (Pausing d n ∷ ss) k to us q =
      (c : ConversationView) × (then : CallerView) × (from ≡ Some c)
      × Converses limit c p d then n × Steps j None (os ++ d ∷ []) then ss k to us q
  Steps j from os p (Shutdown d end n ∷ ss) k to us q =
      (c : ConversationView) × (then : CallerView) × (from ≡ Some c) × OfConnection end
      × ConversedBy end limit c p d then n × Steps j None os then ss k to us q

  -- the conversation that got the turns has had some since
  abbrev pub IsOpen : Option ConversationView → CallerView → Option ConversationView → CallerView
      → Type 0
  IsOpen None then now q = (now ≡ None) × (q ≡ then)
  IsOpen (Some c) then now q =
      (d : ConversationView) × (n : ℕ) × (now ≡ Some d) × Converses limit c then d q n

  -- the turns of a desk: all calls are the joiner's or of conversations, one at a time, and those
  -- that were open at the start go on
  pub record Tending (a : DeskView) (p : CallerView) (b : DeskView) (q : CallerView) (turns : ℕ)
      : Type 0 where
    pub steps : List Step
    pub since : Option ConversationView
    pub then : CallerView
    pub done : Steps a.joiner a.conversation a.others p steps b.joiner since b.others then
    pub goes_on : IsOpen since then b.conversation q

  -- how a desk ends: a call of its joiner was refused, or what it sees to beside its connections
  -- asked for the end of the era, or the open conversation ended so
  abbrev pub EndsDesk : ControlEnd → JoinerView → Option ConversationView → CallerView
      → JoinerView → Option ConversationView → CallerView → Type 0
  EndsDesk end j None then k now q =
      (now ≡ None) × (((why : Refusal) × (end ≡ ends.Refused why)
      × TurnedInVain limit why j then k q)
      ⊎ ((end ≡ ends.EraAsked) × (k ≡ j) × (q ≡ then)))
  EndsDesk end j (Some c) then k now q =
      (k ≡ j) × (d : ConversationView) × (n : ℕ) × (now ≡ Some d) × OfMember end
      × ConversedBy end limit c then d q n

  -- the turns of a desk that ended so; the conversation that ended it keeps the turns
  pub record TendedBy (end : ControlEnd) (a : DeskView) (p : CallerView) (b : DeskView)
      (q : CallerView) (turns : ℕ)
      : Type 0 where
    pub steps : List Step
    pub joiner : JoinerView
    pub since : Option ConversationView
    pub then : CallerView
    pub done : Steps a.joiner a.conversation a.others p steps joiner since b.others then
    pub ends_by : EndsDesk end joiner since then b.joiner b.conversation q

  -- a desk had some turns, and the last of them ended it so, if one did
  abbrev pub Tended : DeskView → CallerView → DeskView → CallerView → Option ControlEnd → Type 0
  Tended = Worked Tending TendedBy

  -- ---- a part of a turn

  -- a conversation has the turns now and had none yet; or none has them, and the others are the
  -- same
  abbrev pub Opens : CallerView → List ConversationView → Option ConversationView
      → List ConversationView → Type 0
  Opens p os None us = us ≡ os
  Opens p os (Some c) us =
      (first : ConversationView) × IsTurnIn first os us × Converses limit first p c p 0

-- whom the joiner joins is the same, or, if it ever changes, it joins other peers by other
-- intervals
abbrev pub MayRelist : Type 0 → JoinerView → JoinerView → Type 0
MayRelist relists j k =
    (k ≡ j) ⊎ (relists × (peers : List ℕ) × (intervals : Intervals)
    × IsRelisted peers intervals j k)

-- the conversation has the answer to its line to write, where nothing was left to write
pub record IsAnswered (a b : ConversationView) : Type 0 where
  pub told : a.left ≡ [] → (text : List ℕ) × IsTold text a b
  pub busy : a.left ≢ [] → b ≡ a

-- so has the one that has the turns, if there is one
abbrev pub HasAnswer : Option ConversationView → Option ConversationView → Type 0
HasAnswer None now = now ≡ None
HasAnswer (Some a) now = (b : ConversationView) × (now ≡ Some b) × IsAnswered a b

-- the one that ended an era by the line `reload` has its answer to write
abbrev pub AnswersLine : Option ControlEnd → Option ConversationView → Option ConversationView
    → Type 0
AnswersLine (Some ends.Reloading) before now = HasAnswer before now
AnswersLine _ before now = now ≡ before

-- the host of a member was asked after an era whose control ended so: whom the joiner joins may
-- have changed, and the line `reload` has its answer
pub record IsHosted (relists : Type 0) (end : Option ControlEnd) (a b : DeskView) : Type 0 where
  pub joiner : MayRelist relists a.joiner b.joiner
  pub conversation : AnswersLine end a.conversation b.conversation
  pub others : b.others ≡ a.others
