-- What a sender hands on and tells.
use Rattle.std.specs.Prelude.{◌≡◌, ◌⊎◌, ℕ, ◌+◌, ◌-◌, ◌^◌, ◌<◌, min, List, [], ◌∷◌, ◌++◌}
use Rattle.swim_member.specs.declared.event.Event.{Event}
use Rattle.swim_member.specs.declared.event.Event.TheVariants.{SendFailed}
use Rattle.swim_node.specs.Link.{Fate, all_of, kept_of, lost_of}
use Rattle.swim_shell.specs.declared.caller.Refusal.{Refusal}
use Rattle.swim_shell.specs.declared.caller.Refusal.TheVariants as refusal
use Rattle.swim_shell.specs.Calls.{CallerView, NewCalls, Refuses}

-- what a contract sees of an outbox and its link: how often it was told to hand on; what it took
-- out
-- of the outbox, destination and bytes, in order; what the link took of that; how much the link
-- refused; and how many of these losses are owed, since no call has told them
pub record OutgoingView : Type 0 where
  pub turns : ℕ
  pub out : List (ℕ × List ℕ)
  pub took : List (ℕ × List ℕ)
  pub lost : ℕ
  pub owed : ℕ

-- these datagrams came out of the outbox and were handed to the link in order, which took or lost
-- each, as far as it tells
pub record Handed (tells : Type 0) (a b : OutgoingView) (fates : List Fate) : Type 0 where
  pub out : b.out ≡ a.out ++ all_of fates
  pub took : tells → b.took ≡ a.took ++ kept_of fates
  pub lost : b.lost ≡ a.lost + lost_of fates

-- one turn of handing on; what was lost is owed, as far as it can be counted
pub record HandsOn (tells : Type 0) (a b : OutgoingView) : Type 0 where
  pub fates : List Fate
  pub handed : Handed tells a b fates
  pub owes : b.owed ≡ min (a.owed + lost_of fates) (2 ^ 32 - 1)
  pub turns : b.turns ≡ a.turns + 1

-- the same with so many owed
abbrev pub with_owed : ℕ → OutgoingView → OutgoingView
with_owed owed a = record {
  turns = a.turns;
  out = a.out;
  took = a.took;
  lost = a.lost;
  owed =
      owed;
}

-- the events that tell these counts of losses
abbrev pub losses_of : List ℕ → List Event
losses_of [] = []
losses_of (c ∷ cs) = SendFailed c ∷ losses_of cs

-- how many losses these counts tell in all
abbrev pub told_in : List ℕ → ℕ
told_in [] = 0
told_in (c ∷ cs) = c + told_in cs

-- less than can be counted
abbrev pub AreLow : List ℕ → Type 0
AreLow [] = Unit {0}
AreLow (c ∷ cs) = (c < 2 ^ 32 - 1) × AreLow cs

-- the turns of a sender: it handed on once a turn; its calls tell what was lost, and what was owed
-- before, as long as that can be counted; and after each turn it owes nothing
pub record Sending (tells : Type 0) (a : OutgoingView) (p : CallerView) (b : OutgoingView)
    (q : CallerView) (turns : ℕ)
    : Type 0 where
  pub fates : List Fate
  pub counts : List ℕ
  pub handed : Handed tells a b fates
  pub each : b.turns ≡ a.turns + turns
  pub calls : NewCalls p q (losses_of counts)
  pub told : AreLow counts → told_in counts + b.owed ≡ a.owed + lost_of fates
  pub settled : (b.owed ≡ 0) ⊎ ((turns ≡ 0) × (b.owed ≡ a.owed))

-- what is owed after a call that told so much was refused: an unread one may have told it
abbrev pub owed_after : Refusal → ℕ → ℕ
owed_after refusal.Unread count = 0
owed_after _ count = count

-- the last turn of a sender: it handed on, and the call that was to tell what it owed was refused
pub record TellsInVain (tells : Type 0) (limit : ℕ) (why : Refusal) (a : OutgoingView)
    (p : CallerView) (b : OutgoingView) (q : CallerView)
    : Type 0 where
  pub then : OutgoingView
  pub hands_on : HandsOn tells a then
  pub refused : Refuses limit why p q (SendFailed then.owed)
  pub left : b ≡ with_owed (owed_after why then.owed) then
