-- The new calls of a caller.
use Rattle.std.specs.Prelude.{◌≡◌, ℕ, Bool, true, List, [], ◌∷◌, ◌++◌, length}
use mathlib.Core.List.{IsPrefix}
use Rattle.swim_member.specs.declared.event.Event.{Event}
use Rattle.swim_node.specs.declared.entry.Entry.{Entry}
use Rattle.swim_node.specs.declared.entry.Reply.{Reply}
use Rattle.swim_node.specs.History.{calls_by}
use Rattle.swim_shell.specs.declared.caller.Refusal.{Refusal}
use Rattle.swim_shell.specs.declared.caller.Refusal.TheVariants as refusal

-- what a contract sees of a caller: which one it is, the history that it has seen, whether it can
-- see no more, and the events that it was to enter so far, in order, whatever became of them
pub record CallerView : Type 0 where
  pub caller : ℕ
  pub seen : List Entry
  pub spent : Bool
  pub asked : List Event

-- its own calls so far
abbrev pub calls_of : CallerView → List Entry
calls_of p = calls_by p.caller p.seen

-- the events of some calls, in order
abbrev pub events_of : List Entry → List Event
events_of [] = []
events_of (e ∷ es) = e.event ∷ events_of es

-- the caller saw new calls of its own, in order
pub record Gains (p q : CallerView) (entries : List Entry) : Type 0 where
  pub own : calls_by p.caller q.seen ≡ calls_by p.caller p.seen ++ entries
  pub caller : q.caller ≡ p.caller
  pub seen : IsPrefix p.seen q.seen

-- it was to enter these events, and its new calls are of them, in order
pub record NewCalls (p q : CallerView) (events : List Event) : Type 0 where
  pub entries : List Entry
  pub events_are : events_of entries ≡ events
  pub gains : Gains p q entries
  pub asked : q.asked ≡ p.asked ++ events

-- it was to enter this event; its one new call is of it, and was told this
pub record NewCall (p q : CallerView) (event : Event) (reply : Reply) : Type 0 where
  pub entry : Entry
  pub event_is : entry.event ≡ event
  pub reply_is : entry.reply ≡ reply
  pub gains : Gains p q (entry ∷ [])
  pub asked : q.asked ≡ p.asked ++ event ∷ []

-- what a refusal says: the caller has seen an era of so many entries, and so a full one; nothing
-- happened; or the caller can see no more
abbrev pub Because : ℕ → Refusal → CallerView → CallerView → Type 0
Because limit refusal.EraFull p q = length q.seen ≡ limit
Because limit refusal.Memory p q = q.seen ≡ p.seen
Because limit refusal.Unread p q = q.spent ≡ true

-- it was to enter this event, and saw no new call of its own; this is why
pub record Refuses (limit : ℕ) (why : Refusal) (p q : CallerView) (event : Event) : Type 0 where
  pub gains : Gains p q []
  pub asked : q.asked ≡ p.asked ++ event ∷ []
  pub because : Because limit why p q

-- it was to enter these events, and then one that was refused
pub record RefusesAfter (limit : ℕ) (why : Refusal) (p q : CallerView) (events : List Event)
    (last : Event)
    : Type 0 where
  pub then : CallerView
  pub calls : NewCalls p then events
  pub refused : Refuses limit why then q last
