-- What a pass has seen, and what a call does to it.
use Rattle.std.specs.Prelude.{◌≡◌, ◌⊎◌, ◌<◌, ℕ, zero, suc, ◌+◌, Bool, true, false}
use Rattle.std.specs.Prelude.{List, [], ◌∷◌, ◌++◌, length}
use mathlib.Core.List.{IsPrefix}
use Rattle.logbook.specs.Pages.{Book}
use Rattle.swim_member.specs.declared.event.Event.{Event}
use Rattle.swim_node.specs.declared.entry.Tag.{Tag}
use Rattle.swim_node.specs.declared.entry.Reply.{Reply}
use Rattle.swim_node.specs.declared.entry.Entry.{Entry}
use Rattle.swim_node.specs.History.{Base, calls_by, IsLegal}

-- a beginning of the history of this book, as it is seen
pub record Sight : Type 0 where
  pub book : Book
  pub entries : List Entry

-- these entries begin the history of this book
abbrev pub sight : Book → List Entry → Sight
sight book entries = record { book = book; entries = entries }

-- what a contract sees of a pass
pub record PassView : Type 0 where
  pub caller : ℕ
  pub calls : ℕ
  pub seen : List Entry
  pub spent : Bool

-- a pass of this caller that made so many calls, and has seen this
abbrev pub pass_of : ℕ → ℕ → Sight → Bool → PassView
pass_of caller calls sight spent = record {
  caller = caller;
  calls = calls;
  seen = sight.entries;
  spent = spent;
}

-- a pass that has made no call
abbrev pub new_pass : ℕ → PassView
new_pass caller = record { caller = caller; calls = 0; seen = []; spent = false }

-- the passes of callers 0 to n - 1
abbrev pub new_passes : ℕ → List PassView
new_passes zero = []
new_passes (suc n) = new_passes n ++ new_pass n ∷ []

-- so many watches that have seen nothing
abbrev pub new_watches : ℕ → List (List Entry)
new_watches zero = []
new_watches (suc n) = new_watches n ++ [] ∷ []

-- the pass's own calls are those in its list, and one more at most where it is spent
abbrev pub Counted : PassView → Type 0
Counted p =
    (p.calls ≡ length (calls_by p.caller p.seen))
    ⊎ ((p.spent ≡ true) × (p.calls ≡ length (calls_by p.caller p.seen) + 1))

-- what a pass keeps: its list is legal from the base, and has just the calls that it counts
pub record IsPass (base : Base) (p : PassView) : Type 0 where
  pub legal : IsLegal base p.seen
  pub counted : Counted p
  pub low : p.caller < 16

-- a pass keeps itself, and what it has seen is of this book
abbrev pub Reads : Book → Base → Sight → PassView → Type 0
Reads book base sight p = (sight.book ≡ book) × IsPass base p

-- the entry of a call with this tag and this event, which was told this reply
pub record Answers (tag : Tag) (event : Event) (reply : Reply) (e : Entry) : Type 0 where
  pub tag_is : e.tag ≡ tag
  pub event_is : e.event ≡ event
  pub reply_is : e.reply ≡ reply

-- the tag of the next call of a pass
abbrev pub tag_of : PassView → Tag
tag_of p = record { caller = p.caller; turn = p.calls + 1 }

-- the pass read its call back: its list goes on, and ends with the call, which is the only new one
-- of this caller
pub record Called (base : Base) (p : PassView) (event : Event) (reply : Reply) (q : PassView)
    : Type 0 where
  pub entry : Entry
  pub between : List Entry
  pub seen : q.seen ≡ (p.seen ++ between) ++ entry ∷ []
  pub legal : IsLegal base q.seen
  pub caller : q.caller ≡ p.caller
  pub answers : Answers (tag_of p) event reply entry
  pub own : calls_by p.caller q.seen ≡ calls_by p.caller p.seen ++ entry ∷ []
  pub calls : q.calls ≡ p.calls + 1
  pub spent : q.spent ≡ false

-- the era is full, and the pass has read all of it
pub record FullFor (base : Base) (p q : PassView) : Type 0 where
  pub seen : IsPrefix p.seen q.seen
  pub legal : IsLegal base q.seen
  pub full : length q.seen ≡ base.limit
  pub own : calls_by p.caller q.seen ≡ calls_by p.caller p.seen
  pub caller : q.caller ≡ p.caller
  pub calls : q.calls ≡ p.calls
  pub spent : q.spent ≡ false

-- the pass could not read back
pub record Unseen (p q : PassView) : Type 0 where
  pub seen : q.seen ≡ p.seen
  pub caller : q.caller ≡ p.caller
  pub spent : q.spent ≡ true
  pub calls : (q.calls ≡ p.calls) ⊎ (q.calls ≡ p.calls + 1)

-- the journal ends with a call of this pass, and goes on behind what it had seen
pub record Added (p : PassView) (event : Event) (reply : Reply) (journal : List Entry)
    : Type 0 where
  pub entry : Entry
  pub before : List Entry
  pub now : journal ≡ before ++ entry ∷ []
  pub seen : IsPrefix p.seen before
  pub answers : Answers (tag_of p) event reply entry
  pub turn : length (calls_by p.caller before) ≡ p.calls

-- the same of some event and some reply
pub record HasAdded (p : PassView) (journal : List Entry) : Type 0 where
  pub event : Event
  pub reply : Reply
  pub added : Added p event reply journal

-- the journal goes on behind what the pass has seen, with no further call of it
pub record Ahead (p : PassView) (journal : List Entry) : Type 0 where
  pub seen : IsPrefix p.seen journal
  pub turn : length (calls_by p.caller journal) ≡ p.calls
