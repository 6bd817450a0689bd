-- What a part of a step adds to the answer that is lent to it.
use Rattle.std.specs.Prelude.{◌≡◌, ℕ, ◌+◌, ◌<◌, ◌≤◌, List, ◌++◌, length, true}
use Rattle.std.specs.List.{list_all}
use Rattle.swim_member.specs.declared.answer.Answer.{Answer}
use Rattle.swim_member.specs.declared.answer.Out.{Out}
use Rattle.swim_member.specs.declared.answer.TheConstants.{OUTS_MAX, NOTES_MAX}
use Rattle.swim_member.specs.declared.note.Note.{Note}
use Rattle.swim_member.specs.State.{State}
use Rattle.swim_member.specs.Fit.{is_fit}

-- one more datagram and one more note find room
pub record HasRoom (answer : Answer) : Type 0 where
  pub outs : length answer.outs.items < OUTS_MAX
  pub notes : length answer.notes.items < NOTES_MAX

-- these datagrams, at most so many, and these notes are added, while the member comes from
-- one state to the next. What was fit to be sent before is so with what is added
pub record Adds (old new : State) (before now : Answer) (sent : List Out) (most : ℕ)
    (noted : List Note) : Type 0 where
  pub outs : now.outs.items ≡ before.outs.items ++ sent
  pub notes : now.notes.items ≡ before.notes.items ++ noted
  pub page : now.page ≡ before.page
  pub few : length now.outs.items ≤ length before.outs.items + most
  pub fit : list_all (is_fit old.settings.me old.number) before.outs.items ≡ true
      → list_all (is_fit new.settings.me new.number) now.outs.items ≡ true
