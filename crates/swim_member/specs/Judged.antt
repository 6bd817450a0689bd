-- What a member makes of an event before it acts, with all that the act is about.
use Rattle.std.specs.Prelude.{ℕ, List, []}
use Rattle.swim_member.specs.declared.event.Event.{Event}
use Rattle.swim_member.specs.declared.judge.Judgement.{Judgement}
use Rattle.swim_member.specs.declared.own_number.OwnNumber.{OwnNumber}
use Rattle.swim_member.specs.declared.event.Event.TheVariants as event
use Rattle.swim_member.specs.declared.judge.Judgement.TheVariants as judgement
use Rattle.swim_member.specs.declared.note.Note as note
use Rattle.swim_wire.specs.declared.datagram.Datagram as datagram

-- what was made of an event
pub data Judged : Type 0 where
  Note : note.Note → Judged
  Tick : List ℕ → Judged  -- with the deal
  Datagram : datagram.Datagram → OwnNumber → Judged  -- with what it asks of the own number
  Join : ℕ → Judged
  Leave : Judged
  Members : ℕ → Judged

-- what a tick deals
abbrev pub deal_of : Event → List ℕ
deal_of (event.Tick deal) = deal
deal_of _ = []

-- what was made of an event, where its datagram was read into this place
abbrev pub judged_as : Event → datagram.Datagram → Judgement → Judged
judged_as e read (judgement.Note n) = Note n
judged_as e read judgement.Tick = Tick (deal_of e)
judged_as e read (judgement.Datagram own) = Datagram read own
judged_as e read (judgement.Join peer) = Join peer
judged_as e read judgement.Leave = Leave
judged_as e read (judgement.Members cursor) = Members cursor
