-- What may go to another thread.
use denote.RattleType.{RattleType}
use denote.Ref.{NamedLft}
use denote.Param.Send.{IsSend, IsSync, sendable, view_send, recorded_send, struct_send}
use denote.Struct.Declared.{shape}
use Rattle.std.proofs.Crossing.{crosses}
use Rattle.swim_shared.specs.declared.name.Name as Name
use Rattle.swim_disk.specs.declared.disk.Disk as Disk
use Rattle.log.specs.declared.logger.Log as Log
use Rattle.swim_node.specs.declared.link.Link as Link
use Rattle.swim_shared.proofs.Crosses.{Shared-sync, Pass-send}
use Rattle.swim_trace.specs.contracts.Trace as Trace
use Rattle.swim_trace.proofs.Crosses.{Trace-send}
use Rattle.swim_member.specs.contracts.event.Event as Event
use Rattle.swim_handle.specs.contracts.board.CounterRow as CounterRow
use Rattle.swim_handle.specs.contracts.call_log.CallLog as CallLog
use Rattle.swim_handle.specs.contracts.handle.Handle as Handle
use Rattle.swim_handle.specs.contracts.handle.Handle.TheInside as HandleInside
use Rattle.swim_handle.specs.contracts.note_log.NoteLog as NoteLog
use Rattle.swim_handle.specs.contracts.pace.Pace as Pace

pub NoteLog-field-send : IsSend NoteLog.the_field.row
NoteLog-field-send = search (sendable, crosses) depth 60 fits 20000

pub CallLog-field-send : IsSend CallLog.the_field.row
CallLog-field-send = search (sendable, crosses, NoteLog-field-send) depth 60 fits 20000

-- a row is read while its worker writes there
pub CounterRow-sync : IsSync CounterRow.the_row
CounterRow-sync = search (sendable, crosses) depth 60 fits 20000

-- any of the workers ends the era
pub Pace-sync : IsSync Pace.the_row
Pace-sync = search (sendable, crosses) depth 60 fits 20000

-- the events that a caller was to enter
pub asked-send : IsSend (Trace.the_row Event.the_row)
asked-send = Trace-send Event.the_row (search (sendable, crosses) depth 60 fits 20000)

-- a caller of a shared member
module _ (x : NamedLft) (N D L R W : RattleType) (n : Name.Ghosts N.Denot) (d : Disk.Ghosts D.Denot) (l : Link.Ghosts L.Denot) (g : Log.Ghosts W.Denot) (ns : IsSend N) (ds : IsSend D) (ls : IsSend L) (rs : IsSend R) (ws : IsSync W) where
  pub Handle-send : IsSend (Handle.the_row x N D L R W n d l g)
  Handle-send = view_send (HandleInside.the_row x N D L R W n d l g) _ _ _ _ (recorded_send (HandleInside.the_field x N D L R W n d l g).row _ _ (HandleInside.the_type x N D L R W n d l g).to_one (struct_send (shape (HandleInside.the_type x N D L R W n d l g)) (search sendable, (search (sendable, Shared-sync), (search (sendable, Pace-sync), (search (sendable, Pass-send), (search (sendable, CounterRow-sync), (search (sendable, CallLog-field-send), (search sendable, (search (sendable, asked-send), tt))))))))))
