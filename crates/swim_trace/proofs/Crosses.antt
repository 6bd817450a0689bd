-- What may go to another thread.
use denote.RattleType.{RattleType}
use denote.Param.Send.{IsSend, sendable, view_send, recorded_send, struct_send}
use denote.Struct.Declared.{shape}
use Rattle.http_server.proofs.log.Log.TheSendSync as log
use Rattle.swim_trace.specs.contracts.Trace as Trace
use Rattle.swim_trace.specs.contracts.Trace.TheInside as TraceInside

module _ (A : RattleType) (a : IsSend A) where
  pub Trace-send : IsSend (Trace.the_row A)
  Trace-send = view_send (TraceInside.the_row A) _ _ _ _ (recorded_send (TraceInside.the_field A).row _ _ (TraceInside.the_type A).to_one (struct_send (shape (TraceInside.the_type A)) (search (sendable, log.the_send), tt)))
