-- What may go to another thread.
use denote.RattleType.{RattleType}
use denote.Param.Send.{IsSend, sendable, view_send, recorded_send, struct_send}
use denote.Struct.Declared.{shape}
use Rattle.std.proofs.Crossing.{crosses}
use Rattle.swim_shared.specs.declared.name.Name as Name
use Rattle.swim_node.specs.declared.link.Link as Link
use Rattle.swim_shared.proofs.Crosses.{Sender-send}
use Rattle.swim_trace.proofs.Crosses.{Trace-send}
use Rattle.swim_serve.specs.contracts.outgoing.RingLink as RingLink
use Rattle.swim_serve.specs.contracts.outgoing.RingLink.TheInside as RingLinkInside

-- a ring and its link
module _ (N M : RattleType) (n : Name.Ghosts N.Denot) (m : Link.Ghosts M.Denot) (ns : IsSend N) (ms : IsSend M) where
  pub RingLink-send : IsSend (RingLink.the_row N M n m)
  RingLink-send = view_send (RingLinkInside.the_row N M n m) _ _ _ _ (recorded_send (RingLinkInside.the_field N M n m).row _ _ (RingLinkInside.the_type N M n m).to_one (struct_send (shape (RingLinkInside.the_type N M n m)) (search (sendable, Sender-send), (search sendable, (search (sendable, crosses, Trace-send) depth 60 fits 20000, (search (sendable, crosses) depth 20, tt))))))
