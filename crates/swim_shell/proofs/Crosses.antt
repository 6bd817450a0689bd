-- What may go to another thread.
use denote.RattleType.{RattleType}
use denote.Param.Send.{IsSend, sendable, view_send, recorded_send, struct_send}
use denote.Struct.Declared.{shape}
use Rattle.std.proofs.Crossing.{crosses}
use Rattle.swim_shell.specs.declared.inbound.Inbound as Inbound
use Rattle.swim_shell.specs.contracts.receiver.Receiver as Receiver
use Rattle.swim_shell.specs.contracts.receiver.Receiver.TheInside as ReceiverInside
use Rattle.swim_shell.specs.contracts.ticker.Ticker as Ticker
use Rattle.swim_shell.specs.contracts.ticker.Ticker.TheInside as TickerInside

module _ (I : RattleType) (i : Inbound.Ghosts I.Denot) (is : IsSend I) where
  pub Receiver-send : IsSend (Receiver.the_row I i)
  Receiver-send = view_send (ReceiverInside.the_row I i) _ _ _ _ (recorded_send (ReceiverInside.the_field I i).row _ _ (ReceiverInside.the_type I i).to_one (struct_send (shape (ReceiverInside.the_type I i)) (search sendable, (search sendable, (search (sendable, crosses) depth 60 fits 20000, tt)))))

pub Ticker-send : IsSend Ticker.the_row
Ticker-send = view_send TickerInside.the_row _ _ _ _ (recorded_send TickerInside.the_field.row _ _ TickerInside.the_type.to_one (struct_send (shape TickerInside.the_type) (search (sendable, crosses) depth 60 fits 20000, tt)))
