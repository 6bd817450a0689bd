-- What may go to another thread.
use denote.Param.Send.{IsSend, sendable, view_send, recorded_send, struct_send}
use denote.Struct.Declared.{shape}
use Rattle.std.proofs.Crossing.{crosses}
use Rattle.swim_member.specs.contracts.resume.MemberState as MemberState
use Rattle.swim_member.specs.contracts.resume.MemberState.TheInside as MemberStateInside
use Rattle.swim_node.specs.contracts.beginning.Beginning as Beginning
use Rattle.swim_node.specs.contracts.beginning.Beginning.TheInside as BeginningInside
use Rattle.swim_node.specs.contracts.era.Era as Era
use Rattle.swim_node.specs.contracts.era.Era.TheInside as EraInside
use Rattle.swim_node.proofs.Crosses.{Base-send}
use Rattle.swim_record.specs.contracts.begun.BegunEra as BegunEra
use Rattle.swim_record.specs.contracts.begun.BegunEra.TheInside as BegunEraInside
use Rattle.swim_record.specs.contracts.finished.Finished as Finished
use Rattle.swim_record.specs.contracts.finished.Finished.TheInside as FinishedInside

pub Era-send : IsSend Era.the_row
Era-send = view_send EraInside.the_row _ _ _ _ (recorded_send EraInside.the_field.row _ _ EraInside.the_type.to_one (struct_send (shape EraInside.the_type) (Base-send, (search (sendable, crosses) depth 60 fits 20000, tt))))

pub MemberState-send : IsSend MemberState.the_row
MemberState-send = search (sendable, crosses) depth 60 fits 20000

pub Beginning-send : IsSend Beginning.the_row
Beginning-send = view_send BeginningInside.the_row _ _ _ _ (recorded_send BeginningInside.the_field.row _ _ BeginningInside.the_type.to_one (struct_send (shape BeginningInside.the_type) (MemberState-send, (search sendable, (search (sendable, crosses) depth 20, (search sendable, tt))))))

pub BegunEra-send : IsSend BegunEra.the_row
BegunEra-send = view_send BegunEraInside.the_row _ _ _ _ (recorded_send BegunEraInside.the_field.row _ _ BegunEraInside.the_type.to_one (struct_send (shape BegunEraInside.the_type) (Beginning-send, (search (sendable, crosses) depth 20, tt))))

-- an era that ended
pub Finished-send : IsSend Finished.the_row
Finished-send = view_send FinishedInside.the_row _ _ _ _ (recorded_send FinishedInside.the_field.row _ _ FinishedInside.the_type.to_one (struct_send (shape FinishedInside.the_type) (BegunEra-send, (Era-send, tt))))
