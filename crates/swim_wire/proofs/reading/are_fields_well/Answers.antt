use Rattle.swim_wire.specs.Faults.{SomeUpdate, HasReservedHead, HasNoSender, HasNoSubject}
use Rattle.swim_wire.specs.Updates.{HasReservedUpdate, HasNoMember}
use Rattle.std.proofs.Common.{◌⊎◌}
use Rattle.swim_wire.proofs.Order.{neither, none_of_fields, test_fails}
use Rattle.swim_wire.proofs.reading.are_fields_well.Goals as goal

pub returns : goal.returns
returns c well =
    let bytes = c.args.bytes.now in
    let updates = c.are_updates_well.ensures in
    let head = test_fails c.has_reserved_head.result (HasReservedHead bytes) c.has_reserved_head.ensures c.if-has_reserved_head.false in
    let sender = test_fails c.has_no_sender.result (HasNoSender bytes) c.has_no_sender.ensures c.if-has_no_sender.false in
    let subject = test_fails c.has_no_subject.result (HasNoSubject bytes) c.has_no_subject.ensures c.if-has_no_subject.false in
    let members = neither (HasNoSubject bytes) (SomeUpdate HasNoMember bytes) subject (updates.member well) in
    none_of_fields bytes c.requires.none
    (neither (HasReservedHead bytes) (SomeUpdate HasReservedUpdate bytes) head (updates.reserved well))
    (neither (HasNoSender bytes) (HasNoSubject bytes ⊎ SomeUpdate HasNoMember bytes) sender members)
    (updates.kind well) (updates.number well)
