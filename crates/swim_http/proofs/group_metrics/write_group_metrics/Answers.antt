use Rattle.std.proofs.Common.{◌++◌}
use Rattle.std.proofs.lemmas.Result.{on_ok_weaker}
use Rattle.swim_http.specs.Groups.{family_text}
use Rattle.swim_http.specs.declared.group_metrics.Family.TheVariants as family
use Rattle.swim_http.proofs.Texts.{and_then}
use Rattle.swim_http.proofs.group_metrics.write_group_metrics.Goals as goal

-- one metric behind the other
pub returns : goal.returns
returns c =
    let groups = c.args.groups.now in
    let old = c.args.text.now.bytes.items in
    let one = c.write_family.new.text.bytes.items in
    let two = c.write_family-2.new.text.bytes.items in
    let three = c.write_family-3.new.text.bytes.items in
    let four = c.write_family-4.new.text.bytes.items in
    let five = c.write_family-5.new.text.bytes.items in
    let six = c.write_family-6.new.text.bytes.items in
    let up = family_text family.Up groups in
    let quiet = family_text family.Quiet groups in
    let kinds = family_text family.Kinds groups in
    let states = family_text family.States groups in
    let info = family_text family.Info groups in
    let alone = family_text family.Alone groups in
    on_ok_weaker c.write_family-6.result
    (λ last.
    and_then old up one (quiet ++ (kinds ++ (states ++ (info ++ alone)))) six c.in_ok-write_family.ensures
    (and_then one quiet two (kinds ++ (states ++ (info ++ alone))) six c.in_ok-write_family-2.ensures
    (and_then two kinds three (states ++ (info ++ alone)) six c.in_ok-write_family-3.ensures
    (and_then three states four (info ++ alone) six c.in_ok-write_family-4.ensures
    (and_then four info five alone six c.in_ok-write_family-5.ensures last)))))
    c.write_family-6.ensures
