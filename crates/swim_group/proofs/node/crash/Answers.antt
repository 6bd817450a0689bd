use Rattle.std.proofs.Common.{subst, sym, ap, ◌∙◌}
use Rattle.std.proofs.lemmas.Result.{IfOk-weaker, IfErr-weaker}
use Rattle.swim_disk.specs.Choice.{left_by}
use Rattle.swim_disk.specs.Disk.{IsSettled}
use Rattle.swim_disk.specs.Fault.{inner_of}
use Rattle.swim_disk.specs.MemDisk as memory
use Rattle.swim_disk.specs.declared.mem.MemDisk.{MemDisk}
use Rattle.swim_state.specs.declared.owner.Owner.{Owner}
use Rattle.swim_state.specs.Held.{Held}
use Rattle.swim_node.specs.History.{granted_of}
use Rattle.swim_group.specs.RealNodes.{IsLeftBy, NodeDisk, node_disk_state}
use Rattle.swim_group.proofs.Calling.{crashed-moves}
use Rattle.swim_group.proofs.Refusing.{held-left}
use Rattle.swim_group.proofs.node.crash.Goals as goal

module _ (c : goal.After-open_again) where
  -- what is left is one of the images of the disk that was taken from the node
  image : (node_disk_state c.into_disk-disk.result).images (node_disk_state c.replace.new.self).content
  image =
      subst (λ (m : MemDisk). (memory.state_of m).images (node_disk_state c.replace.new.self).content) c.replace-before.ensures.old
      (subst (λ (m : MemDisk). (memory.state_of c.replace-before.result).images (memory.state_of m).content) (sym c.replace.ensures.new) c.crash.ensures.image)

  of_node : (node_disk_state c.args.node.disk).images (node_disk_state c.replace.new.self).content
  of_node = subst (λ (d : NodeDisk). (node_disk_state d).images (node_disk_state c.replace.new.self).content) c.into_disk-disk.ensures.disk image

  settled : IsSettled (node_disk_state c.replace.new.self)
  settled = subst (λ (m : MemDisk). IsSettled (memory.state_of m)) (sym c.replace.ensures.new) c.crash.ensures.settled

  -- and the one that was chosen
  chosen : IsLeftBy c.args.choice c.args.node.disk c.replace.new.self
  chosen =
      ap (λ (m : MemDisk). (memory.state_of m).content) c.replace.ensures.new
      ∙ c.crash.ensures.chosen
      ∙ ap (λ (m : MemDisk). left_by c.args.choice (memory.disk_of m)) c.replace-before.ensures.old
      ∙ ap (λ (d : NodeDisk). left_by c.args.choice (memory.disk_of (inner_of d))) c.into_disk-disk.ensures.disk

pub returns-clause-moved : goal.returns-clause-moved
returns-clause-moved c =
    IfOk-weaker c.open_again.result _ _
    (λ new opening. (
      c.replace.new.self,
      chosen c,
      crashed-moves node_disk_state c.args.settings c.args.limit c.args.node new c.replace.new.self (of_node c) (settled c) opening,
    )) (c.open_again.ensures.moved (tt {0}))

pub returns-clause-refused : goal.returns-clause-refused
returns-clause-refused c same =
    let held : Held c.args.node.owner (node_disk_state c.into_disk-disk.result) (granted_of c.args.node.base c.args.node.entries) = c.into_disk-disk.ensures.held (tt {0}) in
    let left : Held c.args.node.owner (node_disk_state c.replace.new.self) (granted_of c.args.node.base c.args.node.entries) =
    held-left (node_disk_state c.into_disk-disk.result) (node_disk_state c.replace.new.self) c.args.node.owner (granted_of c.args.node.base c.args.node.entries) held (image c) (settled c) in
    IfErr-weaker c.open_again.result _ _
    (λ fault why. ((node_disk_state c.replace.new.self).content, of_node c, why))
    (c.open_again.ensures.refused (tt {0}) (granted_of c.args.node.base c.args.node.entries) (subst (λ (o : Owner). Held o (node_disk_state c.replace.new.self) (granted_of c.args.node.base c.args.node.entries)) (sym same) left))
