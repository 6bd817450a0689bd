use Rattle.std.proofs.Common.{ap, ◌∙◌}
use Rattle.swim_disk.specs.MemDisk.{state_of}
use Rattle.swim_disk.specs.declared.mem.MemDisk.{MemDisk}
use Rattle.swim_play.proofs.session.Session.image.Goals as goal

pub returns-clause-some : goal.returns-clause-some
returns-clause-some c = (
  c.in-Some.disk.now,
  c.in-Some.ensures.some,
  c.in_ok-bytes.ensures ∙ ap (λ (d : MemDisk). (state_of d).content) c.inner.ensures,
)
