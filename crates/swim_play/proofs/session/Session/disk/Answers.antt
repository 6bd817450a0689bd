use Rattle.std.proofs.Common.{Some, sym, ap, ◌∙◌}
use Rattle.swim_play.specs.Life.{PlayDisk}
use Rattle.swim_play.specs.Play.{Playing}
use Rattle.swim_play.specs.Machinery.Session.{disk_in}
use Rattle.swim_play.proofs.session.Session.disk.Goals as goal

pub returns-in-Idle-clause-some : goal.returns-in-Idle-clause-some
returns-in-Idle-clause-some c = sym (ap (λ (p : Playing). p.disk) c.self.view_is) ∙ ap disk_in c.in-Idle.is

pub returns-in-Open-clause-some : goal.returns-in-Open-clause-some
returns-in-Open-clause-some c = sym (ap (λ (p : Playing). p.disk) c.self.view_is) ∙ ap disk_in c.in-Open.is ∙ ap (λ (d : PlayDisk). Some d) (sym c.disk.ensures)
