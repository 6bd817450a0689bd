use Rattle.swim_play.specs.Play.{first_scene}
use Rattle.swim_play.proofs.Sessions.{plays-snoc}
use Rattle.swim_play.proofs.player.run.Goals as goal

pub loop-command-preserved : goal.loop-command-preserved
loop-command-preserved c =
    plays-snoc first_scene c.loop-command.yielded c.loop-command.player c.in-Some.command c.execute.new.self c.loop-command.invariant c.in_ok-execute.ensures
