use Rattle.swim_play.specs.Play.{Plays, first_scene}
use Rattle.swim_play.proofs.player.run.Given as goal

-- what was done so far is what the lines so far may make of the beginning
abbrev pub invariant-loop-command : goal.invariant-loop-command
invariant-loop-command l = Plays first_scene l.yielded l.player
