use Rattle.swim_simulate.proofs.Detecting.{held-briefly, causes-named, ticks-caused}
use Rattle.swim_simulate.proofs.detection.looks_keep_the_law.Goals as goal

pub returns-clause-brief : goal.returns-clause-brief
returns-clause-brief c most row deadline base before stretch = held-briefly most row deadline base before stretch

pub returns-clause-sound : goal.returns-clause-sound
returns-clause-sound c base before e = causes-named base before e

pub returns-clause-all : goal.returns-clause-all
returns-clause-all c base before e = ticks-caused base before e
