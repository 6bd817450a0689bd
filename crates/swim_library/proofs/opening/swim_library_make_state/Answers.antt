use Rattle.swim_library.proofs.Doing.{done}
use Rattle.swim_library.proofs.opening.swim_library_make_state.Goals as goal

pub returns-clause-sound : goal.returns-clause-sound
returns-clause-sound c = λ ok. done c.make.result c.code.result c.code.ensures ok c.make.ensures.sound
