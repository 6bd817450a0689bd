use Rattle.std.proofs.Common.{refl}
use Rattle.swim_library.proofs.running.Running.begin_turn.Goals as goal

pub returns-clause-begins : goal.returns-clause-begins
returns-clause-begins c = λ j was. record {
  is = c.begin_turn.ensures.then j was;
  same = record { node = refl; outbox = refl; notes = refl; told = refl; due = refl; limit = refl };
}
