use Rattle.std.proofs.Common.{◌∙◌, ap, refl}
use Rattle.swim_join.specs.Turns.{joined_listed}
use Rattle.swim_library.specs.declared.seeking.Seeking.{Seeking}
use Rattle.swim_library.proofs.Turning.{lacks_all}
use Rattle.swim_library.proofs.running.Running.join_listed.Goals as goal

pub returns-in-Ok-clause-does : goal.returns-in-Ok-clause-does
returns-in-Ok-clause-does c = λ j was. record {
  between = c.enter.new.self;
  joiner = joined_listed c.args.at.now j;
  does = (c.in-Ok.ensures.entered, refl);
  ends = record {
    is = c.note_listed.ensures j (ap (λ (s : Seeking). s.joiner) c.in-Ok.ensures.entered.adds.seeking ∙ was);
    same = record { node = refl; outbox = refl; notes = refl; told = refl; due = refl; limit = refl };
  };
}

pub returns-in-Err-clause-lacks : goal.returns-in-Err-clause-lacks
returns-in-Err-clause-lacks c = lacks_all _ _ c.in-Err.ensures.same
