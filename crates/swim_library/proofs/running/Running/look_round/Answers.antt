use Rattle.std.proofs.Common.{◌∙◌, ap, refl}
use Rattle.swim_library.specs.declared.seeking.Seeking.{Seeking}
use Rattle.swim_library.proofs.running.Running.look_round.Goals as goal

pub returns-clause-does : goal.returns-clause-does
returns-clause-does c = λ j was.
    let drawn = c.see.ensures j (ap (λ (s : Seeking). s.joiner) c.read_rows.ensures.seeking ∙ was) in
    record {
      between = c.read_rows.new.self;
      joiner = drawn.joiner;
      does = (c.in_ok-rows.rows, c.in_ok-rows.ensures.read, drawn.told);
      ends = record {
        is = drawn.is;
        same = record { node = refl; outbox = refl; notes = refl; told = refl; due = refl; limit = refl };
      };
    }
