use Rattle.swim_library.proofs.calls.call.Goals as goal

pub returns-in-Ok-clause-called : goal.returns-in-Ok-clause-called
returns-in-Ok-clause-called c =
    let made = c.in-Ok.ensures.ok in
    record {
      entry = made.0;
      event_is = made.1.event_is;
      base = c.in-Ok.ensures.base;
      entries = made.1.entries;
      waits_are = made.2.took tt;
      owner = c.in-Ok.ensures.owner;
      first = c.in-Ok.ensures.first;
      lives = c.in-Ok.ensures.living;
      moments = c.in-Ok.ensures.moments tt;
    }
