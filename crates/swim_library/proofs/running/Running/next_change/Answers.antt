use Rattle.std.proofs.Common.{refl}
use Rattle.swim_library.proofs.Changing.{none_waits}
use Rattle.swim_library.proofs.running.Running.next_change.Goals as goal

pub returns-in-None-clause-nothing : goal.returns-in-None-clause-nothing
returns-in-None-clause-nothing c = λ _. none_waits c.args.self.now c.find_changes.new.self _ c.in_ok-find_changes.ensures.looked c.in-None.ensures.none c.in-None.ensures.same (record { node = refl; outbox = refl; notes = refl; due = refl; seeking = refl; limit = refl })
