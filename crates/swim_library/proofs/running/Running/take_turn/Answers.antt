use Rattle.std.proofs.Common.{ap, rules, subst}
use Rattle.swim_join.specs.Turns.{turning}
use Rattle.swim_join.specs.declared.joiner.Due.{Due}
use Rattle.swim_library.specs.Seeking.{DoesTask}
use Rattle.swim_library.specs.declared.seeking.Seeking.{Seeking}
use Rattle.swim_library.proofs.running.Running.take_turn.Goals as goal

pub returns-in-Ok-clause-turns : goal.returns-in-Ok-clause-turns
returns-in-Ok-clause-turns c = λ j was.
    let at = c.moment-at.result in
    let first = c.begin_turn-task.new.self in
    let begins = c.begin_turn-task.ensures.begins j was in
    let done = c.in-Ok.ensures.does (turning j at) (ap (λ (s : Seeking). s.joiner) begins.is) in
    let does = subst (λ (d : Due). DoesTask d (turning j at) at first c.do_due.new.self) (c.begin_turn-task.ensures.due j was) done in
    record {
      empty = search rules;
      at = at;
      at_is = c.moment-at.ensures;
      first = first;
      begins = begins;
      does = does;
      told = c.next_turn.ensures.wanted does.joiner (ap (λ (s : Seeking). s.joiner) does.ends.is);
    }

pub returns-in-Err-clause-in_vain : goal.returns-in-Err-clause-in_vain
returns-in-Err-clause-in_vain c = λ j was. record {
  empty = search rules;
  at = c.moment-at.result;
  at_is = c.moment-at.ensures;
  first = c.begin_turn-task.new.self;
  begins = c.begin_turn-task.ensures.begins j was;
  lacks = c.in-Err.ensures.lacks;
}
