use Rattle.std.proofs.Common.{◌≡◌, ◌≤◌, ◌+◌, ◌-◌, ◌++◌, length, true}
use Rattle.std.specs.List.{list_all}
use Rattle.swim_member.specs.Fit.{is_fit}
use Rattle.swim_member.specs.Events.{Bye, each_from}
use Rattle.swim_member.specs.Machinery.Steps.{after, outs_by}
use Rattle.swim_member.proofs.member.Member.say_bye.Given as goal

-- the pings that were sent and those that are left give what all give
abbrev pub invariant-loop-number : goal.invariant-loop-number
invariant-loop-number l =
    record {
      state : after l.self (each_from l.number (9 - l.number) (λ k. Bye k)) ≡ after l.initial.self (each_from 0 9 (λ k. Bye k));
      outs : l.answer.outs.items ++ outs_by l.self (each_from l.number (9 - l.number) (λ k. Bye k)) ≡ outs_by l.initial.self (each_from 0 9 (λ k. Bye k));
      notes : l.answer.notes.items ≡ l.initial.answer.notes.items;
      page : l.answer.page ≡ l.initial.answer.page;
      fit : list_all (is_fit l.self.settings.me l.self.number) l.answer.outs.items ≡ true;
      count : length l.answer.outs.items ≤ l.number;
      few : length l.answer.outs.items ≤ l.initial.self.settings.helpers + 1;
      settings : l.self.settings ≡ l.initial.self.settings;
    }
