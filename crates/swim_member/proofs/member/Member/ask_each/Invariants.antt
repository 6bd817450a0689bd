use Rattle.std.proofs.Common.{◌≡◌, ◌+◌, ◌≤◌, ◌++◌, drop, length, true}
use Rattle.std.specs.List.{list_all}
use Rattle.swim_member.specs.Fit.{is_fit}
use Rattle.swim_member.specs.Machinery.Steps.{after_asks, outs_of_asks}
use Rattle.swim_member.proofs.member.Member.ask_each.Given as goal

-- the asks that were made and those that are left give what all give
abbrev pub invariant-loop-helper : goal.invariant-loop-helper
invariant-loop-helper l =
    record {
      state : after_asks l.self l.probe (drop l.helper-index l.helpers) ≡ after_asks l.initial.self l.probe l.helpers;
      outs : l.answer.outs.items ++ outs_of_asks l.self l.probe (drop l.helper-index l.helpers) ≡ l.initial.answer.outs.items ++ outs_of_asks l.initial.self l.probe l.helpers;
      notes : l.answer.notes.items ≡ l.initial.answer.notes.items;
      page : l.answer.page ≡ l.initial.answer.page;
      fit : list_all (is_fit l.initial.self.settings.me l.initial.self.number) l.initial.answer.outs.items ≡ true → list_all (is_fit l.self.settings.me l.self.number) l.answer.outs.items ≡ true;
      count : length l.answer.outs.items ≤ length l.initial.answer.outs.items + l.helper-index;
    }
