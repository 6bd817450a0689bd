use Rattle.std.proofs.Common.{◌≡◌, ◌++◌, drop, take}
use Rattle.swim_member.specs.Events.{state_of}
use Rattle.swim_node.specs.History.{steps}
use Rattle.swim_explain.specs.Machinery.Covering.{AreCovered}
use Rattle.swim_explain.specs.Story.{story, story_after}
use Rattle.swim_explain.proofs.telling.tell_all.Given as goal

-- the member has done the entries so far, and what was told and what is left are the story
abbrev pub invariant-loop-index : goal.invariant-loop-index
invariant-loop-index l =
    record {
      member : state_of l.fn.begun (steps (take l.index l.entries)) ≡ l.member;
      told : l.told.items ++ story_after l.fn.begun (steps (take l.index l.entries)) l.who (drop l.index l.entries) ≡ story l.fn.begun l.who l.entries;
      covered : AreCovered l.member.number (drop l.index l.entries);
      settings : l.member.settings ≡ l.fn.begun.settings;
    }
