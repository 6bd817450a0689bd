use Rattle.std.proofs.Common.{◌+◌, ◌∷◌, List, drop, take, ◌∙◌, subst}
use Rattle.swim_node.specs.declared.entry.Entry.{Entry}
use Rattle.swim_node.specs.History.{steps}
use Rattle.swim_explain.specs.Machinery.Covering.{AreCovered}
use Rattle.swim_explain.specs.Story.{story}
use Rattle.swim_explain.proofs.Covers.{covers-less}
use Rattle.swim_explain.proofs.Stories.{entries_left, steps_more, told_more}
use Rattle.swim_explain.proofs.telling.tell_all.Goals as goal

pub loop-index-preserved : goal.loop-index-preserved
loop-index-preserved c =
    let base = c.args.begun in
    let entries = c.args.entries.now in
    let i = c.loop-index.index in
    let e = c.index-entries-index.result in
    let less = c.loop-index-test.true in
    let is = c.index-entries-index.is in
    let before = steps (take i entries) in
    let goes_on = c.in_ok-tell_call.ensures.state base before c.loop-index.invariant.member in
    let left : AreCovered c.loop-index.member.number (e ∷ drop (i + 1) entries) =
    subst (λ (rest : List Entry). AreCovered c.loop-index.member.number rest) (entries_left entries i e less is) c.loop-index.invariant.covered in
    record {
      member = rw (steps_more entries i e less is) goes_on;
      told = told_more base c.args.who entries i e c.loop-index.member c.tell_call.new.member c.loop-index.told.items c.tell_call.new.told.items (story base c.args.who entries) less is c.loop-index.invariant.member goes_on c.in_ok-tell_call.ensures.told c.loop-index.invariant.told;
      covered = covers-less c.tell_call.new.member.number e.granted (drop (i + 1) entries) c.in_ok-tell_call.ensures.low left.1;
      settings = c.in_ok-tell_call.ensures.settings ∙ c.loop-index.invariant.settings;
    }
