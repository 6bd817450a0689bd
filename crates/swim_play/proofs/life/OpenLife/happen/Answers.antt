use Rattle.std.proofs.Common.{ap, refl, ◌∙◌}
use Rattle.swim_node.specs.declared.entry.Tag.{Tag}
use Rattle.swim_play.proofs.Lives.{mine-happened}
use Rattle.swim_play.proofs.life.OpenLife.happen.Goals as goal

pub invariant_of-self-2 : goal.invariant_of-self-2
invariant_of-self-2 c =
    let before = c.self.invariant in
    let ok = c.in_ok-apply.ensures.ok in
    record {
      living = c.apply.ensures.living _ _ _ _ before.living;
      mine = record {
        ended = before.mine.ended;
        last = rw ok.1.entries (mine-happened c.self.inside.node.entries ok.0 before.mine.last (ap (λ (t : Tag). t.caller) ok.1.tag_is ∙ c.next_tag-tag.ensures.caller));
      };
      room = rw c.apply.ensures.base before.room;
    }

pub returns-clause-ok : goal.returns-clause-ok
returns-clause-ok c =
    let ok = c.in_ok-apply.ensures.ok in
    rw (← c.self.view_is) (record {
      entry = ok.0;
      happened = ok.1.event_is;
      entries = rw (c.apply.ensures.first, c.apply.ensures.base, ok.1.entries) refl;
      room = rw (← c.self.invariant.room) c.in_ok-apply.ensures.room;
    })
