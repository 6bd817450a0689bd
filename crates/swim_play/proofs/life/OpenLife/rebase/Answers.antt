use Rattle.std.proofs.lemmas.List.Elements.{All-nil}
use Rattle.swim_play.specs.Life.{IsMine}
use Rattle.swim_node.specs.Lives.{era_of}
use Rattle.swim_play.proofs.Lives.{mine-rebased}
use Rattle.swim_play.proofs.life.OpenLife.rebase.Goals as goal

pub invariant_of-self-2 : goal.invariant_of-self-2
invariant_of-self-2 c =
    let living = c.self.inside in
    let before = c.self.invariant in
    rw (c.push_reserved.ensures.items, c.reserve.ensures.items, c.end_era.ensures.era) (record {
      living = c.end_era.ensures.living _ _ _ _ before.living;
      mine = record {
        ended = mine-rebased living.eras.items (era_of living.node) before.mine.ended before.mine.last;
        last = rw c.end_era.ensures.entries (All-nil IsMine);
      };
      room = rw c.end_era.ensures.base before.room;
    })
