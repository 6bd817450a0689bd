use Rattle.std.proofs.Common.{refl}
use Rattle.swim_group.proofs.Refusing.{unentered}
use Rattle.swim_group.proofs.seat.hear_there.Goals as goal

pub returns-in-Ok-clause-ok : goal.returns-in-Ok-clause-ok
returns-in-Ok-clause-ok c =
    let heard = c.in-Ok.ensures.ok in
    record {
      before = c.in-Some.node;
      after = c.hear.new.node;
      e = heard.0;
      was = c.in-Some.is;
      is = refl;
      entries = heard.3;
      event_is = heard.1;
      reply_is = heard.2;
      texts = heard.4;
      moves = heard.5 (tt {0});
    }

pub returns-in-Err-clause-refused : goal.returns-in-Err-clause-refused
returns-in-Err-clause-refused c = (
  record { node = c.in-Some.node; sits = c.in-Some.is },
  unentered c.in-Some.node c.next_tag-tag.result c.in-Err.fault c.next_tag-tag.ensures.turn c.in-Err.ensures.refused,
)
