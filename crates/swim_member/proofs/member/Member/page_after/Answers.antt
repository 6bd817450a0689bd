use Rattle.std.proofs.Common.{sym}
use Rattle.swim_member.specs.Join.{is_update_after}
use Rattle.swim_member.proofs.Lows.{say-paged}
use Rattle.swim_member.proofs.member.Member.page_after.Goals as goal

pub returns-clause-said : goal.returns-clause-said
returns-clause-said c =
    rw c.page_of.ensures (say-paged c.args.self.now.settings.me c.args.self.now.number 30 (is_update_after c.args.cursor) c.self.inside.table.rows c.own.result c.own.ensures.said (rw (sym c.self.view_is) c.self.invariant.0.stand))
