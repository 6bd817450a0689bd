use Rattle.std.proofs.Common.{refl, sym, ◌∙◌}
use Rattle.swim_play.proofs.Openings.{overwrite-does}
use Rattle.swim_play.proofs.Sessions.{on_ok}
use Rattle.swim_play.proofs.player.Player.overwrite.Goals as goal

pub returns : goal.returns
returns c =
    rw (← c.self.view_is) (on_ok _ _ c.overwrite.result (λ does. record { does = does; planned = refl })
    (overwrite-does c.self.inside.session c.overwrite.new.self c.args.patch c.overwrite.result (sym c.is_open.ensures ∙ c.if-is_open.false) c.overwrite.ensures))
