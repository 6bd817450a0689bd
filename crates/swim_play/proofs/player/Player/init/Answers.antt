use Rattle.std.proofs.Common.{refl, sym, ◌∙◌}
use Rattle.swim_play.proofs.Openings.{init-does}
use Rattle.swim_play.proofs.player.Player.init.Goals as goal
use Rattle.swim_state.proofs.Steps.{always_ok}

pub returns-in-Ok : goal.returns-in-Ok
returns-in-Ok c =
    let made = c.in_ok-made.made in
    rw (← c.self.view_is) (always_ok _ c.writeln-in-Ok.result
    (record { does = init-does c.self.inside.session c.put.new.self c.owner.result made.disk made.answer (sym c.is_open.ensures ∙ c.if-is_open.false) c.owner.ensures c.args.ceiling c.in_ok-made.ensures c.put.ensures; planned = refl }))

pub returns-in-Err : goal.returns-in-Err
returns-in-Err c =
    let made = c.in_ok-made.made in
    rw (← c.self.view_is) (always_ok _ c.writeln-in-Err.result
    (record { does = init-does c.self.inside.session c.put.new.self c.owner.result made.disk made.answer (sym c.is_open.ensures ∙ c.if-is_open.false) c.owner.ensures c.args.ceiling c.in_ok-made.ensures c.put.ensures; planned = refl }))
