use Rattle.std.proofs.Common.{refl, sym, ◌∙◌}
use Rattle.swim_play.proofs.Openings.{start-unmade, start-opens}
use Rattle.swim_play.proofs.player.Player.start.Goals as goal
use Rattle.swim_state.proofs.Steps.{always_ok}

pub returns-in-Err : goal.returns-in-Err
returns-in-Err c =
    let made = c.in_ok-made.made in
    rw (← c.self.view_is) (always_ok _ c.writeln-in-Err.result
    (record { does = start-unmade c.self.inside.session c.put.new.self c.owner.result made.disk made.answer (sym c.is_open.ensures ∙ c.if-is_open.false) c.owner.ensures c.args.first _ c.in-Err.fault c.ceiling.ensures c.in_ok-made.ensures c.in-Err.is c.put.ensures; planned = refl }))

pub returns : goal.returns
returns c =
    let made = c.in_ok-made.made in
    rw (← c.self.view_is) (always_ok _ c.write_opening.result
    (record { does = start-opens c.self.inside.session c.open.new.self c.owner.result made.disk made.answer (sym c.is_open.ensures ∙ c.if-is_open.false) c.owner.ensures c.args.first _ c.in_default.field-0 c.put.new.self c.in_ok-opening.opening c.ceiling.ensures c.in_ok-made.ensures c.in_default.is c.put.ensures c.in_ok-opening.ensures; planned = refl }))
