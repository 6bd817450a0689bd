use Rattle.std.proofs.Common.{refl, sym, ap, ◌∙◌}
use Rattle.std.specs.Prelude.{is_some}
use Rattle.swim_play.specs.Machinery.Session.{events_in}
use Rattle.swim_play.specs.Play.{Playing}
use Rattle.swim_play.proofs.Openings.{era-open, era-empty, keep-does}
use Rattle.swim_play.proofs.player.Player.keep_peers.Goals as goal
use Rattle.swim_state.proofs.Steps.{always_ok}

pub keep_peers-requires : goal.keep_peers-requires
keep_peers-requires c =
    let life = c.self.inside.session.life in
    record {
      opened = ap (λ (p : Playing). is_some p.life) c.in_ok-rebase.ensures ∙ era-open life (sym c.is_open.ensures ∙ c.if-not-is_open.false);
      empty = ap (λ (p : Playing). events_in p.life) c.in_ok-rebase.ensures ∙ era-empty life;
    }

pub returns-in-Ok : goal.returns-in-Ok
returns-in-Ok c =
    rw (← c.self.view_is) (always_ok _ c.writeln-in-Ok.result
    (record { does = keep-does c.self.inside.session c.rebase.new.self c.keep_peers.new.self (sym c.is_open.ensures ∙ c.if-not-is_open.false) c.in_ok-rebase.ensures c.keep_peers.ensures; planned = refl }))

pub returns-in-Err : goal.returns-in-Err
returns-in-Err c =
    rw (← c.self.view_is) (always_ok _ c.writeln-in-Err.result
    (record { does = keep-does c.self.inside.session c.rebase.new.self c.keep_peers.new.self (sym c.is_open.ensures ∙ c.if-not-is_open.false) c.in_ok-rebase.ensures c.keep_peers.ensures; planned = refl }))
