use Rattle.std.proofs.Common.{◌≡◌, sym, ◌∙◌}
use Rattle.swim_play.specs.Play.{with_life_ended}
use Rattle.swim_play.proofs.Openings.{crash-does, ended-none}
use Rattle.swim_play.proofs.Sessions.{kept-none}
use Rattle.swim_play.proofs.player.Player.crash.Goals.{then-is_open+in_ok-end, else-is_open}
use Rattle.swim_play.proofs.player.Player.crash.Goals as goal
use Rattle.swim_state.proofs.Steps.{always_ok}

pub returns : goal.returns
returns c =
    let p = c.self.inside.session in
    let m = c.if-is_open.self-inside.session in
    let closed : m ≡ with_life_ended p = elim c.if-is_open.branch [
      | then-is_open+in_ok-end w ↦ rw w.self-inside-is w.in_ok-end.ensures.ended
      | else-is_open w ↦ rw w.self-inside-is (ended-none p (sym c.is_open.ensures ∙ w.if-is_open.false))
    ] in
    let there = sym c.has_disk.ensures ∙ c.if-not-has_disk.false in
    rw (← c.self.view_is) (always_ok _ c.writeln-2.result (record {
      does = crash-does p m c.crash.new.self c.args.choice closed there c.crash.ensures;
      planned = c.renew.ensures ∙ sym (kept-none p m _ closed there);
    }))
