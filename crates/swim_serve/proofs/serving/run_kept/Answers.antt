use Rattle.std.proofs.Common.{rules, refl, subst, ◌≡◌, ◌∙◌, [], ap, inl, inr}
use Rattle.std.specs.Prelude.{IfOk}
use Rattle.swim_serve.specs.Desks.{IsHosted}
use Rattle.swim_serve.specs.Eras.{OutsideView}
use Rattle.swim_serve.specs.Members.{EndsMember, Here, Next, member_of}
use Rattle.swim_serve.proofs.Lives.{cut_live, whole_live}
use Rattle.swim_serve.proofs.serving.run_kept.Goals as goal

pub loop-init : goal.loop-init
loop-init g c = record { entries = c.requires; wait = c.new-grace.ensures.wait ∙ c.expelled_ends.ensures; known = search rules; eras = ([], Here _) }

pub loop-preserved : goal.loop-preserved
loop-preserved g c =
    let before = c.loop.invariant in
    let same = c.end_after.ensures.same in
    let now = c.ask_host.new.outside in
    let host = c.ask_host.new.host in
    let hosted = subst (λ o. IsHosted g.H.Host.relists c.in-Ok.era.ends.control o.desk now.desk) same c.ask_host.ensures.hosted in
    let rest : now ≡ record c.in-Ok.era.outside { desk = now.desk } = subst (λ (o : OutsideView). now ≡ record o { desk = now.desk }) same c.ask_host.ensures.rest in
    record {
      entries = c.in-Ok.ensures.entries;
      wait = c.end_after.ensures.wait ∙ before.wait;
      known = c.end_after.ensures.known;
      eras = (
        _,
        Next _ _ _ _ _ c.in-Ok.era.ends _ before.eras.1 c.in-Ok.ensures.era.1 (record {
          desk = hosted;
          given = c.ask_host.ensures.given;
          rest = ap (λ o. member_of c.in-Ok.era.node o (g.H.Keeper.keeps host) (g.H.Keeper.given host)) rest;
        }),
      );
    }

-- an era was cut short
pub returns-in-Err : goal.returns-in-Err
returns-in-Err g c =
    let before = c.loop.invariant in
    let cut = c.in-Err.ensures.cut in
    let life = cut_live g.D.Disk.keeps_model g.D.Disk.state g.I.Inbound.tells g.M.Link.tells g.H.Host.relists _ before.eras.0 _ c.in-Err.field-0.node before.eras.1 cut.1 in
    record { before = _; eras = before.eras.0; done = before.eras.1; last = inr (record { failed = cut.0; not_ended = tt; stays = cut.1; given_is = ap g.H.Keeper.given c.in-Err.ensures.not_given }, life) }

-- or it was the last one
pub returns-in-Some-end_after : goal.returns-in-Some-end_after
returns-in-Some-end_after g c =
    let before = c.loop.invariant in
    let era = c.in-Ok.ensures.era in
    let node = c.in-Ok.era.node in
    let how = c.in-Some-end_after.how in
    let phase : c.status-phase.result.phase ≡ node.base.state.phase = search rules in
    let ended = subst (λ w. IfOk how (EndsMember w c.in-Ok.era.ends c.status-phase.result.phase)) before.wait c.in-Some-end_after.ensures.ended in
    let life = whole_live g.D.Disk.keeps_model g.D.Disk.state g.I.Inbound.tells g.M.Link.tells g.H.Host.relists _ before.eras.0 _ era.0 node before.eras.1 era.1.is.life in
    record {
      before = _;
      eras = before.eras.0;
      done = before.eras.1;
      last = inl (
        era.0,
        record {
          last = _;
          ends = c.in-Ok.era.ends;
          served = era.1;
          left_is = refl;
          given_is = refl;
          ended = subst (λ p. IfOk how (EndsMember c.args.outside.expelled_ends c.in-Ok.era.ends p)) phase ended;
          failed = c.in-Some-end_after.ensures.failed;
        },
        life,
      );
    }
