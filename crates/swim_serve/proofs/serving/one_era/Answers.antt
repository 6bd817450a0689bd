use Rattle.std.proofs.Common.{◌≡◌, ap, refl, subst, sym, ◌∙◌}
use Rattle.std.specs.Prelude.{IfSome, is_some}
use Rattle.swim_node.specs.Lives.{era_of}
use Rattle.swim_record.specs.Handing.{begun_at}
use Rattle.swim_serve.proofs.Keeping.{none_gives, some_gives}
use Rattle.swim_node.specs.History.{granted_of}
use Rattle.swim_state.specs.Held.{Covers, Through}
use Rattle.swim_shared.proofs.Moments.{unmoved}
use Rattle.swim_shell.specs.declared.caller.Refusal.TheVariants as refusal
use Rattle.swim_serve.specs.declared.era.EraFault.TheVariants as cause
use Rattle.swim_serve.specs.Eras.{Serves}
use Rattle.swim_serve.proofs.Eras.{counted}
use Rattle.swim_serve.proofs.Lives.{era_served, is_given, not_given, raised, stays_same}
use Rattle.swim_serve.proofs.serving.one_era.Goals as goal

-- the era that ends is the one whose beginning was read
pub end_era-saves-requires : goal.end_era-saves-requires
end_era-saves-requires g c =
    let began = c.begin-beginning in
    let base = c.in-Ok.ensures.node.base ∙ ap (λ n. n.base) c.new-parts.ensures.node in
    subst (λ b. IfSome began.result (λ beginning. beginning ≡ begun_at b)) (sym base) began.ensures.at

-- without memory there was none
pub returns-in-None-clause-cut : goal.returns-in-None-clause-cut
returns-in-None-clause-cut g c = ((cause.Refused refusal.Memory, refl), stays_same g.D.Disk.keeps_model g.D.Disk.state c.args.node c.args.node refl c.requires c.numbers_are_covered.ensures.held c.numbers_are_covered.ensures.owns)

-- one whose worker failed is let go
pub returns-then-is_some-clause-era : goal.returns-then-is_some-clause-era
returns-then-is_some-clause-era g c =
    let end = c.in-Ok.end in
    let was = c.in-Ok.ensures in
    let next = c.rebase.ensures in
    let failed = ap is_some (sym c.fault_of.ensures) ∙ sym c.is_some.ensures ∙ c.if-is_some.true in
    let keeps = g.K.Keeper.keeps c.args.keeper.now in
    let given = g.K.Keeper.given c.args.keeper.now in (
      era_of end.node,
      era_served g.D.Disk.keeps_model g.D.Disk.state g.I.Inbound.tells g.M.Link.tells c.new-parts.result.node c.args.node end.node c.rebase.new.self _ _ end.ends c.new-parts.ensures.node was.node (c.in-Some.made.1, c.in-Some.ensures.got, was.serves) (raised _ _ next.base) (ap (λ d. (g.D.Disk.state d).name) next.disk) next.owner next.first next.living (λ model. subst (λ d. Through (Covers end.node.owner (granted_of end.node.base end.node.entries)) (g.D.Disk.state end.node.disk) (g.D.Disk.state d)) (sym next.disk) (unmoved _ _)) keeps keeps given given (not_given keeps _ given _ failed),
    )

-- a keeper that keeps none gets nothing
pub returns-clause-let_go : goal.returns-clause-let_go
returns-clause-let_go g c off = none_gives c.begin-beginning.result _ c.end_era-saves.ensures.none (c.begin-beginning.ensures.asked ∙ off)

-- and one that keeps eras asked for its beginning, and so is given it whole
pub returns-clause-era : goal.returns-clause-era
returns-clause-era g c =
    let end = c.in-Ok.end in
    let was = c.in-Ok.ensures in
    let next = c.end_era-saves.ensures in
    let began = c.begin-beginning in
    let sound = ap is_some (sym c.fault_of.ensures) ∙ sym c.is_some.ensures ∙ c.if-is_some.false in
    let keeps = g.K.Keeper.keeps c.args.keeper.now in
    let given = g.K.Keeper.given c.args.keeper.now in
    let ring = c.in-Some.made.1 in
    let serves = subst (λ o. Serves g.I.Inbound.tells g.M.Link.tells c.new-parts.result.node.base.limit ring c.args.outside o end.ends end.node.entries) (sym c.end_era.ensures) (counted _ _ _ ring _ _ _ _ _ was.serves) in (
      era_of end.node,
      era_served g.D.Disk.keeps_model g.D.Disk.state g.I.Inbound.tells g.M.Link.tells c.new-parts.result.node c.args.node end.node c.end_era-saves.new.node _ c.end_era.new.self end.ends c.new-parts.ensures.node was.node (ring, c.in-Some.ensures.got, serves) next.base next.disk next.owner next.first next.living next.moments keeps _ given _ (is_given keeps _ given _ _ sound (λ on. some_gives began.result _ next.given (began.ensures.asked ∙ on)) (λ off. ap g.K.Keeper.given (none_gives began.result _ next.none (began.ensures.asked ∙ off)))),
    )
