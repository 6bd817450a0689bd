use Rattle.std.proofs.Common.{rules, ◌≡◌, ◌<◌, ◌++◌, ◌∙◌, List, length, take, ap, sym, subst, slice_set}
use Rattle.swim_member.specs.declared.answer.Out.{Out as Outs}
use Rattle.swim_group.specs.declared.seat.Seat.{Seat as Seats}
use Rattle.swim_group.specs.Network.{IsNotInvented}
use Rattle.swim_group.specs.RealNodes.{HasNodeRun, HearsThere}
use Rattle.swim_group.proofs.Seating.{sound-node-run, set-back, index-set, heard-at, heard-run, real}
use Rattle.swim_group.proofs.Refusing.{unheard}
use Rattle.swim_group.proofs.nodes.Nodes.bring.Goals as goal

pub returns-then-is_err-clause-run : goal.returns-then-is_err-clause-run
returns-then-is_err-clause-run c =
    sound-node-run (real c.self.inside.seats.items c.reserve.new.self.items c.self.inside.room c.self.inside.limit)
    (subst (HasNodeRun c.self.inside.seats.items) (sym c.reserve.ensures.items) c.self.invariant.0)

pub returns-in-Err-clause-run : goal.returns-in-Err-clause-run
returns-in-Err-clause-run c =
    let there : c.args.node < length c.self.inside.seats.items = search rules in
    let same : slice_set c.self.inside.seats.items c.args.node c.hear_there.new.seat ≡ c.self.inside.seats.items =
    ap (slice_set c.self.inside.seats.items c.args.node) c.in-Err.ensures.err ∙ set-back c.self.inside.seats.items c.args.node c.index_mut.result.now there c.index_mut.ensures.value in
    sound-node-run (real (slice_set c.self.inside.seats.items c.args.node c.hear_there.new.seat) c.reserve.new.self.items c.self.inside.room c.self.inside.limit)
    (subst (λ (ss : List Seats). HasNodeRun ss c.reserve.new.self.items) (sym same) (subst (HasNodeRun c.self.inside.seats.items) (sym c.reserve.ensures.items) c.self.invariant.0))

module _ (c : goal.After-keep_last) where
  there : c.args.node < length c.self.inside.seats.items
  there = search rules

  heard : HearsThere c.index_mut.result.now c.hear_there.new.seat c.args.event c.in-Ok.reply
  heard = c.in-Ok.ensures.ok

  -- what is kept is what the entry sent
  keeps : c.keep_last.new.kept.items ≡ take c.self.inside.room (c.self.inside.kept.items ++ heard.e.outs.items)
  keeps =
      let seat : c.index.result.now ≡ c.hear_there.new.seat = c.index.ensures ∙ index-set c.self.inside.seats.items c.args.node c.hear_there.new.seat c.index.result.now there in
      c.keep_last.ensures.kept heard.after heard.before.entries heard.e (ap (λ (s : Seats). s.node) (seat ∙ heard.is)) heard.entries
      ∙ ap (λ (ks : List Outs). take c.self.inside.room (ks ++ heard.e.outs.items)) c.reserve.ensures.items

  ran : HasNodeRun (slice_set c.self.inside.seats.items c.args.node c.hear_there.new.seat) c.keep_last.new.kept.items
  ran =
      let kept : c.self.inside.kept.items ≡ c.args.self.now.kept = ap (λ v. v.kept) c.self.view_is in
      heard-run c.self.inside.seats.items c.self.inside.kept.items c.keep_last.new.kept.items c.self.inside.room c.args.node c.index_mut.result.now c.hear_there.new.seat c.args.event c.in-Ok.reply there c.index_mut.ensures.value heard keeps
      (subst (λ (ks : List Outs). IsNotInvented ks c.args.event) (sym kept) c.requires.sent) c.self.invariant.0

pub invariant_of-self-in-Ok : goal.invariant_of-self-in-Ok
invariant_of-self-in-Ok c = (ran c, c.keep_last.ensures.within)

pub returns-in-Ok-clause-ok : goal.returns-in-Ok-clause-ok
returns-in-Ok-clause-ok c =
    rw (← c.self.view_is)
    (heard-at c.self.inside.seats.items c.self.inside.kept.items c.keep_last.new.kept.items c.self.inside.room c.self.inside.limit c.args.node c.index_mut.result.now c.hear_there.new.seat c.args.event c.in-Ok.reply (there c) c.index_mut.ensures.value (heard c) (keeps c))

pub returns-in-Ok-clause-run : goal.returns-in-Ok-clause-run
returns-in-Ok-clause-run c = sound-node-run (real (slice_set c.self.inside.seats.items c.args.node c.hear_there.new.seat) c.keep_last.new.kept.items c.self.inside.room c.self.inside.limit) (ran c)

pub returns-in-Err-clause-refused : goal.returns-in-Err-clause-refused
returns-in-Err-clause-refused c =
    let there : c.args.node < length c.self.inside.seats.items = search rules in
    rw (← c.self.view_is)
    (unheard c.self.inside.seats.items c.self.inside.kept.items c.self.inside.room c.self.inside.limit c.args.node c.index_mut.result.now there c.index_mut.ensures.value c.in-Err.fault c.in-Err.ensures.refused)
