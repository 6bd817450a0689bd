use Rattle.std.proofs.Common.{◌≡◌, ◌∙◌, Option, Some, None, ap, refl, subst}
use Rattle.std.specs.Prelude.{MatchOption, unwrap_or}
use Rattle.swim_member.specs.declared.event.Event.{Event}
use Rattle.swim_node.specs.declared.entry.Entry.{Entry}
use Rattle.swim_library.specs.Deal.{undealt_tick}
use Rattle.swim_library.specs.Running.{EntersEvent}
use Rattle.swim_library.specs.declared.running.Running.{Running}
use Rattle.swim_library.proofs.Living.{adds}
use Rattle.swim_library.proofs.running.Running.enter.Goals as goal

-- the event that was chosen is the given one, or else the tick that reads no deal
of_chosen : {A : Type 0} (given : Option A) (event : A → Event) (old new : Running) (other chosen : A) → chosen ≡ unwrap_or given other → event other ≡ undealt_tick → EntersEvent old new (event chosen) → MatchOption given (EntersEvent old new undealt_tick) (λ e. EntersEvent old new (event e))
of_chosen None event old new other chosen is undealt enters = subst (EntersEvent old new) (ap event is ∙ undealt) enters
of_chosen (Some e) event old new other chosen is undealt enters = subst (λ e. EntersEvent old new (event e)) is enters

pub returns-clause-entered : goal.returns-clause-entered
returns-clause-entered c =
    let called = c.in_ok-call.ensures.called in
    let ended = c.end_era_of.ensures in
    of_chosen c.args.event (λ e. e.now) c.args.self.now _ _ c.unwrap_or-event.result c.unwrap_or-event.ensures c.args.self.now.undealt_is
    record {
      reply = called.entry.reply;
      adds = adds c.args.self.now _ c.call.new.node _ called refl refl refl ended.owner ended.first ended.disk ended.legal ended.ends ended.era;
      empty = c.if-not-is_empty.ensures.none refl;
      notes = c.take_notes.ensures ∙ ap (λ (e : Entry). e.reply.notes) (c.last.ensures.last c.args.self.now.node.entries called.entry called.entries);
    }
