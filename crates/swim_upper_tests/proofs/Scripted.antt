-- Calls that a test's caller answers or refuses.
use Rattle.std.proofs.Common.{◌≡◌, ℕ, Bool, List, [], ◌∷◌, ◌++◌, refl, ap, sym, ◌∙◌}
use Rattle.swim_member.specs.declared.event.Event.{Event}
use Rattle.swim_node.specs.declared.entry.Entry.{Entry}
use Rattle.swim_node.specs.History.{calls_by}
use Rattle.swim_node.proofs.Lists.{calls_by-append}
use Rattle.swim_shell.specs.declared.caller.Refusal.{Refusal}
use Rattle.swim_shell.specs.Calls.{NewCall, Because, Refuses}
use Rattle.swim_shell.proofs.News.{same_seen}

own_call : (e : Entry) → e.tag.caller ≡ 1 → calls_by 1 (e ∷ []) ≡ e ∷ []
own_call e is = rw is refl

-- an entry of the caller's own is its new call
pub told : (seen next : List Entry) (old new : Bool) (asked more : List Event) (e : Entry) → e.tag.caller ≡ 1 → next ≡ seen ++ e ∷ [] → more ≡ asked ++ e.event ∷ [] → NewCall (record { caller = 1; seen = seen; spent = old; asked = asked }) (record { caller = 1; seen = next; spent = new; asked = more }) e.event e.reply
told seen next old new asked more e own grown entered = record {
  entry = e;
  event_is = refl;
  reply_is = refl;
  gains = record {
    own = ap (calls_by 1) grown ∙ (calls_by-append 1 seen (e ∷ []) ∙ ap (λ w. calls_by 1 seen ++ w) (own_call e own));
    caller = refl;
    seen = (e ∷ [], sym grown);
  };
  asked = entered;
}

-- nothing new was seen
pub untold : (limit : ℕ) (why : Refusal) (seen : List Entry) (old new : Bool) (asked : List Event) (event : Event) → Because limit why (record { caller = 1; seen = seen; spent = old; asked = asked }) (record { caller = 1; seen = seen; spent = new; asked = asked ++ event ∷ [] }) → Refuses limit why (record { caller = 1; seen = seen; spent = old; asked = asked }) (record { caller = 1; seen = seen; spent = new; asked = asked ++ event ∷ [] }) event
untold limit why seen old new asked event because = record {
  gains = same_seen (record { caller = 1; seen = seen; spent = old; asked = asked }) (record { caller = 1; seen = seen; spent = new; asked = asked ++ event ∷ [] }) refl refl;
  asked = refl;
  because = because;
}
