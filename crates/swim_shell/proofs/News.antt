-- New calls of a pass, put together.
use Rattle.std.proofs.Common.{◌≡◌, ℕ, List, [], ◌∷◌, ◌++◌, refl, ap, sym, subst, ◌∙◌}
use Rattle.std.proofs.lemmas.List.{append-nil}
use Rattle.swim_member.specs.declared.event.Event.{Event}
use Rattle.swim_node.specs.declared.entry.Entry.{Entry}
use Rattle.swim_node.specs.declared.entry.Reply.{Reply}
use Rattle.swim_node.specs.History.{calls_by}
use Rattle.swim_shell.specs.declared.caller.Refusal.{Refusal}
use Rattle.swim_shell.specs.Calls.{CallerView, events_of, Gains, NewCalls, NewCall, Refuses, RefusesAfter}
use Rattle.swim_node.proofs.Lists.{prefix_trans}
use Rattle.std.proofs.lemmas.List.{append_assoc}

pub events_of-append : (xs ys : List Entry) → events_of (xs ++ ys) ≡ events_of xs ++ events_of ys
events_of-append [] ys = refl
events_of-append (x ∷ xs) ys = ap (λ w. x.event ∷ w) (events_of-append xs ys)

-- nothing more seen
pub same_seen : (p q : CallerView) → q.seen ≡ p.seen → q.caller ≡ p.caller → Gains p q []
same_seen p q s c = record { own = ap (calls_by p.caller) s ∙ sym (append-nil (calls_by p.caller p.seen)); caller = c; seen = ([], append-nil p.seen ∙ sym s) }

pub no_gain : (p : CallerView) → Gains p p []
no_gain p = same_seen p p refl refl

pub more_gains : (p q r : CallerView) (xs ys : List Entry) → Gains p q xs → Gains q r ys → Gains p r (xs ++ ys)
more_gains p q r xs ys a b = record {
  own = sym (ap (λ c. calls_by c r.seen) a.caller) ∙ (b.own ∙ (ap (λ w. w ++ ys) (ap (λ c. calls_by c q.seen) a.caller ∙ a.own) ∙ append_assoc (calls_by p.caller p.seen) xs ys));
  caller = b.caller ∙ a.caller;
  seen = prefix_trans p.seen q.seen r.seen a.seen b.seen;
}

no_events : (es : List Entry) → events_of es ≡ [] → es ≡ []
no_events [] e = refl
no_events (x ∷ xs) e = absurd cc

pub gains_none : (p q : CallerView) → NewCalls p q [] → Gains p q []
gains_none p q n = subst (Gains p q) (no_events n.entries n.events_are) n.gains

-- nothing asked for
pub asked_none : (p q : CallerView) → NewCalls p q [] → q.asked ≡ p.asked
asked_none p q n = n.asked ∙ append-nil p.asked

pub no_calls : (p : CallerView) → NewCalls p p []
no_calls p = record { entries = []; events_are = refl; gains = no_gain p; asked = sym (append-nil p.asked) }

pub more_calls : (p q r : CallerView) (es fs : List Event) → NewCalls p q es → NewCalls q r fs → NewCalls p r (es ++ fs)
more_calls p q r es fs a b = record {
  entries = a.entries ++ b.entries;
  events_are = events_of-append a.entries b.entries ∙ (ap (λ w. w ++ events_of b.entries) a.events_are ∙ ap (λ w. es ++ w) b.events_are);
  gains = more_gains p q r a.entries b.entries a.gains b.gains;
  asked = b.asked ∙ (ap (λ w. w ++ fs) a.asked ∙ append_assoc p.asked es fs);
}

pub one_call : (p q : CallerView) (event : Event) (reply : Reply) → NewCall p q event reply → NewCalls p q (event ∷ [])
one_call p q event reply n = record { entries = n.entry ∷ []; events_are = ap (λ e. e ∷ []) n.event_is; gains = n.gains; asked = n.asked }

-- calls, and then one that was refused
pub then_refused : (limit : ℕ) (why : Refusal) (p q r : CallerView) (es : List Event) (last : Event) → NewCalls p q es → Refuses limit why q r last → RefusesAfter limit why p r es last
then_refused limit why p q r es last a b = record { then = q; calls = a; refused = b }
