-- The calls of a pass, as those of a caller.
use Rattle.std.proofs.Common.{◌≡◌, Bool, true, ◌||◌, List, [], ◌∷◌, ◌++◌, refl, ap, sym, ◌∙◌}
use Rattle.std.proofs.lemmas.List.{append-nil}
use mathlib.Core.List.{IsPrefix}
use Rattle.swim_member.specs.declared.event.Event.{Event}
use Rattle.swim_node.specs.declared.entry.Reply.{Reply}
use Rattle.swim_node.specs.History.{Base, calls_by}
use Rattle.swim_shared.specs.Passes.{PassView, Called, FullFor, Unseen}
use Rattle.swim_shell.specs.declared.caller.Refusal.TheVariants as refusal
use Rattle.swim_shell.specs.Calls.{Gains, NewCall, Refuses}
use Rattle.swim_handle.specs.Views.{view_of}
use Rattle.std.proofs.lemmas.List.{append_assoc}

called_prefix : {A : Type 0} (xs ys zs : List A) (x : A) → zs ≡ (xs ++ ys) ++ x ∷ [] → IsPrefix xs zs
called_prefix xs ys zs x is = (ys ++ x ∷ [], sym (append_assoc xs ys (x ∷ [])) ∙ sym is)

-- a call that was answered stands at the end of the history that the pass has read back
pub called_new : (base : Base) (p q : PassView) (s t : Bool) (a b : List Event) (event : Event) (reply : Reply) → Called base p event reply q → b ≡ a ++ event ∷ [] → NewCall (view_of p s a) (view_of q t b) event reply
called_new base p q s t a b event reply c k = record {
  entry = c.entry;
  event_is = c.answers.event_is;
  reply_is = c.answers.reply_is;
  gains = record { own = c.own; caller = c.caller; seen = called_prefix p.seen c.between q.seen c.entry c.seen };
  asked = k;
}

same_gains : (p q : PassView) (s t : Bool) (a b : List Event) → q.seen ≡ p.seen → q.caller ≡ p.caller → Gains (view_of p s a) (view_of q t b) []
same_gains p q s t a b e c = record { own = ap (calls_by p.caller) e ∙ sym (append-nil (calls_by p.caller p.seen)); caller = c; seen = ([], append-nil p.seen ∙ sym e) }

-- without memory nothing happened
pub refused_memory : (limit : _) (p q : PassView) (s t : Bool) (a b : List Event) (event : Event) → q ≡ p → b ≡ a ++ event ∷ [] → Refuses limit refusal.Memory (view_of p s a) (view_of q t b) event
refused_memory limit p q s t a b event same k = record { gains = same_gains p q s t a b (ap (λ v. v.seen) same) (ap (λ v. v.caller) same); asked = k; because = ap (λ v. v.seen) same }

-- the pass has read all of the full era
pub refused_full : (base : Base) (p q : PassView) (s t : Bool) (a b : List Event) (event : Event) → FullFor base p q → b ≡ a ++ event ∷ [] → Refuses base.limit refusal.EraFull (view_of p s a) (view_of q t b) event
refused_full base p q s t a b event full k = record { gains = record { own = full.own ∙ sym (append-nil (calls_by p.caller p.seen)); caller = full.caller; seen = full.seen }; asked = k; because = full.full }

-- a pass that is behind the journal is of no use
pub refused_turn : (limit : _) (p q : PassView) (s : Bool) (a b : List Event) (event : Event) → q ≡ p → b ≡ a ++ event ∷ [] → Refuses limit refusal.Unread (view_of p s a) (view_of q true b) event
refused_turn limit p q s a b event same k = record { gains = same_gains p q s true a b (ap (λ v. v.seen) same) (ap (λ v. v.caller) same); asked = k; because = refl }

-- and so is one that could not read back
pub refused_unread : (limit : _) (p q : PassView) (s : Bool) (a b : List Event) (event : Event) → Unseen p q → b ≡ a ++ event ∷ [] → Refuses limit refusal.Unread (view_of p s a) (view_of q true b) event
refused_unread limit p q s a b event u k = record { gains = same_gains p q s true a b u.seen u.caller; asked = k; because = refl }

-- nothing is entered any more
pub refused_spent : (limit : _) (p : PassView) (s : Bool) (a b : List Event) (event : Event) → s ≡ true → b ≡ a ++ event ∷ [] → Refuses limit refusal.Unread (view_of p s a) (view_of p s b) event
refused_spent limit p s a b event spent k = record { gains = same_gains p p s s a b refl refl; asked = k; because = ap (λ w. w || p.spent) spent }
