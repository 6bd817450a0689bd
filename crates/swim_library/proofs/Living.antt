-- The life of a member goes on over a call, and over the end of an era that may follow it.
use Rattle.std.proofs.Common.{◌≡◌, ◌∙◌, ◌⊎◌, inl, inr, refl, subst, sym, List, [], ◌∷◌, ◌++◌}
use Rattle.swim_disk.specs.File.{FileView, file_state}
use Rattle.swim_member.specs.declared.event.Event.{Event}
use Rattle.swim_node.specs.History.{Base, IsLegal, granted_of}
use Rattle.swim_node.specs.Lives.{Era, EndsEra, GoesOn, IsLiving, MayEnd, life_of}
use Rattle.swim_node.specs.Node.{NodeView, next_base}
use Rattle.swim_node.specs.declared.entry.Entry.{Entry}
use Rattle.swim_state.specs.Held.{Covers, Through}
use Rattle.swim_library.specs.Outbox.{waiting_in}
use Rattle.swim_library.specs.Running.{AddsTo, CallsNode, GoesInto, MayEndEra}
use Rattle.swim_library.specs.declared.running.Running.{Running}

-- a call with this entry, and then the end of the era or not
pub goes_into : (old mid new : NodeView FileView) (e : Entry) → mid.base ≡ old.base → mid.entries ≡ old.entries ++ e ∷ [] → GoesOn file_state old mid → MayEndEra mid new → GoesInto old new e
goes_into old mid new e base entries goes (inl (same, kept, on)) = inl (same ∙ base, kept ∙ entries, λ settings limit opened eras living. on settings limit opened eras (goes settings limit opened eras living))
goes_into old mid new e base entries goes (inr (next, none, ends)) = inr (
  next ∙ (λ i. next_base (base i) (entries i)),
  none,
  λ settings limit opened eras living. subst (λ (era : Era). IsLiving file_state new.owner (life_of settings limit opened (eras ++ era ∷ []) new)) (λ i. record { base = base i; entries = entries i }) (ends settings limit opened eras (goes settings limit opened eras living)),
)

-- the end of an era or not, and then a call that ends none
pub lives_on : (old mid new : NodeView FileView) → MayEndEra old mid → GoesOn file_state mid new → GoesOn file_state old new ⊎ EndsEra file_state old new
lives_on old mid new (inl (same, kept, on)) goes = inl (λ settings limit opened eras living. goes settings limit opened eras (on settings limit opened eras living))
lives_on old mid new (inr (next, none, ends)) goes = inr (λ settings limit opened eras living. goes settings limit opened _ (ends settings limit opened eras living))

-- such a call of a member that runs
pub adds : (old new : Running) (mid : NodeView FileView) (event : Event) (called : CallsNode old.node mid (waiting_in old.outbox) (waiting_in new.outbox) event) → new.told ≡ old.told → new.due ≡ old.due → new.seeking ≡ old.seeking → new.node.owner ≡ mid.owner → new.node.first ≡ mid.first → new.node.disk ≡ mid.disk → IsLegal mid.base mid.entries → MayEnd file_state new.node → MayEndEra mid new.node → AddsTo old new event called.entry.reply
adds old new mid event called told due seeking owner first disk legal ends ended = record {
  entry = called.entry;
  event_is = called.event_is;
  reply_is = refl;
  legal = subst (λ (base : Base). IsLegal base (old.node.entries ++ called.entry ∷ [])) called.base (subst (λ (entries : List Entry). IsLegal mid.base entries) called.entries legal);
  era = goes_into old.node mid new.node called.entry called.base called.entries called.lives ended;
  waits = called.waits_are;
  told = told;
  due = due;
  seeking = seeking;
  owner = owner ∙ called.owner;
  first = first ∙ called.first;
  held = record {
    moments = subst (λ (d : FileView). Through (Covers old.node.owner (granted_of old.node.base old.node.entries)) (file_state old.node.disk) (file_state d)) (sym disk) called.moments;
    ends = ends;
  };
}
