use Rattle.std.proofs.Common.{◌≡◌, true, ℕ, List, map, sym, subst, ◌∙◌, ap}
use Rattle.std.specs.List.{All}
use Rattle.swim_wire.specs.declared.update.Update.{Update}
use Rattle.swim_gossip.specs.declared.slots.BufferSlot.{BufferSlot}
use Rattle.swim_gossip.specs.Queue.{raise_all, NeverRise}
use Rattle.swim_gossip.specs.Buckets.{at, raised_at, queue_in}
use Rattle.swim_gossip.proofs.Falling.{falling-raised}
use Rattle.swim_gossip.proofs.Runs.{picked-runs}
use Rattle.swim_gossip.proofs.Raised.{live-all, raised-runs}
use Rattle.swim_gossip.proofs.buckets.pick_from.Goals as goal

pub send_at-requires-clause-places : goal.send_at-requires-clause-places
send_at-requires-clause-places c =
    subst (λ (xs : List ℕ). All (λ (x : ℕ). (at c.args.slots.now x).waits ≡ true) xs) (sym (c.deref.ensures.0 ∙ c.next_places-places.ensures.places)) (live-all c.args.limit c.args.room c.args.slots.now)

pub returns-clause-picked : goal.returns-clause-picked
returns-clause-picked c =
    c.send_at.ensures.updates
    ∙ ap (map (λ (x : ℕ). (at c.args.slots.now x).update)) (c.deref.ensures.0 ∙ c.next_places-places.ensures.places)
    ∙ picked-runs c.args.limit c.args.room c.args.slots.now

pub returns-clause-counted : goal.returns-clause-counted
returns-clause-counted c =
    ap queue_in c.send_at.ensures.slots
    ∙ ap (λ (xs : List ℕ). queue_in (raised_at xs c.args.slots.now)) (c.deref.ensures.0 ∙ c.next_places-places.ensures.places)
    ∙ raised-runs c.args.limit c.args.room c.args.slots.now c.requires.few c.requires.apart
    ∙ ap (λ (us : List Update). map (raise_all us) (queue_in c.args.slots.now)) (picked-runs c.args.limit c.args.room c.args.slots.now)

pub returns-clause-falling : goal.returns-clause-falling
returns-clause-falling c =
    subst (λ (slots : List BufferSlot). NeverRise (queue_in slots)) (sym (c.send_at.ensures.slots ∙ ap (λ (xs : List ℕ). raised_at xs c.args.slots.now) (c.deref.ensures.0 ∙ c.next_places-places.ensures.places)))
    (falling-raised c.args.limit c.args.room c.args.slots.now c.requires.few c.requires.falling)
