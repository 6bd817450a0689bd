use Rattle.std.proofs.Common.{◌≡◌, ◌+◌, ◌<◌, ◌≤◌, ◌++◌, ◌∷◌, [], List, ℕ, true, length, get_or, set, refl, subst, sym, ◌∙◌, ap, arith, drop}
use Rattle.std.proofs.lemmas.List.{at_drop_more, map_more}
use Rattle.swim_wire.specs.declared.update.Update.{Update}
use Rattle.swim_gossip.specs.declared.slots.BufferSlot.{BufferSlot}
use Rattle.swim_gossip.specs.Buckets.{at, bump, raised_at}
use Rattle.swim_gossip.proofs.Runs.{live-below, within-at}
use Rattle.swim_gossip.proofs.Raised.{at-read, count-raised, update-kept, waits-kept}
use Rattle.swim_gossip.proofs.buckets.send_at.Goals as goal

pub overflow_add-slots : goal.overflow_add-slots
overflow_add-slots c =
    let x : ℕ = get_or c.args.places.now c.loop-place.place-index 0 in
    let live : (at c.loop-place.slots x).waits ≡ true = c.loop-place.invariant.waits x ∙ c.requires.places c.loop-place.place-index 0 c.loop-place-test.true in
    let same : (get_or c.loop-place.slots x c.index-slots-place-in-loop-place.result).count ≡ (at c.loop-place.slots x).count = ap (λ (s : BufferSlot). s.count) (at-read c.loop-place.slots x c.index-slots-place-in-loop-place.result (live-below c.loop-place.slots x live)) in
    let few : (at c.loop-place.slots x).count ≤ 144 + c.loop-place.place-index = c.loop-place.invariant.counts x live in
    omega (arith, same, few, c.loop-place-test.true, c.requires.few)

pub loop-place-init : goal.loop-place-init
loop-place-init c = record {
  updates = c.requires.empty;
  slots = refl;
  counts = λ x w. within-at 144 c.args.slots.now x c.requires.counts w;
  same = λ x. refl;
  waits = λ x. refl;
}

pub loop-place-preserved : goal.loop-place-preserved
loop-place-preserved c =
    let x : ℕ = get_or c.args.places.now c.loop-place.place-index 0 in
    let live : (at c.loop-place.slots x).waits ≡ true = c.loop-place.invariant.waits x ∙ c.requires.places c.loop-place.place-index 0 c.loop-place-test.true in
    let l : x < length c.loop-place.slots = live-below c.loop-place.slots x live in
    let sent : (get_or c.loop-place.slots x c.index-slots-place.result).update ≡ (at c.args.slots.now x).update =
    ap (λ (s : BufferSlot). s.update) (at-read c.loop-place.slots x c.index-slots-place.result l) ∙ c.loop-place.invariant.same x in
    let read : get_or c.loop-place.slots x c.index-slots-place-in-loop-place.result ≡ at c.loop-place.slots x = at-read c.loop-place.slots x c.index-slots-place-in-loop-place.result l in
    let read_too : get_or c.loop-place.slots x c.index-slots-place-in-loop-place-2.result ≡ at c.loop-place.slots x = at-read c.loop-place.slots x c.index-slots-place-in-loop-place-2.result l in
    let few : (at c.loop-place.slots x).count ≤ 144 + c.loop-place.place-index = c.loop-place.invariant.counts x live in
    let raised_one : record { update = (get_or c.loop-place.slots x c.index-slots-place-in-loop-place-2.result).update; count = (get_or c.loop-place.slots x c.index-slots-place-in-loop-place.result).count + 1; waits = (get_or c.loop-place.slots x c.index-slots-place-in-loop-place-2.result).waits } ≡ bump (at c.loop-place.slots x) =
    ap (λ (s : BufferSlot). let v : BufferSlot = record { update = s.update; count = (get_or c.loop-place.slots x c.index-slots-place-in-loop-place.result).count + 1; waits = s.waits } in v) read_too
    ∙ ap (λ (s : BufferSlot). let v : BufferSlot = record { update = (at c.loop-place.slots x).update; count = s.count + 1; waits = (at c.loop-place.slots x).waits } in v) read in
    record {
      updates = c.push.ensures.items
          ∙ ap (λ (u : Update). c.loop-place.updates.items ++ u ∷ []) sent
          ∙ ap (λ (us : List Update). us ++ (at c.args.slots.now x).update ∷ []) c.loop-place.invariant.updates
          ∙ sym (map_more (λ (y : ℕ). (at c.args.slots.now y).update) c.args.places.now c.loop-place.place-index 0 c.loop-place-test.true);
      slots = ap (λ (s : BufferSlot). raised_at (drop (c.loop-place.place-index + 1) c.args.places.now) (set c.loop-place.slots x s)) raised_one
          ∙ sym (at_drop_more (λ (xs : List ℕ). raised_at xs c.loop-place.slots) c.args.places.now c.loop-place.place-index 0 c.loop-place-test.true)
          ∙ c.loop-place.invariant.slots;
      counts = λ y w.
          let next : set c.loop-place.slots x (record { update = (get_or c.loop-place.slots x c.index-slots-place-in-loop-place-2.result).update; count = (get_or c.loop-place.slots x c.index-slots-place-in-loop-place.result).count + 1; waits = (get_or c.loop-place.slots x c.index-slots-place-in-loop-place-2.result).waits }) ≡ set c.loop-place.slots x (bump (at c.loop-place.slots x)) = ap (set c.loop-place.slots x) raised_one in
          let still : (at c.loop-place.slots y).waits ≡ true = sym (ap (λ (slots : List BufferSlot). (at slots y).waits) next ∙ waits-kept c.loop-place.slots x y l) ∙ w in
          subst (λ (slots : List BufferSlot). (at slots y).count ≤ 144 + (c.loop-place.place-index + 1)) (sym next)
          (count-raised (144 + c.loop-place.place-index) (144 + (c.loop-place.place-index + 1)) c.loop-place.slots x y l (omega arith) few (c.loop-place.invariant.counts y still));
      same = λ y.
          ap (λ (s : BufferSlot). (at (set c.loop-place.slots x s) y).update) raised_one
          ∙ update-kept c.loop-place.slots x y l
          ∙ c.loop-place.invariant.same y;
      waits = λ y.
          ap (λ (s : BufferSlot). (at (set c.loop-place.slots x s) y).waits) raised_one
          ∙ waits-kept c.loop-place.slots x y l
          ∙ c.loop-place.invariant.waits y;
    }
