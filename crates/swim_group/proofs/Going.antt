-- What is known of all that was sent in a run of real nodes, after one more call.
use Rattle.std.proofs.Common.{◌≡◌, ℕ, zero, suc, List, [], ◌∷◌, ◌++◌, append_assoc, append-nil, ap, subst, sym, ◌∙◌, inl, inr, Some, slice_get, slice_set, take}
use Rattle.swim_disk.specs.declared.mem.Choice.{Choice}
use Rattle.swim_member.specs.declared.answer.Out.{Out}
use Rattle.swim_member.specs.declared.event.Event.{Event}
use Rattle.swim_member.specs.declared.event.Event.TheVariants as event
use Rattle.swim_node.specs.declared.entry.Reply.{Reply}
use Rattle.swim_group.specs.declared.failure.Failure.{Failure}
use Rattle.swim_group.specs.declared.seat.Seat.{Seat}
use Rattle.swim_group.specs.Checking.{KeepTheLaw}
use Rattle.swim_group.specs.Group.{Group}
use Rattle.swim_group.specs.Network.{WasSent, IsSentOrFaulty, IsNotInvented}
use Rattle.swim_group.specs.Nodes.{after_node_moves, members_of, moves_of}
use Rattle.swim_group.specs.Real.{Arrives}
use Rattle.swim_group.specs.RealNodes.{RealNodes, HasNodeRun, HasSent, HearsAt, DeliversAt, OpensAt, LeavesAt, EraEndsAt, PlansAt, LosesAt, node_disk_state}
use Rattle.swim_group.proofs.Keeping.{law-run}
use Rattle.swim_group.proofs.Losing.{left-run}
use Rattle.swim_group.proofs.Seating.{GoesOn, heard-on, opened-on, gone-on, ended-on, planned-on, real}
use Rattle.swim_group.proofs.Simulating.{living-begins, members-begin, nodes-moved, nodes-run}

-- all that was sent keeps the law, and so does what was sent last after the rest
law-after : (sent outs before : List Out) → KeepTheLaw before (sent ++ outs) → KeepTheLaw (before ++ sent) outs
law-after [] outs before h = subst (λ s. KeepTheLaw s outs) (sym (append-nil before)) h
law-after (out ∷ sent) outs before h = subst (λ s. KeepTheLaw s outs) (append_assoc before (out ∷ []) sent) (law-after sent outs (before ++ out ∷ []) h.1)

law-in : (seats : List Seat) (kept : List Out) (h : HasNodeRun seats kept) → KeepTheLaw [] (after_node_moves h.group h.moves).sent
law-in seats kept h =
    subst (λ (k : Group). KeepTheLaw [] k.sent) (sym (nodes-moved node_disk_state h.moves h.group h.run))
    (law-run (members_of h.group) (moves_of h.moves) (members-begin node_disk_state h.group h.begins) (nodes-run node_disk_state h.moves h.group (living-begins node_disk_state h.group h.begins) h.run))

-- a datagram that arrives was not invented
got-sent : (kept : List Out) (i : ℕ) (out : Out) → slice_get kept i ≡ Some out → WasSent kept out.datagram
got-sent [] i out e = absurd (cc)
got-sent (o ∷ kept) zero out e = let same : o ≡ out = cc in inl (ap (λ (x : Out). x.datagram) same)
got-sent (o ∷ kept) (suc i) out e = inr (got-sent kept i out e)

pub arrives-sent : (kept : List Out) (i : ℕ) (out : Out) (e : Event) → slice_get kept i ≡ Some out → Arrives out e → IsNotInvented kept e
arrives-sent kept i out (event.Datagram from bytes) there a = subst (IsSentOrFaulty kept) (sym a.1) (got-sent kept i out there)
arrives-sent kept i out _ there a = absurd a

module _ (old new : RealNodes) (which : ℕ) where
  -- after a call, by which this was sent after the rest
  pub heard-more : (event : Event) (reply : Reply) (hears : HearsAt old new which event reply) → IsNotInvented old.kept event → (P Q : List Out → Type 0)
      → ((sent : List Out) → KeepTheLaw sent hears.hears.e.outs.items → P sent → Q (sent ++ hears.hears.e.outs.items)) → HasSent old P → HasSent new Q
  heard-more event reply hears comes P Q goes has =
      let outs : List Out = hears.hears.e.outs.items in
      let on : GoesOn old.seats old.kept has.ran (slice_set old.seats which hears.next) (take old.room (old.kept ++ hears.hears.e.outs.items)) hears.hears.e.outs.items =
      heard-on old.seats old.kept old.room which hears.seat hears.next event reply hears.found hears.hears comes has.ran in
      let law : KeepTheLaw (after_node_moves has.ran.group has.ran.moves).sent hears.hears.e.outs.items =
      law-after (after_node_moves has.ran.group has.ran.moves).sent hears.hears.e.outs.items [] (subst (KeepTheLaw []) on.sent (law-in (slice_set old.seats which hears.next) (take old.room (old.kept ++ hears.hears.e.outs.items)) on.next)) in
      subst (λ v. HasSent v Q) (sym hears.is) (record {
        ran = on.next;
        all = subst Q (sym on.sent) (goes (after_node_moves has.ran.group has.ran.moves).sent law has.all);
      })

  pub delivered-more : (datagram : ℕ) (reply : Reply) (delivers : DeliversAt old new which datagram reply) → (P Q : List Out → Type 0)
      → ((sent : List Out) → KeepTheLaw sent delivers.heard.hears.e.outs.items → P sent → Q (sent ++ delivers.heard.hears.e.outs.items)) → HasSent old P → HasSent new Q
  delivered-more datagram reply delivers = heard-more delivers.event reply delivers.heard (arrives-sent old.kept datagram delivers.out delivers.event delivers.kept delivers.arrives)

  -- nothing was sent
  same-sent : (P : List Out → Type 0) (later : List Seat) (after : List Out) (has : HasSent old P) → new ≡ real later after old.room old.limit → GoesOn old.seats old.kept has.ran later after [] → HasSent new P
  same-sent P later after has is on =
      subst (λ v. HasSent v P) (sym is) (record {
        ran = on.next;
        all = subst P (sym (on.sent ∙ append-nil (after_node_moves has.ran.group has.ran.moves).sent)) has.all;
      })

  pub opened-same : (choice : Choice) → OpensAt old new which choice → (P : List Out → Type 0) → HasSent old P → HasSent new P
  opened-same choice opens P has = same-sent P (slice_set old.seats which opens.next) old.kept has opens.is (opened-on old.seats old.kept old.limit which opens.seat opens.next opens.found opens.opens has.ran)

  pub left-same : LeavesAt old new which → (P : List Out → Type 0) → HasSent old P → HasSent new P
  left-same leaves P has = same-sent P _ old.kept has leaves.is (gone-on old.seats old.kept which leaves.seat leaves.found has.ran)

  pub ended-same : EraEndsAt old new which → (P : List Out → Type 0) → HasSent old P → HasSent new P
  ended-same ends P has = same-sent P (slice_set old.seats which ends.next) old.kept has ends.is (ended-on old.seats old.kept which ends.seat ends.next ends.found ends.ends has.ran)

  pub planned-same : (failure : Failure) → PlansAt old new which failure → (P : List Out → Type 0) → HasSent old P → HasSent new P
  planned-same failure plans P has = same-sent P (slice_set old.seats which plans.next) old.kept has plans.is (planned-on old.seats old.kept which plans.seat plans.next failure plans.found plans.plans has.ran)

  pub lost-same : LosesAt old new which → (P : List Out → Type 0) → HasSent old P → HasSent new P
  lost-same loses P has = same-sent P old.seats _ has loses.is (left-run old.seats old.kept which loses.out loses.kept has.ran)
