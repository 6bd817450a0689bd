-- A member that goes on makes its steps one after the other, and finds who stopped.
use Rattle.std.proofs.Common.{◌≡◌, ◌≢◌, ℕ, zero, suc, ◌≤◌, ◌==◌, false, cond, refl, sym, ◌∙◌, ap, subst, inl, inr, ◌⊎◌, List, [], ◌∷◌, ◌++◌, append_assoc, append-nil, Option, Some, None}
use Rattle.std.proofs.lemmas.Bool.{cases_Bool, eqb-true, eqb-false}
use Rattle.swim_member.specs.Events.{Step, log_of}
use Rattle.swim_member.specs.Member.{is_eligible_name}
use Rattle.swim_group.specs.Group.{Place, Group, Move, Happens, Restarts, OfPlace, place_at, change_at, begun, state_at, with_event, new_place, after_move, after_moves}
use Rattle.swim_detect.specs.Finding.{deadline}
use Rattle.swim_detect.proofs.Staying.{found-in_end}
use Rattle.std.specs.List.{AllByRecursion}
use Rattle.swim_wire.specs.declared.datagram.Datagram.{Datagram}
use Rattle.swim_wire.specs.declared.datagram.Kind.TheVariants.{Ack}
use Rattle.swim_wire.specs.declared.update.Update.{Update}
use Rattle.swim_wire.specs.declared.update.UpdateKind.TheVariants.{Confirm}
use Rattle.swim_member.specs.declared.answer.Out.{Out}
use Rattle.swim_member.specs.declared.event.Event.{Event}
use Rattle.swim_member.specs.Judged as judged
use Rattle.swim_member.specs.declared.own_number.OwnNumber.{OwnNumber}
use Rattle.swim_member.specs.Judge.{judge}
use Rattle.swim_member.proofs.Logs.{log_after-snoc}
use Rattle.swim_group.specs.Group.{Begins, IsRunOf, name_at}
use Rattle.swim_group.specs.Network.{WasSent, IsNotInvented}
use Rattle.swim_group.specs.Numbers.{AreNoHigher, IsUnpassed}
use Rattle.swim_group.proofs.Telling.{IsKept, kept-move, kept-moves, kept-begins, all-at}
use Rattle.swim_group.proofs.Passing.{within-kept}
use Rattle.swim_detect.specs.Silence.{IsSilentOn, AreSilentOn}
use Rattle.swim_detect.proofs.Lists.{all-weaker}
use Rattle.swim_detect.proofs.Judged.{judged-datagram}
use Rattle.swim_detect.proofs.Silent.{silent-found}
use Rattle.swim_detect_group.specs.Stopping.{steps_of, NeverRestarts, IsFoundBy, HasStopped, BringNoAcks, FindsStopped}
use Rattle.swim_detect_group.proofs.Accused.{was-sent}
use Rattle.swim_group.proofs.Viewing.{at-unchanged}

-- the member after more steps
abbrev with_steps : List Step → Place → Place
with_steps steps p = record { settings = p.settings; first = p.first; steps = p.steps ++ steps }

place-same : (f : Place → Place) (places : List Place) (k : ℕ) (p : Place) → place_at places k ≡ Some p → place_at (change_at places k f) k ≡ Some (f p)
place-same f [] k p e = absurd (cc)
place-same f (q ∷ places) zero p e = let same : q ≡ p = cc in ap (λ r. Some (f r)) same
place-same f (q ∷ places) (suc k) p e = place-same f places k p e

goes-on : (which : ℕ) (moves : List Move) (g : Group) (p : Place) → NeverRestarts which moves → place_at g.places which ≡ Some p → place_at (after_moves g moves).places which ≡ Some (with_steps (steps_of which moves) p)
goes-on which [] g p n e = e ∙ ap (λ (steps : List Step). Some (record { settings = p.settings; first = p.first; steps = steps })) (sym (append-nil p.steps))
goes-on which (Restarts k settings first ∷ moves) g p n e =
    goes-on which moves (after_move g (Restarts k settings first)) p n.1 (at-unchanged (λ q. new_place settings first) g.places k which n.0 ∙ e)
goes-on which (Happens k event granted ∷ moves) g p n e = elim (cases_Bool (k == which)) [
  | inl t ↦
      let same : k ≡ which = eqb-true k which t in
      let here : place_at (change_at g.places k (with_event event granted)) which ≡ Some (with_event event granted p) =
      subst (λ i. place_at (change_at g.places k (with_event event granted)) i ≡ Some (with_event event granted p)) same (place-same (with_event event granted) g.places k p (ap (place_at g.places) same ∙ e)) in
      goes-on which moves (after_move g (Happens k event granted)) (with_event event granted p) n.1 here
      ∙ ap (λ (steps : List Step). Some (record { settings = p.settings; first = p.first; steps = steps }))
      (append_assoc p.steps (record { event = event; granted = granted } ∷ []) (steps_of which moves)
      ∙ ap (λ b. p.steps ++ cond b (record { event = event; granted = granted } ∷ steps_of which moves) (steps_of which moves)) (sym t))
  | inr f ↦
      goes-on which moves (after_move g (Happens k event granted)) p n.1 (at-unchanged (with_event event granted) g.places k which (eqb-false k which f) ∙ e)
      ∙ ap (λ b. Some (with_steps (cond b (record { event = event; granted = granted } ∷ steps_of which moves) (steps_of which moves)) p)) (sym f)
]

pub found-by : (most x which : ℕ) (g : Group) (moves : List Move) → NeverRestarts which moves → OfPlace (place_at g.places which) (IsFoundBy most x which g moves)
found-by most x which g moves n = at (place_at g.places which) refl
  where
    at : (o : Option Place) → place_at g.places which ≡ o → OfPlace o (IsFoundBy most x which g moves)
    at None e = tt
    at (Some p) e = λ sound unspared back.
        subst (λ o. OfPlace o (λ q. deadline most x (begun p) p.steps ≤ (state_at q).time → is_eligible_name (state_at q) x ≡ false)) (sym (goes-on which moves g p n e))
        (λ late. found-in_end most x (begun p) p.steps (steps_of which moves) sound unspared back late)

-- Who stopped

-- what was sent has no number of x above n
sent-low : (x n : ℕ) (sent : List Out) (d : Datagram) → AllByRecursion (λ (out : Out). AreNoHigher x n out.datagram.updates.items) sent → WasSent sent d → AreNoHigher x n d.updates.items
sent-low x n [] d a h = absurd h
sent-low x n (out ∷ sent) d a (inl e) = subst (λ (c : Datagram). AreNoHigher x n c.updates.items) e a.0
sent-low x n (out ∷ sent) d a (inr h) = sent-low x n sent d a.1 h

-- an event that comes to p vouches for nothing
event-silent : (g : Group) (o p : Place) (other : ℕ) (e : Event) → IsKept g → place_at g.places other ≡ Some o → IsNotInvented g.sent e
    → ((d : Datagram) → (own : OwnNumber) → judge (state_at p) e ≡ judged.Datagram d own → d.kind ≡ Ack → d.subject ≢ name_at o)
    → (d : Datagram) → (own : OwnNumber) → judge (state_at p) e ≡ judged.Datagram d own → IsSilentOn (name_at o) (state_at o).number d
event-silent g o p other e kept at come acks d own j =
    let unpassed : IsUnpassed g o = all-at (IsUnpassed g) g.places other o at (within-kept g kept) in
    let low : AreNoHigher (name_at o) (state_at o).number d.updates.items = sent-low (name_at o) (state_at o).number g.sent d unpassed.sent (was-sent g.sent e d come (judged-datagram (state_at p) e d own j).read) in
    record {
      no_ack = acks d own j;
      low = all-weaker (λ (u : Update). u.who ≡ name_at o → u.number ≤ (state_at o).number) (λ (u : Update). u.who ≡ name_at o → (u.kind ≡ Confirm) ⊎ (u.number ≤ (state_at o).number)) (λ u f same. inr (f same)) d.updates.items low;
    }

moves-silent : (which other : ℕ) (moves : List Move) (g : Group) (o p : Place) → IsKept g → IsRunOf g moves → HasStopped other moves → NeverRestarts which moves → place_at g.places other ≡ Some o → place_at g.places which ≡ Some p → BringNoAcks which (name_at o) g moves → AreSilentOn (name_at o) (state_at o).number (begun p) (log_of (begun p) p.steps) (steps_of which moves)
moves-silent which other [] g o p kept run stopped on at here acks = tt
moves-silent which other (Restarts k settings first ∷ moves) g o p kept run stopped on at here acks =
    moves-silent which other moves (after_move g (Restarts k settings first)) o p (kept-move g (Restarts k settings first) run.0 kept) run.1 stopped.1 on.1
    (at-unchanged (λ q. new_place settings first) g.places k other stopped.0 ∙ at) (at-unchanged (λ q. new_place settings first) g.places k which on.0 ∙ here) acks.1
moves-silent which other (Happens k event granted ∷ moves) g o p kept run stopped on at here acks =
    let e : Step = record { event = event; granted = granted } in
    let next : Group = after_move g (Happens k event granted) in
    let kept_next : IsKept next = kept-move g (Happens k event granted) run.0 kept in
    let at_next : place_at next.places other ≡ Some o = at-unchanged (with_event event granted) g.places k other stopped.0 ∙ at in
    elim (cases_Bool (k == which)) [
      | inl t ↦
          let same : k ≡ which = eqb-true k which t in
          let here_next : place_at next.places which ≡ Some (with_event event granted p) =
          subst (λ i. place_at (change_at g.places k (with_event event granted)) i ≡ Some (with_event event granted p)) same (place-same (with_event event granted) g.places k p (ap (place_at g.places) same ∙ here)) in
          let no_acks : (d : Datagram) → (own : OwnNumber) → judge (state_at p) event ≡ judged.Datagram d own → d.kind ≡ Ack → d.subject ≢ name_at o =
          subst (λ q. OfPlace q (λ r. (d : Datagram) → (own : OwnNumber) → judge (state_at r) event ≡ judged.Datagram d own → d.kind ≡ Ack → d.subject ≢ name_at o)) here (acks.0 same) in
          let head : (d : Datagram) → (own : OwnNumber) → judge (state_at p) event ≡ judged.Datagram d own → IsSilentOn (name_at o) (state_at o).number d = event-silent g o p other event kept at run.0 no_acks in
          let tail : AreSilentOn (name_at o) (state_at o).number (begun p) (log_of (begun p) (p.steps ++ e ∷ [])) (steps_of which moves) =
          moves-silent which other moves next o (with_event event granted p) kept_next run.1 stopped.1 on.1 at_next here_next acks.1 in
          subst (AreSilentOn (name_at o) (state_at o).number (begun p) (log_of (begun p) p.steps)) (ap (λ b. cond b (e ∷ steps_of which moves) (steps_of which moves)) (sym t))
          (head, subst (λ l. AreSilentOn (name_at o) (state_at o).number (begun p) l (steps_of which moves)) (log_after-snoc (begun p) [] p.steps e) tail)
      | inr f ↦
          let here_next : place_at next.places which ≡ Some p = at-unchanged (with_event event granted) g.places k which (eqb-false k which f) ∙ here in
          subst (AreSilentOn (name_at o) (state_at o).number (begun p) (log_of (begun p) p.steps)) (ap (λ b. cond b (e ∷ steps_of which moves) (steps_of which moves)) (sym f))
          (moves-silent which other moves next o p kept_next run.1 stopped.1 on.1 at_next here_next acks.1)
    ]

pub finds-stopped : (most which other : ℕ) (group : Group) (before moves : List Move) → Begins group → IsRunOf group before → IsRunOf (after_moves group before) moves → HasStopped other moves → NeverRestarts which moves
    → OfPlace (place_at (after_moves group before).places other) (λ stopped. OfPlace (place_at (after_moves group before).places which) (FindsStopped most which (after_moves group before) moves stopped))
finds-stopped most which other group before moves begins past run stopped on = at_other (place_at g.places other) refl
  where
    g : Group
    g = after_moves group before

    kept : IsKept g
    kept = kept-moves before group past (kept-begins group begins)

    at_which : (o : Place) → place_at g.places other ≡ Some o → (q : Option Place) → place_at g.places which ≡ q → OfPlace q (FindsStopped most which g moves o)
    at_which o at None here = tt
    at_which o at (Some p) here = λ w late.
        silent-found most (name_at o) (state_at o).number (begun p) p.steps (steps_of which moves) w.sound
        (record { deals = w.deals; silent = moves-silent which other moves g o p kept run stopped on at here w.acks; lists = w.lists; known = w.known }) late

    at_other : (q : Option Place) → place_at g.places other ≡ q → OfPlace q (λ o. OfPlace (place_at g.places which) (FindsStopped most which g moves o))
    at_other None at = tt
    at_other (Some o) at = at_which o at (place_at g.places which) refl
