-- A datagram, from its parts: its updates, the own number, its kind.
use Rattle.std.proofs.Common.{◌≡◌, ℕ, ◌==◌, Bool, true, false, cond, refl, sym, ◌∙◌, ap, List, [], ◌∷◌, ◌++◌, map, append_assoc, append-nil, nat_le}
use Rattle.swim_wire.specs.declared.rules.Rules.{Rules}
use Rattle.swim_wire.specs.declared.update.Update.{Update}
use Rattle.swim_wire.specs.declared.update.UpdateKind.TheVariants.{Alive}
use Rattle.swim_wire.specs.declared.datagram.Datagram.{Datagram}
use Rattle.swim_rules.specs.declared.table.Heard.{Heard as Hearing}
use Rattle.swim_rules.specs.declared.table.Heard.TheVariants.{Accepted}
use Rattle.swim_rules.specs.Rows.{answer_to}
use Rattle.swim_member.specs.declared.note.Note.{Note}
use Rattle.swim_member.specs.declared.note.Note.TheVariants as note
use Rattle.swim_member.specs.declared.answer.Out.{Out}
use Rattle.swim_member.specs.Checks.{rules_of}
use Rattle.swim_member.specs.State.{State, Queued, NumberRaised, Noted}
use Rattle.swim_member.specs.Events.{Action, Hear, Settle, Reply, perform, outs, notes, datagram_actions}
use Rattle.swim_member.specs.OwnNumber.{own_with, hear_own, note_of, suspicion_of}
use Rattle.swim_member.specs.declared.own_number.OwnNumber.{OwnNumber}
use Rattle.swim_member.specs.declared.own_number.OwnNumber.TheVariants.{Stays, Wanted, Confirmed}
use Rattle.swim_member.specs.declared.own_number.Suspicion.{Suspicion}
use Rattle.swim_member.specs.declared.own_number.Suspicion.TheVariants.{Passed}
use Rattle.swim_member.specs.Hearing.{heard_with, hear_other}
use Rattle.swim_member.specs.Machinery.Steps.{apply_all, after, notes_by, outs_by}
use Rattle.swim_member.proofs.Actions.{after-append, notes_by-append, outs_by-append}

-- hearing sends nothing
outs-note_of : (x : Suspicion) → outs (note_of x) ≡ []
outs-note_of Passed = refl
outs-note_of _ = refl

outs-own : (rules : Rules) (old : ℕ) (u : Update) → outs (hear_own rules old u) ≡ []
outs-own rules old u = outs-note_of (suspicion_of rules old u)

pub outs-heard_with : (h : Hearing) (u : Update) → outs (heard_with h u) ≡ []
outs-heard_with Accepted u = refl
outs-heard_with _ u = refl

outs-hear : (s : State) (u : Update) → outs (perform s (Hear u)) ≡ []
outs-hear s u = pick (u.who == s.settings.me)
  where
    pick : (a : Bool) → outs (cond a (hear_own (rules_of s.settings) s.number u) (hear_other s u)) ≡ []
    pick true = outs-own (rules_of s.settings) s.number u
    pick false = outs-heard_with (answer_to (rules_of s.settings) s.rows u) u

pub outs_by-hear : (s : State) (us : List Update) → outs_by s (map (λ u. Hear u) us) ≡ []
outs_by-hear s [] = refl
outs_by-hear s (u ∷ us) = rw (outs-hear s u) (outs_by-hear (apply_all (perform s (Hear u)) s) us)

outs-settle_number : (s : State) (own : OwnNumber) (granted : ℕ) → outs (perform s (Settle own granted)) ≡ []
outs-settle_number s Stays granted = refl
outs-settle_number s Confirmed granted = refl
outs-settle_number s (Wanted n) granted = pick (nat_le n granted)
  where
    pick : (c : Bool) → outs (cond c (Queued (own_with s Alive n) ∷ NumberRaised n ∷ []) (Noted note.SaveFailed ∷ [])) ≡ []
    pick true = refl
    pick false = refl

pub record ReceivedBy (s0 s1 s2 s3 : State) (p : Datagram) (own : OwnNumber) (granted : ℕ) : Type 0 where
  pub heard : s1 ≡ after s0 (map (λ u. Hear u) p.updates.items)
  pub settled : s2 ≡ apply_all (perform s1 (Settle own granted)) s1
  pub replied : s3 ≡ apply_all (perform s2 (Reply p)) s2

abbrev last_two : Datagram → OwnNumber → ℕ → List Action
last_two p own granted = Settle own granted ∷ Reply p ∷ []

pub received-state : (s0 s1 s2 s3 : State) (p : Datagram) (own : OwnNumber) (granted : ℕ) → ReceivedBy s0 s1 s2 s3 p own granted → s3 ≡ after s0 (datagram_actions p own granted)
received-state s0 s1 s2 s3 p own granted h =
    h.replied ∙ ap (λ s. apply_all (perform s (Reply p)) s) h.settled
    ∙ ap (λ s. after s (last_two p own granted)) h.heard
    ∙ sym (after-append s0 (map (λ u. Hear u) p.updates.items) (last_two p own granted))

pub received-outs : (s0 s1 s2 s3 : State) (p : Datagram) (own : OwnNumber) (granted : ℕ) (sent : List Out) → ReceivedBy s0 s1 s2 s3 p own granted → sent ≡ outs (perform s2 (Reply p)) → sent ≡ outs_by s0 (datagram_actions p own granted)
received-outs s0 s1 s2 s3 p own granted sent h e =
    e ∙ sym (append-nil (outs (perform s2 (Reply p))))
    ∙ ap (λ s. outs (perform s (Reply p)) ++ []) h.settled
    ∙ ap (λ o. o ++ (outs (perform (apply_all (perform s1 (Settle own granted)) s1) (Reply p)) ++ [])) (sym (outs-settle_number s1 own granted))
    ∙ ap (λ s. outs_by s (last_two p own granted)) h.heard
    ∙ ap (λ o. o ++ outs_by (after s0 (map (λ u. Hear u) p.updates.items)) (last_two p own granted)) (sym (outs_by-hear s0 p.updates.items))
    ∙ sym (outs_by-append s0 (map (λ u. Hear u) p.updates.items) (last_two p own granted))

pub received-notes : (s0 s1 s2 s3 : State) (p : Datagram) (own : OwnNumber) (granted : ℕ) (n1 n2 n3 noted : List Note) → ReceivedBy s0 s1 s2 s3 p own granted → n1 ≡ notes_by s0 (map (λ u. Hear u) p.updates.items) → n2 ≡ notes (perform s1 (Settle own granted)) → n3 ≡ notes (perform s2 (Reply p)) → noted ≡ (n1 ++ n2) ++ n3 → noted ≡ notes_by s0 (datagram_actions p own granted)
received-notes s0 s1 s2 s3 p own granted n1 n2 n3 noted h e1 e2 e3 e =
    e ∙ append_assoc n1 n2 n3
    ∙ ap (λ n. n ++ (n2 ++ n3)) e1
    ∙ ap (λ n. notes_by s0 (map (λ u. Hear u) p.updates.items) ++ n) (
    ap (λ n. n ++ n3) e2 ∙ ap (λ n. notes (perform s1 (Settle own granted)) ++ n) (e3 ∙ sym (append-nil (notes (perform s2 (Reply p)))) ∙ ap (λ s. notes (perform s (Reply p)) ++ []) h.settled)
    ∙ ap (λ s. notes_by s (last_two p own granted)) h.heard)
    ∙ sym (notes_by-append s0 (map (λ u. Hear u) p.updates.items) (last_two p own granted))
