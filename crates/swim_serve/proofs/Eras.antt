-- What the journal of an era has of each of its workers.
use Rattle.std.proofs.Common.{◌≡◌, ℕ, ◌+◌, ◌==◌, ◌&&◌, ◌||◌, leb, Bool, true, false, true≢false, List, [], ◌∷◌, ◌++◌, length, refl, ap, sym, subst, ◌∙◌, arith, inl, inr, ⊎_elim, length-append}
use Rattle.std.proofs.lemmas.List.{append-nil}
use Rattle.std.proofs.lemmas.Bool.Decides.{nat_tests}
use Rattle.std.specs.Prelude.{Option}
use mathlib.Core.List.{IsPrefix}
use Rattle.swim_member.specs.declared.event.Event.{Event}
use Rattle.swim_node.specs.declared.entry.Entry.{Entry}
use Rattle.swim_node.specs.History.{Base, calls_by}
use Rattle.swim_node.proofs.Lists.{calls_by-append}
use Rattle.swim_shared.specs.Odd.{is_in_step}
use Rattle.swim_shared.specs.Outboxes.{SenderView, owed_after, Handed as HandedOn}
use Rattle.swim_shared.specs.Passes.{PassView, IsPass}
use Rattle.swim_shared.specs.Taken.{taken_of}
use Rattle.swim_shell.specs.declared.caller.Refusal.{Refusal}
use Rattle.swim_shell.specs.Calls.{CallerView}
use Rattle.swim_serve.specs.Eras.{HasCalls, Knows, ByPass, OutsideView, Served, Serves, SendsBy, Sends, outgoing_of}
use Rattle.swim_handle.specs.Views.{HasParts, view_of}
use Rattle.swim_serve.specs.Views.{LinkView, link_of}
use Rattle.swim_serve.specs.Works.{EraEnds, LeftBy, Sent}
use Rattle.swim_serve.specs.declared.era_counts.EraCounts.{EraCounts}
use Rattle.swim_serve.proofs.Fitting.{Fits}
use Rattle.swim_shared.proofs.Own.{nothing}

both : (a b : Bool) → (a && b) ≡ true → b ≡ true
both true b h = h
both false b h = absurd (true≢false (sym h))

in_step : (p : PassView) (journal : List Entry) → is_in_step p journal ≡ true → length (calls_by p.caller journal) ≡ p.calls
in_step p journal h =
    let last = both (leb (length p.seen) (length journal)) (length (calls_by p.caller journal) == p.calls) h in
    grind (arith, nat_tests, last)

only : (xs : List Entry) → length xs ≡ 1 → (x : Entry) × (xs ≡ x ∷ [])
only [] h = absurd (omega arith)
only (x ∷ xs) h = (x, ap (λ w. x ∷ w) (nothing xs (omega arith)))

or_true : (a b : Bool) → b ≡ true → (a || b) ≡ true
or_true true b h = refl
or_true false b h = h

has_more : (p : PassView) (s : Bool) (a : List Event) (journal : List Entry) (rest : List Entry) → p.spent ≡ true → calls_by p.caller journal ≡ calls_by p.caller p.seen ++ rest → length rest ≡ 1 → HasCalls journal (view_of p s a)
has_more p s a journal rest spent is one =
    let last = only rest one in
    inr (or_true s p.spent spent, last.0, is ∙ ap (λ w. calls_by p.caller p.seen ++ w) last.1)

pub knows : (base : Base) (p : PassView) (s : Bool) (a : List Event) (journal : List Entry) → IsPass base p → Fits journal p → Knows journal (view_of p s a)
knows base p s a journal ok (steps, begins) =
    let begun : IsPrefix p.seen journal = begins steps in
    let rest = calls_by p.caller begun.0 in
    let all : calls_by p.caller journal ≡ calls_by p.caller p.seen ++ rest = ap (calls_by p.caller) (sym begun.1) ∙ calls_by-append p.caller p.seen begun.0 in
    let many = in_step p journal steps in
    let sum : length (calls_by p.caller journal) ≡ length (calls_by p.caller p.seen) + length rest = ap length all ∙ length-append (calls_by p.caller p.seen) rest in (
      begun,
      ⊎_elim
          (λ (e : p.calls ≡ length (calls_by p.caller p.seen)). inl (all ∙ ap (λ w. calls_by p.caller p.seen ++ w) (nothing rest (omega (arith, e, many, sum))) ∙ append-nil (calls_by p.caller p.seen)))
          (λ (t : (p.spent ≡ true) × (p.calls ≡ length (calls_by p.caller p.seen) + 1)). has_more p s a journal rest t.0 all (omega (arith, t.1, many, sum)))
          ok.counted,
    )

module _ {S E : Type 0} (does : S → CallerView → S → CallerView → Option E → Type 0) where
  -- a worker did so by a caller, which gave its pass back
  pub by_pass : {P : Type 0} (base : Base) (pass_of : P → PassView) (a b c : S) (o p : CallerView) (parts : P) (pass : PassView) (end ends : Option E) → LeftBy does (λ known parts. HasParts base known (pass_of parts)) a o b parts end → o ≡ p → c ≡ b → pass ≡ pass_of parts → ends ≡ end → ByPass does base a p c pass ends
  by_pass base pass_of a b c o p parts pass end ends l begun is passed ended = record {
    known = l.known;
    did = subst (λ w. does a w c l.known ends) begun (subst (λ w. does a o w l.known ends) (sym is) (subst (λ w. does a o b l.known w) (sym ended) l.did));
    left = subst (HasParts base l.known) (sym passed) l.left;
  }

  pub served : (base : Base) (a b : S) (p : CallerView) (pass : PassView) (end : Option E) (journal : List Entry) → ByPass does base a p b pass end → Fits journal pass → Served does a p b end journal
  served base a b p pass end journal by fits = record {
    then = by.known;
    did = by.did;
    knows = subst (Knows journal) (sym by.left.0.known_is) (knows base pass by.left.0.spent by.left.0.asked journal by.left.1 fits);
  }

-- what was counted of the eras is no matter
pub counted : (came tells : Type 0) (limit : ℕ) (ring : SenderView) (a b : OutsideView) (ends : EraEnds) (journal : List Entry) (eras : EraCounts) → Serves came tells limit ring a b ends journal → Serves came tells limit ring a (record b { eras = eras }) ends journal
counted came tells limit ring a b ends journal eras s = record { receiver = s.receiver; ticker = s.ticker; sender = s.sender; control = s.control }

module _ {M : Type 0} (tells : Type 0) (took : M → List (ℕ × List ℕ)) (failures : M → ℕ) where
  pub sends : (base : Base) (owed : ℕ) (ring turned : SenderView) (link : LinkView) (after last : M) (pass : PassView) (end : Option Refusal) (owes : ℕ) (journal : List Entry) → SendsBy tells base owed ring link turned (link_of (took after) (failures after)) pass end → Fits journal pass → HandedOn tells took failures turned.got (taken_of journal) after last → owes ≡ owed_after turned.owed (failures after) (failures last) → Sends tells base.limit owed ring link (link_of (took last) (failures last)) end owes journal
  sends base owed ring turned link after last pass end owes journal by fits handed owe = record {
    first = by.first;
    told = by.told;
    then = outgoing_of by.turns turned (link_of (took after) (failures after));
    served = served (Sent tells base.limit) base (outgoing_of 0 ring link) (outgoing_of by.turns turned (link_of (took after) (failures after))) by.first pass end journal by.by fits;
    fates = handed.fates;
    rest = record { out = handed.out_is; took = handed.took_is; lost = handed.failures_is };
    owes_are = owe;
  }
