-- Losses that are told, put together.
use Rattle.std.proofs.Common.{◌≡◌, inl, inr, ℕ, ◌+◌, ◌-◌, ◌^◌, ◌<◌, min, List, [], ◌∷◌, ◌++◌, refl, ap, sym, ◌∙◌, arith, subst, if◌then◌else◌}
use Rattle.std.proofs.lemmas.List.{append-nil}
use Rattle.swim_member.specs.declared.event.Event.TheVariants.{SendFailed}
use Rattle.swim_node.specs.declared.entry.Reply.{Reply}
use Rattle.swim_node.specs.Link.{Fate, all_of, kept_of, lost_of}
use Rattle.swim_shell.specs.declared.caller.Refusal.{Refusal}
use Rattle.swim_shell.specs.Calls.{CallerView, NewCall, NewCalls, Refuses}
use Rattle.swim_shell.specs.Losses.{OutgoingView, Handed, HandsOn, with_owed, losses_of, told_in, AreLow, Sending, owed_after, TellsInVain}
use Rattle.swim_shell.proofs.News.{no_calls, more_calls, one_call}
use Rattle.swim_node.proofs.Fates.{all_of-append, kept_of-append, lost_of-append}
use Rattle.std.proofs.lemmas.List.{append_assoc}

losses_of-append : (xs ys : List ℕ) → losses_of (xs ++ ys) ≡ losses_of xs ++ losses_of ys
losses_of-append [] ys = refl
losses_of-append (x ∷ xs) ys = ap (λ w. SendFailed x ∷ w) (losses_of-append xs ys)

told_in-append : (xs ys : List ℕ) → told_in (xs ++ ys) ≡ told_in xs + told_in ys
told_in-append [] ys = omega arith
told_in-append (x ∷ xs) ys = omega (arith, told_in-append xs ys)

low_parts : (xs ys : List ℕ) → AreLow (xs ++ ys) → AreLow xs × AreLow ys
low_parts [] ys h = (tt, h)
low_parts (x ∷ xs) ys h = let p = low_parts xs ys h.1 in ((h.0, p.0), p.1)

handed_none : (tells : Type 0) (a : OutgoingView) → Handed tells a a []
handed_none tells a = record { out = sym (append-nil a.out); took = λ _. sym (append-nil a.took); lost = omega arith }

handed_more : (tells : Type 0) (a m b : OutgoingView) (xs ys : List Fate) → Handed tells a m xs → Handed tells m b ys → Handed tells a b (xs ++ ys)
handed_more tells a m b xs ys h k = record {
  out = k.out ∙ (ap (λ w. w ++ all_of ys) h.out ∙ (append_assoc a.out (all_of xs) (all_of ys) ∙ ap (λ w. a.out ++ w) (sym (all_of-append xs ys))));
  took = λ i. k.took i ∙ (ap (λ w. w ++ kept_of ys) (h.took i) ∙ (append_assoc a.took (kept_of xs) (kept_of ys) ∙ ap (λ w. a.took ++ w) (sym (kept_of-append xs ys))));
  lost = omega (arith, h.lost, k.lost, lost_of-append xs ys);
}

pub sending_start : (tells : Type 0) (a : OutgoingView) (p : CallerView) → Sending tells a p a p 0
sending_start tells a p = record { fates = []; counts = []; handed = handed_none tells a; each = omega arith; calls = no_calls p; told = λ low. omega arith; settled = inr (refl, refl) }

-- what is owed is low where it can be counted
owes_all : (a b lost : ℕ) → b ≡ min (a + lost) (2 ^ 32 - 1) → b < 2 ^ 32 - 1 → b ≡ a + lost
owes_all a b lost m less = omega (arith, m, less)

pub sending_nothing : (tells : Type 0) (a m b : OutgoingView) (p q : CallerView) (n : ℕ) → Sending tells a p m q n → HandsOn tells m b → b.owed ≡ 0 → Sending tells a p b q (n + 1)
sending_nothing tells a m b p q n w on none = record {
  fates = w.fates ++ on.fates;
  counts = w.counts;
  handed = handed_more tells a m b w.fates on.fates w.handed on.handed;
  each = omega (arith, w.each, on.turns);
  calls = w.calls;
  told = λ low. let now = owes_all m.owed b.owed (lost_of on.fates) on.owes (omega (arith, none)) in omega (arith, w.told low, now, lost_of-append w.fates on.fates);
  settled = inl none;
}

-- what was lost is told
pub sending_more : (tells : Type 0) (a m b c : OutgoingView) (p q r : CallerView) (n count : ℕ) (reply : Reply) → Sending tells a p m q n → HandsOn tells m b → count ≡ b.owed → c ≡ with_owed 0 b → NewCall q r (SendFailed count) reply → Sending tells a p c r (n + 1)
sending_more tells a m b c p q r n count reply w on is same call = subst (λ x. Sending tells a p x r (n + 1)) (sym same) (record {
  fates = w.fates ++ on.fates;
  counts = w.counts ++ count ∷ [];
  handed = let all = handed_more tells a m b w.fates on.fates w.handed on.handed in record { out = all.out; took = all.took; lost = all.lost };
  each = omega (arith, w.each, on.turns);
  calls = subst (NewCalls p r) (sym (losses_of-append w.counts (count ∷ []))) (more_calls p q r (losses_of w.counts) (SendFailed count ∷ []) w.calls (one_call q r (SendFailed count) reply call));
  told = λ low.
      let parts = low_parts w.counts (count ∷ []) low in
      let now = owes_all m.owed b.owed (lost_of on.fates) on.owes (omega (arith, is, parts.1.0)) in
      omega (arith, w.told parts.0, now, is, told_in-append w.counts (count ∷ []), lost_of-append w.fates on.fates);
  settled = inl refl;
})

pub tells_in_vain : (tells : Type 0) (limit : ℕ) (why : Refusal) (m b c : OutgoingView) (q r : CallerView) (count : ℕ) → HandsOn tells m b → count ≡ b.owed → c ≡ with_owed (owed_after why b.owed) b → Refuses limit why q r (SendFailed count) → TellsInVain tells limit why m q c r
tells_in_vain tells limit why m b c q r count on is left refused = record { then = b; hands_on = on; refused = subst (λ k. Refuses limit why q r (SendFailed k)) is refused; left = left }
