-- Lemmas on entries, datagrams and outcomes, one after another.
use Rattle.std.proofs.Common.{◌≡◌, ℕ, ◌+◌, ◌-◌, slice_index_or, ◌==◌, ◌≤◌, List, [], ◌∷◌, ◌++◌, length, refl, ap, sym, ◌∙◌, arith, append_assoc, append-nil, length-append, Option, inl, inr}
use Rattle.std.proofs.Math.Seq.{get_or-append_seam}
use Rattle.std.proofs.lemmas.Bool.{cases_Bool}
use Rattle.std.proofs.lemmas.List.Elements.{filter-append}
use Rattle.swim_wire.specs.Spelling.{spelling}
use Rattle.swim_member.specs.declared.answer.Out.{Out}
use Rattle.swim_member.specs.Fit.{AreAll, own_numbers_in}
use Rattle.swim_node.specs.declared.entry.Entry.{Entry}
use Rattle.swim_node.specs.declared.entry.Outcome.{Outcome}
use Rattle.swim_node.specs.declared.entry.Outcome.TheVariants.{Taken, Lost}
use Rattle.swim_node.specs.declared.memory_link.Taken.{Taken as TakenBytes}
use Rattle.swim_node.specs.Link.{took_by}
use Rattle.swim_node.specs.History.{calls_by, is_by, steps, step_of, granted_from, lost_in}
use Rattle.swim_node.specs.Sending.{taken_by, taken_of, lost_of, Sends, SendsAll}
use Rattle.swim_node.specs.Owns.{owns_in, AreAtMost, AreAtLeast, greatest_with, greater_of}
use mathlib.Core.List.{IsPrefix}

pub calls_by-append : (c : ℕ) (xs ys : List Entry) → calls_by c (xs ++ ys) ≡ calls_by c xs ++ calls_by c ys
calls_by-append c xs ys = filter-append (is_by c) xs ys

pub few_calls_by : (c : ℕ) (xs : List Entry) → length (calls_by c xs) ≤ length xs
few_calls_by c [] = omega arith
few_calls_by c (x ∷ xs) =
    let rest = few_calls_by c xs in
    elim (cases_Bool (x.tag.caller == c)) [ inl t ↦ rw t (omega arith) | inr f ↦ rw f (omega arith) ]

pub steps-append : (xs ys : List Entry) → steps (xs ++ ys) ≡ steps xs ++ steps ys
steps-append [] ys = refl
steps-append (x ∷ xs) ys = ap (λ s. step_of x ∷ s) (steps-append xs ys)

pub granted_from-append : (g : ℕ) (xs ys : List Entry) → granted_from g (xs ++ ys) ≡ granted_from (granted_from g xs) ys
granted_from-append g [] ys = refl
granted_from-append g (x ∷ xs) ys = granted_from-append x.granted xs ys

pub owns_in-append : (me : ℕ) (xs ys : List Entry) → owns_in me (xs ++ ys) ≡ owns_in me xs ++ owns_in me ys
owns_in-append me [] ys = refl
owns_in-append me (x ∷ xs) ys = ap (λ w. own_numbers_in me x.outs.items ++ w) (owns_in-append me xs ys) ∙ sym (append_assoc (own_numbers_in me x.outs.items) (owns_in me xs) (owns_in me ys))

pub at_most-append : (g : ℕ) (xs ys : List ℕ) → AreAtMost g xs → AreAtMost g ys → AreAtMost g (xs ++ ys)
at_most-append g [] ys h k = k
at_most-append g (x ∷ xs) ys h k = (h.0, at_most-append g xs ys h.1 k)

pub at_most-more : (g h : ℕ) (xs : List ℕ) → g ≤ h → AreAtMost g xs → AreAtMost h xs
at_most-more g h [] le k = tt {0}
at_most-more g h (x ∷ xs) le k = let low = k.0 in (omega arith, at_most-more g h xs le k.1)

pub at_least-append : (f : ℕ) (xs ys : List ℕ) → AreAtLeast f xs → AreAtLeast f ys → AreAtLeast f (xs ++ ys)
at_least-append f [] ys h k = k
at_least-append f (x ∷ xs) ys h k = (h.0, at_least-append f xs ys h.1 k)

-- numbers that are all the same
pub all-at_most : (n g : ℕ) (ns : List ℕ) → n ≤ g → AreAll n ns → AreAtMost g ns
all-at_most n g [] le h = tt {0}
all-at_most n g (m ∷ ns) le h = let same = h.0 in (omega arith, all-at_most n g ns le h.1)

pub all-at_least : (n f : ℕ) (ns : List ℕ) → f ≤ n → AreAll n ns → AreAtLeast f ns
all-at_least n f [] le h = tt {0}
all-at_least n f (m ∷ ns) le h = let same = h.0 in (omega arith, all-at_least n f ns le h.1)

pub greatest_with-append : (most : Option ℕ) (xs ys : List ℕ) → greatest_with most (xs ++ ys) ≡ greatest_with (greatest_with most xs) ys
greatest_with-append most [] ys = refl
greatest_with-append most (x ∷ xs) ys = greatest_with-append (greater_of most x) xs ys

pub took_by-append : (xs ys : List TakenBytes) → took_by (xs ++ ys) ≡ took_by xs ++ took_by ys
took_by-append [] ys = refl
took_by-append (x ∷ xs) ys = ap (λ w. (x.to, x.bytes.items) ∷ w) (took_by-append xs ys)

taken_by-append : (outs : List Out) (os : List Outcome) (greater_of : List Out) (ps : List Outcome) → length os ≡ length outs → taken_by (outs ++ greater_of) (os ++ ps) ≡ taken_by outs os ++ taken_by greater_of ps
taken_by-append [] [] greater_of ps h = refl
taken_by-append [] (o ∷ os) greater_of ps h = absurd (omega (arith, h))
taken_by-append (out ∷ outs) [] greater_of ps h = absurd (omega (arith, h))
taken_by-append (out ∷ outs) (Taken ∷ os) greater_of ps h = ap (λ w. (out.to, spelling out.datagram) ∷ w) (taken_by-append outs os greater_of ps (omega (arith, h)))
taken_by-append (out ∷ outs) (Lost ∷ os) greater_of ps h = taken_by-append outs os greater_of ps (omega (arith, h))

lost-append : (os ps : List Outcome) → lost_in (os ++ ps) ≡ lost_in os + lost_in ps
lost-append [] ps = omega arith
lost-append (Taken ∷ os) ps = lost-append os ps
lost-append (Lost ∷ os) ps = let rest = lost-append os ps in omega arith

-- one datagram more
pub sends-snoc : (tells : Type 0) (t0 t1 t2 : List (ℕ × List ℕ)) (f0 f1 f2 : ℕ) (outs : List Out) (os : List Outcome) (out : Out) (o : Outcome) → Sends tells t0 t1 f0 f1 outs os → (tells → t2 ≡ t1 ++ taken_by (out ∷ []) (o ∷ [])) → f2 ≡ f1 + lost_in (o ∷ []) → Sends tells t0 t2 f0 f2 (outs ++ out ∷ []) (os ++ o ∷ [])
sends-snoc tells t0 t1 t2 f0 f1 f2 outs os out o s took failed = record {
  each = omega (arith, length-append outs (out ∷ []), length-append os (o ∷ []), s.each);
  took = λ k. took k ∙ ap (λ w. w ++ taken_by (out ∷ []) (o ∷ [])) (s.took k) ∙ append_assoc t0 (taken_by outs os) (taken_by (out ∷ []) (o ∷ [])) ∙ ap (λ w. t0 ++ w) (sym (taken_by-append outs os (out ∷ []) (o ∷ []) s.each));
  failures = omega (arith, failed, s.failures, lost-append os (o ∷ []));
}

pub taken_of-append : (xs ys : List Entry) → taken_of (xs ++ ys) ≡ taken_of xs ++ taken_of ys
taken_of-append [] ys = refl
taken_of-append (x ∷ xs) ys = ap (λ w. taken_by x.outs.items x.outcomes.items ++ w) (taken_of-append xs ys) ∙ sym (append_assoc (taken_by x.outs.items x.outcomes.items) (taken_of xs) (taken_of ys))

lost_of-append : (xs ys : List Entry) → lost_of (xs ++ ys) ≡ lost_of xs + lost_of ys
lost_of-append [] ys = omega arith
lost_of-append (x ∷ xs) ys = let rest = lost_of-append xs ys in omega arith

-- one entry more
pub sends_all-snoc : (tells : Type 0) (t0 t1 t2 : List (ℕ × List ℕ)) (f0 f1 f2 : ℕ) (xs : List Entry) (e : Entry) → SendsAll tells t0 t1 f0 f1 xs → Sends tells t1 t2 f1 f2 e.outs.items e.outcomes.items → SendsAll tells t0 t2 f0 f2 (xs ++ e ∷ [])
sends_all-snoc tells t0 t1 t2 f0 f1 f2 xs e all one = record {
  took = λ k.
      one.took k
      ∙ ap (λ w. w ++ taken_by e.outs.items e.outcomes.items) (all.took k)
      ∙ append_assoc t0 (taken_of xs) (taken_by e.outs.items e.outcomes.items)
      ∙ ap (λ w. t0 ++ (taken_of xs ++ w)) (sym (append-nil (taken_by e.outs.items e.outcomes.items)))
      ∙ ap (λ w. t0 ++ w) (sym (taken_of-append xs (e ∷ [])));
  failures = omega (arith, all.failures, one.failures, lost_of-append xs (e ∷ []));
}

pub last-snoc : (xs : List Entry) (e d : Entry) → slice_index_or (xs ++ e ∷ []) (length (xs ++ e ∷ []) - 1) d ≡ e
last-snoc xs e d =
    let end : length (xs ++ e ∷ []) - 1 ≡ length xs = let grown : length (xs ++ e ∷ []) ≡ length xs + 1 = length-append xs (e ∷ []) in omega arith in
    ap (λ i. slice_index_or (xs ++ e ∷ []) i d) end ∙ get_or-append_seam xs e [] d

pub prefix_trans : {A : Type 0} (xs ys zs : List A) → IsPrefix xs ys → IsPrefix ys zs → IsPrefix xs zs
prefix_trans xs ys zs p q = (p.0 ++ q.0, sym (append_assoc xs p.0 q.0) ∙ (ap (λ w. w ++ q.0) p.1 ∙ q.1))
