-- Datagrams that are handed on one by one.
use Rattle.std.proofs.Common.{◌≡◌, ℕ, ◌+◌, true, false, List, [], ◌∷◌, ◌++◌, length, ap, sym, ◌∙◌, arith, append_assoc, length-append}
use Rattle.std.specs.Prelude.{Result, Ok, Err, is_ok, is_err, MatchResult}
use Rattle.std.proofs.lemmas.List.{append-nil}
use Rattle.swim_node.specs.Link.{Fate, all_of, kept_of, lost_of}
use Rattle.swim_shared.specs.Outboxes.{Handed}
use Rattle.swim_node.proofs.Fates.{all_of-append, kept_of-append, lost_of-append}

took_if : {A E : Type 0} (sent : Result A E) (d : ℕ × List ℕ) (t t1 t2 : List (ℕ × List ℕ)) (fs : List Fate) → t1 ≡ t ++ kept_of fs → MatchResult sent (λ _. t2 ≡ t1 ++ d ∷ []) (λ _. t2 ≡ t1) → t2 ≡ t ++ kept_of (fs ++ record { datagram = d; taken = is_ok sent } ∷ [])
took_if (Ok _) d t t1 t2 fs h k = k ∙ ap (λ (w : List (ℕ × List ℕ)). w ++ d ∷ []) h ∙ append_assoc t (kept_of fs) (d ∷ []) ∙ ap (λ (w : List (ℕ × List ℕ)). t ++ w) (sym (kept_of-append fs (record { datagram = d; taken = true } ∷ [])))
took_if (Err _) d t t1 t2 fs h k = k ∙ h ∙ ap (λ (w : List (ℕ × List ℕ)). t ++ w) (sym (append-nil (kept_of fs))) ∙ ap (λ (w : List (ℕ × List ℕ)). t ++ w) (sym (kept_of-append fs (record { datagram = d; taken = false } ∷ [])))

failures_if : {A E : Type 0} (sent : Result A E) (d : ℕ × List ℕ) (f f1 f2 : ℕ) (fs : List Fate) → f1 ≡ f + lost_of fs → MatchResult sent (λ _. f2 ≡ f1) (λ _. f2 ≡ f1 + 1) → f2 ≡ f + lost_of (fs ++ record { datagram = d; taken = is_ok sent } ∷ [])
failures_if (Ok _) d f f1 f2 fs h k = omega (arith, lost_of-append fs (record { datagram = d; taken = true } ∷ []), h, k)
failures_if (Err _) d f f1 f2 fs h k = omega (arith, lost_of-append fs (record { datagram = d; taken = false } ∷ []), h, k)

module _ {L : Type 0} (tells : Type 0) (took : L → List (ℕ × List ℕ)) (failures : L → ℕ) where
  pub handed_none : (r : List (ℕ × List ℕ)) (l : L) → Handed tells took failures r r l l
  handed_none r l = record {
    fates = [];
    out_is = sym (append-nil r);
    took_is = λ _. sym (append-nil (took l));
    failures_is = omega arith;
  }

  -- one datagram more
  pub handed_more : {A E : Type 0} (r r1 r2 : List (ℕ × List ℕ)) (l l1 l2 : L) (d : ℕ × List ℕ) (sent : Result A E)
      → Handed tells took failures r r1 l l1
      → r2 ≡ r1 ++ d ∷ []
      → (tells → MatchResult sent (λ _. took l2 ≡ took l1 ++ d ∷ []) (λ _. took l2 ≡ took l1))
      → MatchResult sent (λ _. failures l2 ≡ failures l1) (λ _. failures l2 ≡ failures l1 + 1)
      → Handed tells took failures r r2 l l2
  handed_more r r1 r2 l l1 l2 d sent h out took_is failures_is =
      let last : List Fate = record { datagram = d; taken = is_ok sent } ∷ [] in
      let all = sym (all_of-append h.fates last) in record {
        fates = h.fates ++ last;
        out_is = out ∙ ap (λ (w : List (ℕ × List ℕ)). w ++ d ∷ []) h.out_is ∙ append_assoc r (all_of h.fates) (d ∷ []) ∙ ap (λ (w : List (ℕ × List ℕ)). r ++ w) all;
        took_is = λ x. took_if sent d (took l) (took l1) (took l2) h.fates (h.took_is x) (took_is x);
        failures_is = failures_if sent d (failures l) (failures l1) (failures l2) h.fates h.failures_is failures_is;
      }

-- where as many came out as were known, all came out
pub all_handed : {A : Type 0} (r k r' k' : List A) → r' ++ k' ≡ r ++ k → length r' ≡ length r + length k → r' ≡ r ++ k
all_handed r k r' [] h l = sym (append-nil r') ∙ h
all_handed r k r' (x ∷ k') h l = absurd (omega (arith, l, length-append r' (x ∷ k'), length-append r k, ap length h))

pub lost_none : {A E : Type 0} (sent : Result A E) (f f1 f2 n n' : ℕ) → is_err sent ≡ false → MatchResult sent (λ _. f2 ≡ f1) (λ _. f2 ≡ f1 + 1) → f1 ≡ f + n → n' ≡ n → f2 ≡ f + n'
lost_none (Ok _) f f1 f2 n n' is h k l = omega (arith, h, k, l)
lost_none (Err _) f f1 f2 n n' is h k l = absurd (cc is)

pub lost_one : {A E : Type 0} (sent : Result A E) (f f1 f2 n n' : ℕ) → is_err sent ≡ true → MatchResult sent (λ _. f2 ≡ f1) (λ _. f2 ≡ f1 + 1) → f1 ≡ f + n → n' ≡ n + 1 → f2 ≡ f + n'
lost_one (Ok _) f f1 f2 n n' is h k l = absurd (cc is)
lost_one (Err _) f f1 f2 n n' is h k l = omega (arith, h, k, l)
