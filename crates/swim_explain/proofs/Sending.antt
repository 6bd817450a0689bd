-- One more of the datagrams of a call.
use Rattle.std.proofs.Common.{◌≡◌, ℕ, ◌+◌, ◌<◌, ◌≤◌, List, [], ◌∷◌, ◌++◌, length, drop, get_or, refl, sym, ap, ◌∙◌, arith}
use Rattle.std.proofs.lemmas.List.{drop_more, drop_all}
use Rattle.swim_member.specs.declared.answer.Out.{Out}
use Rattle.swim_node.specs.declared.entry.Outcome.{Outcome}
use Rattle.swim_explain.specs.declared.fact.Purpose.{Purpose}
use Rattle.swim_explain.specs.Facts.{sent, sent_about}

sent-nil : (x : ℕ) (why : Purpose) (outs : List Out) → sent x why outs [] ≡ []
sent-nil x why [] = refl
sent-nil x why (out ∷ outs) = refl

-- a datagram with its outcome
pub sent_more : (x : ℕ) (why : Purpose) (outs : List Out) (outcomes : List Outcome) (i : ℕ) (out : Out) (o : Outcome) → i < length outs → out ≡ get_or outs i out → i < length outcomes → o ≡ get_or outcomes i o → sent x why (drop i outs) (drop i outcomes) ≡ sent_about x why out.datagram.kind out o ++ sent x why (drop (i + 1) outs) (drop (i + 1) outcomes)
sent_more x why outs outcomes i out o less is few was =
    let one : drop i outs ≡ out ∷ drop (i + 1) outs = drop_more outs i out less ∙ ap (λ (y : Out). y ∷ drop (i + 1) outs) (sym is) in
    let other : drop i outcomes ≡ o ∷ drop (i + 1) outcomes = drop_more outcomes i o few ∙ ap (λ (y : Outcome). y ∷ drop (i + 1) outcomes) (sym was) in
    rw (one, other) refl

-- where no outcome is left nothing is said
pub sent_none : (x : ℕ) (why : Purpose) (outs : List Out) (outcomes : List Outcome) (i : ℕ) → length outcomes ≤ i → sent x why (drop i outs) (drop i outcomes) ≡ []
sent_none x why outs outcomes i le = rw (drop_all i outcomes le) (sent-nil x why (drop i outs))

pub sent_end : (x : ℕ) (why : Purpose) (outs : List Out) (outcomes : List Outcome) (i : ℕ) → length outcomes ≤ i → sent x why (drop (i + 1) outs) (drop (i + 1) outcomes) ≡ sent x why (drop i outs) (drop i outcomes)
sent_end x why outs outcomes i le = sent_none x why outs outcomes (i + 1) (omega (arith, le)) ∙ sym (sent_none x why outs outcomes i le)
