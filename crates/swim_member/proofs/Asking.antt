-- Ping-reqs for a probe that was not answered.
use Rattle.std.proofs.Common.{◌≡◌, ℕ, zero, suc, ◌+◌, ◌≤◌, ◌&&◌, nat_lt, Bool, true, false, cond, not, refl, sym, ◌∙◌, ap, List, [], ◌∷◌, ◌++◌, map, take, drop, length, Option, Some, None, if◌then◌else◌, add-one, arith}
use Rattle.std.specs.List.{filter, slice_get}
use Rattle.std.proofs.lemmas.List.{map-append, take_all}
use Rattle.swim_gossip.proofs.Falling.{take-again}
use Rattle.swim_rules.specs.declared.table.Row.{Row}
use Rattle.swim_rules.specs.Rows.{is_eligible}
use Rattle.swim_wire.specs.declared.datagram.Kind.TheVariants.{PingReq}
use Rattle.swim_member.specs.declared.state.Probe.{Probe}
use Rattle.swim_member.specs.declared.answer.Out.{Out}
use Rattle.swim_member.specs.State.{State, Change}
use Rattle.swim_member.specs.Events.{Ask, perform, each_from, outs}
use Rattle.swim_member.specs.Probe.{ask, ask_one, helpers_about, is_at}
use Rattle.swim_member.specs.Member.{is_eligible_name, row_name}
use Rattle.swim_member.specs.Send.{send, datagram, carried_updates}
use Rattle.swim_member.specs.Machinery.Steps.{apply, apply_all, after, outs_by, after_asks, outs_of_asks, open_probe, is_helper}

rest-some : (xs : List ℕ) (k y : ℕ) (ys : List ℕ) → drop k xs ≡ y ∷ ys → (slice_get xs k ≡ Some y) × (drop (suc k) xs ≡ ys)
rest-some [] zero y ys e = absurd (cc)
rest-some [] (suc k) y ys e = absurd (cc)
rest-some (x ∷ xs) zero y ys e = (cc, cc)
rest-some (x ∷ xs) (suc k) y ys e = rest-some xs k y ys e

rest-none : (xs : List ℕ) (k : ℕ) → drop k xs ≡ [] → (slice_get xs k ≡ None) × (drop (suc k) xs ≡ [])
rest-none [] k e = (refl, refl)
rest-none (x ∷ xs) zero e = absurd (cc)
rest-none (x ∷ xs) (suc k) e = rest-none xs k e

-- the probe about which others are asked now, if there is one
abbrev pub asked_probe : State → Option Probe
asked_probe s = if is_at s s.settings.direct then open_probe s s.probe else None

-- the k-th ping-req about this probe, if there is one
abbrev ask_about : State → Option Probe → ℕ → List Change
ask_about s None k = []
ask_about s (Some q) k = ask_one s q (slice_get (helpers_about s q.target) k)

ask-is : (s : State) (k : ℕ) → perform s (Ask k) ≡ ask_about s (asked_probe s) k
ask-is s k = by_probe (is_at s s.settings.direct) s.probe
  where
    by_test : (q : Probe) (b : Bool) → cond b (ask_one s q (slice_get (helpers_about s q.target) k)) [] ≡ ask_about s (cond b (Some q) None) k
    by_test q true = refl
    by_test q false = refl

    by_probe : (b : Bool) (o : Option Probe) → cond b (ask s o k) [] ≡ ask_about s (cond b (open_probe s o) None) k
    by_probe false o = refl
    by_probe true None = refl
    by_probe true (Some q) = by_test q (not q.answered && is_eligible_name s q.target)

-- no member is asked
pub asks-none-state : (n k : ℕ) (s : State) → asked_probe s ≡ None → after s (each_from k n (λ j. Ask j)) ≡ s
asks-none-state zero k s e = refl
asks-none-state (suc n) k s e =
    ap (λ p. after (apply_all p s) (each_from (k + 1) n (λ j. Ask j))) (ask-is s k ∙ ap (λ o. ask_about s o k) e) ∙ asks-none-state n (k + 1) s e

pub asks-none-outs : (n k : ℕ) (s : State) → asked_probe s ≡ None → outs_by s (each_from k n (λ j. Ask j)) ≡ []
asks-none-outs zero k s e = refl
asks-none-outs (suc n) k s e =
    ap (λ p. outs p ++ outs_by (apply_all p s) (each_from (k + 1) n (λ j. Ask j))) (ask-is s k ∙ ap (λ o. ask_about s o k) e) ∙ asks-none-outs n (k + 1) s e

-- the members from the k-th on are asked
pub asks-state : (n k : ℕ) (s : State) (q : Probe) (rest : List ℕ) → asked_probe s ≡ Some q → drop k (helpers_about s q.target) ≡ rest → after s (each_from k n (λ j. Ask j)) ≡ after_asks s q (take n rest)
asks-state zero k s q rest e d = refl
asks-state (suc n) k s q [] e d =
    let past : (slice_get (helpers_about s q.target) k ≡ None) × (drop (suc k) (helpers_about s q.target) ≡ []) = rest-none (helpers_about s q.target) k d in
    ap (λ p. after (apply_all p s) (each_from (k + 1) n (λ j. Ask j))) (ask-is s k ∙ ap (λ o. ask_about s o k) e ∙ ap (ask_one s q) past.0)
    ∙ ap (λ j. after s (each_from j n (λ i. Ask i))) (add-one k)
    ∙ asks-state n (suc k) s q [] e past.1 ∙ ap (after_asks s q) (take_all n [] (omega arith))
asks-state (suc n) k s q (x ∷ rest) e d =
    let here : (slice_get (helpers_about s q.target) k ≡ Some x) × (drop (suc k) (helpers_about s q.target) ≡ rest) = rest-some (helpers_about s q.target) k x rest d in
    ap (λ p. after (apply_all p s) (each_from (k + 1) n (λ j. Ask j))) (ask-is s k ∙ ap (λ o. ask_about s o k) e ∙ ap (ask_one s q) here.0)
    ∙ ap (λ j. after (apply (send s x PingReq q.seq q.target) s) (each_from j n (λ i. Ask i))) (add-one k)
    ∙ asks-state n (suc k) (apply (send s x PingReq q.seq q.target) s) q rest e here.1

pub asks-outs : (n k : ℕ) (s : State) (q : Probe) (rest : List ℕ) → asked_probe s ≡ Some q → drop k (helpers_about s q.target) ≡ rest → outs_by s (each_from k n (λ j. Ask j)) ≡ outs_of_asks s q (take n rest)
asks-outs zero k s q rest e d = refl
asks-outs (suc n) k s q [] e d =
    let past : (slice_get (helpers_about s q.target) k ≡ None) × (drop (suc k) (helpers_about s q.target) ≡ []) = rest-none (helpers_about s q.target) k d in
    ap (λ p. outs p ++ outs_by (apply_all p s) (each_from (k + 1) n (λ j. Ask j))) (ask-is s k ∙ ap (λ o. ask_about s o k) e ∙ ap (ask_one s q) past.0)
    ∙ ap (λ j. outs_by s (each_from j n (λ i. Ask i))) (add-one k)
    ∙ asks-outs n (suc k) s q [] e past.1 ∙ ap (outs_of_asks s q) (take_all n [] (omega arith))
asks-outs (suc n) k s q (x ∷ rest) e d =
    let here : (slice_get (helpers_about s q.target) k ≡ Some x) × (drop (suc k) (helpers_about s q.target) ≡ rest) = rest-some (helpers_about s q.target) k x rest d in
    let one : Out = record { to = x; datagram = datagram s PingReq q.seq q.target (carried_updates s) } in
    ap (λ p. outs p ++ outs_by (apply_all p s) (each_from (k + 1) n (λ j. Ask j))) (ask-is s k ∙ ap (λ o. ask_about s o k) e ∙ ap (ask_one s q) here.0)
    ∙ ap (λ j. one ∷ outs_by (apply (send s x PingReq q.seq q.target) s) (each_from j n (λ i. Ask i))) (add-one k)
    ∙ ap (λ os. one ∷ os) (asks-outs n (suc k) (apply (send s x PingReq q.seq q.target) s) q rest e here.1)

-- the helpers out of two passes over the rows
filter-both : (p q : Row → Bool) (rows : List Row) → filter p (filter q rows) ≡ filter (λ r. q r && p r) rows
filter-both p q [] = refl
filter-both p q (r ∷ rows) = at (q r) (p r) refl (filter-both p q rows)
  where
    at : (a b : Bool) → p r ≡ b → filter p (filter q rows) ≡ filter (λ s. q s && p s) rows → filter p (cond a (r ∷ filter q rows) (filter q rows)) ≡ cond (a && b) (r ∷ filter (λ s. q s && p s) rows) (filter (λ s. q s && p s) rows)
    at true true e k = rw (e, k) refl
    at true false e k = rw (e, k) refl
    at false b e k = k

pub helpers-passes : (n x : ℕ) (rows : List Row) → take n (take n (map row_name (filter (is_helper x true) rows)) ++ map row_name (filter (is_helper x false) rows)) ≡ take n (map row_name (filter (λ r. nat_lt x (row_name r)) (filter is_eligible rows) ++ filter (λ r. nat_lt (row_name r) x) (filter is_eligible rows)))
helpers-passes n x rows =
    take-again n (map row_name (filter (is_helper x true) rows)) (map row_name (filter (is_helper x false) rows))
    ∙ ap (take n) (sym (map-append row_name (filter (is_helper x true) rows) (filter (is_helper x false) rows))
    ∙ ap (λ rs. map row_name (rs ++ filter (is_helper x false) rows)) (sym (filter-both (λ r. nat_lt x (row_name r)) is_eligible rows))
    ∙ ap (λ rs. map row_name (filter (λ r. nat_lt x (row_name r)) (filter is_eligible rows) ++ rs)) (sym (filter-both (λ r. nat_lt (row_name r) x) is_eligible rows)))

-- all helpers are asked
pub asks-all-state : (s : State) (q : Probe) (helpers : List ℕ) → asked_probe s ≡ Some q → helpers ≡ helpers_about s q.target → length helpers ≤ 8 → after s (each_from 0 8 (λ j. Ask j)) ≡ after_asks s q helpers
asks-all-state s q helpers e h l = asks-state 8 0 s q helpers e (sym h) ∙ ap (after_asks s q) (take_all 8 helpers l)

pub asks-all-outs : (s : State) (q : Probe) (helpers : List ℕ) → asked_probe s ≡ Some q → helpers ≡ helpers_about s q.target → length helpers ≤ 8 → outs_by s (each_from 0 8 (λ j. Ask j)) ≡ outs_of_asks s q helpers
asks-all-outs s q helpers e h l = asks-outs 8 0 s q helpers e (sym h) ∙ ap (outs_of_asks s q) (take_all 8 helpers l)
