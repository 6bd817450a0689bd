-- Turns of a receiver, put together.
use Rattle.std.proofs.Common.{◌≡◌, ℕ, ◌+◌, ◌<◌, ◌≤◌, ◌&&◌, Bool, true, false, List, [], ◌∷◌, ◌++◌, length, refl, ap, sym, ◌∙◌, arith, subst, length-append}
use Rattle.std.specs.Prelude.{Option, Some, None}
use Rattle.std.proofs.lemmas.List.{append-nil}
use Rattle.std.proofs.lemmas.Bool.Decides.{nat_tests}
use Rattle.swim_shell.specs.declared.caller.Refusal.{Refusal}
use Rattle.swim_shell.specs.declared.worker.WorkerEnd.TheVariants as ends
use Rattle.swim_member.specs.declared.event.Event.{Event}
use Rattle.swim_node.specs.declared.entry.Reply.{Reply}
use Rattle.swim_shell.specs.Calls.{CallerView, NewCall, NewCalls, Refuses}
use Rattle.swim_shell.specs.Inbounds.{Came, Received, Nothing, Failed, events_at, events_for, failures_in, row_after, failures_in_a_row, is_calm, Took, waiting, ReceiverView, receiver_of, Takes, Receiving, kept_after, ReceivesLast}
use Rattle.swim_shell.proofs.News.{no_calls, more_calls, one_call}
use Rattle.std.proofs.lemmas.List.{append_assoc}

events_for-append : (xs ys : List Came) → events_for (xs ++ ys) ≡ events_for xs ++ events_for ys
events_for-append [] ys = refl
events_for-append (x ∷ xs) ys = ap (λ w. events_at x ++ w) (events_for-append xs ys) ∙ sym (append_assoc (events_at x) (events_for xs) (events_for ys))

pub failures_in-append : (xs ys : List Came) → failures_in (xs ++ ys) ≡ failures_in xs + failures_in ys
failures_in-append [] ys = omega arith
failures_in-append (x ∷ xs) ys = omega (arith, failures_in-append xs ys)

pub row_of-snoc : (n : ℕ) (xs : List Came) (c : Came) → failures_in_a_row n (xs ++ c ∷ []) ≡ row_after (failures_in_a_row n xs) c
row_of-snoc n [] c = refl
row_of-snoc n (x ∷ xs) c = row_of-snoc (row_after n x) xs c

and_step : (a b : Bool) → a && b ≡ true → (a ≡ true) × (b ≡ true)
and_step true true h = (refl, refl)
and_step true false h = absurd cc
and_step false b h = absurd cc

and_join : (a b : Bool) → a ≡ true → b ≡ true → a && b ≡ true
and_join true true h k = refl
and_join true false h k = absurd cc
and_join false b h k = absurd cc

pub is_calm-snoc : (n : ℕ) (xs : List Came) (c : Came) → is_calm n xs ≡ true → row_after (failures_in_a_row n xs) c < 16 → is_calm n (xs ++ c ∷ []) ≡ true
is_calm-snoc n [] c h k = and_join _ _ (grind (arith, nat_tests)) refl
is_calm-snoc n (x ∷ xs) c h k = let p = and_step _ _ h in and_join _ _ p.0 (is_calm-snoc (row_after n x) xs c p.1 k)

took_more : (tells : Type 0) (a b c : List Came) (f g h : ℕ) (xs ys : List Came) → Took tells a b f g xs → Took tells b c g h ys → Took tells a c f h (xs ++ ys)
took_more tells a b c f g h xs ys s t = record {
  told = λ i. t.told i ∙ (ap (λ w. w ++ ys) (s.told i) ∙ append_assoc a xs ys);
  failed = omega (arith, s.failed, t.failed, failures_in-append xs ys);
}

longer : {A : Type 0} (xs : List A) (x : A) (n : ℕ) → length xs ≡ n → length (xs ++ x ∷ []) ≡ n + 1
longer xs x n e = omega (arith, length-append xs (x ∷ []))

-- nothing waited, and the inbound answered
pub takes_answer : (tells : Type 0) (a b : ReceiverView) (taken : Option Event) (one : Came) → a.kept ≡ None → Took tells a.came b.came a.failures b.failures (one ∷ []) → b.row ≡ row_after a.row one → events_at one ≡ waiting taken → Takes tells a b taken
takes_answer tells a b taken one none took row is = record {
  came = one ∷ [];
  took = took;
  row_is = row;
  events_are = ap (λ k. waiting k ++ (events_at one ++ [])) none ∙ (append-nil (events_at one) ∙ is);
  one = ap (λ k. 1 + length (waiting k)) none;
}

-- what waited
pub takes_kept : (tells : Type 0) (a b : ReceiverView) (last : Event) → a.kept ≡ Some last → b.came ≡ a.came → b.failures ≡ a.failures → b.row ≡ a.row → Takes tells a b (Some last)
takes_kept tells a b last is came failures row = record {
  came = [];
  took = record { told = λ _. came ∙ sym (append-nil a.came); failed = omega (arith, failures) };
  row_is = row;
  events_are = ap (λ k. waiting k ++ []) is;
  one = omega (arith, ap (λ k. length (waiting k)) is);
}

pub receiving_start : (tells : Type 0) (a : ReceiverView) (p : CallerView) → Receiving tells a p a p 0
receiving_start tells a p = record {
  came = [];
  entered = [];
  took = record { told = λ _. sym (append-nil a.came); failed = omega arith };
  calls = no_calls p;
  all_entered = append-nil (waiting a.kept);
  row_is = refl;
  calm = refl;
  each = refl;
}

-- calm goes on where one turn took at most one answer
calm_on : (n : ℕ) (xs ys : List Came) (k : ℕ) → length ys + k ≡ 1 → is_calm n xs ≡ true → failures_in_a_row (failures_in_a_row n xs) ys < 16 → is_calm n (xs ++ ys) ≡ true
calm_on n xs [] k one calm less = subst (λ w. is_calm n w ≡ true) (sym (append-nil xs)) calm
calm_on n xs (y ∷ []) k one calm less = is_calm-snoc n xs y calm less
calm_on n xs (y ∷ z ∷ ys) k one calm less = absurd omega (arith, one)

row_on : (n : ℕ) (xs ys : List Came) → failures_in_a_row n (xs ++ ys) ≡ failures_in_a_row (failures_in_a_row n xs) ys
row_on n [] ys = refl
row_on n (x ∷ xs) ys = row_on (row_after n x) xs ys

-- one turn more
pub receiving_turn : (tells : Type 0) (a m b : ReceiverView) (p q r : CallerView) (n : ℕ) (taken : Option Event) → Receiving tells a p m q n → Takes tells m b taken → b.kept ≡ None → NewCalls q r (waiting taken) → b.row < 16 → Receiving tells a p b r (n + 1)
receiving_turn tells a m b p q r n taken w t none calls less =
    let row : b.row ≡ failures_in_a_row (failures_in_a_row a.row w.came) t.came = t.row_is ∙ ap (λ k. failures_in_a_row k t.came) w.row_is in
    record {
      came = w.came ++ t.came;
      entered = w.entered ++ waiting taken;
      took = took_more tells a.came m.came b.came a.failures m.failures b.failures w.came t.came w.took t.took;
      calls = more_calls p q r w.entered (waiting taken) w.calls calls;
      all_entered = ap (λ l. waiting a.kept ++ l) (events_for-append w.came t.came) ∙ (sym (append_assoc (waiting a.kept) (events_for w.came) (events_for t.came)) ∙ (ap (λ l. l ++ events_for t.came) w.all_entered ∙ (append_assoc w.entered (waiting m.kept) (events_for t.came) ∙ (ap (λ l. w.entered ++ l) t.events_are ∙ (sym (append-nil (w.entered ++ waiting taken)) ∙ ap (λ k. (w.entered ++ waiting taken) ++ waiting k) (sym none))))));
      row_is = row ∙ sym (row_on a.row w.came t.came);
      calm = calm_on a.row w.came t.came (length (waiting m.kept)) t.one w.calm (subst (λ k. k < 16) row less);
      each = omega (arith, w.each, t.one, length-append w.came t.came, ap (λ k. length (waiting k)) none);
    }

-- a turn in which nothing came is one without a failure
no_failure : (came : List Came) (k : Option Event) (n : ℕ) → length came + length (waiting k) ≡ 1 → waiting k ++ events_for came ≡ [] → failures_in_a_row n came ≡ 0
no_failure came (Some x) n one none = absurd cc
no_failure [] None n one none = absurd omega (arith, one)
no_failure (Nothing ∷ []) None n one none = refl
no_failure (Received from bytes ∷ xs) None n one none = absurd cc
no_failure (Failed ∷ xs) None n one none = absurd cc
no_failure (Nothing ∷ x ∷ xs) None n one none = absurd omega (arith, one)

pub receiving_nothing : (tells : Type 0) (a m b : ReceiverView) (p q : CallerView) (n : ℕ) → Receiving tells a p m q n → Takes tells m b None → b.kept ≡ None → Receiving tells a p b q (n + 1)
receiving_nothing tells a m b p q n w t none =
    let row : b.row ≡ 0 = t.row_is ∙ no_failure t.came m.kept m.row t.one t.events_are in
    receiving_turn tells a m b p q q n None w t none (no_calls q) (omega (arith, row))

-- the call for what was taken
pub enters : (p q : CallerView) (event : Event) (reply : Reply) (last : Event) → event ≡ last → NewCall p q event reply → NewCalls p q (waiting (Some last))
enters p q event reply last is n = subst (λ e. NewCalls p q (e ∷ [])) is (one_call p q event reply n)

-- the last turn
pub receives_fault : (tells : Type 0) (limit : ℕ) (m b : ReceiverView) (p q : CallerView) (event : Event) (reply : Reply) (last : Event) → Takes tells m b (Some last) → b.kept ≡ None → event ≡ last → NewCall p q event reply → 16 ≤ b.row → ReceivesLast tells limit ends.Fault m p b q
receives_fault tells limit m b p q event reply last t none is call more = record { taken = Some last; takes = t; ends_by = (enters p q event reply last is call, more, none) }

-- whatever is kept after it
takes_and : (tells : Type 0) (a b : ReceiverView) (taken kept : Option Event) → Takes tells a b taken → Takes tells a (receiver_of b.came b.failures b.row kept) taken
takes_and tells a b taken kept t = record { came = t.came; took = t.took; row_is = t.row_is; events_are = t.events_are; one = t.one }

pub receives_refused : (tells : Type 0) (limit : ℕ) (why : Refusal) (m b : ReceiverView) (p q : CallerView) (event : Event) (last : Event) (kept : Option Event) → Takes tells m b (Some last) → kept ≡ kept_after why last → event ≡ last → Refuses limit why p q event → ReceivesLast tells limit (ends.Refused why) m p (receiver_of b.came b.failures b.row kept) q
receives_refused tells limit why m b p q event last kept t kept_is is refused = record { taken = Some last; takes = takes_and tells m b (Some last) kept t; ends_by = record { last = last; taken_is = refl; refused = subst (Refuses limit why p q) is refused; kept_is = kept_is } }
