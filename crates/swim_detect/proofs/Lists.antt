-- What each item of a list has.
use Rattle.std.proofs.Common.{inl, inr, subst, ◌≡◌, ℕ, ◌+◌, ◌==◌, nat_lt, Bool, true, false, cond, not, refl, sym, List, [], ◌∷◌, ◌++◌, map, take, zero, suc, Some, replicate}
use Rattle.std.specs.List.{find, filter, AllByRecursion}
use Rattle.swim_wire.specs.declared.update.Update.{Update}
use Rattle.swim_rules.specs.declared.table.Row.{Row}
use Rattle.swim_rules.specs.Rows.{put_row, remove_row, row_of}
use Rattle.swim_gossip.specs.declared.buffer.Waiting.{Waiting}
use Rattle.swim_gossip.specs.Queue.{is_of, without, offered_queue, raise_all, in_turn, sent_times, update_of, picked_updates}
use Rattle.swim_member.specs.Events.{Action, each_from}
use Rattle.swim_detect.specs.Causes.{Has}

pub all-append : {X : Type 0} (Q : X → Type 0) (xs ys : List X) → AllByRecursion Q xs → AllByRecursion Q ys → AllByRecursion Q (xs ++ ys)
all-append Q [] ys a b = b
all-append Q (x ∷ xs) ys a b = (a.0, all-append Q xs ys a.1 b)

pub all-front : {X : Type 0} (Q : X → Type 0) (xs ys : List X) → AllByRecursion Q (xs ++ ys) → AllByRecursion Q xs
all-front Q [] ys a = tt
all-front Q (x ∷ xs) ys a = (a.0, all-front Q xs ys a.1)

pub all-back : {X : Type 0} (Q : X → Type 0) (xs ys : List X) → AllByRecursion Q (xs ++ ys) → AllByRecursion Q ys
all-back Q [] ys a = a
all-back Q (x ∷ xs) ys a = all-back Q xs ys a.1

pub all-weaker : {X : Type 0} (Q R : X → Type 0) → ((x : X) → Q x → R x) → (xs : List X) → AllByRecursion Q xs → AllByRecursion R xs
all-weaker Q R f [] a = tt
all-weaker Q R f (x ∷ xs) a = (f x a.0, all-weaker Q R f xs a.1)

pub all-cond : {X : Type 0} (Q : X → Type 0) (b : Bool) (xs ys : List X) → (b ≡ true → AllByRecursion Q xs) → (b ≡ false → AllByRecursion Q ys) → AllByRecursion Q (cond b xs ys)
all-cond Q true xs ys f g = f refl
all-cond Q false xs ys f g = g refl

pub all-filter : {X : Type 0} (Q : X → Type 0) (test : X → Bool) (xs : List X) → AllByRecursion Q xs → AllByRecursion Q (filter test xs)
all-filter Q test [] a = tt
all-filter Q test (x ∷ xs) a =
    all-cond Q (test x) (x ∷ filter test xs) (filter test xs) (λ _. (a.0, all-filter Q test xs a.1)) (λ _. all-filter Q test xs a.1)

pub all-take : {X : Type 0} (Q : X → Type 0) (n : ℕ) (xs : List X) → AllByRecursion Q xs → AllByRecursion Q (take n xs)
all-take Q zero xs a = tt
all-take Q (suc n) [] a = tt
all-take Q (suc n) (x ∷ xs) a = (a.0, all-take Q n xs a.1)

pub all-map : {X Y : Type 0} (Q : Y → Type 0) (f : X → Y) (xs : List X) → AllByRecursion (λ x. Q (f x)) xs → AllByRecursion Q (map f xs)
all-map Q f [] a = tt
all-map Q f (x ∷ xs) a = (a.0, all-map Q f xs a.1)

pub all-found : {X : Type 0} (Q : X → Type 0) (test : X → Bool) (xs : List X) (r : X) → AllByRecursion Q xs → find test xs ≡ Some r → Q r
all-found Q test [] r a e = absurd (cc)
all-found {X} Q test (x ∷ xs) r a e = at (test x) e (λ k. all-found Q test xs r a.1 k)
  where
    at : (b : Bool) → cond b (Some x) (find test xs) ≡ Some r → (find test xs ≡ Some r → Q r) → Q r
    at true k f = let same : x ≡ r = cc in rw (sym same) a.0
    at false k f = f k

pub all-has : {X : Type 0} (Q : X → Type 0) (xs : List X) (x : X) → Has x xs → AllByRecursion Q xs → Q x
all-has Q [] x h a = absurd h
all-has Q (y ∷ xs) x (inl e) a = subst Q e a.0
all-has Q (y ∷ xs) x (inr h) a = all-has Q xs x h a.1

pub all-replicate : {X : Type 0} (Q : X → Type 0) (n : ℕ) (x : X) → Q x → AllByRecursion Q (replicate n x)
all-replicate Q zero x q = tt
all-replicate Q (suc n) x q = (q, all-replicate Q n x q)

pub all-each : (Q : Action → Type 0) (k n : ℕ) (f : ℕ → Action) → ((i : ℕ) → Q (f i)) → AllByRecursion Q (each_from k n f)
all-each Q k zero f q = tt
all-each Q k (suc n) f q = (q k, all-each Q (k + 1) n f q)

-- Rows

pub all-held : (Q : Update → Type 0) (rows : List Row) (x : ℕ) (r : Row) → row_of rows x ≡ Some r → AllByRecursion (λ (q : Row). Q q.update) rows → Q r.update
all-held Q [] x r e a = absurd (cc)
all-held Q (t ∷ rows) x r e a = at (t.update.who == x) e (λ k. all-held Q rows x r k a.1)
  where
    at : (b : Bool) → cond b (Some t) (row_of rows x) ≡ Some r → (row_of rows x ≡ Some r → Q r.update) → Q r.update
    at true k f = let same : t ≡ r = cc in subst (λ (q : Row). Q q.update) same a.0
    at false k f = f k

pub all-put : (Q : Row → Type 0) (rows : List Row) (r : Row) → Q r → AllByRecursion Q rows → AllByRecursion Q (put_row rows r)
all-put Q [] r q a = (q, tt)
all-put Q (s ∷ rows) r q a =
    all-cond Q (nat_lt s.update.who r.update.who) (s ∷ put_row rows r) (cond (s.update.who == r.update.who) (r ∷ rows) (r ∷ s ∷ rows))
    (λ _. (a.0, all-put Q rows r q a.1))
    (λ _. all-cond Q (s.update.who == r.update.who) (r ∷ rows) (r ∷ s ∷ rows) (λ _. (q, a.1)) (λ _. (q, a)))

pub all-remove : (Q : Row → Type 0) (rows : List Row) (x : ℕ) → AllByRecursion Q rows → AllByRecursion Q (remove_row rows x)
all-remove Q [] x a = tt
all-remove Q (s ∷ rows) x a =
    all-cond Q (s.update.who == x) rows (s ∷ remove_row rows x) (λ _. a.1) (λ _. (a.0, all-remove Q rows x a.1))

-- What waits

pub all-without : (Q : Waiting → Type 0) (x : ℕ) (queue : List Waiting) → AllByRecursion Q queue → AllByRecursion Q (without x queue)
all-without Q x queue a = all-filter Q (λ w. not (is_of x w)) queue a

pub all-offered : (Q : Waiting → Type 0) (queue : List Waiting) (u : Update) → Q (record { update = u; count = 0 }) → AllByRecursion Q queue → AllByRecursion Q (offered_queue queue u)
all-offered Q queue u q a = all-append Q (without u.who queue) (record { update = u; count = 0 } ∷ []) (all-without Q u.who queue a) (q, tt)

pub all-raised : (Q : Update → Type 0) (sent : List Update) (queue : List Waiting) → AllByRecursion (λ (w : Waiting). Q w.update) queue → AllByRecursion (λ (w : Waiting). Q w.update) (map (raise_all sent) queue)
all-raised Q sent [] a = tt
all-raised Q sent (w ∷ queue) a = (a.0, all-raised Q sent queue a.1)

all-in_turn : (Q : Waiting → Type 0) (n : ℕ) (queue : List Waiting) → AllByRecursion Q queue → AllByRecursion Q (in_turn n queue)
all-in_turn Q zero queue a = tt
all-in_turn Q (suc n) queue a = all-append Q (in_turn n queue) (sent_times n queue) (all-in_turn Q n queue a) (all-filter Q (λ w. w.count == n) queue a)

pub all-picked : (Q : Update → Type 0) (limit room : ℕ) (queue : List Waiting) → AllByRecursion (λ (w : Waiting). Q w.update) queue → AllByRecursion Q (picked_updates limit room queue)
all-picked Q limit room queue a = all-take Q room (map update_of (in_turn limit queue)) (all-map Q update_of (in_turn limit queue) (all-in_turn (λ w. Q w.update) limit queue a))
