-- Lists of turns: who is met first, and who is dealt.
use Rattle.std.proofs.Common.{◌≡◌, ℕ, ◌+◌, ◌<◌, ◌≤◌, ◌==◌, Bool, true, false, cond, ◌||◌, refl, sym, ◌∙◌, ap, inl, inr, List, [], ◌∷◌, ◌++◌, map, drop, length, zero, suc, Option, Some, None, arith}
use Rattle.std.specs.List.{filter, find, list_any, position_or_len, cons_option, slice_get, IsDistinct, AllByRecursion}
use Rattle.std.proofs.lemmas.Bool.{cases_Bool, false≢true, eqb-true, eqb-false, eq-eqb, ne_eqb, or_parts, or_from}
use Rattle.std.proofs.lemmas.List.Elements.{recursion_from_All}
use Rattle.std.proofs.lemmas.Map.Steps.{length-le_from_distinct_below}
use Rattle.swim_rules.specs.declared.table.Row.{Row}
use Rattle.swim_rules.specs.Rows.{is_eligible}
use Rattle.swim_rules.specs.Deals.{IsDeal}
use Rattle.swim_member.specs.Member.{row_name}
use Rattle.swim_member.specs.Turn.{dealt}
use Rattle.swim_member.specs.Looks.{is_among}

-- Nobody twice

-- no member stands in the list twice
abbrev pub AreOnce : List ℕ → Type 0
AreOnce l = IsDistinct (λ x y. x == y) l

not-among : (x : ℕ) (l : List ℕ) → AllByRecursion (λ y. (x == y) ≡ false) l → is_among x l ≡ false
not-among x [] h = refl
not-among x (y ∷ l) h = rw (ne_eqb y x (λ e. eqb-false x y h.0 (sym e))) (not-among x l h.1)

-- the first stands nowhere behind
pub once-head : (x : ℕ) (l : List ℕ) → AreOnce (x ∷ l) → is_among x l ≡ false
unfolding IsDistinct
once-head x l h = not-among x l h.0

pub once-tail : (x : ℕ) (l : List ℕ) → AreOnce (x ∷ l) → AreOnce l
unfolding IsDistinct
once-tail x l h = h.1

pub once-behind : (over m : List ℕ) → AreOnce (over ++ m) → AreOnce m
once-behind [] m a = a
once-behind (y ∷ over) m a = once-behind over m (once-tail y (over ++ m) a)

-- all but the first
pub once-rest : (l : List ℕ) → AreOnce l → AreOnce (drop 1 l)
once-rest [] a = a
once-rest (y ∷ l) a = once-tail y l a

-- nobody in the list is among these
abbrev pub AreOut : List ℕ → List ℕ → Type 0
AreOut l names = (y : ℕ) → is_among y l ≡ true → is_among y names ≡ false

-- Searches

abbrev nobody : List ℕ
nobody = []

drop-none : (n : ℕ) → drop n nobody ≡ nobody
drop-none zero = refl
drop-none (suc n) = refl

pub drop-more : (a b : ℕ) (xs : List ℕ) → drop (a + b) xs ≡ drop b (drop a xs)
drop-more zero b xs = let e : 0 + b ≡ b = omega arith in ap (λ n. drop n xs) e
drop-more (suc a) b [] = drop-none (suc a + b) ∙ sym (drop-none b)
drop-more (suc a) b (x ∷ xs) =
    let e : suc a + b ≡ suc (a + b) = omega arith in
    ap (λ n. drop n (x ∷ xs)) e ∙ drop-more a b xs

-- a search of a list found x behind others that fail the test
pub record Found (p : ℕ → Bool) (l : List ℕ) (x : ℕ) : Type 0 where
  pub over : List ℕ
  pub is : l ≡ over ++ x ∷ drop (position_or_len p l + 1) l
  pub none : (y : ℕ) → is_among y over ≡ true → p y ≡ false

pub found : (p : ℕ → Bool) (l : List ℕ) (x : ℕ) → find p l ≡ Some x → Found p l x
found p [] x e = absurd (cc)
found p (y ∷ l) x e = at (p y) refl e (λ k. found p l x k)
  where
    among : (z : ℕ) (over : List ℕ) (b : Bool) → (y == z) ≡ b → p y ≡ false → ((w : ℕ) → is_among w over ≡ true → p w ≡ false) → (b || is_among z over) ≡ true → p z ≡ false
    among z over true t f h k = ap p (sym (eqb-true y z t)) ∙ f
    among z over false t f h k = h z k

    at : (b : Bool) → p y ≡ b → cond b (Some y) (find p l) ≡ Some x → (find p l ≡ Some x → Found p l x) → Found p (y ∷ l) x
    at true t k f =
        let same : y ≡ x = cc in
        record {
          over = [];
          is = rw t (ap (λ z. z ∷ l) same);
          none = λ z h. absurd (false≢true h);
        }
    at false t k f =
        let r : Found p l x = f k in
        let e : 1 + position_or_len p l + 1 ≡ suc (position_or_len p l + 1) = omega arith in
        let d : drop (1 + position_or_len p l + 1) (y ∷ l) ≡ drop (position_or_len p l + 1) l = ap (λ n. drop n (y ∷ l)) e in
        record {
          over = y ∷ r.over;
          is = rw t (ap (λ m. y ∷ m) r.is ∙ ap (λ m. y ∷ (r.over ++ x ∷ m)) (sym d));
          none = λ z h. among z r.over (y == z) refl t r.none h;
        }

pub missed : (p : ℕ → Bool) (l : List ℕ) → find p l ≡ None → (y : ℕ) → is_among y l ≡ true → p y ≡ false
missed p [] e y h = absurd (false≢true h)
missed p (x ∷ l) e y h = at (p x) refl e (x == y) refl h (λ k m. missed p l k y m)
  where
    at : (b : Bool) → p x ≡ b → cond b (Some x) (find p l) ≡ None → (c : Bool) → (x == y) ≡ c → (c || is_among y l) ≡ true → (find p l ≡ None → is_among y l ≡ true → p y ≡ false) → p y ≡ false
    at true t k c q m f = absurd (cc)
    at false t k true q m f = ap p (sym (eqb-true x y q)) ∙ t
    at false t k false q m f = f k m

pub among-names : (y : ℕ) (rows : List Row) → is_among y (map row_name rows) ≡ list_any (λ r. row_name r == y) rows
among-names y [] = refl
among-names y (r ∷ rows) = ap (λ b. (row_name r == y) || b) (among-names y rows)

-- Dealt lists

taken : (names : List ℕ) (n x : ℕ) → slice_get names n ≡ Some x → is_among x names ≡ true
taken [] n x e = absurd (cc)
taken (y ∷ names) zero x e = let same : y ≡ x = cc in rw (eq-eqb y x same) refl
taken (y ∷ names) (suc n) x e = behind (y == x) (taken names n x e)
  where
    behind : (b : Bool) → is_among x names ≡ true → (b || is_among x names) ≡ true
    behind true h = refl
    behind false h = h

-- x is none of these
pub none-any : (x : ℕ) (ys : List ℕ) → list_any (λ y. x == y) ys ≡ false → AllByRecursion (λ y. (x == y) ≡ false) ys
none-any x [] h = tt
none-any x (y ∷ ys) h = let parts = or_parts (x == y) (list_any (λ z. x == z) ys) h in (parts.0, none-any x ys parts.1)

pub any-none : (x : ℕ) (ys : List ℕ) → AllByRecursion (λ y. (x == y) ≡ false) ys → list_any (λ y. x == y) ys ≡ false
any-none x [] a = refl
any-none x (y ∷ ys) a = or_from (x == y) (list_any (λ z. x == z) ys) a.0 (any-none x ys a.1)

low : (deal : List ℕ) → AllByRecursion (λ n. n < 256) deal → (q : ℕ) → list_any (λ m. q == m) deal ≡ true → q < 256
low [] a q h = absurd (false≢true h)
low (m ∷ deal) a q h = at (q == m) refl h (λ k. low deal a.1 q k)
  where
    at : (b : Bool) → (q == m) ≡ b → (b || list_any (λ m. q == m) deal) ≡ true → (list_any (λ m. q == m) deal ≡ true → q < 256) → q < 256
    at true e k f = let l : m < 256 = a.0 in let s : q ≡ m = eqb-true q m e in omega arith
    at false e k f = f k

-- a deal has each number below 256
all-dealt : (deal : List ℕ) → IsDeal deal → (n : ℕ) → n < 256 → list_any (λ m. n == m) deal ≡ true
unfolding IsDistinct
all-dealt deal d n l = elim (cases_Bool (list_any (λ m. n == m) deal)) [
  | inl t ↦ t
  | inr f ↦
      let most : length (n ∷ deal) ≤ 256 = length-le_from_distinct_below (n ∷ deal) 256 (none-any n deal f, d.once) below in
      let many : length deal ≡ 256 = d.all in
      absurd (too_many (length deal) most many)
]
  where
    too_many : (k : ℕ) → suc k ≤ 256 → k ≡ 256 → ⊥
    too_many k a b = omega arith

    below : (q : ℕ) → list_any (λ m. q == m) (n ∷ deal) ≡ true → q < 256
    below q h = low (n ∷ deal) (l, recursion_from_All (λ n. n < 256) deal d.below) q h

record At (x : ℕ) (names : List ℕ) : Type 0 where
  at : ℕ
  within : at < length names
  is : slice_get names at ≡ Some x

index : (x : ℕ) (names : List ℕ) → is_among x names ≡ true → At x names
index x [] h = absurd (false≢true h)
index x (y ∷ names) h = by_head (y == x) refl h (λ k. index x names k)
  where
    by_head : (b : Bool) → (y == x) ≡ b → (b || is_among x names) ≡ true → (is_among x names ≡ true → At x names) → At x (y ∷ names)
    by_head true e k f = record { at = 0; within = omega arith; is = ap (λ z. Some z) (eqb-true y x e) }
    by_head false e k f =
        let r : At x names = f k in
        let l : r.at < length names = r.within in
        record { at = suc r.at; within = omega arith; is = r.is }

picks : (names : List ℕ) (n x : ℕ) → slice_get names n ≡ Some x → (deal : List ℕ) → list_any (λ m. n == m) deal ≡ true → is_among x (dealt names deal) ≡ true
picks names n x e [] h = absurd (false≢true h)
picks names n x e (m ∷ deal) h = at (n == m) refl h (λ k. picks names n x e deal k)
  where
    behind : (o : Option ℕ) → is_among x (dealt names deal) ≡ true → is_among x (cons_option o (dealt names deal)) ≡ true
    behind None k = k
    behind (Some y) k = either (y == x) k
      where
        either : (b : Bool) → is_among x (dealt names deal) ≡ true → (b || is_among x (dealt names deal)) ≡ true
        either true k = refl
        either false k = k

    first : (o : Option ℕ) → o ≡ Some x → is_among x (cons_option o (dealt names deal)) ≡ true
    first None f = absurd (cc)
    first (Some y) f = let same : y ≡ x = cc in rw (eq-eqb y x same) refl

    at : (b : Bool) → (n == m) ≡ b → (b || list_any (λ m. n == m) deal) ≡ true → (list_any (λ m. n == m) deal ≡ true → is_among x (dealt names deal) ≡ true) → is_among x (dealt names (m ∷ deal)) ≡ true
    at true f k g = first (slice_get names m) (ap (slice_get names) (sym (eqb-true n m f)) ∙ e)
    at false f k g = behind (slice_get names m) (g k)

-- each eligible member is listed, where there are at most 256
everyone-listed : (names deal : List ℕ) → IsDeal deal → length names ≤ 256 → (x : ℕ) → is_among x names ≡ true → is_among x (dealt names deal) ≡ true
everyone-listed names deal d l x h =
    let r : At x names = index x names h in
    let k : r.at < length names = r.within in
    picks names r.at x r.is deal (all-dealt deal d r.at (omega arith))

-- and nobody else
no-other-listed : (names deal : List ℕ) (x : ℕ) → is_among x (dealt names deal) ≡ true → is_among x names ≡ true
no-other-listed names [] x h = absurd (false≢true h)
no-other-listed names (n ∷ deal) x h = at (slice_get names n) refl h (λ k. no-other-listed names deal x k)
  where
    by_head : (y : ℕ) (b : Bool) → (y == x) ≡ b → slice_get names n ≡ Some y → (b || is_among x (dealt names deal)) ≡ true → (is_among x (dealt names deal) ≡ true → is_among x names ≡ true) → is_among x names ≡ true
    by_head y true e f k g = taken names n x (f ∙ ap (λ z. Some z) (eqb-true y x e))
    by_head y false e f k g = g k

    at : (o : Option ℕ) → slice_get names n ≡ o → is_among x (cons_option o (dealt names deal)) ≡ true → (is_among x (dealt names deal) ≡ true → is_among x names ≡ true) → is_among x names ≡ true
    at None f k g = g k
    at (Some y) f k g = by_head y (y == x) refl f k g

filter-most : (rows : List Row) → length (map row_name (filter is_eligible rows)) ≤ length rows
filter-most [] = omega arith
filter-most (r ∷ rows) = at (is_eligible r) (filter-most rows)
  where
    at : (b : Bool) → length (map row_name (filter is_eligible rows)) ≤ length rows → length (map row_name (cond b (r ∷ filter is_eligible rows) (filter is_eligible rows))) ≤ length (r ∷ rows)
    at true l = omega arith
    at false l = omega arith

-- a list that is dealt has just the members that are eligible
pub all-listed : (rows : List Row) (deal : List ℕ) → IsDeal deal → length rows ≤ 256 → (x : ℕ) → is_among x (dealt (map row_name (filter is_eligible rows)) deal) ≡ is_among x (map row_name (filter is_eligible rows))
all-listed rows deal d l x =
    let names : List ℕ = map row_name (filter is_eligible rows) in
    same (is_among x (dealt names deal)) (is_among x names) (is_among x (dealt names deal)) (is_among x names) refl refl (no-other-listed names deal x) (everyone-listed names deal d (let few : length names ≤ length rows = filter-most rows in omega (arith, few, l)) x)
  where
    same : (a b c d : Bool) → a ≡ c → b ≡ d → (a ≡ true → b ≡ true) → (b ≡ true → a ≡ true) → a ≡ b
    same a b true d e f g h = e ∙ sym (g e)
    same a b false true e f g h = absurd (false≢true (sym e ∙ h f))
    same a b false false e f g h = e ∙ sym f
