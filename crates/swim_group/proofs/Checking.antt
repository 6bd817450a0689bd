-- What a checker remembers is what was told.
use Rattle.std.proofs.Common.{◌≡◌, ◌≢◌, ◌↔◌, ℕ, ◌⊎◌, inl, inr, refl, sym, ◌∙◌, ap, subst, List, [], ◌∷◌, ◌++◌, append_assoc, cond, true, false, Some, unwrap_or, All, Contains, rules}
use Rattle.std.specs.BTreeMap.{is_at}
use Rattle.std.specs.Cmp.Rules.{comparing}
use Rattle.std.specs.List.{AllByRecursion}
use Rattle.std.specs.Map.{lookup}
use Rattle.std.specs.Ordering.{nat_cmp}
use Rattle.std.proofs.lemmas.Bool.{cases_eq}
use Rattle.swim_wire.specs.declared.datagram.Datagram.{Datagram}
use Rattle.swim_wire.specs.declared.update.Update.{Update}
use Rattle.swim_member.specs.declared.answer.Out.{Out}
use Rattle.swim_group.specs.declared.checker.Breach.{Breach}
use Rattle.swim_group.specs.declared.checker.Breach.TheVariants.{Invented, Passed, WentBack}
use Rattle.swim_group.specs.Numbers.{HasNumber, HasTold}
use Rattle.swim_group.specs.Checking.{MaySay, Breaks, MayFollow, IsRemembered, Remembers, IsAdded, IsNoted, told_numbers}
use Rattle.swim_detect.proofs.Lists.{all-weaker}
use Rattle.swim_group.specs.Checking.{KeepTheLaw, as_sent}
use Rattle.swim_group.proofs.Holding.{all-of}
use Rattle.std.proofs.lemmas.List.{append-nil}

-- Numbers in a list

module _ (x n : ℕ) where
  abbrev IsIt : Update → Type 0
  IsIt u = (u.who ≡ x) × (u.number ≡ n)

  pub number-snoc : (us : List Update) (u : Update) → HasNumber x n (us ++ u ∷ []) → HasNumber x n us ⊎ IsIt u
  number-snoc [] u (inl h) = inr h
  number-snoc [] u (inr h) = absurd h
  number-snoc (t ∷ us) u (inl h) = inl (inl h)
  number-snoc (t ∷ us) u (inr h) = more (number-snoc us u h)
    where
      more : HasNumber x n us ⊎ IsIt u → (IsIt t ⊎ HasNumber x n us) ⊎ IsIt u
      more (inl k) = inl (inr k)
      more (inr k) = inr k

  pub number-before : (us : List Update) (u : Update) → HasNumber x n us → HasNumber x n (us ++ u ∷ [])
  number-before [] u h = absurd h
  number-before (t ∷ us) u (inl h) = inl h
  number-before (t ∷ us) u (inr h) = inr (number-before us u h)

  pub number-last : (us : List Update) (u : Update) → IsIt u → HasNumber x n (us ++ u ∷ [])
  number-last [] u h = inl h
  number-last (t ∷ us) u h = inr (number-last us u h)

  -- among what was told, with one more datagram
  pub told-snoc : (sent : List Out) (out : Out) → HasTold (sent ++ out ∷ []) x n → HasTold sent x n ⊎ ((x ≡ out.datagram.sender) × HasNumber x n out.datagram.updates.items)
  told-snoc [] out (inl h) = inr (sym h.0, h.1)
  told-snoc [] out (inr h) = absurd h
  told-snoc (o ∷ sent) out (inl h) = inl (inl h)
  told-snoc (o ∷ sent) out (inr h) = more (told-snoc sent out h)
    where
      more : HasTold sent x n ⊎ ((x ≡ out.datagram.sender) × HasNumber x n out.datagram.updates.items) → HasTold (o ∷ sent) x n ⊎ ((x ≡ out.datagram.sender) × HasNumber x n out.datagram.updates.items)
      more (inl k) = inl (inr k)
      more (inr k) = inr k

  pub told-more : (sent : List Out) (out : Out) → HasTold sent x n ⊎ ((x ≡ out.datagram.sender) × HasNumber x n out.datagram.updates.items) → HasTold (sent ++ out ∷ []) x n
  told-more [] out (inl h) = absurd h
  told-more [] out (inr h) = inl (sym h.0, h.1)
  told-more (o ∷ sent) out (inl (inl h)) = inl h
  told-more (o ∷ sent) out (inl (inr h)) = inr (told-more sent out (inl h))
  told-more (o ∷ sent) out (inr h) = inr (told-more sent out (inr h))

-- What is remembered of each member

-- of one that is found among the entries, what it holds
pub found-numbers : (told : List (ℕ × List ℕ)) (x : ℕ) (ns : List ℕ) → lookup (is_at (nat_cmp x)) told ≡ Some ns → told_numbers told x ≡ ns
found-numbers told x ns e = ap (λ o. unwrap_or o []) e

-- with this at one of them, and what it was at the others
pub numbers-set : (old new : List (ℕ × List ℕ)) (k : ℕ) (ns : List ℕ) → ((q : ℕ) → lookup (is_at (nat_cmp q)) new ≡ cond (is_at (nat_cmp k) q) (Some ns) (lookup (is_at (nat_cmp q)) old)) → (q : ℕ) → (q ≡ k → told_numbers new q ≡ ns) × (q ≢ k → told_numbers new q ≡ told_numbers old q)
numbers-set old new k ns sets q = (
  λ e. found-numbers new q ns (sets q ∙ ap (λ b. cond b (Some ns) (lookup (is_at (nat_cmp q)) old)) (here e)),
  λ ne. ap (λ o. unwrap_or o []) (sets q ∙ ap (λ b. cond b (Some ns) (lookup (is_at (nat_cmp q)) old)) (apart ne)),
)
  where
    here : q ≡ k → is_at (nat_cmp k) q ≡ true
    here e = search (rules, comparing)

    apart : q ≢ k → is_at (nat_cmp k) q ≡ false
    apart ne = search (rules, comparing)

-- so what was added to the numbers of one is noted of it
pub noted-at : (old new : List (ℕ × List ℕ)) (k : ℕ) (before ns : List ℕ) (us : List Update) → told_numbers old k ≡ before → IsAdded before k us ns → ((q : ℕ) → (q ≡ k → told_numbers new q ≡ ns) × (q ≢ k → told_numbers new q ≡ told_numbers old q)) → IsNoted old k us new
noted-at old new k before ns us was added sets x n = (forth, back)
  where
    forth : IsRemembered old x n ⊎ ((x ≡ k) × HasNumber x n us) → IsRemembered new x n
    forth (inr h) = subst (λ l. Contains l n) (sym ((sets x).0 h.0)) ((added n).1 (inr (subst (λ y. HasNumber y n us) h.0 h.1)))
    forth (inl h) = elim (cases_eq x k) [
      | inl e ↦ subst (λ l. Contains l n) (sym ((sets x).0 e)) ((added n).1 (inl (subst (λ l. Contains l n) (ap (told_numbers old) e ∙ was) h)))
      | inr ne ↦ subst (λ l. Contains l n) (sym ((sets x).1 ne)) h
    ]

    which : x ≡ k → Contains before n ⊎ HasNumber k n us → IsRemembered old x n ⊎ ((x ≡ k) × HasNumber x n us)
    which e (inl h) = inl (subst (λ l. Contains l n) (sym (ap (told_numbers old) e ∙ was)) h)
    which e (inr h) = inr (e, subst (λ y. HasNumber y n us) (sym e) h)

    back : IsRemembered new x n → IsRemembered old x n ⊎ ((x ≡ k) × HasNumber x n us)
    back h = elim (cases_eq x k) [
      | inl e ↦ which e ((added n).0 (subst (λ l. Contains l n) ((sets x).0 e) h))
      | inr ne ↦ inl (subst (λ l. Contains l n) ((sets x).1 ne) h)
    ]

-- By what is remembered and by what was told

module _ (told : List (ℕ × List ℕ)) (sent : List Out) (same : Remembers told sent) (sender : ℕ) where
  say-told : (u : Update) → MaySay (IsRemembered told) sender u → MaySay (HasTold sent) sender u
  say-told u h = record {
    other = λ ne. (same u.who u.number).1 (h.other ne);
    own = λ e n k. h.own e n ((same sender n).0 k);
  }

  pub say-all : (us : List Update) → All (MaySay (IsRemembered told) sender) us → AllByRecursion (MaySay (HasTold sent) sender) us
  say-all us h = all-weaker (MaySay (IsRemembered told) sender) (MaySay (HasTold sent) sender) say-told us (all-of (MaySay (IsRemembered told) sender) us h)

  pub breaks-told : (breach : Breach) (u : Update) → Breaks (IsRemembered told) sender breach u → Breaks (HasTold sent) sender breach u
  breaks-told Invented u h = (
    h.0,
    λ k. h.1 ((same u.who u.number).0 k),
    λ k. h.2 (λ n i. k n ((same u.who n).1 i)),
  )
  breaks-told Passed u h = (h.0, λ n k. h.1 n ((same u.who n).0 k))
  breaks-told WentBack u h = (h.0, (h.1.0, (same sender h.1.0).1 h.1.1, h.1.2))

  -- and of the datagram after them
  pub remembers-more : (out : Out) (new : List (ℕ × List ℕ)) → out.datagram.sender ≡ sender → IsNoted told sender out.datagram.updates.items new → Remembers new (sent ++ out ∷ [])
  remembers-more out new from noted x n = (
    λ k. (noted x n).0 (forth (told-snoc x n sent out k)),
    λ k. told-more x n sent out (back ((noted x n).1 k)),
  )
    where
      forth : HasTold sent x n ⊎ ((x ≡ out.datagram.sender) × HasNumber x n out.datagram.updates.items) → IsRemembered told x n ⊎ ((x ≡ sender) × HasNumber x n out.datagram.updates.items)
      forth (inl k) = inl ((same x n).0 k)
      forth (inr k) = inr (k.0 ∙ from, k.1)

      back : IsRemembered told x n ⊎ ((x ≡ sender) × HasNumber x n out.datagram.updates.items) → HasTold sent x n ⊎ ((x ≡ out.datagram.sender) × HasNumber x n out.datagram.updates.items)
      back (inl k) = inl ((same x n).1 k)
      back (inr k) = inr (k.0 ∙ sym from, k.1)

-- Adding

-- an update of another adds nothing
pub added-other : (old now : List ℕ) (who : ℕ) (us : List Update) (u : Update) → u.who ≢ who → IsAdded old who us now → IsAdded old who (us ++ u ∷ []) now
added-other old now who us u ne before n = (λ h. more ((before n).0 h), λ h. (before n).1 (fewer h))
  where
    more : Contains old n ⊎ HasNumber who n us → Contains old n ⊎ HasNumber who n (us ++ u ∷ [])
    more (inl h) = inl h
    more (inr h) = inr (number-before who n us u h)

    which : HasNumber who n us ⊎ ((u.who ≡ who) × (u.number ≡ n)) → Contains old n ⊎ HasNumber who n us
    which (inl h) = inr h
    which (inr h) = absurd (ne h.0)

    fewer : Contains old n ⊎ HasNumber who n (us ++ u ∷ []) → Contains old n ⊎ HasNumber who n us
    fewer (inl h) = inl h
    fewer (inr h) = which (number-snoc who n us u h)

pub added-own : (old now new : List ℕ) (who : ℕ) (us : List Update) (u : Update) → u.who ≡ who → IsAdded old who us now → ((n : ℕ) → Contains new n ↔ (Contains now n ⊎ (n ≡ u.number))) → IsAdded old who (us ++ u ∷ []) new
added-own old now new who us u own before step n = (λ h. more ((step n).0 h), λ h. (step n).1 (fewer h))
  where
    longer : Contains old n ⊎ HasNumber who n us → Contains old n ⊎ HasNumber who n (us ++ u ∷ [])
    longer (inl h) = inl h
    longer (inr h) = inr (number-before who n us u h)

    more : Contains now n ⊎ (n ≡ u.number) → Contains old n ⊎ HasNumber who n (us ++ u ∷ [])
    more (inl h) = longer ((before n).0 h)
    more (inr e) = inr (number-last who n us u (own, sym e))

    which : HasNumber who n us ⊎ ((u.who ≡ who) × (u.number ≡ n)) → Contains now n ⊎ (n ≡ u.number)
    which (inl h) = inl ((before n).1 (inr h))
    which (inr h) = inr (sym h.1)

    fewer : Contains old n ⊎ HasNumber who n (us ++ u ∷ []) → Contains now n ⊎ (n ≡ u.number)
    fewer (inl h) = inl ((before n).1 (inl h))
    fewer (inr h) = which (number-snoc who n us u h)

-- Lists of datagrams

pub law-snoc : (sent outs : List Out) (out : Out) → KeepTheLaw sent outs → MayFollow (sent ++ outs) out.datagram → KeepTheLaw sent (outs ++ out ∷ [])
law-snoc sent [] out h may = (subst (λ s. MayFollow s out.datagram) (append-nil sent) may, tt {0})
law-snoc sent (o ∷ outs) out h may = (h.0, law-snoc (sent ++ o ∷ []) outs out h.1 (subst (λ s. MayFollow s out.datagram) (sym (append_assoc sent (o ∷ []) outs)) may))

pub as_sent-snoc : (ds : List Datagram) (d : Datagram) → as_sent (ds ++ d ∷ []) ≡ as_sent ds ++ record { to = 0; datagram = d } ∷ []
as_sent-snoc [] d = refl
as_sent-snoc (e ∷ ds) d = ap (λ (outs : List Out). record { to = 0; datagram = e } ∷ outs) (as_sent-snoc ds d)
