-- What members hold of another, by what they were told of it.
use Rattle.std.proofs.Common.{◌≡◌, ◌≢◌, ℕ, ◌==◌, ◌||◌, ◌⊎◌, inl, inr, not, Bool, true, false, cond, refl, sym, ◌∙◌, ap, subst, List, [], ◌∷◌, ◌++◌, zero, suc, Option, Some, None, IfSome}
use Rattle.std.specs.List.{AllByRecursion, list_any, find}
use Rattle.std.specs.Option.{option_map}
use Rattle.std.proofs.lemmas.Bool.{eqb-true, eqb-false, false≢true, not-true}
use Rattle.swim_wire.specs.declared.rules.Rules.{Rules}
use Rattle.swim_wire.specs.declared.update.Update.{Update}
use Rattle.swim_rules.specs.declared.table.Row.{Row}
use Rattle.swim_rules.specs.Rules.{overrides, top, heard}
use Rattle.swim_rules.specs.Rows.{row_of}
use Rattle.swim_rules.specs.Hearing.{IsAmong, HaveSameUpdates, AreAlike}
use Rattle.swim_rules.proofs.Order.{AreSame, alike, beats-trans}
use Rattle.swim_rules.proofs.Top.{best, top_by-best}
use Rattle.swim_rules.proofs.Told.{over, over_laws, about-row, row_of-rows}
use Rattle.swim_member.specs.Checks.{rules_of}
use Rattle.swim_member.specs.State.{State, Change, Heard, Forgot}
use Rattle.swim_member.specs.Readings.{time, told_to_table}
use Rattle.swim_member.specs.Events.{log_of, changes_of}
use Rattle.swim_member.proofs.Logs.{log_after-snoc}
use Rattle.swim_member.proofs.Keeping.{find-passes}
use Rattle.swim_group.specs.Group.{Place, Group, Move, Happens, Restarts, OfPlace, begun, name_at, state_at, place_at, change_at, with_event, new_place, after_move, after_moves}
use Rattle.swim_group.specs.Views.{held_by}
use Rattle.swim_group.specs.Agreement.{heard_of, HasHeard, IsCaughtUp, AllLiveBy, EachBut, AllHoldAlike, HasReached, HasUpdate, IsHeld, NothingNew, LacksForgot, IsMinded, IsMindedIn}
use Rattle.swim_group.proofs.Telling.{all-at}
use Rattle.swim_group.proofs.Viewing.{at-changed, at-unchanged}

-- The top of what was heard

-- what is found stands in the list
among-found : (test : Row → Bool) (rows : List Row) (r : Row) → find test rows ≡ Some r → IsAmong r.update rows
among-found test [] r e = absurd (cc)
among-found test (s ∷ rows) r e = at (test s) e (λ f. among-found test rows r f)
  where
    at : (b : Bool) → cond b (Some s) (find test rows) ≡ Some r → (find test rows ≡ Some r → IsAmong r.update rows) → (s.update ≡ r.update) ⊎ IsAmong r.update rows
    at true f more = let same : s ≡ r = cc in inl (ap (λ (q : Row). q.update) same)
    at false f more = inr (more f)

-- nothing in the list overrides its top
not-over : (rules : Rules) (u v : Update) (rows : List Row) → list_any (λ s. overrides rules s.update v) rows ≡ false → IsAmong u rows → overrides rules u v ≡ false
not-over rules u v [] e k = absurd k
not-over rules u v (r ∷ rows) e k = at (overrides rules r.update v) refl k e (λ f m. not-over rules u v rows f m)
  where
    at : (b : Bool) → overrides rules r.update v ≡ b → (r.update ≡ u) ⊎ IsAmong u rows → (b || list_any (λ s. overrides rules s.update v) rows) ≡ false
        → (list_any (λ s. overrides rules s.update v) rows ≡ false → IsAmong u rows → overrides rules u v ≡ false) → overrides rules u v ≡ false
    at true t m f more = absurd (false≢true (sym f))
    at false t (inl same) f more = ap (λ w. overrides rules w v) (sym same) ∙ t
    at false t (inr m) f more = more f m

under-top : (rules : Rules) (u : Update) (rows : List Row) (r : Row) → top rules rows ≡ Some r → IsAmong u rows → overrides rules u r.update ≡ false
under-top rules u rows r e k =
    not-over rules u r.update rows (not-true (list_any (λ s. overrides rules s.update r.update) rows) (find-passes (λ t. not (list_any (λ s. overrides rules s.update t.update) rows)) rows r e)) k

-- where something is, there is a top
some-top : (rules : Rules) (u : Update) (rows : List Row) → IsAmong u rows → top rules rows ≢ None
some-top rules u [] k e = k
some-top rules u (r ∷ rows) k e = let both : Some (best (over rules) r rows) ≡ None = sym (top_by-best (over rules) (over_laws rules) r rows) ∙ e in cc

-- Two members

-- what a member holds is the top of what it was told
held-top : (x : ℕ) (p : Place) → row_of (state_at p).rows x ≡ top (rules_of p.settings) (heard_of x p)
held-top x p = row_of-rows (rules_of p.settings) (begun p).rows (told_to_table (begun p) (log_of (begun p) p.steps)) x

-- by these rules
held-by : (rules : Rules) (x : ℕ) (p : Place) → rules_of p.settings ≡ rules → row_of (state_at p).rows x ≡ top rules (heard_of x p)
held-by rules x p e = held-top x p ∙ ap (λ (l : Rules). top l (heard_of x p)) e

-- and it is about x
held-about : (x : ℕ) (p : Place) (r : Row) → row_of (state_at p).rows x ≡ Some r → r.update.who ≡ x
held-about x p r e =
    about-row (rules_of p.settings) (begun p).rows (told_to_table (begun p) (log_of (begun p) p.steps)) x r (sym (held-top x p) ∙ e)

-- who is caught up with an update holds nothing that it overrides
not-overridden : (rules : Rules) (x : ℕ) (u : Update) (p : Place) (r : Row) → rules_of p.settings ≡ rules → row_of (state_at p).rows x ≡ Some r → IsCaughtUp rules x u p → overrides rules u r.update ≡ false
not-overridden rules x u p r same held caught = at caught.enough (overrides rules u r.update) refl
  where
    below : overrides rules caught.told r.update ≡ false
    below = under-top rules caught.told (heard_of x p) r (sym (held-by rules x p same) ∙ held) caught.has

    at : (caught.told ≡ u) ⊎ (overrides rules caught.told u ≡ true) → (b : Bool) → overrides rules u r.update ≡ b → overrides rules u r.update ≡ false
    at (inl e) b t = ap (λ v. overrides rules v r.update) (sym e) ∙ below
    at (inr e) true t =
        absurd (false≢true (sym below ∙ beats-trans rules caught.told.kind caught.told.number u.kind u.number r.update.kind r.update.number e t))
    at (inr e) false t = t

holds-some : (rules : Rules) (x : ℕ) (u : Update) (p : Place) → rules_of p.settings ≡ rules → IsCaughtUp rules x u p → row_of (state_at p).rows x ≢ None
holds-some rules x u p same caught e = some-top rules caught.told (heard_of x p) caught.has (sym (held-by rules x p same) ∙ e)

-- two members that are caught up with one another hold the same
both-alike : (rules : Rules) (x : ℕ) (p q : Place) → rules_of p.settings ≡ rules → rules_of q.settings ≡ rules
    → ((r : Row) → row_of (state_at p).rows x ≡ Some r → IsCaughtUp rules x r.update q)
    → ((r : Row) → row_of (state_at q).rows x ≡ Some r → IsCaughtUp rules x r.update p)
    → (a b : Option Row) → row_of (state_at p).rows x ≡ a → row_of (state_at q).rows x ≡ b → AreAlike rules a b
both-alike rules x p q pr qr there here None None e f = tt {0}
both-alike rules x p q pr qr there here None (Some s) e f = absurd (holds-some rules x s.update p pr (here s f) e)
both-alike rules x p q pr qr there here (Some r) None e f = absurd (holds-some rules x r.update q qr (there r e) f)
both-alike rules x p q pr qr there here (Some r) (Some s) e f =
    let same : AreSame rules r.update.kind r.update.number s.update.kind s.update.number =
    alike rules r.update.kind r.update.number s.update.kind s.update.number (not-overridden rules x r.update q s qr f (there r e)) (not-overridden rules x s.update p r pr e (here s f)) in
    record { member = held-about x p r e ∙ sym (held-about x q s f); kind = same.kind; number = same.number }

-- who was told the same holds the same
pub told-alike : (rules : Rules) (x : ℕ) (p q : Place) → rules_of p.settings ≡ rules → rules_of q.settings ≡ rules → HaveSameUpdates (heard_of x p) (heard_of x q) → AreAlike rules (held_by x (Some p)) (held_by x (Some q))
told-alike rules x p q pr qr same =
    both-alike rules x p q pr qr
    (λ r e. caught r.update q (same.0 r.update (among rules p pr r e)))
    (λ r e. caught r.update p (same.1 r.update (among rules q qr r e)))
    (row_of (state_at p).rows x) (row_of (state_at q).rows x) refl refl
  where
    among : (rules : Rules) (o : Place) → rules_of o.settings ≡ rules → (r : Row) → row_of (state_at o).rows x ≡ Some r → HasHeard x r.update o
    among rules o same r e =
        among-found (λ t. not (list_any (λ s. overrides rules s.update t.update) (heard_of x o))) (heard_of x o) r (sym (held-by rules x o same) ∙ e)

    caught : (u : Update) (o : Place) → HasHeard x u o → IsCaughtUp rules x u o
    caught u o k = record { told = u; has = k; enough = inl refl }

-- Groups

if-some : (P : Row → Type 0) (o : Option Row) (r : Row) → IfSome o P → o ≡ Some r → P r
if-some P None r h e = absurd (cc)
if-some P (Some s) r h e = let same : s ≡ r = cc in subst P same h

-- a fact of each that there is
all-from : (Q : Place → Type 0) (places : List Place) → ((k : ℕ) (p : Place) → place_at places k ≡ Some p → Q p) → AllByRecursion Q places
all-from Q [] h = tt {0}
all-from Q (p ∷ places) h = (h zero p refl, all-from Q places (λ k q e. h (suc k) q e))

-- what one of them held has reached all
held-reached : (rules : Rules) (x : ℕ) (u : Update) (later : Group) (places : List Place) → AllByRecursion (HasReached rules x later) places → IsHeld x u places → EachBut x (IsCaughtUp rules x u) later
held-reached rules x u later [] all h = absurd h
held-reached rules x u later (p ∷ places) all (inr h) = held-reached rules x u later places all.1 h
held-reached rules x u later (p ∷ places) all (inl h) = at (row_of (state_at p).rows x) h all.0
  where
    at : (o : Option Row) → HasUpdate u o → IfSome o (λ r. EachBut x (IsCaughtUp rules x r.update) later) → EachBut x (IsCaughtUp rules x u) later
    at None h k = absurd h
    at (Some r) h k = subst (λ v. EachBut x (IsCaughtUp rules x v) later) h k

-- members that are caught up with one another hold the same
all-alike : (rules : Rules) (x : ℕ) (g : Group) → AllLiveBy rules g → ((k : ℕ) (p : Place) → place_at g.places k ≡ Some p → name_at p ≢ x → (r : Row) → row_of (state_at p).rows x ≡ Some r → EachBut x (IsCaughtUp rules x r.update) g) → AllHoldAlike rules x g
all-alike rules x g live reached =
    all-from (λ p. name_at p ≢ x → EachBut x (λ q. AreAlike rules (held_by x (Some p)) (held_by x (Some q))) g) g.places
    (λ k p at pn. all-from (λ q. name_at q ≢ x → AreAlike rules (held_by x (Some p)) (held_by x (Some q))) g.places
    (λ l q bt qn. both-alike rules x p q (by_rules k p at) (by_rules l q bt) (λ r e. has k p at pn r e l q bt qn) (λ r e. has l q bt qn r e k p at pn) (row_of (state_at p).rows x) (row_of (state_at q).rows x) refl refl))
  where
    by_rules : (k : ℕ) (p : Place) → place_at g.places k ≡ Some p → rules_of p.settings ≡ rules
    by_rules k p at = all-at (λ o. rules_of o.settings ≡ rules) g.places k p at live

    has : (k : ℕ) (p : Place) → place_at g.places k ≡ Some p → name_at p ≢ x → (r : Row) → row_of (state_at p).rows x ≡ Some r → (l : ℕ) (q : Place) → place_at g.places l ≡ Some q → name_at q ≢ x → IsCaughtUp rules x r.update q
    has k p at pn r e l q bt qn = all-at (λ o. name_at o ≢ x → IsCaughtUp rules x r.update o) g.places l q bt (reached k p at pn r e) qn

pub now-alike : (rules : Rules) (x : ℕ) (g : Group) → AllLiveBy rules g → AllByRecursion (HasReached rules x g) g.places → AllHoldAlike rules x g
now-alike rules x g live reached =
    all-alike rules x g live
    (λ k p at pn r e. if-some (λ s. EachBut x (IsCaughtUp rules x s.update) g) (row_of (state_at p).rows x) r (all-at (HasReached rules x g) g.places k p at reached) e)

pub later-alike : (rules : Rules) (x : ℕ) (before later : Group) → AllLiveBy rules later → NothingNew x before later → AllByRecursion (HasReached rules x later) before.places → AllHoldAlike rules x later
later-alike rules x before later live old reached =
    all-alike rules x later live
    (λ k p at pn r e. held-reached rules x r.update later before.places reached
    (if-some (λ s. IsHeld x s.update before.places) (row_of (state_at p).rows x) r (all-at (λ o. name_at o ≢ x → IfSome (row_of (state_at o).rows x) (λ s. IsHeld x s.update before.places)) later.places k p at old pn) e))

-- What was heard stays heard

among-snoc : (u : Update) (rows : List Row) (r : Row) → IsAmong u rows → IsAmong u (rows ++ r ∷ [])
among-snoc u [] r k = absurd k
among-snoc u (s ∷ rows) r (inl e) = inl e
among-snoc u (s ∷ rows) r (inr k) = inr (among-snoc u rows r k)

heard-more : (base : State) (x : ℕ) (u : Update) (log fs : List Change) → LacksForgot x fs → IsAmong u (heard base.rows (told_to_table base log) x) → IsAmong u (heard base.rows (told_to_table base (fs ++ log)) x)
heard-more base x u log [] lacks k = k
heard-more base x u log (Heard v ∷ fs) lacks k = at (v.who == x) (heard-more base x u log fs lacks k)
  where
    at : (b : Bool) → IsAmong u (heard base.rows (told_to_table base (fs ++ log)) x) → IsAmong u (cond b (heard base.rows (told_to_table base (fs ++ log)) x ++ record { update = v; since = time base (fs ++ log) } ∷ []) (heard base.rows (told_to_table base (fs ++ log)) x))
    at true m = among-snoc u (heard base.rows (told_to_table base (fs ++ log)) x) (record { update = v; since = time base (fs ++ log) }) m
    at false m = m
heard-more base x u log (Forgot y ∷ fs) lacks k = at (y == x) refl (heard-more base x u log fs lacks.1 k)
  where
    at : (b : Bool) → (y == x) ≡ b → IsAmong u (heard base.rows (told_to_table base (fs ++ log)) x) → IsAmong u (cond b [] (heard base.rows (told_to_table base (fs ++ log)) x))
    at true e m = absurd (lacks.0 (eqb-true y x e))
    at false e m = m
heard-more base x u log (_ ∷ fs) lacks k = heard-more base x u log fs lacks k

-- a member after a move
heard-next : (g : Group) (m : Move) (which x : ℕ) (u : Update) → IsMinded which x g m → OfPlace (place_at g.places which) (HasHeard x u) → OfPlace (place_at (after_move g m).places which) (HasHeard x u)
heard-next g (Restarts k settings first) which x u other h = subst (λ o. OfPlace o (HasHeard x u)) (sym (at-unchanged (λ q. new_place settings first) g.places k which other)) h
heard-next g (Happens k event granted) which x u minded h = by_place (k == which) refl
  where
    here : (o : Option Place) → OfPlace o (λ p. LacksForgot x (changes_of (begun p) (log_of (begun p) p.steps) event granted)) → OfPlace o (HasHeard x u) → OfPlace (option_map (with_event event granted) o) (HasHeard x u)
    here None lacks k = tt {0}
    here (Some p) lacks k =
        subst (λ (log : List Change). IsAmong u (heard (begun p).rows (told_to_table (begun p) log) x)) (sym (log_after-snoc (begun p) [] p.steps (record { event = event; granted = granted })))
        (heard-more (begun p) x u (log_of (begun p) p.steps) (changes_of (begun p) (log_of (begun p) p.steps) event granted) lacks k)

    by_place : (b : Bool) → (k == which) ≡ b → OfPlace (place_at (change_at g.places k (with_event event granted)) which) (HasHeard x u)
    by_place true e =
        let same : k ≡ which = eqb-true k which e in
        subst (λ n. OfPlace (place_at (change_at g.places n (with_event event granted)) which) (HasHeard x u)) (sym same)
        (subst (λ o. OfPlace o (HasHeard x u)) (sym (at-changed (with_event event granted) g.places which)) (here (place_at g.places which) (minded same) h))
    by_place false e = subst (λ o. OfPlace o (HasHeard x u)) (sym (at-unchanged (with_event event granted) g.places k which (eqb-false k which e))) h

pub heard-stays : (moves : List Move) (g : Group) (which x : ℕ) (u : Update) → IsMindedIn which x g moves → OfPlace (place_at g.places which) (HasHeard x u) → OfPlace (place_at (after_moves g moves).places which) (HasHeard x u)
heard-stays [] g which x u minded h = h
heard-stays (m ∷ moves) g which x u minded h = heard-stays moves (after_move g m) which x u minded.1 (heard-next g m which x u minded.0 h)
