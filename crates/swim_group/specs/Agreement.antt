-- When members hold the same of another: by what each was told of it since it last forgot it.
use Rattle.std.specs.Prelude.{◌≡◌, ◌≢◌, ℕ, true, List, [], ◌∷◌, ◌⊎◌, Option, Some, None, IfSome}
use Rattle.std.specs.List.{AllByRecursion}
use Rattle.swim_wire.specs.declared.rules.Rules.{Rules}
use Rattle.swim_wire.specs.declared.update.Update.{Update}
use Rattle.swim_rules.specs.declared.table.Row.{Row}
use Rattle.swim_rules.specs.Rules.{overrides, heard}
use Rattle.swim_rules.specs.Hearing.{IsAmong, AreAlike}
use Rattle.swim_member.specs.Checks.{rules_of}
use Rattle.swim_member.specs.State.{Change, Forgot}
use Rattle.swim_member.specs.Readings.{told_to_table}
use Rattle.swim_member.specs.Events.{log_of, changes_of}
use Rattle.swim_group.specs.Group.{Place, Group, Move, Happens, Restarts, OfPlace, begun, name_at}
use Rattle.swim_group.specs.Group.{place_at, after_move}
use Rattle.swim_group.specs.Views.{held_by}

-- what a member was told of x since it last forgot it, in order
abbrev pub heard_of : ℕ → Place → List Row
heard_of x p = heard (begun p).rows (told_to_table (begun p) (log_of (begun p) p.steps)) x

-- it was told this update since then
abbrev pub HasHeard : ℕ → Update → Place → Type 0
HasHeard x u p = IsAmong u (heard_of x p)

-- it was told this update since then, or one that overrides it
pub record IsCaughtUp (rules : Rules) (x : ℕ) (u : Update) (p : Place) : Type 0 where
  pub told : Update
  pub has : HasHeard x told p
  pub enough : (told ≡ u) ⊎ (overrides rules told u ≡ true)

-- all members live by these rules
abbrev pub AllLiveBy : Rules → Group → Type 0
AllLiveBy rules g = AllByRecursion (λ p. rules_of p.settings ≡ rules) g.places

-- each member but x has this
abbrev pub EachBut : ℕ → (Place → Type 0) → Group → Type 0
EachBut x P g = AllByRecursion (λ p. name_at p ≢ x → P p) g.places

-- all of them hold the same of x, or nothing
abbrev pub AllHoldAlike : Rules → ℕ → Group → Type 0
AllHoldAlike rules x g = EachBut x (λ p.
    EachBut x (λ q. AreAlike rules (held_by x (Some p)) (held_by x (Some q))) g) g

-- each member but x is caught up with what this one holds of x, if it holds something
abbrev pub HasReached : Rules → ℕ → Group → Place → Type 0
HasReached rules x g p =
    IfSome (held_by x (Some p)) (λ r. EachBut x (IsCaughtUp rules x r.update) g)

-- what is held has this update
abbrev pub HasUpdate : Update → Option Row → Type 0
HasUpdate u None = ⊥
HasUpdate u (Some r) = r.update ≡ u

-- one of these members holds this of x
abbrev pub IsHeld : ℕ → Update → List Place → Type 0
IsHeld x u [] = ⊥
IsHeld x u (p ∷ places) = HasUpdate u (held_by x (Some p)) ⊎ IsHeld x u places

-- what a member holds of x later was held by one of these before
abbrev pub NothingNew : ℕ → Group → Group → Type 0
NothingNew x before later = EachBut x (λ p.
    IfSome (held_by x (Some p)) (λ r. IsHeld x r.update before.places)) later

-- x is forgotten by none of these changes
abbrev pub LacksForgot : ℕ → List Change → Type 0
LacksForgot x [] = Unit {0}
LacksForgot x (Forgot y ∷ changes) = (y ≢ x) × LacksForgot x changes
LacksForgot x (_ ∷ changes) = LacksForgot x changes

-- at this move the member with this number does not forget x, nor begin anew
abbrev pub IsMinded : ℕ → ℕ → Group → Move → Type 0
IsMinded which x g (Happens k event granted) = k ≡ which → OfPlace (place_at g.places which) (λ p.
    LacksForgot x (changes_of (begun p) (log_of (begun p) p.steps) event granted))
IsMinded which x g (Restarts k settings first) = k ≢ which

-- nor at any of these moves
abbrev pub IsMindedIn : ℕ → ℕ → Group → List Move → Type 0
IsMindedIn which x g [] = Unit {0}
IsMindedIn which x g (m ∷ moves) =
    IsMinded which x g m × IsMindedIn which x (after_move g m) moves
