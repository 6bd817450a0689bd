-- What a look for a target changes: the turn goes on or begins anew, and then the target is pinged.
use Rattle.std.proofs.Common.{◌≡◌, ℕ, ◌+◌, ap, sym, refl, List, [], ◌∷◌, ◌++◌, Option, Some, None}
use Rattle.swim_member.specs.State.{State, Change, Looked}
use Rattle.swim_member.specs.Events.{outs, notes}
use Rattle.swim_member.specs.Probe.{probe_of}
use Rattle.swim_member.specs.Turn.{next_listed, passed_over, eligible_names, dealt, begin_turn, take_turn, look}
use Rattle.swim_member.specs.Machinery.Steps.{apply_all}
use Rattle.swim_member.specs.Machinery.Turns.{target, target_of, turned, turned_by}

-- this is what happens after a look for a target
abbrev looked : State → List Change → List Change
looked s change = change ++ Looked (eligible_names s) ∷ []

pub notes-look : (s : State) (deal : List ℕ) → notes (look s deal) ≡ []
notes-look s deal = by_next (next_listed s)
  where
    begun : (made : List ℕ) → notes (looked s (begin_turn s made)) ≡ []
    begun [] = refl
    begun (x ∷ names) = refl

    by_next : (o : Option ℕ) → notes (looked s (take_turn s deal o)) ≡ []
    by_next (Some x) = refl
    by_next None = begun (dealt (eligible_names s) deal)

pub time-look : (s : State) (deal : List ℕ) → (apply_all (look s deal) s).time ≡ s.time
time-look s deal = by_next (next_listed s)
  where
    begun : (made : List ℕ) → (apply_all (looked s (begin_turn s made)) s).time ≡ s.time
    begun [] = refl
    begun (x ∷ names) = refl

    by_next : (o : Option ℕ) → (apply_all (looked s (take_turn s deal o)) s).time ≡ s.time
    by_next (Some x) = refl
    by_next None = begun (dealt (eligible_names s) deal)

-- the target is probed by a member whose turn came to it
pub outs-look : (s : State) (deal : List ℕ) (x : ℕ) → target s deal ≡ Some x → outs (look s deal) ≡ outs (probe_of (turned s deal) x)
outs-look s deal x = by_next (next_listed s)
  where
    begun : (made : List ℕ) → target_of None made ≡ Some x → outs (looked s (begin_turn s made)) ≡ outs (probe_of (turned_by s None made) x)
    begun [] e = absurd (cc)
    begun (y ∷ names) e = let same : y ≡ x = cc in rw (← same) refl

    by_next : (o : Option ℕ) → target_of o (dealt (eligible_names s) deal) ≡ Some x → outs (looked s (take_turn s deal o)) ≡ outs (probe_of (turned_by s o (dealt (eligible_names s) deal)) x)
    by_next (Some y) e = let same : y ≡ x = cc in rw (← same) refl
    by_next None e = begun (dealt (eligible_names s) deal) e

pub state-look : (s : State) (deal : List ℕ) (x : ℕ) → target s deal ≡ Some x → apply_all (look s deal) s ≡ apply_all (probe_of (turned s deal) x) (turned s deal)
state-look s deal x = by_next (next_listed s)
  where
    begun : (made : List ℕ) → target_of None made ≡ Some x → apply_all (looked s (begin_turn s made)) s ≡ apply_all (probe_of (turned_by s None made) x) (turned_by s None made)
    begun [] e = absurd (cc)
    begun (y ∷ names) e = let same : y ≡ x = cc in rw (← same) refl

    by_next : (o : Option ℕ) → target_of o (dealt (eligible_names s) deal) ≡ Some x → apply_all (looked s (take_turn s deal o)) s ≡ apply_all (probe_of (turned_by s o (dealt (eligible_names s) deal)) x) (turned_by s o (dealt (eligible_names s) deal))
    by_next (Some y) e = let same : y ≡ x = cc in rw (← same) refl
    by_next None e = begun (dealt (eligible_names s) deal) e

-- with nobody eligible the list is empty, and the probe ends
pub outs-nobody : (s : State) (deal : List ℕ) → target s deal ≡ None → outs (look s deal) ≡ []
outs-nobody s deal = by_next (next_listed s)
  where
    begun : (made : List ℕ) → target_of None made ≡ None → outs (looked s (begin_turn s made)) ≡ []
    begun [] e = refl
    begun (y ∷ names) e = absurd (cc)

    by_next : (o : Option ℕ) → target_of o (dealt (eligible_names s) deal) ≡ None → outs (looked s (take_turn s deal o)) ≡ []
    by_next (Some y) e = absurd (cc)
    by_next None e = begun (dealt (eligible_names s) deal) e

pub state-nobody : (s : State) (deal : List ℕ) → target s deal ≡ None → apply_all (look s deal) s ≡ record (turned s deal) { probe = None }
state-nobody s deal = by_next (next_listed s)
  where
    begun : (made : List ℕ) → target_of None made ≡ None → apply_all (looked s (begin_turn s made)) s ≡ record (turned_by s None made) { probe = None }
    begun [] e = refl
    begun (y ∷ names) e = absurd (cc)

    by_next : (o : Option ℕ) → target_of o (dealt (eligible_names s) deal) ≡ None → apply_all (looked s (take_turn s deal o)) s ≡ record (turned_by s o (dealt (eligible_names s) deal)) { probe = None }
    by_next (Some y) e = absurd (cc)
    by_next None e = begun (dealt (eligible_names s) deal) e

-- settings and number stay
pub turned-settings : (s : State) (deal : List ℕ) → (turned s deal).settings ≡ s.settings
turned-settings s deal = by_next (next_listed s)
  where
    by_next : (o : Option ℕ) → (turned_by s o (dealt (eligible_names s) deal)).settings ≡ s.settings
    by_next None = refl
    by_next (Some x) = refl

pub turned-number : (s : State) (deal : List ℕ) → (turned s deal).number ≡ s.number
turned-number s deal = by_next (next_listed s)
  where
    by_next : (o : Option ℕ) → (turned_by s o (dealt (eligible_names s) deal)).number ≡ s.number
    by_next None = refl
    by_next (Some x) = refl

-- the turn came to the next listed member
pub turned-next : (s : State) (deal : List ℕ) (x : ℕ) → next_listed s ≡ Some x → record s { place = s.place + (passed_over s + 1) } ≡ turned s deal
turned-next s deal x e = ap (λ o. turned_by s o (dealt (eligible_names s) deal)) (sym e)
