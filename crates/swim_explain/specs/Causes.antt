-- Why x is suspected or confirmed: what a story says of it is a cause by the law of detection.
use Rattle.std.specs.List.{AllByRecursion}
use Rattle.std.specs.Prelude.{◌≡◌, ◌≢◌, ℕ, List, [], ◌∷◌, ◌++◌, Some}
use Rattle.swim_wire.specs.declared.update.Update.{Update}
use Rattle.swim_wire.specs.declared.update.UpdateKind.TheVariants.{Alive, Suspect, Confirm}
use Rattle.swim_rules.specs.Rows.{row_of}
use Rattle.swim_rules.specs.declared.table.Row.{Row}
use Rattle.swim_member.specs.Events.{Step, state_of}
use Rattle.swim_member.specs.Judge.{judge}
use Rattle.swim_member.specs.State.{State}
use Rattle.swim_detect.specs.Causes.{Has, Brings, IsAccusation, IsExpiry}
use Rattle.swim_node.specs.History.{step_of, steps}
use Rattle.swim_node.specs.declared.entry.Entry.{Entry}
use Rattle.swim_explain.specs.Facts.{facts, view_of}
use Rattle.swim_explain.specs.declared.fact.Fact.{Fact}
use Rattle.swim_explain.specs.declared.fact.Fact.TheVariants as fact

abbrev suspect : ℕ → ℕ → Update
suspect x number = record { kind = Suspect; who = x; number = number }

abbrev confirm : ℕ → ℕ → Update
confirm x number = record { kind = Confirm; who = x; number = number }

-- what the fact says of x has this cause, at this step after these: the update came; or this is
-- the accusation by the probe with the sequence; or the suspicion of that tick stood long enough
abbrev pub IsCause : State → List Step → Step → ℕ → Fact → Type 0
IsCause base before e x (fact.Told by u was became) = Brings (state_of base before) e.event u
IsCause base before e x (fact.ToldItself by u) = Brings (state_of base before) e.event u
IsCause base before e x (fact.Suspected number seq) =
    (a : IsAccusation base before e.event (suspect x number)) × (a.seq ≡ seq)
IsCause base before e x (fact.Confirmed number since) =
    (a : IsExpiry base before e.event (confirm x number)) × (a.row.since ≡ since)
IsCause base before e x _ = Unit {0}

-- what the call of this entry says of x, after these steps
abbrev pub said_of : State → List Step → ℕ → Entry → List Fact
said_of base before x e =
    let s : State = state_of base before in
    facts s.settings x (judge s e.event) (view_of s x)
    (view_of (state_of base (before ++ step_of e ∷ [])) x) e

-- all that a story says of why x is suspected or confirmed is so
abbrev pub NamesCauses : State → ℕ → List Entry → Type 0
NamesCauses base x entries =
    (before : List Entry) → (e : Entry) → (after : List Entry)
    → entries ≡ before ++ e ∷ after
    → AllByRecursion (IsCause base (steps before) (step_of e) x) (said_of base (steps before) x e)

-- the fact says that x is suspected or confirmed by this update
abbrev pub Says : ℕ → Update → Fact → Type 0
Says x u (fact.Told by v was became) = v ≡ u
Says x u (fact.ToldItself by v) = v ≡ u
Says x u (fact.Suspected number seq) = suspect x number ≡ u
Says x u (fact.Confirmed number since) = confirm x number ≡ u
Says x u _ = ⊥

-- where a call leaves x a row that is new and not Alive, it says so
abbrev pub LeavesNoneOut : State → ℕ → List Entry → Type 0
LeavesNoneOut base x entries =
    (before : List Entry) → (e : Entry) → (after : List Entry) → (r : Row)
    → entries ≡ before ++ e ∷ after
    → row_of (state_of base (steps before ++ step_of e ∷ [])).rows x ≡ Some r
    → row_of (state_of base (steps before)).rows x ≢ Some r
    → r.update.kind ≢ Alive
    → (f : Fact) × Has f (said_of base (steps before) x e) × Says x r.update f
