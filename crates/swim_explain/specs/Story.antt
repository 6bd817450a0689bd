-- The story of one member, x, in an era: what each call says of it, in order.
use Rattle.std.specs.Prelude.{ℕ, ◌+◌, List, [], ◌∷◌, ◌++◌, map, length}
use Rattle.swim_member.specs.Events.{Step, state_of}
use Rattle.swim_member.specs.Judge.{judge}
use Rattle.swim_member.specs.State.{State}
use Rattle.swim_node.specs.History.{step_of}
use Rattle.swim_node.specs.declared.entry.Entry.{Entry}
use Rattle.swim_explain.specs.declared.fact.Fact.{Fact}
use Rattle.swim_explain.specs.declared.fact.Fact.TheVariants as fact
use Rattle.swim_explain.specs.declared.fact.Happening.{Happening}
use Rattle.swim_explain.specs.Facts.{facts, view_of}

-- a fact at this call and this tick
abbrev pub stamped : ℕ → ℕ → Fact → Happening
stamped call tick f = record { call = call; tick = tick; fact = f }

-- what x was where the era began, before its first call
abbrev pub beginning_of : State → ℕ → Happening
beginning_of s x = stamped 0 s.time (fact.Began (view_of s x).row)

-- what the call with this number says, which led from one state to another
abbrev pub told_at : State → State → ℕ → ℕ → Entry → List Happening
told_at s t call x e =
    map (stamped call t.time)
    (facts s.settings x (judge s e.event) (view_of s x) (view_of t x) e)

-- what the entries say that come after these steps
abbrev pub story_after : State → List Step → ℕ → List Entry → List Happening
story_after base before x [] = []
story_after base before x (e ∷ entries) =
    told_at (state_of base before) (state_of base (before ++ step_of e ∷ []))
    (length before + 1) x e
    ++ story_after base (before ++ step_of e ∷ []) x entries

-- the whole story of an era that began so
abbrev pub story : State → ℕ → List Entry → List Happening
story base x entries = beginning_of base x ∷ story_after base [] x entries
