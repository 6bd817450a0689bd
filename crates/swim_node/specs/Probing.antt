-- Turns of probing (SWIM, section 4.3): a turn is the entries from one that makes
-- a list up to the next that makes one, that one left out.
use Rattle.std.specs.List.{filter, list_all, IsDistinct}
use Rattle.std.specs.Prelude.{◌≡◌, ℕ, ◌+◌, ◌≤◌, ◌==◌, true, false, List, [], ◌∷◌, ◌++◌, length}
use Rattle.swim_rules.specs.declared.table.TheConstants.{ROWS_MAX}
use Rattle.swim_member.specs.Events.{changes_of, log_of}
use Rattle.swim_member.specs.Looks.{lists_in, looks_in, probed_at, is_among}
use Rattle.swim_member.specs.State.{State, Change}
use Rattle.swim_member.specs.Turn.{still_listed}
use Rattle.swim_node.specs.History.{Base, steps, state_after}
use Rattle.swim_node.specs.declared.entry.Entry.{Entry}

-- What an entry does

-- what happened at an entry after these
abbrev pub happened_at : Base → List Entry → Entry → List Change
happened_at base before e =
    changes_of base.state (log_of base.state (steps before)) e.event e.granted

-- the lists that an entry after these makes: one or none
abbrev pub lists_at : Base → List Entry → Entry → List (List ℕ)
lists_at base before e = lists_in (happened_at base before e)

-- of each look for a target at an entry after these, the
-- members that were eligible: there is one look or none
abbrev pub looks_at : Base → List Entry → Entry → List (List ℕ)
looks_at base before e = looks_in (happened_at base before e)

-- whom the entry probes: whom its datagrams ping, taken or lost, where it is a tick
abbrev pub probed_by : Entry → List ℕ
probed_by e = probed_at e.event e.outs.items

-- how often these entries probe x
abbrev pub probes_of : ℕ → List Entry → ℕ
probes_of x [] = 0
probes_of x (e ∷ entries) = length (filter (λ y. y == x) (probed_by e)) + probes_of x entries

-- x is eligible wherever one of these entries, which come after `before`, looks for a target
abbrev pub IsEligibleThrough : Base → List Entry → List Entry → ℕ → Type 0
IsEligibleThrough base before [] x = Unit {0}
IsEligibleThrough base before (e ∷ entries) x =
    (list_all (is_among x) (looks_at base before e) ≡ true)
    × IsEligibleThrough base (before ++ e ∷ []) entries x

-- none of these entries, which come after `before`, makes a list
abbrev pub MakeNone : Base → List Entry → List Entry → Type 0
MakeNone base before [] = Unit {0}
MakeNone base before (e ∷ entries) =
    (lists_at base before e ≡ []) × MakeNone base (before ++ e ∷ []) entries

-- The law

-- after `before`, the entry `first` makes the list `names`, the entries `rest` make
-- none, and `next` makes the next one: so the turn of `first` and `rest` has ended
pub record IsEndedTurn (base : Base) (before : List Entry) (first : Entry) (rest : List Entry)
    (next : Entry) (names : List ℕ) : Type 0 where
  pub begins : lists_at base before first ≡ names ∷ []
  pub goes_on : MakeNone base (before ++ first ∷ []) rest
  pub following : List ℕ
  pub ends : lists_at base ((before ++ first ∷ []) ++ rest) next ≡ following ∷ []

-- what holds of x in the entries of a turn with this list, where `next` makes the next list.
-- That entry counts as a look: who is passed over there was not eligible to the end
pub record IsProbedInTurn (base : Base) (before turn : List Entry) (next : Entry)
    (names : List ℕ) (x : ℕ) : Type 0 where
  pub listed : is_among x names ≡ true
      → IsEligibleThrough base before (turn ++ next ∷ []) x
      → probes_of x turn ≡ 1
  pub unlisted : is_among x names ≡ false → probes_of x turn ≡ 0
  pub once : probes_of x turn ≤ 1  -- eligible or not

-- in each ended turn a listed member that is eligible wherever a target is looked for, from
-- the entry that makes the list to the one that makes the next, both included, is probed
-- exactly once, a member that is not listed not at all, and nobody twice
abbrev pub ProbesInTurns : Base → List Entry → Type 0
ProbesInTurns base history =
    (before : List Entry) → (first : Entry) → (rest : List Entry) → (next : Entry)
    → (after : List Entry) → (names : List ℕ)
    → history ≡ (before ++ first ∷ []) ++ rest ++ next ∷ after
    → IsEndedTurn base before first rest next names
    → (x : ℕ) → IsProbedInTurn base before (first ∷ rest) next names x

-- a turn that an earlier era began ends: the same
-- holds of the members that the base has left of its list
abbrev pub EndsTurn : Base → List Entry → Type 0
EndsTurn base history =
    (rest : List Entry) → (next : Entry) → (after : List Entry) → (following : List ℕ)
    → history ≡ rest ++ next ∷ after
    → MakeNone base [] rest
    → lists_at base rest next ≡ following ∷ []
    → (x : ℕ) → IsProbedInTurn base [] rest next (still_listed (state_after base [])) x

-- whoever is eligible when a list is made is listed, and nobody
-- else: so the time until a failed member is probed is bounded
abbrev pub ListsEligible : Base → List Entry → Type 0
ListsEligible base history =
    (before : List Entry) → (e : Entry) → (after : List Entry) → (names eligible : List ℕ)
    → history ≡ before ++ e ∷ after
    → lists_at base before e ≡ names ∷ []
    → looks_at base before e ≡ eligible ∷ []
    → (x : ℕ) → is_among x names ≡ is_among x eligible

-- what holds of the state with which an era begins: nobody stands
-- twice in what is left of its list, and it has no more rows than fit
pub record IsStart (s : State) : Type 0 where
  pub once : IsDistinct (λ x y. x == y) (still_listed s)
  pub few : length s.rows ≤ ROWS_MAX

-- in this era the member probed in turns
pub record GoesInTurns (base : Base) (history : List Entry) : Type 0 where
  pub turns : ProbesInTurns base history
  pub ends : EndsTurn base history
  pub lists : ListsEligible base history
