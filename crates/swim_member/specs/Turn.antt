-- Probing in turns: a list of members is gone through in a random order, and
-- only then is a new one made (SWIM, section 4.3).
use Rattle.std.specs.List.{filter_map, find, position_or_len}
use Rattle.std.specs.Prelude.{ℕ, ◌+◌, List, [], ◌∷◌, ◌++◌, drop, map, Option, Some, None, slice_get}
use Rattle.swim_member.specs.Member.{eligible, row_name, is_eligible_name}
use Rattle.swim_member.specs.Probe.{probe_of}
use Rattle.swim_member.specs.State.{State, Change, Probed, Looked, Listed, Passed}

-- the members of the turn list that were neither probed nor passed over yet
abbrev pub still_listed : State → List ℕ
still_listed s = drop s.place s.listed

-- the next of them that is eligible
abbrev pub next_listed : State → Option ℕ
next_listed s = find (is_eligible_name s) (still_listed s)

-- how many of them stand before it: they are passed over for this turn
abbrev pub passed_over : State → ℕ
passed_over s = position_or_len (is_eligible_name s) (still_listed s)

-- the members that are eligible, in the order of the members
abbrev pub eligible_names : State → List ℕ
eligible_names s = map row_name (eligible s)

-- these members, numbered from 0, in the order in which the deal names their numbers
abbrev pub dealt : List ℕ → List ℕ → List ℕ
dealt names deal = filter_map (slice_get names) deal

-- a turn begins with a probe of the first of its list; with an empty list no probe begins
abbrev pub begin_turn : State → List ℕ → List Change
begin_turn s [] = Probed None ∷ Listed [] ∷ []
begin_turn s (x ∷ names) = probe_of s x ++ Passed 1 ∷ Listed (x ∷ names) ∷ []

-- the turn goes on with a probe of this member; where nobody is left, a new one begins
abbrev pub take_turn : State → List ℕ → Option ℕ → List Change
take_turn s deal (Some x) = probe_of s x ++ Passed (passed_over s + 1) ∷ []
take_turn s deal None = begin_turn s (dealt (eligible_names s) deal)

-- a target is looked for, and the turn comes to it
abbrev pub look : State → List ℕ → List Change
look s deal = take_turn s deal (next_listed s) ++ Looked (eligible_names s) ∷ []
