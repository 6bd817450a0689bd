-- The own numbers in what was sent.
use Rattle.std.specs.Prelude.{ℕ, ◌≤◌, max, List, [], ◌∷◌, ◌++◌, Option, Some, None}
use Rattle.std.specs.Option.{option_to_list}
use Rattle.swim_member.specs.Fit.{own_numbers_in}
use Rattle.swim_node.specs.declared.entry.Entry.{Entry}
use Rattle.swim_node.specs.History.{Base}

-- of the datagrams of these entries, taken or lost
abbrev pub owns_in : ℕ → List Entry → List ℕ
owns_in me [] = []
owns_in me (e ∷ history) = own_numbers_in me e.outs.items ++ owns_in me history

-- of earlier eras too
abbrev pub owns : Base → List Entry → List ℕ
owns base history = option_to_list base.past ++ owns_in base.state.settings.me history

-- all numbers are at most, or at least, this one
abbrev pub AreAtMost : ℕ → List ℕ → Type 0
AreAtMost g [] = Unit {0}
AreAtMost g (n ∷ ns) = (n ≤ g) × AreAtMost g ns

abbrev pub AreAtLeast : ℕ → List ℕ → Type 0
AreAtLeast f [] = Unit {0}
AreAtLeast f (n ∷ ns) = (f ≤ n) × AreAtLeast f ns

-- the greater of a number, if there is one, and another
abbrev pub greater_of : Option ℕ → ℕ → Option ℕ
greater_of None n = Some n
greater_of (Some m) n = Some (max n m)

-- the greatest of these numbers and of the one before, if there is one
abbrev pub greatest_with : Option ℕ → List ℕ → Option ℕ
greatest_with most [] = most
greatest_with most (n ∷ ns) = greatest_with (greater_of most n) ns

-- the greatest number, if there is one
abbrev pub greatest_of : List ℕ → Option ℕ
greatest_of ns = greatest_with None ns
