-- What a link takes of a list of datagrams.
use Rattle.std.specs.Prelude.{◌≡◌, ℕ, ◌+◌, List, [], ◌∷◌, ◌++◌, length, All}
use Rattle.swim_wire.specs.Spelling.{spelling, HasText}
use Rattle.swim_member.specs.declared.answer.Out.{Out}
use Rattle.swim_node.specs.declared.entry.Entry.{Entry}
use Rattle.swim_node.specs.declared.entry.Outcome.{Outcome}
use Rattle.swim_node.specs.declared.entry.Outcome.TheVariants.{Taken, Lost}
use Rattle.swim_node.specs.History.{lost_in}

-- each datagram of the entry has a text
abbrev pub HasTexts : Entry → Type 0
HasTexts e = All (λ (out : Out). HasText out.datagram) e.outs.items

-- destination and text of the datagrams that were taken, in order
abbrev pub taken_by : List Out → List Outcome → List (ℕ × List ℕ)
taken_by [] outcomes = []
taken_by (out ∷ outs) [] = []
taken_by (out ∷ outs) (Taken ∷ outcomes) = (out.to, spelling out.datagram) ∷ taken_by outs outcomes
taken_by (out ∷ outs) (Lost ∷ outcomes) = taken_by outs outcomes

-- what became of the datagrams is what the link tells of them
pub record Sends (tells : Type 0) (old new : List (ℕ × List ℕ)) (missed missing : ℕ)
    (outs : List Out) (outcomes : List Outcome) : Type 0 where
  pub each : length outcomes ≡ length outs
  pub took : tells → new ≡ old ++ taken_by outs outcomes
  pub failures : missing ≡ missed + lost_in outcomes

-- destination and text of the datagrams of these entries that were taken, in order
abbrev pub taken_of : List Entry → List (ℕ × List ℕ)
taken_of [] = []
taken_of (e ∷ entries) = taken_by e.outs.items e.outcomes.items ++ taken_of entries

-- how many datagrams of these entries were lost
abbrev pub lost_of : List Entry → ℕ
lost_of [] = 0
lost_of (e ∷ entries) = lost_in e.outcomes.items + lost_of entries

-- what the link took, and how often it failed, is what these entries mark
pub record SendsAll (tells : Type 0) (old new : List (ℕ × List ℕ)) (missed missing : ℕ)
    (entries : List Entry) : Type 0 where
  pub took : tells → new ≡ old ++ taken_of entries
  pub failures : missing ≡ missed + lost_of entries
