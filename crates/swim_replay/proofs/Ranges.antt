-- Each real number can be written: what is within its type, and lists of such.
use Rattle.std.proofs.Common.{◌≡◌, ℕ, ◌+◌, ◌^◌, ◌<◌, ◌≤◌, List, [], ◌∷◌, ◌++◌, length, map, take, get_or, subst}
use Rattle.std.specs.List.{All}
use Rattle.std.proofs.lemmas.List.{take_all}
use Rattle.std.proofs.lemmas.List.Elements.{All-append, All-cons, All-more, All-nil}
use Rattle.swim_member.specs.State.{State}
use Rattle.swim_node.specs.History.{Base}
use Rattle.swim_record.specs.declared.argument.Argument.TheVariants.{Number}
use Rattle.swim_record.specs.declared.line.Start.{Start}
use Rattle.swim_record.specs.declared.line.Line.{Line}
use Rattle.swim_record.specs.declared.line.Line.TheVariants as line
use Rattle.swim_record.specs.Blocks.{AreFit, IsFit}
use Rattle.swim_record.specs.Lines.{number_or_none}
use Rattle.swim_record.specs.Recording.{begin_line, joining_lines, listed_line, member_line, probe_lines, relay_line, row_line, say_line, times_line}
use Rattle.swim_record.specs.Text.{IsArgument}
use Rattle.swim_replay.specs.Recorded.{base_lines, told_lines}

-- Walks: what was so of those so far is so of one more, and at the end of all

pub all-one_more : {X : Type 0} (P : X → Type 0) (xs : List X) (i : ℕ) (x : X) → i < length xs → x ≡ get_or xs i x → All P (take i xs) → P x → All P (take (i + 1) xs)
all-one_more P xs i x lt is all here = All-more P xs i x lt all (subst P is here)

pub all-walked : {X : Type 0} (P : X → Type 0) (xs : List X) (i : ℕ) → length xs ≤ i → All P (take i xs) → All P xs
all-walked {X} P xs i le all = subst (λ (ys : List X). All P ys) (take_all i xs le) all

-- Lines

pub start-fit : (s : Start) → s.number < 2 ^ 64 → s.time < 2 ^ 64 → s.seq < 2 ^ 64 → s.place < 2 ^ 64 → s.granted < 2 ^ 64 → All IsArgument (number_or_none s.past) → IsFit (line.Begin s)
start-fit s number time seq place granted past =
    let last = All-cons IsArgument (Number s.granted) (number_or_none s.past) granted past in
    let two = All-cons IsArgument (Number s.place) (Number s.granted ∷ number_or_none s.past) place last in
    let three = All-cons IsArgument (Number s.seq) (Number s.place ∷ Number s.granted ∷ number_or_none s.past) seq two in
    let four = All-cons IsArgument (Number s.time) (Number s.seq ∷ Number s.place ∷ Number s.granted ∷ number_or_none s.past) time three in
    All-cons IsArgument (Number s.number) (Number s.time ∷ Number s.seq ∷ Number s.place ∷ Number s.granted ∷ number_or_none s.past) number four

pub told-fit : (s : State) → AreFit (map row_line s.rows) → AreFit (map say_line s.queue) → AreFit (probe_lines s.probe) → AreFit (map relay_line s.relays) → AreFit (joining_lines s.joining) → AreFit (map listed_line s.listed) → AreFit (told_lines s)
told-fit s rows queue probe relays joining listed =
    let known : List Line = map row_line s.rows ++ map say_line s.queue in
    let probed : List Line = known ++ probe_lines s.probe in
    let relayed : List Line = probed ++ map relay_line s.relays in
    let two : AreFit known = All-append IsFit (map row_line s.rows) (map say_line s.queue) rows queue in
    let three : AreFit probed = All-append IsFit known (probe_lines s.probe) two probe in
    let four : AreFit relayed = All-append IsFit probed (map relay_line s.relays) three relays in
    All-append IsFit (relayed ++ joining_lines s.joining) (map listed_line s.listed) (All-append IsFit relayed (joining_lines s.joining) four joining) listed

pub base-fit : (b : Base) → IsFit (member_line b.state.settings) → IsFit (times_line b.state.settings b.limit) → AreFit (told_lines b.state) → IsFit (begin_line b) → AreFit (base_lines b)
base-fit b member times told begin =
    let last : AreFit (begin_line b ∷ []) = All-cons IsFit (begin_line b) [] begin (All-nil IsFit) in
    let rest : AreFit (told_lines b.state ++ begin_line b ∷ []) = All-append IsFit (told_lines b.state) (begin_line b ∷ []) told last in
    let two : AreFit (times_line b.state.settings b.limit ∷ (told_lines b.state ++ begin_line b ∷ [])) = All-cons IsFit (times_line b.state.settings b.limit) (told_lines b.state ++ begin_line b ∷ []) times rest in
    All-cons IsFit (member_line b.state.settings) (times_line b.state.settings b.limit ∷ (told_lines b.state ++ begin_line b ∷ [])) member two
