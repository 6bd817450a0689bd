-- A script, line by line.
use Rattle.std.proofs.Common.{◌≡◌, ℕ, ◌+◌, ◌<◌, ◌≤◌, Bool, cond, Option, Some, None, Ok, List, [], ◌∷◌, ◌++◌, length, sym, subst, ap, ◌∙◌, arith, append_assoc, append-nil, length-append}
use Rattle.std.specs.Prelude.{All, IfSome}
use Rattle.std.specs.List.{filter}
use Rattle.std.specs.Borrow.{Bor}
use Rattle.std.proofs.lemmas.List.Elements.{All-push, All-weaker, filter-append}
use Rattle.swim_script.specs.declared.command.Command.{Command}
use Rattle.swim_script.specs.Commands.{AreSaid, IsScript, SaysLine, and_lines, is_said, judged_line, lines_of}
use Rattle.swim_script.specs.Faults.{IsGood}

-- the lines that were read, which said these commands
pub record AreRead (script : List ℕ) (rest : Option (Bor (List ℕ))) (commands : List Command) (count : ℕ) : Type 0 where
  pub before : List (List ℕ)
  pub lines : lines_of script ≡ before ++ and_lines rest
  pub good : All IsGood before
  pub said : AreSaid (filter is_said before) commands
  pub counted : count ≡ length before

said-append : (xs ys : List (List ℕ)) (cs ds : List Command) → AreSaid xs cs → AreSaid ys ds → AreSaid (xs ++ ys) (cs ++ ds)
said-append [] ys [] ds said more = more
said-append [] ys (c ∷ cs) ds said more = absurd said
said-append (x ∷ xs) ys [] ds said more = absurd said
said-append (x ∷ xs) ys (c ∷ cs) ds said more = (said.0, said-append xs ys cs ds said.1 more)

-- what one more line says
abbrev pub listed : Option Command → List Command
listed None = []
listed (Some command) = command ∷ []

said_one : (text : List ℕ) (said : Option Command) → SaysLine text said → AreSaid (filter is_said (text ∷ [])) (listed said)
said_one text None says = subst (λ (b : Bool). AreSaid (cond b (text ∷ []) []) []) (sym says) tt
said_one text (Some command) says = subst (λ (b : Bool). AreSaid (cond b (text ∷ []) []) (command ∷ [])) (sym says.0) (says.1, tt)

pub read_more : (script line : List ℕ) (rest next : Option (Bor (List ℕ))) (commands : List Command) (count : ℕ) (said : Option Command) → AreRead script rest commands count → and_lines rest ≡ line ∷ and_lines next → judged_line line ≡ Ok tt → SaysLine line said → AreRead script next (commands ++ listed said) (count + 1)
read_more script line rest next commands count said read split bytes says = record {
  before = read.before ++ line ∷ [];
  lines = read.lines ∙ ap (λ (l : List (List ℕ)). read.before ++ l) split ∙ sym (append_assoc read.before (line ∷ []) (and_lines next));
  good = All-push IsGood read.before line read.good (bytes, said, says);
  said = rw filter-append (said-append (filter is_said read.before) (filter is_said (line ∷ [])) commands (listed said) read.said (said_one line said says));
  counted = omega (arith, read.counted, length-append read.before (line ∷ []));
}

pub read_all : (script : List ℕ) (commands : List Command) (count : ℕ) → AreRead script None commands count → IsScript script commands
read_all script commands count read =
    let lines : lines_of script ≡ read.before = read.lines ∙ append-nil read.before in
    record {
      bytes = rw lines (All-weaker IsGood (λ (text : List ℕ). judged_line text ≡ Ok tt) (λ text good. good.0) read.before read.good);
      said = rw lines read.said;
    }

-- the bytes that are left, and one more while there is a line
abbrev pub left : Option (Bor (List ℕ)) → ℕ
left None = 0
left (Some rest) = length rest.now + 1

pub room_more : (text : List ℕ) (next : Option (Bor (List ℕ))) (count most : ℕ) → IfSome next (λ rest. length rest.now < length text) → count + (length text + 1) ≤ most → count + 1 + left next ≤ most
room_more text None count most shorter room = omega arith
room_more text (Some rest) count most shorter room = omega arith
