-- The first fault of a script, and how faults are printed.
use Rattle.std.specs.Prelude.{◌≡◌, ◌⊎◌, ℕ, ◌+◌, true, Option, List, ◌∷◌, ◌++◌, length, All, Ok, Err}
use Rattle.std.specs.Prelude.{codes}
use Rattle.std.specs.Fmt.{decimal}
use Rattle.swim_wire.specs.Codes.{number_and_name}
use Rattle.swim_script.specs.declared.command.Command.{Command}
use Rattle.swim_script.specs.declared.fault.FaultKind.{FaultKind}
use Rattle.swim_script.specs.declared.fault.FaultKind.TheVariants as fault
use Rattle.swim_script.specs.declared.fault.ScriptFault.{ScriptFault}
use Rattle.swim_script.specs.declared.keyword.Keyword.{Keyword}
use Rattle.swim_words.specs.Words.{No}
use Rattle.swim_script.specs.Commands.{BeginsWith, Says, SaysLine, is_said, judged_line, lines_of}

-- the first word is no keyword; or it is one, and no command is said
abbrev pub IsWordFault : List ℕ → FaultKind → Type 0
IsWordFault text fault.Command = No (BeginsWith text)
IsWordFault text fault.Argument = (keyword : Keyword) × BeginsWith text keyword × No (Says text)
IsWordFault text _ = ⊥

-- a line's first fault: one of its bytes, or else one
-- of its words where it isn't empty and no comment
abbrev pub IsFaultOf : List ℕ → FaultKind → Type 0
IsFaultOf text kind = (judged_line text ≡ Err kind)
    ⊎ ((judged_line text ≡ Ok tt) × (is_said text ≡ true) × IsWordFault text kind)

-- a line without a fault, which says a command or nothing
abbrev pub IsGood : List ℕ → Type 0
IsGood text = (judged_line text ≡ Ok tt) × (said : Option Command) × SaysLine text said

-- the lines before it are good, and it is the first fault of this line, which is counted from 1
pub record IsFaultAt (script : List ℕ) (f : ScriptFault) : Type 0 where
  pub before : List (List ℕ)
  pub text : List ℕ
  pub after : List (List ℕ)
  pub lines : lines_of script ≡ before ++ text ∷ after
  pub good : All IsGood before
  pub number : f.line ≡ length before + 1
  pub faulty : IsFaultOf text f.kind

-- the fault of a script for which memory is wanting: it has line 0
abbrev pub no_memory : ScriptFault
no_memory = record { line = 0; kind = fault.NoMemory }

-- why a script is refused: its first fault, or memory ran out
abbrev pub IsFirstFault : List ℕ → ScriptFault → Type 0
IsFirstFault script f = (f ≡ no_memory) ⊎ IsFaultAt script f

-- the number, the name and the text of each kind of fault
abbrev pub kind_number : FaultKind → ℕ
kind_number fault.Text = 1
kind_number fault.Long = 2
kind_number fault.Command = 3
kind_number fault.Argument = 4
kind_number fault.NoMemory = 5

abbrev pub kind_name : FaultKind → List ℕ
kind_name fault.Text = codes "Text"
kind_name fault.Long = codes "Long"
kind_name fault.Command = codes "Command"
kind_name fault.Argument = codes "Argument"
kind_name fault.NoMemory = codes "NoMemory"

abbrev pub kind_text : FaultKind → List ℕ
kind_text kind = number_and_name (kind_number kind) (kind_name kind)

-- the line, and what is wrong with it
abbrev pub fault_text : ScriptFault → List ℕ
fault_text f = decimal f.line ++ codes " " ++ kind_text f.kind
