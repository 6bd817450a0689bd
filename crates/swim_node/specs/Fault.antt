-- The numbers, names and texts of the faults.
use Rattle.std.specs.Prelude.{ℕ, List, codes}
use Rattle.swim_wire.specs.Codes.{number_and_name}
use Rattle.swim_state.specs.Fault.{number_of_recover, name_of_recover}
use Rattle.swim_node.specs.declared.fault.ApplyFault.{ApplyFault}
use Rattle.swim_node.specs.declared.fault.ApplyFault.TheVariants as applying
use Rattle.swim_node.specs.declared.fault.OpenFault.{OpenFault}
use Rattle.swim_node.specs.declared.fault.OpenFault.TheVariants as opening

-- the number, the name and the text of each refusal of a call
abbrev pub number_of_apply : ApplyFault → ℕ
number_of_apply applying.NoMemory = 1
number_of_apply applying.EraFull = 2
number_of_apply applying.OutOfTurn = 3

abbrev pub name_of_apply : ApplyFault → List ℕ
name_of_apply applying.NoMemory = codes "NoMemory"
name_of_apply applying.EraFull = codes "EraFull"
name_of_apply applying.OutOfTurn = codes "OutOfTurn"

abbrev pub text_of_apply : ApplyFault → List ℕ
text_of_apply fault = number_and_name (number_of_apply fault) (name_of_apply fault)

-- a recovery's fault keeps its number, 1 to 6
abbrev pub number_of_open : OpenFault → ℕ
number_of_open (opening.Refused fault) = number_of_recover fault
number_of_open opening.Limit = 7
number_of_open opening.NoMemory = 8

-- the name and the text of each refusal of an opening
abbrev pub name_of_open : OpenFault → List ℕ
name_of_open (opening.Refused fault) = name_of_recover fault
name_of_open opening.Limit = codes "Limit"
name_of_open opening.NoMemory = codes "NoMemory"

abbrev pub text_of_open : OpenFault → List ℕ
text_of_open fault = number_and_name (number_of_open fault) (name_of_open fault)
