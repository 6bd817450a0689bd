-- The codes of the calls, as swim.h names them.
use Rattle.std.specs.Prelude.{◌≡◌, ◌⊎◌, ℕ, ◌+◌, Option, None, Some, Result, Ok, Err}
use Rattle.swim_member.specs.Texts.{setting_number}
use Rattle.swim_node.specs.Fault.{number_of_open}
use Rattle.swim_state.specs.Fault.{number_of_init, number_of_save}
use Rattle.swim_library.specs.declared.refusal.Refusal.{Refusal}
use Rattle.swim_library.specs.declared.refusal.Refusal.TheVariants as why

-- what is done, and what a refusal is
abbrev pub OK : ℕ
OK = 0

abbrev pub code_of : Refusal → ℕ
code_of why.Nothing = 1
code_of why.Closed = 3
code_of why.IsOpen = 4
code_of why.NoEndpoint = 5
code_of why.Waiting = 6
code_of why.Short = 7
code_of why.NoMemory = 8
code_of why.File = 9
code_of why.Address = 19
code_of (why.Settings fault) = 10 + setting_number fault
code_of (why.Opening fault) = 20 + number_of_open fault
code_of (why.Making fault) = 30 + number_of_init fault
code_of (why.Keeping fault) = 40 + number_of_save fault
code_of why.TooMany = 54

abbrev pub code_of_result : {T : Type 0} → Result T Refusal → ℕ
code_of_result (Ok done) = OK
code_of_result (Err refusal) = code_of refusal

abbrev pub code_of_fault : Option Refusal → ℕ
code_of_fault None = OK
code_of_fault (Some refusal) = code_of refusal

-- the codes by which programs tell the most usual refusals
abbrev pub NOTHING : ℕ
NOTHING = code_of why.Nothing

abbrev pub CLOSED : ℕ
CLOSED = code_of why.Closed

abbrev pub IS_OPEN : ℕ
IS_OPEN = code_of why.IsOpen

abbrev pub NO_ENDPOINT : ℕ
NO_ENDPOINT = code_of why.NoEndpoint

abbrev pub BAD_ADDRESS : ℕ
BAD_ADDRESS = code_of why.Address

abbrev pub WAITING : ℕ
WAITING = code_of why.Waiting

abbrev pub SHORT : ℕ
SHORT = code_of why.Short

abbrev pub NO_MEMORY : ℕ
NO_MEMORY = code_of why.NoMemory

-- the call was done, or there was no memory for it
abbrev pub IsDoneOrLacks : ℕ → Type 0
IsDoneOrLacks code = (code ≡ OK) ⊎ (code ≡ NO_MEMORY)
