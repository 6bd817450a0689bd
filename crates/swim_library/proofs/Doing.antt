-- A call that answers 0 did what it says.
use Rattle.std.proofs.Common.{◌≡◌, ◌≢◌, ◌∙◌, ℕ, Option, None, Some, Result, Ok, Err, IfErr, OnOk, ap, arith, refl, sym}
use Rattle.std.specs.Prelude.{IsErrOf}
use Rattle.swim_library.specs.Codes.{NOTHING, NO_MEMORY, OK, code_of, code_of_fault, code_of_result}
use Rattle.swim_library.specs.declared.refusal.Refusal.{Refusal}
use Rattle.swim_library.specs.declared.refusal.Refusal.TheVariants as why

pub refused : (r : Refusal) → code_of r ≡ OK → ⊥
refused why.Nothing is = omega (arith, is)
refused why.Closed is = omega (arith, is)
refused why.IsOpen is = omega (arith, is)
refused why.NoEndpoint is = omega (arith, is)
refused why.Waiting is = omega (arith, is)
refused why.Short is = omega (arith, is)
refused why.NoMemory is = omega (arith, is)
refused why.File is = omega (arith, is)
refused why.Address is = omega (arith, is)
refused (why.Settings fault) is = omega (arith, is)
refused (why.Opening fault) is = omega (arith, is)
refused (why.Making fault) is = omega (arith, is)
refused (why.Keeping fault) is = omega (arith, is)
refused why.TooMany is = omega (arith, is)

pub done : {P : Type 0} (result : Result (Unit {0}) Refusal) (code : ℕ) → code ≡ code_of_result result → code ≡ OK → OnOk result P → P
done (Ok all) code is ok p = p
done (Err refusal) code is ok p = absurd (refused refusal (rw (sym is) ok))

-- A call that answers anything else was refused, and says why.
pub why_not : {P : Refusal → Type 0} (result : Result (Unit {0}) Refusal) (code : ℕ) → code ≡ code_of_result result → code ≢ OK → IfErr result P → (refusal : Refusal) × (code ≡ code_of refusal) × P refusal
why_not (Ok all) code is other p = absurd (other is)
why_not (Err refusal) code is other p = (refusal, is, p)

-- A call that is refused just where this says so answers with the code of it.
pub said_fault : {T : Type 0} (result : Result T Refusal) (code : ℕ) (fault : Option Refusal) → code ≡ code_of_result result → OnOk result (fault ≡ None) → IfErr result (λ refusal. fault ≡ Some refusal) → code ≡ code_of_fault fault
said_fault (Ok all) code fault is sound refused = is ∙ sym (ap code_of_fault sound)
said_fault (Err refusal) code fault is sound refused = is ∙ sym (ap code_of_fault refused)

-- The code of an error says which one it is.

abbrev pub err : {T : Type 0} → Refusal → Result T Refusal
err refusal = Err refusal

erred : {T : Type 0} (result : Result T Refusal) (code : ℕ) (r : Refusal) → code ≡ code_of_result result → code ≡ code_of r → ((s : Refusal) → code_of s ≡ code_of r → s ≡ r) → IsErrOf result r
erred (Ok all) code r is said one = absurd (refused r (sym said ∙ is))
erred (Err s) code r is said one = ap err (one s (sym is ∙ said))

is_nothing : (r : Refusal) → code_of r ≡ NOTHING → r ≡ why.Nothing
is_nothing why.Nothing is = refl
is_nothing why.Closed is = absurd omega (arith, is)
is_nothing why.IsOpen is = absurd omega (arith, is)
is_nothing why.NoEndpoint is = absurd omega (arith, is)
is_nothing why.Waiting is = absurd omega (arith, is)
is_nothing why.Short is = absurd omega (arith, is)
is_nothing why.NoMemory is = absurd omega (arith, is)
is_nothing why.File is = absurd omega (arith, is)
is_nothing why.Address is = absurd omega (arith, is)
is_nothing (why.Settings fault) is = absurd omega (arith, is)
is_nothing (why.Opening fault) is = absurd omega (arith, is)
is_nothing (why.Making fault) is = absurd omega (arith, is)
is_nothing (why.Keeping fault) is = absurd omega (arith, is)
is_nothing why.TooMany is = absurd omega (arith, is)

is_no_memory : (r : Refusal) → code_of r ≡ NO_MEMORY → r ≡ why.NoMemory
is_no_memory why.Nothing is = absurd omega (arith, is)
is_no_memory why.Closed is = absurd omega (arith, is)
is_no_memory why.IsOpen is = absurd omega (arith, is)
is_no_memory why.NoEndpoint is = absurd omega (arith, is)
is_no_memory why.Waiting is = absurd omega (arith, is)
is_no_memory why.Short is = absurd omega (arith, is)
is_no_memory why.NoMemory is = refl
is_no_memory why.File is = absurd omega (arith, is)
is_no_memory why.Address is = absurd omega (arith, is)
is_no_memory (why.Settings fault) is = absurd omega (arith, is)
is_no_memory (why.Opening fault) is = absurd omega (arith, is)
is_no_memory (why.Making fault) is = absurd omega (arith, is)
is_no_memory (why.Keeping fault) is = absurd omega (arith, is)
is_no_memory why.TooMany is = absurd omega (arith, is)

pub nothing : {T : Type 0} (result : Result T Refusal) (code : ℕ) → code ≡ code_of_result result → code ≡ NOTHING → IsErrOf result why.Nothing
nothing result code is said = erred result code why.Nothing is said is_nothing

pub no_memory : {T : Type 0} (result : Result T Refusal) (code : ℕ) → code ≡ code_of_result result → code ≡ NO_MEMORY → IsErrOf result why.NoMemory
no_memory result code is said = erred result code why.NoMemory is said is_no_memory

-- one that is no lack of memory, where only that and datagrams that wait are refused
pub waits_only : (r : Refusal) → (r ≢ why.Waiting → r ≡ why.NoMemory) → code_of r ≢ NO_MEMORY → r ≡ why.Waiting
waits_only why.Nothing one other = absurd (other (ap code_of (one (λ is. absurd omega (arith, ap code_of is)))))
waits_only why.Closed one other = absurd (other (ap code_of (one (λ is. absurd omega (arith, ap code_of is)))))
waits_only why.IsOpen one other = absurd (other (ap code_of (one (λ is. absurd omega (arith, ap code_of is)))))
waits_only why.NoEndpoint one other = absurd (other (ap code_of (one (λ is. absurd omega (arith, ap code_of is)))))
waits_only why.Waiting one other = refl
waits_only why.Short one other = absurd (other (ap code_of (one (λ is. absurd omega (arith, ap code_of is)))))
waits_only why.NoMemory one other = absurd (other refl)
waits_only why.File one other = absurd (other (ap code_of (one (λ is. absurd omega (arith, ap code_of is)))))
waits_only why.Address one other = absurd (other (ap code_of (one (λ is. absurd omega (arith, ap code_of is)))))
waits_only (why.Settings fault) one other = absurd (other (ap code_of (one (λ is. absurd omega (arith, ap code_of is)))))
waits_only (why.Opening fault) one other = absurd (other (ap code_of (one (λ is. absurd omega (arith, ap code_of is)))))
waits_only (why.Making fault) one other = absurd (other (ap code_of (one (λ is. absurd omega (arith, ap code_of is)))))
waits_only (why.Keeping fault) one other = absurd (other (ap code_of (one (λ is. absurd omega (arith, ap code_of is)))))
waits_only why.TooMany one other = absurd (other (ap code_of (one (λ is. absurd omega (arith, ap code_of is)))))
