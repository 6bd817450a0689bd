-- Of all that accounts say of x, the last suspicion: it has a number, and a suspicion with that
-- number may have stood before.
use Rattle.std.specs.Option.{option_or}
use Rattle.std.specs.Prelude.{ℕ, ◌==◌, ◌&&◌, ◌||◌, nat_le, Bool, true, false}
use Rattle.std.specs.Prelude.{List, [], ◌∷◌, ◌++◌, Option, Some, None, if◌then◌else◌}
use Rattle.swim_rules.specs.declared.table.Heard.TheVariants.{Accepted}
use Rattle.swim_wire.specs.declared.update.UpdateKind.{UpdateKind}
use Rattle.swim_wire.specs.declared.update.UpdateKind.TheVariants.{Alive, Suspect, Confirm}
use Rattle.swim_explain.specs.Causing.{first}
use Rattle.swim_explain.specs.declared.account.Account.{Account}
use Rattle.swim_explain.specs.declared.cause.Case.{Case}
use Rattle.swim_explain.specs.declared.cause.CasePart.TheVariants as part
use Rattle.swim_explain.specs.declared.fact.Fact.{Fact}
use Rattle.swim_explain.specs.declared.fact.Fact.TheVariants as fact

-- the number with which an update says that x is suspected or confirmed
abbrev pub blamed_number : UpdateKind → ℕ → Option ℕ
blamed_number Alive number = None
blamed_number Suspect number = Some number
blamed_number Confirm number = Some number

-- the number with which a fact does
abbrev pub said_number : Fact → Option ℕ
said_number (fact.Suspected number seq) = Some number
said_number (fact.Confirmed number since) = Some number
said_number (fact.Told by u was Accepted) = blamed_number u.kind u.number
said_number (fact.ToldItself by u) = blamed_number u.kind u.number
said_number _ = None

abbrev pub is_number : ℕ → Option ℕ → Bool
is_number n None = false
is_number n (Some number) = number == n

-- the fact says that x is suspected or confirmed with this number
abbrev pub is_blame : ℕ → Fact → Bool
is_blame n f = is_number n (said_number f)

-- the last number that is said
abbrev pub last_number : List Account → Option ℕ
last_number [] = None
last_number (a ∷ rest) = option_or (last_number rest) (said_number a.happening.fact)

-- x was suspected for so long that it is forgotten, or it was
-- forgotten and is alive again: no greater number refuted that
abbrev pub is_no_refutation : ℕ → UpdateKind → ℕ → Bool
is_no_refutation n Alive number = nat_le number n
is_no_refutation n _ number = false

abbrev pub frees : ℕ → Fact → Bool
frees n (fact.Forgotten since) = true
frees n (fact.Told by u was Accepted) = is_no_refutation n u.kind u.number
frees n _ = false

-- this member said it in one of the accounts
abbrev pub has_said : ℕ → ℕ → List Account → Bool
has_said n teller [] = false
has_said n teller (a ∷ told) =
    if a.teller == teller && is_blame n a.happening.fact then true else has_said n teller told

-- a member that told of the suspicion in these accounts suspects x no more
abbrev pub lets_go : ℕ → List Account → Account → Bool
lets_go n told a = frees n a.happening.fact && has_said n a.teller told

-- what was told of a suspicion, and whether a member let it go: the next
-- one with that number begins where that is said again. The last one's accounts
abbrev pub last_case : ℕ → List Account → Bool → List Account → List Account
last_case n told over [] = told
last_case n told over (a ∷ rest) =
    if over && is_blame n a.happening.fact
    then last_case n (a ∷ []) false rest
    else last_case n (told ++ a ∷ []) (over || lets_go n told a) rest

abbrev pub case_of : ℕ → List Account → Case
case_of n told = record {
  number = n;
  accused = first part.Accusation n told;
  told = first part.Hearsay n told;
  expired = first part.Expiry n told;
  refuted = first part.Refutation n told;
}

-- the last suspicion of all
abbrev pub case_with : Option ℕ → List Account → Option Case
case_with None accounts = None
case_with (Some n) accounts = Some (case_of n (last_case n [] false accounts))

abbrev pub last_suspicion : List Account → Option Case
last_suspicion accounts = case_with (last_number accounts) accounts
