-- The probe that led to an accusation: its ping, and who helped.
use Rattle.std.specs.Option.{option_to_list}
use Rattle.std.specs.Prelude.{ℕ, ◌==◌, ◌&&◌, nat_le, Bool, false}
use Rattle.std.specs.Prelude.{List, [], ◌∷◌, ◌++◌, Option, Some, None, if◌then◌else◌}
use Rattle.swim_explain.specs.declared.account.Account.{Account}
use Rattle.swim_explain.specs.declared.fact.Fact.{Fact}
use Rattle.swim_explain.specs.declared.fact.Fact.TheVariants as fact
use Rattle.swim_explain.specs.declared.fact.Purpose.TheVariants as purpose

-- it is of the accuser's life, in which a sequence stands for
-- one probe, and of no later tick than the accusation
abbrev pub leads_to : Account → Account → Bool
leads_to accused a =
    a.life == accused.life && nat_le a.happening.tick accused.happening.tick

-- the ping of the probe with this sequence
abbrev pub pings : ℕ → Fact → Bool
pings seq (fact.Pinged purpose.Probe other outcome) = other == seq
pings seq _ = false

-- who was asked to ping as well
abbrev pub asked_helper : ℕ → Fact → Option ℕ
asked_helper seq (fact.Asked helper other outcome) =
    if other == seq then Some helper else None
asked_helper seq _ = None

abbrev pub helper_of : Account → ℕ → Account → Option ℕ
helper_of accused seq a =
    if leads_to accused a then asked_helper seq a.happening.fact else None

-- of these accounts, the ping that led to the accusation by this sequence
abbrev pub ping_of : Account → ℕ → List Account → Option Account
ping_of accused seq [] = None
ping_of accused seq (a ∷ accounts) =
    if leads_to accused a && pings seq a.happening.fact
    then Some a
    else ping_of accused seq accounts

-- and all who helped
abbrev pub helpers_of : Account → ℕ → List Account → List ℕ
helpers_of accused seq [] = []
helpers_of accused seq (a ∷ accounts) =
    option_to_list (helper_of accused seq a) ++ helpers_of accused seq accounts
