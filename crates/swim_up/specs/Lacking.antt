-- What is to be made of a member before it runs.
use Rattle.std.specs.Prelude.{Bool, true, false}
use Rattle.swim_up.specs.declared.lacking.Lacking.{Lacking}
use Rattle.swim_up.specs.declared.lacking.Lacking.TheVariants.{Nothing, Settings, All, StateLost}
use Rattle.swim_up.specs.declared.lacking.Lacking.TheVariants.{Unsaid}

-- what is to be made, where there are settings or none, a state file or none, and where a member
-- may begin or not
abbrev pub lacking_of : (has_settings has_state may_begin : Bool) → Lacking
lacking_of true true _ = Nothing
lacking_of false true _ = Settings
lacking_of false false true = All
lacking_of false false false = Unsaid
lacking_of true false _ = StateLost
