-- The versions of a recording's text.
use Rattle.std.specs.Prelude.{ℕ, List, codes}
use Rattle.swim_replay.specs.declared.heading.TextVersion.{TextVersion}
use Rattle.swim_replay.specs.declared.heading.TextVersion.TheVariants.{First, Second}

-- the first line, without its end
abbrev pub version_text : TextVersion → List ℕ
version_text First = codes "recording 1"
version_text Second = codes "recording 2"
