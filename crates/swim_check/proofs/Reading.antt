-- A capture that is read line by line.
use Rattle.std.proofs.Common.{◌≡◌, ◌∙◌, ℕ, List, [], ◌∷◌, ◌++◌, refl}
use Rattle.swim_wire.specs.declared.datagram.Datagram.{Datagram}
use Rattle.swim_words.specs.Words.{Lacks, split_by}
use Rattle.swim_check.specs.Captures.{SaysSent, Begins}

-- one more line
pub begins-more : (datagrams : List Datagram) (text rest line more : List ℕ) (d : Datagram) → Begins text datagrams rest → rest ≡ split_by 10 line more → Lacks 10 line → SaysSent line d → Begins text (datagrams ++ d ∷ []) more
begins-more [] text rest line more d begins is lacks says = (line, more, begins ∙ is, lacks, says, refl)
begins-more (e ∷ datagrams) text rest line more d begins is lacks says =
    (begins.0, begins.1, begins.2, begins.3, begins.4, begins-more datagrams begins.1 rest line more d begins.5 is lacks says)
