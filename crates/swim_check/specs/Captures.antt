-- The text of a capture: a line for each datagram, in the order in which they were sent.
use Rattle.std.specs.Prelude.{◌≡◌, ◌≢◌, ◌⊎◌, ℕ, ◌+◌, List, [], ◌∷◌, length, Ok, Err}
use Rattle.hex.specs.Hex.{decode_of}
use Rattle.hex.specs.declared.error.FromHexError.{FromHexError}
use Rattle.swim_wire.specs.declared.datagram.Datagram.{Datagram as Datagrams}
use Rattle.swim_wire.specs.Decoding.{decoded}
use Rattle.swim_check.specs.declared.capture.CaptureStop.{CaptureStop}
use Rattle.swim_check.specs.declared.capture.CaptureStop.TheVariants.{Line, NoMemory as Lacking}
use Rattle.swim_check.specs.declared.capture.CaptureStop.TheVariants.{Broken as Stopped}
use Rattle.swim_check.specs.declared.line.LineFault.{LineFault}
use Rattle.swim_check.specs.declared.line.LineFault.TheVariants.{Cut, Words, Endpoint, Hex}
use Rattle.swim_check.specs.declared.line.LineFault.TheVariants.{Datagram, Sender, NoMemory}
use Rattle.swim_group.specs.Checking.{IsFirstBroken}
use Rattle.swim_group.specs.declared.checker.CheckFault.TheVariants.{Broken}
use Rattle.swim_words.specs.Words.{No, Lacks, SaysEndpoint, spaced, split_by}

-- the line says who sent a datagram, and its bytes as hex digits
pub record SaysSent (line : List ℕ) (d : Datagrams) : Type 0 where
  pub sender : List ℕ
  pub word : List ℕ
  pub bytes : List ℕ
  pub line_is : line ≡ spaced sender word
  pub sender_is : SaysEndpoint sender d.sender
  pub word_is : decode_of word ≡ Ok bytes
  pub read : decoded bytes ≡ Ok d

-- the text has these lines, one for each datagram, and then the rest
abbrev pub Begins : List ℕ → List Datagrams → List ℕ → Type 0
Begins text [] rest = text ≡ rest
Begins text (d ∷ datagrams) rest = (line : List ℕ) × (more : List ℕ)
    × (text ≡ split_by 10 line more)
    × Lacks 10 line
    × SaysSent line d
    × Begins more datagrams rest

-- these are its lines
abbrev pub IsCapture : List ℕ → List Datagrams → Type 0
IsCapture text datagrams = Begins text datagrams []

-- why the line says no datagram, found from its beginning on; of a lack of memory nothing is said
abbrev pub IsRefused : List ℕ → LineFault → Type 0
IsRefused line Cut = ⊥
IsRefused line Words = Lacks 32 line
IsRefused line Endpoint = (sender word : List ℕ)
    × (line ≡ spaced sender word) × Lacks 32 sender × No (SaysEndpoint sender)
IsRefused line Hex = (sender word : List ℕ) × (fault : FromHexError)
    × (line ≡ spaced sender word) × Lacks 32 sender
    × (decode_of word ≡ Err fault)
IsRefused line (Datagram fault) = (sender word bytes : List ℕ)
    × (line ≡ spaced sender word) × Lacks 32 sender
    × (decode_of word ≡ Ok bytes) × (decoded bytes ≡ Err fault)
IsRefused line Sender = (sender word bytes : List ℕ) × (other : ℕ) × (d : Datagrams)
    × (line ≡ spaced sender word) × Lacks 32 sender
    × SaysEndpoint sender other
    × (decode_of word ≡ Ok bytes) × (decoded bytes ≡ Ok d)
    × (d.sender ≢ other)
IsRefused line NoMemory = Unit {0}

-- what is left of a text begins with a line that is refused, or is a line without its end
abbrev pub BeginsRefused : List ℕ → LineFault → Type 0
BeginsRefused rest fault = ((fault ≡ Cut) × (rest ≢ []) × Lacks 10 rest)
    ⊎ ((line more : List ℕ) × (rest ≡ split_by 10 line more) × Lacks 10 line × IsRefused line fault)

-- the line with this number, from 1, is the first that is refused: those before it say datagrams
pub record IsFirstRefused (text : List ℕ) (number : ℕ) (fault : LineFault) : Type 0 where
  pub datagrams : List Datagrams
  pub rest : List ℕ
  pub before : Begins text datagrams rest
  pub number_is : number ≡ length datagrams + 1
  pub refused : BeginsRefused rest fault

-- why it is not found to keep the law: this line is the first that is refused, or memory lacked, or
-- the datagram of this line is the first that breaks it
abbrev pub IsStop : List ℕ → CaptureStop → Type 0
IsStop text (Line number fault) = IsFirstRefused text number fault
IsStop text (Stopped line update breach) = (datagrams : List Datagrams) × (place : ℕ)
    × IsCapture text datagrams
    × (line ≡ place + 1)
    × IsFirstBroken datagrams place (Broken update breach)
IsStop text Lacking = Unit {0}
