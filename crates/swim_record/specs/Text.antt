-- How a line is written: a head, and after it arguments, each after a space.
use Rattle.std.specs.Prelude.{◌≡◌, ℕ, ◌^◌, ◌<◌, List, [], ◌∷◌, ◌++◌, All, codes}
use Rattle.std.specs.Fmt.{decimal}
use Rattle.swim_wire.specs.Numbers.{IsEndpoint}
use Rattle.swim_words.specs.Words.{endpoint_text}
use Rattle.swim_record.specs.declared.argument.Argument.{Argument}
use Rattle.swim_record.specs.declared.argument.Argument.TheVariants.{Number, Who}
use Rattle.swim_record.specs.declared.head.Head.{Head}
use Rattle.swim_record.specs.declared.head.Head.TheVariants as head

-- the word that begins a line
abbrev pub head_word : Head → List ℕ
head_word head.Member = codes "member"
head_word head.Times = codes "times"
head_word head.RowAlive = codes "alive"
head_word head.RowSuspect = codes "suspect"
head_word head.RowConfirm = codes "confirm"
head_word head.SayAlive = codes "+alive"
head_word head.SaySuspect = codes "+suspect"
head_word head.SayConfirm = codes "+confirm"
head_word head.Probe = codes "probe"
head_word head.Answered = codes "answered"
head_word head.Relay = codes "relay"
head_word head.Joining = codes "joining"
head_word head.Listed = codes "listed"
head_word head.Running = codes "running"
head_word head.Left = codes "left"
head_word head.Expelled = codes "expelled"
head_word head.Caller = codes "caller"
head_word head.Granted = codes "granted"
head_word head.Lost = codes "lost"

-- a number in decimal, or an endpoint
abbrev pub argument_text : Argument → List ℕ
argument_text (Number n) = decimal n
argument_text (Who e) = endpoint_text e

-- a number below 2^64, or an endpoint
abbrev pub IsArgument : Argument → Type 0
IsArgument (Number n) = n < 2 ^ 64
IsArgument (Who e) = IsEndpoint e

-- arguments, each after a space
abbrev pub arguments_text : List Argument → List ℕ
arguments_text [] = []
arguments_text (a ∷ args) = 32 ∷ argument_text a ++ arguments_text args

-- the text is these arguments
abbrev pub SaysArguments : List ℕ → List Argument → Type 0
SaysArguments text args = (text ≡ arguments_text args) × All IsArgument args
