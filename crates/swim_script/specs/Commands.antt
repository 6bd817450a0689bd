-- Which line of a script says which command.
use Rattle.std.specs.Prelude.{◌≡◌, ◌==◌, ◌||◌, ◌&&◌, ℕ, ◌^◌, ◌<◌, ◌≤◌, nat_le, nat_lt}
use Rattle.std.specs.Prelude.{if◌then◌else◌, Result, Ok, Err, ◌⊎◌, Bool, true, false, not, Option}
use Rattle.std.specs.Prelude.{Some, None, List, [], ◌∷◌, length, slice_index, codes, All}
use Rattle.std.specs.List.{filter, slice_split, list_all}
use Rattle.std.specs.Borrow.{Bor}
use Rattle.std.specs.Fmt.{decimal}
use Rattle.swim_wire.specs.Numbers.{IsEndpoint}
use Rattle.swim_rules.specs.Deals.{deal_from}
use Rattle.swim_member.specs.declared.event.Event.{Event}
use Rattle.swim_member.specs.declared.event.Event.TheVariants as event
use Rattle.swim_disk.specs.declared.mem.Choice.{Choice}
use Rattle.swim_disk.specs.declared.mem.Choice.TheVariants.{Keep, Drop, Fill}
use Rattle.hex.specs.Hex.{decode_of}
use Rattle.swim_script.specs.declared.script.TheConstants.{LINE_MAX}
use Rattle.swim_script.specs.declared.line.TheConstants.{COUNT_MAX}
use Rattle.swim_script.specs.declared.command.Command.{Command}
use Rattle.swim_script.specs.declared.command.Command.TheVariants.{Group, Me, Set, Start, Init}
use Rattle.swim_script.specs.declared.command.Command.TheVariants.{Open, Happen, Plan, Kill, Crash}
use Rattle.swim_script.specs.declared.command.Command.TheVariants.{Overwrite, Slots, Rebase}
use Rattle.swim_script.specs.declared.command.Command.TheVariants.{KeepPeers, Peers}
use Rattle.swim_script.specs.declared.command.Setting.{Setting}
use Rattle.swim_script.specs.declared.command.Setting.TheVariants as setting
use Rattle.swim_script.specs.declared.command.Failure.{Failure}
use Rattle.swim_script.specs.declared.command.Failure.TheVariants as failure
use Rattle.swim_script.specs.declared.keyword.Keyword.{Keyword}
use Rattle.swim_script.specs.declared.keyword.Keyword.TheVariants as keyword
use Rattle.swim_script.specs.declared.patch.Patch.{Patch}
use Rattle.swim_script.specs.declared.fault.FaultKind.{FaultKind}
use Rattle.swim_script.specs.declared.fault.FaultKind.TheVariants as fault
use Rattle.swim_words.specs.Words.{spaced, endpoint_text}
use Rattle.swim_script.specs.Bytes.{IsBytes, IsCut}

-- the word that begins a command
abbrev pub keyword_text : Keyword → List ℕ
keyword_text keyword.Group = codes "group"
keyword_text keyword.Me = codes "me"
keyword_text keyword.Set = codes "set"
keyword_text keyword.Start = codes "start"
keyword_text keyword.Init = codes "init"
keyword_text keyword.Open = codes "open"
keyword_text keyword.Receive = codes "recv"
keyword_text keyword.Tick = codes "tick"
keyword_text keyword.ReceiveFailed = codes "recvfail"
keyword_text keyword.SendFailed = codes "sendfail"
keyword_text keyword.Join = codes "join"
keyword_text keyword.Leave = codes "leave"
keyword_text keyword.Members = codes "members"
keyword_text keyword.Fail = codes "fail"
keyword_text keyword.Tear = codes "tear"
keyword_text keyword.Halt = codes "halt"
keyword_text keyword.Kill = codes "kill"
keyword_text keyword.Crash = codes "crash"
keyword_text keyword.Overwrite = codes "disk"
keyword_text keyword.Slots = codes "slots"
keyword_text keyword.Rebase = codes "rebase"
keyword_text keyword.Keep = codes "keep"
keyword_text keyword.Peers = codes "peers"

-- the word is that of a keyword
abbrev pub IsKeyword : List ℕ → Keyword → Type 0
IsKeyword word keyword = word ≡ keyword_text keyword

-- the word of a setting, as `set` takes it
abbrev pub setting_text : Setting → List ℕ
setting_text setting.Lambda = codes "lambda"
setting_text setting.Period = codes "period"
setting_text setting.Direct = codes "direct"
setting_text setting.Suspect = codes "suspect"
setting_text setting.Forget = codes "forget"
setting_text setting.Helpers = codes "helpers"
setting_text setting.Limit = codes "limit"
setting_text setting.Block = codes "block"
setting_text setting.Rules = codes "rules"

-- the word is that of a setting
abbrev pub IsSetting : List ℕ → Setting → Type 0
IsSetting word setting = word ≡ setting_text setting

-- a line that begins with a keyword and goes on with its arguments
abbrev pub line_of : Keyword → List ℕ → List ℕ
line_of keyword rest = spaced (keyword_text keyword) rest

-- the line's first word is this keyword
abbrev pub BeginsWith : List ℕ → Keyword → Type 0
BeginsWith text keyword =
    (text ≡ keyword_text keyword) ⊎ ((rest : List ℕ) × (text ≡ line_of keyword rest))

-- the keywords whose arguments are read without memory
abbrev pub IsPlain : Keyword → Type 0
IsPlain keyword.Receive = ⊥
IsPlain keyword.Crash = ⊥
IsPlain keyword.Overwrite = ⊥
IsPlain _ = Unit {0}

-- a received datagram: whence, and its bytes in hex
pub record IsReceived (text : List ℕ) (from : ℕ) (bytes : List ℕ) : Type 0 where
  pub word : List ℕ
  pub sender : IsEndpoint from
  pub hex : IsCut word bytes
  pub says : text ≡ line_of keyword.Receive (spaced (endpoint_text from) word)

-- a tick: its number, and the deal that begins with it
pub record IsTick (text deal : List ℕ) : Type 0 where
  pub number : ℕ
  pub small : number < 2 ^ 32
  pub dealt : deal ≡ deal_from number
  pub says : text ≡ line_of keyword.Tick (decimal number)

-- the text is an event line, with its numbers in range
abbrev pub SaysEvent : List ℕ → Event → Type 0
SaysEvent text (event.Tick deal) = IsTick text deal
SaysEvent text (event.Datagram from bytes) = IsReceived text from bytes.items
SaysEvent text event.ReceiveFailed = text ≡ keyword_text keyword.ReceiveFailed
SaysEvent text (event.SendFailed count) =
    (text ≡ line_of keyword.SendFailed (decimal count)) × (count < 2 ^ 32)
SaysEvent text (event.Join peer) =
    (text ≡ line_of keyword.Join (endpoint_text peer)) × IsEndpoint peer
SaysEvent text event.Leave = text ≡ keyword_text keyword.Leave
SaysEvent text (event.Members after) =
    ((text ≡ keyword_text keyword.Members) × (after ≡ 0))
    ⊎ ((text ≡ line_of keyword.Members (endpoint_text after)) × IsEndpoint after)

-- the failure of the k-th call of the sort that the word names, of those with a word of their own
abbrev pub IsFailure : List ℕ → ℕ → Failure → Type 0
IsFailure word k (failure.Read n) = (word ≡ codes "read") × (n ≡ k)
IsFailure word k (failure.Write n) = (word ≡ codes "write") × (n ≡ k)
IsFailure word k (failure.Sync n) = (word ≡ codes "sync") × (n ≡ k)
IsFailure word k (failure.Send n) = (word ≡ codes "send") × (n ≡ k)
IsFailure word k _ = ⊥

-- the calls of a sort that may be planned to fail: the first to the millionth
abbrev pub IsCall : ℕ → Type 0
IsCall k = (1 ≤ k) × (k ≤ COUNT_MAX)

-- the text is a line that plans a failure of the k-th call
abbrev pub SaysFailure : List ℕ → Failure → Type 0
SaysFailure text (failure.Read k) =
    (text ≡ line_of keyword.Fail (spaced (codes "read") (decimal k))) × IsCall k
SaysFailure text (failure.Write k) =
    (text ≡ line_of keyword.Fail (spaced (codes "write") (decimal k))) × IsCall k
SaysFailure text (failure.TornWrite k) =
    (text ≡ line_of keyword.Tear (spaced (codes "write") (decimal k))) × IsCall k
SaysFailure text (failure.Sync k) =
    (text ≡ line_of keyword.Fail (spaced (codes "sync") (decimal k))) × IsCall k
SaysFailure text (failure.Halt k) = (text ≡ line_of keyword.Halt (decimal k)) × IsCall k
SaysFailure text (failure.Send k) =
    (text ≡ line_of keyword.Fail (spaced (codes "send") (decimal k))) × IsCall k

-- what a crash is to leave of what was not synced
abbrev pub SaysChoice : List ℕ → Choice → Type 0
SaysChoice text Keep = text ≡ codes "keep"
SaysChoice text Drop = text ≡ codes "drop"
SaysChoice text (Fill byte) =
    (word : List ℕ) × (text ≡ spaced (codes "fill") word) × (decode_of word ≡ Ok (byte ∷ []))

-- a crash with its choice
pub record IsCrash (text : List ℕ) (choice : Choice) : Type 0 where
  pub word : List ℕ
  pub chosen : SaysChoice word choice
  pub says : text ≡ line_of keyword.Crash word

-- an offset, and the bytes that go there in hex
pub record IsOverwrite (text : List ℕ) (patch : Patch) : Type 0 where
  pub word : List ℕ
  pub hex : IsBytes word patch.bytes.items
  pub says : text ≡ line_of keyword.Overwrite (spaced (decimal patch.at) word)

-- the line says the command
abbrev pub Says : List ℕ → Command → Type 0
Says text (Group number) = (text ≡ line_of keyword.Group (decimal number)) × (number < 2 ^ 64)
Says text (Me endpoint) = (text ≡ line_of keyword.Me (endpoint_text endpoint)) × IsEndpoint endpoint
Says text (Set setting number) =
    (text ≡ line_of keyword.Set (spaced (setting_text setting) (decimal number)))
    × (number ≤ COUNT_MAX)
Says text (Start first) = text ≡ line_of keyword.Start (decimal first.value)
Says text (Init ceiling) = (text ≡ line_of keyword.Init (decimal ceiling)) × (ceiling < 2 ^ 64)
Says text Open = text ≡ keyword_text keyword.Open
Says text (Happen event) = SaysEvent text event
Says text (Plan failure) = SaysFailure text failure
Says text Kill = text ≡ keyword_text keyword.Kill
Says text (Crash choice) = IsCrash text choice
Says text (Overwrite patch) = IsOverwrite text patch
Says text Slots = text ≡ keyword_text keyword.Slots
Says text Rebase = text ≡ keyword_text keyword.Rebase
Says text KeepPeers = text ≡ keyword_text keyword.Keep
Says text Peers = text ≡ keyword_text keyword.Peers

-- the lines of a script; the last one may lack its end
abbrev pub lines_of : List ℕ → List (List ℕ)
lines_of script = slice_split (λ byte. byte == 10) script

-- a line that isn't empty and is no comment
abbrev pub is_said : List ℕ → Bool
is_said text = not (length text == 0 || slice_index text 0 == 35)

-- each line says its command
abbrev pub AreSaid : List (List ℕ) → List Command → Type 0
AreSaid [] [] = Unit {0}
AreSaid (text ∷ lines) (command ∷ commands) = Says text command × AreSaid lines commands
AreSaid _ _ = ⊥

-- the lines of what is left of a script, if anything is left
abbrev pub and_lines : Option (Bor (List ℕ)) → List (List ℕ)
and_lines None = []
and_lines (Some rest) = lines_of rest.now

-- a byte that prints, or a space
abbrev pub is_printed : ℕ → Bool
is_printed byte = nat_le 0x20 byte && nat_le byte 0x7e

-- the first fault of a line's bytes, if they have one
abbrev pub judged_line : List ℕ → Result (Unit {0}) FaultKind
judged_line text =
    if not (list_all is_printed text)
    then Err fault.Text
    else (if nat_lt LINE_MAX (length text) then Err fault.Long else Ok tt)

-- the script says these commands, in order, and its bytes have no fault
pub record IsScript (script : List ℕ) (commands : List Command) : Type 0 where
  pub bytes : All (λ text. judged_line text ≡ Ok tt) (lines_of script)
  pub said : AreSaid (filter is_said (lines_of script)) commands

-- what a line says, if it says a command
abbrev pub SaysLine : List ℕ → Option Command → Type 0
SaysLine text None = is_said text ≡ false
SaysLine text (Some command) = (is_said text ≡ true) × Says text command
