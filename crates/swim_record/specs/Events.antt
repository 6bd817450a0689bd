-- How the line of an event is read: its first word, and what stands after it.
use Rattle.std.specs.Prelude.{◌≡◌, ◌⊎◌, ℕ, ◌^◌, ◌<◌, ◌≤◌, ◌==◌, List, [], ◌∷◌, ◌++◌, length, codes}
use Rattle.std.specs.Prelude.{if◌then◌else◌, Result, Ok, Err}
use Rattle.std.specs.Fmt.{decimal}
use Rattle.hex.specs.Hex.{IsBytes, encode_lower}
use Rattle.swim_wire.specs.Numbers.{IsEndpoint}
use Rattle.swim_words.specs.Words.{endpoint_text}
use Rattle.swim_rules.specs.Deals.{IsDeal}
use Rattle.swim_member.specs.declared.event.Event.{Event}
use Rattle.swim_member.specs.declared.event.Event.TheVariants as event
use Rattle.swim_member.specs.declared.event.TheConstants.{RECEIVED_MAX}
use Rattle.swim_record.specs.Recording.{bytes_text}
use Rattle.swim_record.specs.declared.event.EventFault.{EventFault}
use Rattle.swim_record.specs.declared.event.EventFault.TheVariants as fault
use Rattle.swim_record.specs.declared.event.EventWord.{EventWord}
use Rattle.swim_record.specs.declared.event.EventWord.TheVariants as word

-- an event that a member can be given: its numbers are within their types
abbrev pub IsEvent : Event → Type 0
IsEvent (event.Tick deal) = IsDeal deal
IsEvent (event.Datagram from bytes) =
    IsEndpoint from × IsBytes bytes.items × (length bytes.items ≤ RECEIVED_MAX)
IsEvent (event.SendFailed count) = count < 2 ^ 32
IsEvent (event.Join peer) = IsEndpoint peer
IsEvent (event.Members after) = (after ≡ 0) ⊎ IsEndpoint after
IsEvent _ = Unit {0}

-- it was read, and this holds of it; or memory ran out
abbrev pub IsReadAnd : {A : Type 0} → Result A EventFault → (A → Type 0) → Type 0
IsReadAnd (Ok x) P = P x
IsReadAnd (Err fault.NoMemory) P = Unit {0}
IsReadAnd (Err fault.Unknown) P = ⊥

-- this event was read, or memory ran out
abbrev pub IsRead : Event → Result Event EventFault → Type 0
IsRead e result = IsReadAnd result (λ x. x ≡ e)

-- the first word of the line
abbrev pub event_word : EventWord → List ℕ
event_word word.Deal = codes "deal"
event_word word.Received = codes "recv"
event_word word.ReceiveFailed = codes "recvfail"
event_word word.SendFailed = codes "sendfail"
event_word word.Join = codes "join"
event_word word.Leave = codes "leave"
event_word word.Members = codes "members"

abbrev pub word_of : Event → EventWord
word_of (event.Tick deal) = word.Deal
word_of (event.Datagram from bytes) = word.Received
word_of event.ReceiveFailed = word.ReceiveFailed
word_of (event.SendFailed count) = word.SendFailed
word_of (event.Join peer) = word.Join
word_of event.Leave = word.Leave
word_of (event.Members after) = word.Members

-- what stands after it
abbrev pub words_after : Event → List ℕ
words_after (event.Tick deal) = 32 ∷ encode_lower deal
words_after (event.Datagram from bytes) =
    32 ∷ endpoint_text from ++ 32 ∷ bytes_text bytes.items
words_after event.ReceiveFailed = []
words_after (event.SendFailed count) = 32 ∷ decimal count
words_after (event.Join peer) = 32 ∷ endpoint_text peer
words_after event.Leave = []
words_after (event.Members after) = if after == 0 then [] else 32 ∷ endpoint_text after
