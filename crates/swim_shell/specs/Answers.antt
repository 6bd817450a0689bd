-- What a control line makes of a caller, and what is answered.
use Rattle.std.specs.Prelude.{◌≡◌, ℕ, nat_lt, Bool, true, false, if◌then◌else◌}
use Rattle.std.specs.Prelude.{List, [], ◌∷◌, ◌++◌, length, codes, Option, Some, None}
use Rattle.std.specs.List.{list_any}
use Rattle.std.specs.Fmt.{decimal}
use Rattle.std.specs.Io.KnownBytes.{Appends}
use Rattle.swim_member.specs.declared.event.Event.{Event}
use Rattle.swim_member.specs.declared.event.Event.TheVariants as event
use Rattle.swim_member.specs.declared.note.Note.{Note}
use Rattle.swim_member.specs.declared.note.Note.TheVariants as note
use Rattle.swim_member.specs.Texts.{phase_word}
use Rattle.swim_node.specs.declared.entry.Reply.{Reply}
use Rattle.swim_node.specs.declared.entry.Status.{Status}
use Rattle.swim_wire.specs.Text.{endpoint_text, kind_word}
use Rattle.swim_wire.specs.declared.update.Update.{Update}
use Rattle.swim_shell.specs.declared.caller.Refusal.{Refusal}
use Rattle.swim_shell.specs.declared.caller.Refusal.TheVariants as refusal
use Rattle.swim_shell.specs.declared.request.Request.{Request}
use Rattle.swim_shell.specs.declared.request.Request.TheVariants as asked
use Rattle.swim_shell.specs.declared.conversation.LineEnd.{LineEnd}
use Rattle.swim_shell.specs.declared.conversation.LineEnd.TheVariants as line_end
use Rattle.swim_shell.specs.declared.counters.TheConstants.{COUNTERS}
use Rattle.swim_shell.specs.Calls.{CallerView, NewCall, Refuses}
use Rattle.swim_shell.specs.Counters.{counters_text}
use Rattle.swim_shell.specs.declared.about.Who.{Who}
use Rattle.swim_shell.specs.About.{about_of, about_text}

-- what is written where a call was refused
abbrev pub refusal_text : Refusal → List ℕ
refusal_text refusal.Memory = codes "error 4 memory\n"
refusal_text refusal.EraFull = codes "error 5 era full\n"
refusal_text refusal.Unread = codes "error 6 unread\n"

-- the line of a member: its kind, who it is, and its number
abbrev pub row_text : Update → List ℕ
row_text r =
    kind_word r.kind ++ (codes " " ++ (endpoint_text r.who ++ (codes " " ++ (decimal r.number
    ++ codes "\n"))))

-- the lines of members, in order
abbrev pub rows_text : List Update → List ℕ
rows_text [] = []
rows_text (r ∷ rows) = row_text r ++ rows_text rows

-- how many members follow, and their lines
abbrev pub members_text : List Update → List ℕ
members_text rows = codes "ok " ++ (decimal (length rows) ++ (codes "\n" ++ rows_text rows))

-- a name and a number
abbrev pub counted : List ℕ → ℕ → List ℕ
counted name n = name ++ decimal n

-- the line of a status up to the members that are held for alive
abbrev pub status_head : Status → List ℕ
status_head s =
    codes "ok " ++ (phase_word s.phase ++ (counted (codes " number ") s.number
    ++ counted (codes " alive ") s.alive))

-- the rest of it
abbrev pub status_rest : Status → List ℕ
status_rest s =
    counted (codes " suspect ") s.suspect ++ (counted (codes " confirmed ") s.confirmed
    ++ (counted (codes " length ") s.length ++ codes "\n"))

-- the line of a status
abbrev pub status_text : Status → List ℕ
status_text s = status_head s ++ status_rest s

-- the member takes no part
abbrev pub is_stopped : Note → Bool
is_stopped note.Stopped = true
is_stopped _ = false

-- the member was told to join itself
abbrev pub is_misdirected : Note → Bool
is_misdirected note.Misdirected = true
is_misdirected _ = false

-- what is written after a join
abbrev pub joined_text : Reply → List ℕ
joined_text reply =
    if list_any is_stopped reply.notes.items then codes "ok stopped\n" else
    if list_any is_misdirected reply.notes.items then codes "error 7 self\n" else
    if nat_lt 0 reply.lost then codes "ok lost\n" else
    codes "ok sent\n"

-- what is written after a leave
abbrev pub left_text : Reply → List ℕ
left_text reply =
    if list_any is_stopped reply.notes.items then codes "ok stopped\n" else codes "ok left\n"

-- no event was to be entered, and this is written
pub record Plain (p q : CallerView) (refused : Option Refusal) (answer text : List ℕ)
    : Type 0 where
  pub same : q ≡ p
  pub unrefused : refused ≡ None
  pub is : answer ≡ text

-- how what is written follows from the reply to a request's call
abbrev pub Replies : Request → Reply → List ℕ → Type 0
Replies (asked.Join peer) reply text = text ≡ joined_text reply
Replies asked.Leave reply text = text ≡ left_text reply
Replies (asked.Members after) reply text = text ≡ members_text reply.page.items
Replies _ reply text = Unit {0}

-- the event was to be entered for this request: its one new call is of it, and what is written
-- follows from its reply; or the call was refused, there was a reason for it, and this is written
abbrev pub Calls : ℕ → Event → Request → CallerView → CallerView → Option Refusal → List ℕ → Type 0
Calls limit event asked p q None answer =
    (reply : Reply) × NewCall p q event reply × Replies asked reply answer
Calls limit event asked p q (Some why) answer =
    Refuses limit why p q event × (answer ≡ refusal_text why)

-- no event was to be entered; a status is written, or that there is no reading of it
abbrev pub ShowsStatus : CallerView → CallerView → Option Refusal → List ℕ → Type 0
ShowsStatus p q None answer = (status : Status) × (q ≡ p) × (answer ≡ status_text status)
ShowsStatus p q (Some why) answer =
    (q ≡ p) × (why ≡ refusal.Unread) × (answer ≡ refusal_text why)

-- no event was to be entered, and none was refused; a count of each thing that a member does is
-- written
abbrev pub ShowsCounters : CallerView → CallerView → Option Refusal → List ℕ → Type 0
ShowsCounters p q refused answer =
    (counts : List ℕ) × (q ≡ p) × (refused ≡ None) × (length counts ≡ COUNTERS)
    × (answer ≡ counters_text counts)

-- no event was to be entered; who the member is and whether it is alone is written, or that there
-- is no reading of its status
abbrev pub ShowsAbout : CallerView → CallerView → Option Refusal → List ℕ → Type 0
ShowsAbout p q None answer =
    (who : Who) × (status : Status) × (q ≡ p) × (answer ≡ about_text (about_of who status))
ShowsAbout p q (Some why) answer =
    (q ≡ p) × (why ≡ refusal.Unread) × (answer ≡ refusal_text why)

-- what a request makes of the caller, why that was refused, if it was, and what is written
abbrev pub Answers : ℕ → Request → CallerView → CallerView → Option Refusal → List ℕ → Type 0
Answers limit asked.Status p q refused answer = ShowsStatus p q refused answer
Answers limit (asked.Members after) p q refused answer =
    Calls limit (event.Members after) (asked.Members after) p q refused answer
Answers limit (asked.Join peer) p q refused answer =
    Calls limit (event.Join peer) (asked.Join peer) p q refused answer
Answers limit asked.Leave p q refused answer =
    Calls limit event.Leave asked.Leave p q refused answer
Answers limit asked.Stop p q refused answer = Plain p q refused answer (codes "ok stopping\n")
Answers limit asked.Record p q refused answer =
    Plain p q refused answer (codes "ok era ends\n")
Answers limit asked.Counters p q refused answer = ShowsCounters p q refused answer
Answers limit asked.Reload p q refused answer = Plain p q refused answer []
Answers limit asked.About p q refused answer = ShowsAbout p q refused answer
Answers limit asked.Unknown p q refused answer =
    Plain p q refused answer (codes "error 1 unknown\n")
Answers limit asked.Address p q refused answer =
    Plain p q refused answer (codes "error 2 address\n")
Answers limit asked.TooLong p q refused answer =
    Plain p q refused answer (codes "error 3 too long\n")

-- how a refusal ends a conversation, if it does
abbrev pub end_by : Refusal → Option LineEnd
end_by refusal.Memory = None
end_by refusal.EraFull = Some (line_end.Refused refusal.EraFull)
end_by refusal.Unread = Some (line_end.Refused refusal.Unread)

-- how a line ends a conversation, if it does
abbrev pub end_of : Option Refusal → Request → Option LineEnd
end_of (Some why) asked = end_by why
end_of None asked.Stop = Some line_end.Asked
end_of None asked.Record = Some line_end.EraAsked
end_of None asked.Reload = Some line_end.Reloading
end_of None _ = None

-- of what was left to write and these bytes some went to a writer, and the rest is left
pub record Gives (old new : Option (List ℕ)) (left rest bytes : List ℕ) : Type 0 where
  pub went : List ℕ
  pub wrote : Appends old new went
  pub whole : left ++ bytes ≡ went ++ rest
