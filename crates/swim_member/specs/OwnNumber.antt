-- The own number: what updates about oneself ask of it, and what becomes of it.
use Rattle.std.specs.List.{list_any}
use Rattle.std.specs.Prelude.{ℕ, ◌+◌, ◌-◌, ◌==◌, ◌&&◌, ◌||◌, nat_lt, nat_le, max, Bool, true}
use Rattle.std.specs.Prelude.{false, not, List}
use Rattle.std.specs.Prelude.{[], ◌∷◌, if◌then◌else◌, Option, Some, None}
use Rattle.swim_member.specs.Checks.{rules_of}
use Rattle.swim_member.specs.State.{State, Change, Queued, NumberRaised, Became, Noted}
use Rattle.swim_member.specs.declared.own_number.OwnNumber.{OwnNumber}
use Rattle.swim_member.specs.declared.own_number.OwnNumber.TheVariants.{Stays, Wanted, Confirmed}
use Rattle.swim_member.specs.declared.own_number.Suspicion.{Suspicion}
use Rattle.swim_member.specs.declared.own_number.Suspicion.TheVariants.{Passed, Leap, Last}
use Rattle.swim_member.specs.declared.own_number.Suspicion.TheVariants.{Refutable}
use Rattle.swim_member.specs.declared.state.Phase.{Phase}
use Rattle.swim_member.specs.declared.state.Phase.TheVariants.{Running, Left, Expelled}
use Rattle.swim_rules.specs.Rows.{is_kind}
use Rattle.swim_wire.specs.declared.rules.Rules.{Rules}
use Rattle.swim_wire.specs.declared.rules.Rules.TheVariants.{One, Two}
use Rattle.swim_wire.specs.declared.update.TheConstants.{LEAP, NUMBER_MAX}
use Rattle.swim_wire.specs.declared.update.Update.{Update}
use Rattle.swim_wire.specs.declared.update.UpdateKind.{UpdateKind}
use Rattle.swim_wire.specs.declared.update.UpdateKind.TheVariants.{Alive, Suspect, Confirm}
use Rattle.swim_member.specs.declared.note.Note.TheVariants as note

-- the kind of the own update, by the phase
abbrev pub own_kind : Phase → UpdateKind
own_kind Running = Alive
own_kind Left = Confirm
own_kind Expelled = Confirm

-- the own update of this kind and number
abbrev pub own_with : State → UpdateKind → ℕ → Update
own_with s kind n = record { kind = kind; who = s.settings.me; number = n }

-- the own update, which a page has in its order
abbrev pub own : State → Update
own s = own_with s (own_kind s.phase) s.number

-- Which suspicions count

-- an update about oneself of this kind is a suspicion: a Suspect,
-- and by rules 2 a Confirm too, since a greater number overrides it
abbrev pub is_suspicion : Rules → UpdateKind → Bool
is_suspicion rules Alive = false
is_suspicion rules Suspect = true
is_suspicion One Confirm = false
is_suspicion Two Confirm = true

-- what an update about oneself means for the own number
abbrev pub suspicion_of : Rules → ℕ → Update → Suspicion
suspicion_of rules old u =
    if not (is_suspicion rules u.kind) || nat_lt u.number old then Passed
    else (if nat_lt LEAP (u.number - old) then Leap
    else (if nat_le NUMBER_MAX u.number then Last else Refutable))

-- a suspicion that asks for too much is noted
abbrev pub note_of : Suspicion → List Change
note_of Passed = []
note_of Leap = Noted note.Leap ∷ []
note_of Last = Noted note.NoNumberLeft ∷ []
note_of Refutable = []

-- an update about oneself
abbrev pub hear_own : Rules → ℕ → Update → List Change
hear_own rules old u = note_of (suspicion_of rules old u)

-- the number that refutes a suspicion of n, or 0 where it does not count
abbrev pub refuting : Suspicion → ℕ → ℕ
refuting Refutable n = n + 1
refuting _ n = 0

-- What is asked for

-- the number that an update asks for, or 0
abbrev pub number_asked : Rules → ℕ → ℕ → Update → ℕ
number_asked rules me old u =
    if u.who == me then refuting (suspicion_of rules old u) u.number else 0

-- the greatest number that is asked for, or 0
abbrev pub greatest_asked : Rules → ℕ → ℕ → List Update → ℕ
greatest_asked rules me old [] = 0
greatest_asked rules me old (u ∷ updates) =
    max (number_asked rules me old u) (greatest_asked rules me old updates)

-- one of them is a Confirm about me
abbrev pub has_confirm : ℕ → List Update → Bool
has_confirm me updates = list_any (λ u. u.who == me && is_kind Confirm u.kind) updates

-- they expel me: by rules 1 a Confirm about me is the last word
abbrev pub is_expelled : Rules → ℕ → List Update → Bool
is_expelled One me updates = has_confirm me updates
is_expelled Two me updates = false

-- they ask for this number, where it is not 0
abbrev pub asked : ℕ → OwnNumber
asked greatest = if greatest == 0 then Stays else Wanted greatest

-- what the updates of a datagram ask of the own number of a member
-- by these rules: they expel it, or the greatest number is wanted
abbrev pub own_number_of : Rules → ℕ → ℕ → List Update → OwnNumber
own_number_of rules me old updates =
    if is_expelled rules me updates then Confirmed
    else asked (greatest_asked rules me old updates)

-- and of this member
abbrev pub own_number_by : State → List Update → OwnNumber
own_number_by s updates =
    own_number_of (rules_of s.settings) s.settings.me s.number updates

-- the number that is wanted, or none
abbrev pub wanted_number : OwnNumber → Option ℕ
wanted_number Stays = None
wanted_number (Wanted n) = Some n
wanted_number Confirmed = None

-- What becomes of it

-- after the updates of a datagram: a suspicion is refuted if the granted
-- ceiling allows the wanted number, and who is expelled takes no part any more
abbrev pub settle_number : State → OwnNumber → ℕ → List Change
settle_number s Stays granted = []
settle_number s (Wanted n) granted =
    if nat_le n granted then Queued (own_with s Alive n) ∷ NumberRaised n ∷ []
    else Noted note.SaveFailed ∷ []
settle_number s Confirmed granted =
    Noted note.Expelled ∷ Queued (own_with s Confirm s.number) ∷ Became Expelled ∷ []
