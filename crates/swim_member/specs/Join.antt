-- Joins, and pages of what a member knows.
use Rattle.std.specs.List.{filter}
use Rattle.std.specs.Prelude.{ℕ, ◌-◌, ◌==◌, ◌&&◌, nat_lt, Bool, List, [], ◌∷◌, map, take, length}
use Rattle.std.specs.Prelude.{if◌then◌else◌, Option, Some, None, slice_get}
use Rattle.swim_member.specs.OwnNumber.{own}
use Rattle.swim_member.specs.Send.{datagram}
use Rattle.swim_member.specs.State.{State, Change, Sent, SequenceTaken, Joined, Noted}
use Rattle.swim_member.specs.declared.state.Joining.{Joining}
use Rattle.swim_rules.specs.Rows.{put_row}
use Rattle.swim_rules.specs.declared.table.Row.{Row}
use Rattle.swim_wire.specs.declared.datagram.Datagram.{Datagram}
use Rattle.swim_wire.specs.declared.datagram.Kind.TheVariants.{Join, Page}
use Rattle.swim_wire.specs.declared.datagram.TheConstants.{UPDATES_MAX}
use Rattle.swim_wire.specs.declared.update.Update.{Update}
use Rattle.swim_member.specs.declared.note.Note.TheVariants as note

-- the update of a row
abbrev pub update_in : Row → Update
update_in r = r.update

-- the updates of these rows and the own one, in the order of the members
abbrev pub updates_with : List Row → Update → List Update
updates_with rows own = map update_in (put_row rows (record { update = own; since = 0 }))

-- the update comes after a page's cursor
abbrev pub is_update_after : ℕ → Update → Bool
is_update_after cursor u = nat_lt cursor u.who

-- the next of these after a cursor, at most 30
abbrev pub page_after : State → ℕ → List Update
page_after s cursor =
    take UPDATES_MAX (filter (is_update_after cursor) (updates_with s.rows (own s)))

-- a join is answered with a page of the members after its cursor
abbrev pub on_join : State → Datagram → List Change
on_join s p = Sent p.sender (datagram s Page p.seq p.subject (page_after s p.subject)) ∷ []

-- the member of an update, or 0
abbrev pub name_of : Option Update → ℕ
name_of None = 0
name_of (Some u) = u.who

-- the member of the last update, or 0
abbrev pub last_name : List Update → ℕ
last_name updates = name_of (slice_get updates (length updates - 1))

-- a join with the next sequence and this cursor
abbrev pub join_to : State → ℕ → ℕ → List Change
join_to s peer cursor =
    Joined (Some (record { peer = peer; seq = s.seq; cursor = cursor }))
    ∷ Sent peer (datagram s Join s.seq cursor (own s ∷ [])) ∷ SequenceTaken ∷ []

-- a page that was asked for: after a full one the
-- next is asked for, after any other the join is over
abbrev pub on_page : State → Datagram → Option Joining → List Change
on_page s p (Some j) =
    if p.sender == j.peer && p.seq == j.seq && p.subject == j.cursor
    then (if length p.updates.items == UPDATES_MAX && nat_lt j.cursor (last_name p.updates.items)
    then join_to s j.peer (last_name p.updates.items)
    else Joined None ∷ [])
    else Noted note.Unasked ∷ []
on_page s p None = Noted note.Unasked ∷ []
