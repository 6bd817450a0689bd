-- What a member may say of itself and others, and which of its datagrams can be written.
use Rattle.std.specs.Prelude.{◌≡◌, ℕ, ◌==◌, ◌&&◌, ◌||◌, nat_le, Bool, true, false, not, List}
use Rattle.std.specs.Prelude.{[], ◌∷◌, ◌++◌}
use Rattle.std.specs.List.{list_all}
use Rattle.swim_wire.specs.declared.update.TheConstants.{NUMBER_MAX}
use Rattle.swim_wire.specs.declared.update.Update.{Update}
use Rattle.swim_wire.specs.declared.datagram.Kind.{Kind}
use Rattle.swim_wire.specs.declared.datagram.Kind.TheVariants.{Join, Page}
use Rattle.swim_wire.specs.Reading.{numbers_about}
use Rattle.swim_rules.specs.declared.table.Row.{Row}
use Rattle.swim_gossip.specs.declared.buffer.Waiting.{Waiting}
use Rattle.swim_member.specs.declared.answer.Out.{Out}

-- the number of the update is at most the greatest one
abbrev pub is_low : Update → Bool
is_low u = nat_le u.number NUMBER_MAX

-- what a member with this number may say: its number has a
-- text, and of an update about oneself it is the own one
abbrev pub may_say : ℕ → ℕ → Update → Bool
may_say me n u = is_low u && (not (u.who == me) || (u.number == n))

-- what waits in the buffer is an update that the member may say
abbrev pub may_wait : ℕ → ℕ → Waiting → Bool
may_wait me n w = may_say me n w.update

-- the row is about another member, and its number has a text
abbrev pub may_stand : ℕ → Row → Bool
may_stand me r = is_low r.update && not (r.update.who == me)

-- the subject may be the zero cursor
abbrev pub may_be_zero : Kind → Bool
may_be_zero Join = true
may_be_zero Page = true
may_be_zero _ = false

-- the datagram has a text, and each update about oneself has the own number
unfoldable pub is_fit : ℕ → ℕ → Out → Bool
is_fit me n out = (may_be_zero out.datagram.kind || not (out.datagram.subject == 0))
    && list_all (may_say me n) out.datagram.updates.items

-- each of the numbers is n
abbrev pub AreAll : ℕ → List ℕ → Type 0
AreAll n [] = Unit {0}
AreAll n (m ∷ ms) = (m ≡ n) × AreAll n ms

-- the numbers of the updates about me in these datagrams
abbrev pub own_numbers_in : ℕ → List Out → List ℕ
own_numbers_in me [] = []
own_numbers_in me (out ∷ outs) = numbers_about me out.datagram ++ own_numbers_in me outs
