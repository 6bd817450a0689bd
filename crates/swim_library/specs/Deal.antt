-- The places of a deal, and the tick whose deal is read by nobody.
use Rattle.std.specs.Prelude.{ℕ, ◌+◌, ◌*◌, ◌/◌}
use Rattle.swim_member.specs.declared.event.Event.{Event}
use Rattle.swim_member.specs.declared.event.Event.TheVariants.{Tick}
use Rattle.swim_rules.specs.Deals.{deal_from}

-- one of the places up to this one, which stands among them as a word's upper half among all halves
abbrev pub place_by : ℕ → ℕ → ℕ
place_by word place = word / 4294967296 * (place + 1) / 4294967296

-- the tick that ends no period: it deals 0 to 255 in order
abbrev pub undealt_tick : Event
undealt_tick = Tick (deal_from 0)
