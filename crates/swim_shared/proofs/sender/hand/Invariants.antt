use Rattle.std.proofs.Common.{◌≡◌, ◌+◌, ◌≤◌, length}
use Rattle.rtrb.specs.Ring.{received, known_items}
use Rattle.swim_shared.specs.Outboxes.{ring_from, got, through, Handed}
use Rattle.swim_shared.proofs.sender.hand.Given as goal

-- so many came out of the ring, and each was handed to the link
abbrev pub invariant-loop-i : goal.invariant-loop-i
invariant-loop-i g l = (ring_from l.ring ≡ ring_from l.initial.ring)
    × (g.L.Link.name l.link ≡ g.L.Link.name l.initial.link)
    × Handed g.L.Link.tells g.L.Link.took g.L.Link.failures (got l.initial.ring) (got l.ring) l.initial.link l.link
    × (through l.ring ≡ through l.initial.ring)
    × (length (received l.ring) ≡ length (received l.initial.ring) + l.i)
    × (length (known_items l.ring) + l.i ≡ length (known_items l.initial.ring))
    × (l.lost ≤ l.i)
    × (g.L.Link.failures l.link ≡ g.L.Link.failures l.initial.link + l.lost)
