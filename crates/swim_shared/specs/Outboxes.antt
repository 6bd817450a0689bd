-- Rings as links, and what a link was handed from one.
use Rattle.std.specs.Prelude.{◌≡◌, ℕ, ◌+◌, ◌-◌, ◌^◌, min}
use Rattle.std.specs.Prelude.{List, ◌++◌, map}
use Rattle.rtrb.specs.Ring.{sent, received, known_items}
use Rattle.rtrb.specs.declared.producer.Producer.{Producer}
use Rattle.rtrb.specs.declared.consumer.Consumer.{Consumer}
use Rattle.swim_node.specs.Link.{LinkId, Fate, all_of, kept_of, lost_of}
use Rattle.swim_shared.specs.declared.packet.Packet.{Packet}

module _ {T A P : Type 0} where
  -- which ring the producer has
  abbrev pub ring_of : Producer T A P → LinkId
  ring_of p = record { words = p.end.words; slots = p.end.slots; names = p.end.names }

  -- which ring the consumer has
  abbrev pub ring_from : Consumer T A P → LinkId
  ring_from c = record { words = c.end.words; slots = c.end.slots; names = c.end.names }

-- what a contract sees of an outbox
pub record OutboxView : Type 0 where
  pub ring : LinkId  -- which ring it fills
  pub put : List (ℕ × List ℕ)  -- what it put in, in order
  pub failures : ℕ  -- how many it refused

-- what a contract sees of a sender
pub record SenderView : Type 0 where
  pub ring : LinkId  -- which ring it empties
  pub got : List (ℕ × List ℕ)  -- what it took out, in order
  pub owed : ℕ  -- how many losses were not told yet

-- destination and text of a datagram on its way
abbrev pub destination_and_bytes : Packet → ℕ × List ℕ
destination_and_bytes p = (p.to, p.bytes.items)

module _ {A P : Type 0} where
  -- destination and text of all that was put into the ring, in order
  abbrev pub put : Producer Packet A P → List (ℕ × List ℕ)
  put p = map destination_and_bytes (sent p)

  -- what was taken out of the ring, and what is known to be in it still
  abbrev pub through : Consumer Packet A P → List Packet
  through c = received c ++ known_items c

  -- destination and text of all that was taken out of the ring, in order
  abbrev pub got : Consumer Packet A P → List (ℕ × List ℕ)
  got c = map destination_and_bytes (received c)

-- a link tells what it took and how many it refused
module _ {L : Type 0} (tells : Type 0) (took : L → List (ℕ × List ℕ)) (failures : L → ℕ) where
  -- what came out of the ring was handed to the link in order; of it the link took all but as many
  -- as it refused
  pub record Handed (out out' : List (ℕ × List ℕ)) (old new : L) : Type 0 where
    pub fates : List Fate
    pub out_is : out' ≡ out ++ all_of fates
    pub took_is : tells → took new ≡ took old ++ kept_of fates
    pub failures_is : failures new ≡ failures old + lost_of fates

-- what is owed after the failures that the link told in between, at most 2^32 - 1
abbrev pub owed_after : ℕ → ℕ → ℕ → ℕ
owed_after owed before after = min (owed + (after - before)) (2 ^ 32 - 1)
