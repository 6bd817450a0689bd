use Rattle.std.proofs.Common.{◌∙◌, ◌≡◌, ◌+◌, ◌++◌, length, map, ap, sym, subst, List, ℕ}
use Rattle.std.proofs.lemmas.List.{map-append}
use Rattle.rtrb.specs.Ring.{received, known_items}
use Rattle.swim_shared.specs.Taken.{taken_of}
use Rattle.swim_shared.specs.Outboxes.{destination_and_bytes, got, Handed}
use Rattle.swim_shared.proofs.Handing.{all_handed}
use Rattle.swim_shared.proofs.close_sent.Shared+N+D+Outbox+R.close_sent.Goals as goal

pub returns-clause-begins : goal.returns-clause-begins
returns-clause-begins g c =
    let look = c.slots_beside-count in
    let r = received look.new.self in
    let rest = map destination_and_bytes (known_items look.new.self) in
    let journal = c.close-closed.result.node.entries in
    let took = c.into_producer-producer.ensures.put ∙ c.close-closed.ensures.took tt ∙ ap (λ (l : List (ℕ × List ℕ)). l ++ taken_of journal) c.requires.start in
    (rest, ap (λ (l : List (ℕ × List ℕ)). l ++ rest) (sym (ap (map destination_and_bytes) look.ensures.looked.1 ∙ c.into_consumer-consumer.ensures.got)) ∙ sym (map-append destination_and_bytes r (known_items look.new.self)) ∙ ap (map destination_and_bytes) (look.ensures.fifo ∙ look.ensures.producer.1) ∙ took)

pub returns-clause-handed : goal.returns-clause-handed
returns-clause-handed g c =
    let look = c.slots_beside-count in
    let hand = c.hand-lost in
    let r = received look.new.self in
    let journal = c.close-closed.result.node.entries in
    let out = all_handed r (known_items look.new.self) (received hand.new.ring) (known_items hand.new.ring) hand.ensures.items (hand.ensures.count ∙ ap (λ n. length r + n) look.ensures.value) in
    let took = c.into_producer-producer.ensures.put ∙ c.close-closed.ensures.took tt ∙ ap (λ (l : List (ℕ × List ℕ)). l ++ taken_of journal) c.requires.start in
    let all : got hand.new.ring ≡ taken_of journal = ap (map destination_and_bytes) (out ∙ look.ensures.fifo ∙ look.ensures.producer.1) ∙ took in
    let Z : List (ℕ × List ℕ) → List (ℕ × List ℕ) → Type 0 = λ l m. Handed g.M.Link.tells g.M.Link.took g.M.Link.failures l m c.args.link.now hand.new.link in
    subst (λ (m : List (ℕ × List ℕ)). Z c.args.sender.got m) all (subst (λ (l : List (ℕ × List ℕ)). Z l (got hand.new.ring)) (ap (map destination_and_bytes) look.ensures.looked.1 ∙ c.into_consumer-consumer.ensures.got) hand.ensures.handed)
