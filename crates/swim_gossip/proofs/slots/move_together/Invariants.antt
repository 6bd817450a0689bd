use Rattle.std.proofs.lemmas.List.Filters.{FiltersInPlace}
use Rattle.swim_gossip.proofs.slots.move_together.Given as goal

abbrev pub invariant-loop-place : goal.invariant-loop-place
invariant-loop-place l = FiltersInPlace (λ s. s.waits) l.initial.slots l.slots l.kept l.place
