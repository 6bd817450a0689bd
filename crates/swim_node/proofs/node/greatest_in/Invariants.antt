use Rattle.std.proofs.Common.{◌≡◌, ◌==◌, drop, map}
use Rattle.std.specs.List.{filter}
use Rattle.swim_node.specs.Owns.{greatest_with}
use Rattle.swim_node.proofs.node.greatest_in.Given as goal

-- the greatest so far, and of what is left
abbrev pub invariant-loop-update : goal.invariant-loop-update
invariant-loop-update l = greatest_with l.greatest (map (λ u. u.number) (filter (λ u. u.who == l.me) (drop l.update-index l.updates))) ≡ greatest_with l.fn.most (map (λ u. u.number) (filter (λ u. u.who == l.me) l.updates))
