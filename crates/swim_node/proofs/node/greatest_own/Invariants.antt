use Rattle.std.proofs.Common.{◌≡◌, drop}
use Rattle.swim_member.specs.Fit.{own_numbers_in}
use Rattle.swim_node.specs.Owns.{greatest_with}
use Rattle.swim_node.proofs.node.greatest_own.Given as goal

-- the greatest so far, and of what is left
abbrev pub invariant-loop-out : goal.invariant-loop-out
invariant-loop-out l = greatest_with l.greatest (own_numbers_in l.me (drop l.out-index l.outs)) ≡ greatest_with l.fn.most (own_numbers_in l.me l.outs)
