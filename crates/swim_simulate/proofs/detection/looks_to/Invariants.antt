use Rattle.std.proofs.Common.{◌≡◌, ◌+◌, ◌≤◌, drop}
use Rattle.swim_detect.specs.Finding.{looks_to}
use Rattle.swim_simulate.proofs.detection.looks_to.Given as goal

-- none so far is the one
abbrev pub invariant-loop-index : goal.invariant-loop-index
invariant-loop-index l =
    (looks_to l.most l.who (drop l.place l.listed) ≡ l.looks + looks_to l.most l.who (drop l.index l.listed))
    × (l.looks + l.place ≤ l.index)
