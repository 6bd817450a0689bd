use Rattle.std.proofs.Common.{◌≡◌}
use Rattle.swim_web.proofs.peer.Peer.hear.Given as goal

-- what is heard changes no answer
abbrev pub invariant-loop : goal.invariant-loop
invariant-loop l = l.self.answer ≡ l.initial.self.answer
