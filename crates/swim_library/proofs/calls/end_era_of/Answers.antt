use Rattle.std.proofs.Common.{inl, inr, refl}
use Rattle.swim_library.proofs.calls.end_era_of.Goals as goal
use Rattle.swim_library.proofs.calls.end_era_of.Goals.{else-len-limit, then-len-limit}

pub returns-clause-era : goal.returns-clause-era
returns-clause-era c = elim c.if-len-limit.branch [
  | then-len-limit w ↦ rw w.node-is (inr (w.rebase.ensures.base, w.rebase.ensures.entries, w.rebase.ensures.living))
  | else-len-limit w ↦ rw w.node-is (inl (refl, refl, λ settings limit opened eras lives. lives))
]

pub returns-clause-ends : goal.returns-clause-ends
returns-clause-ends c = c.life_may_end.ensures tt
