use Rattle.std.proofs.Common.{◌≡◌, ◌≤◌, take}
use Rattle.swim_shared.specs.Odd.{odd_passes, Each, Begins}
use Rattle.swim_shared.proofs.locked.Locked.odd_passes.Given as goal

abbrev pub invariant-loop-pass : goal.invariant-loop-pass
invariant-loop-pass g l = (l.odd ≤ l.pass-index) × (l.odd ≡ odd_passes l.self.journal (take l.pass-index l.passes)) × Each (Begins l.self.journal) (take l.pass-index l.passes)
