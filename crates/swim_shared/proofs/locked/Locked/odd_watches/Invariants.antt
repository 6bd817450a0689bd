use Rattle.std.proofs.Common.{◌≡◌, ◌≤◌, take}
use Rattle.swim_shared.specs.Odd.{odd_watches, Each, WatchBegins}
use Rattle.swim_shared.proofs.locked.Locked.odd_watches.Given as goal

abbrev pub invariant-loop-watch : goal.invariant-loop-watch
invariant-loop-watch g l = (l.odd ≤ l.watch-index) × (l.odd ≡ odd_watches l.self.journal (take l.watch-index l.watches)) × Each (WatchBegins l.self.journal) (take l.watch-index l.watches)
