use Rattle.std.proofs.Common.{◌≡◌, ◌≤◌, length, take}
use Rattle.std.specs.List.{filter}
use Rattle.swim_settings.specs.Reloads.{needs_restart}
use Rattle.swim_settings.proofs.reload.restart_among.Given as goal

abbrev pub invariant-loop-key : goal.invariant-loop-key
invariant-loop-key l =
    (l.keys.items ≡ filter (needs_restart l.now l.then) (take l.key-index l.all))
    × (length l.keys.items ≤ l.key-index)
