use Rattle.std.proofs.Common.{◌≡◌, ◌++◌, take}
use Rattle.std.specs.Prelude.{flat_map}
use Rattle.swim_http.specs.Directory.{group_health}
use Rattle.swim_http.proofs.directory.write_all_health.Given as goal

-- what is said of the groups so far
abbrev pub invariant-loop-group : goal.invariant-loop-group
invariant-loop-group l = l.text.bytes.items ≡ l.initial.text.bytes.items ++ flat_map (group_health) (take l.group-index l.groups)
