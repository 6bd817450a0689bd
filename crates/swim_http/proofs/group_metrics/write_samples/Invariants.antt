use Rattle.std.proofs.Common.{◌≡◌, ◌++◌, take}
use Rattle.std.specs.Prelude.{flat_map}
use Rattle.swim_http.specs.Groups.{family_sample}
use Rattle.swim_http.proofs.group_metrics.write_samples.Given as goal

-- what is said of the groups so far
abbrev pub invariant-loop-group : goal.invariant-loop-group
invariant-loop-group l = l.text.bytes.items ≡ l.initial.text.bytes.items ++ flat_map (family_sample l.family) (take l.group-index l.groups)
