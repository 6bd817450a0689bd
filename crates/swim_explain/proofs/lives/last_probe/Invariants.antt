use Rattle.std.proofs.Common.{◌≡◌, drop}
use Rattle.std.specs.Option.{option_or}
use Rattle.swim_explain.specs.Lives.{last_probe}
use Rattle.swim_explain.proofs.lives.last_probe.Given as goal

-- the last probe so far, unless one is left
abbrev pub invariant-loop-happening : goal.invariant-loop-happening
invariant-loop-happening l = option_or (last_probe (drop l.happening-index l.story)) l.last ≡ last_probe l.story
