use Rattle.std.proofs.Common.{◌≡◌, ◌++◌, take}
use Rattle.swim_shell.specs.Counters.{lines_from}
use Rattle.swim_http.specs.Metrics.{counter_metric}
use Rattle.swim_http.proofs.counted.write_calls.Given as goal

-- the metrics so far
abbrev pub invariant-loop-place : goal.invariant-loop-place
invariant-loop-place l = l.text.bytes.items ≡ l.initial.text.bytes.items ++ lines_from (counter_metric l.group) 0 (take l.place l.counts)
