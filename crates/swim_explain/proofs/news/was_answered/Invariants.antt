use Rattle.std.proofs.Common.{◌≡◌, drop}
use Rattle.swim_explain.specs.News.{was_answered}
use Rattle.swim_explain.proofs.news.was_answered.Given as goal

-- nobody answered so far
abbrev pub invariant-loop-happening : goal.invariant-loop-happening
invariant-loop-happening l = was_answered l.seq (drop l.happening-index l.story) ≡ was_answered l.seq l.story
