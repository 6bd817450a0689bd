use Rattle.std.proofs.Common.{◌≡◌, ◌++◌, drop}
use Rattle.swim_explain.specs.News.{news_in}
use Rattle.swim_explain.proofs.news.news_of.Given as goal

-- the news so far, and that of what is left
abbrev pub invariant-loop-happening : goal.invariant-loop-happening
invariant-loop-happening l = l.told.items ++ news_in l.story l.later (drop l.happening-index l.story) ≡ news_in l.story l.later l.story
