-- What of a story changes or explains something.
use Rattle.std.specs.Prelude.{ℕ, ◌==◌, Bool, true, false, not, List, [], ◌∷◌, if◌then◌else◌}
use Rattle.std.specs.Prelude.{◌||◌, Option, Some, None}
use Rattle.swim_rules.specs.declared.table.Heard.{Heard}
use Rattle.swim_rules.specs.declared.table.Heard.TheVariants.{Accepted}
use Rattle.swim_wire.specs.declared.update.UpdateKind.{UpdateKind}
use Rattle.swim_wire.specs.declared.update.UpdateKind.TheVariants.{Alive}
use Rattle.swim_explain.specs.declared.fact.Fact.{Fact}
use Rattle.swim_explain.specs.declared.fact.Fact.TheVariants as fact
use Rattle.swim_explain.specs.declared.fact.Happening.{Happening}
use Rattle.swim_explain.specs.declared.fact.Purpose.TheVariants as purpose

-- somebody answered the probe with this sequence
abbrev pub answered_as : ℕ → Fact → Bool
answered_as seq (fact.Answered by other) = other == seq
answered_as seq _ = false

abbrev pub answers_probe : ℕ → Happening → Bool
answers_probe seq h = answered_as seq h.fact

abbrev pub was_answered : ℕ → List Happening → Bool
was_answered seq [] = false
was_answered seq (h ∷ story) = if answers_probe seq h then true else was_answered seq story

-- it is this sequence
abbrev is_seq : ℕ → Option ℕ → Bool
is_seq seq None = false
is_seq seq (Some other) = other == seq

-- somebody answered it in the story, or it is the one that was answered later
abbrev pub has_answer : ℕ → List Happening → Option ℕ → Bool
has_answer seq story later = is_seq seq later || was_answered seq story

abbrev taken : Heard → Bool
taken Accepted = true
taken _ = false

abbrev is_alive : UpdateKind → Bool
is_alive Alive = true
is_alive _ = false

-- all but what a probe did that was answered, updates that were not taken,
-- datagrams that came, and what was held where the era began
abbrev pub is_news : List Happening → Option ℕ → Fact → Bool
is_news story later (fact.Began row) = false
is_news story later (fact.Came kind seq) = false
is_news story later (fact.Answered by seq) = false
is_news story later (fact.Told by u was became) = taken became
is_news story later (fact.ToldItself by u) = not (is_alive u.kind)
is_news story later (fact.Pinged purpose.Probe seq outcome) = not (has_answer seq story later)
is_news story later (fact.Asked helper seq outcome) = not (has_answer seq story later)
is_news story later _ = true

-- those of these happenings that are news in the story
abbrev pub news_in : List Happening → Option ℕ → List Happening → List Happening
news_in story later [] = []
news_in story later (h ∷ hs) =
    if is_news story later h.fact then h ∷ news_in story later hs else news_in story later hs
