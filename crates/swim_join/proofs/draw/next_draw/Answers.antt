use Rattle.std.proofs.Common.{ℕ, ap}
use Rattle.rand_chacha.specs.ChaCha.{ChaCha}
use Rattle.swim_join.specs.Joins.{next_draw}
use Rattle.swim_join.proofs.draw.next_draw.Goals as goal

pub returns-clause-word : goal.returns-clause-word
unfolding next_draw
returns-clause-word c = ap (λ (w : ℕ × ChaCha). w.0) c.next_word.ensures

pub returns-clause-then : goal.returns-clause-then
unfolding next_draw
returns-clause-then c = ap (λ (w : ℕ × ChaCha). w.1) c.next_word.ensures
