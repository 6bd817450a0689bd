-- What a ticker draws.
use Rattle.std.specs.Prelude.{◌≡◌, ℕ, List, [], ◌∷◌, length}
use Rattle.rand_core.specs.Stream.{Stream}
use Rattle.rand_core.specs.Steps.{stream_of, steps_u32}
use Rattle.rand_chacha.specs.ChaCha.{ChaCha, next_word}
use Rattle.rand.specs.Shuffle.{shuffled}
use Rattle.swim_rules.specs.Deals.{deal_from}
use Rattle.swim_member.specs.declared.event.Event.{Event}
use Rattle.swim_member.specs.declared.event.Event.TheVariants.{Tick}
use Rattle.swim_shell.specs.declared.caller.Refusal.{Refusal}
use Rattle.swim_shell.specs.Calls.{CallerView, NewCalls, Refuses}

-- all that the generator answers from now on
abbrev pub answers : ChaCha → Stream
answers = stream_of (steps_u32 (next_word 10))

-- the next deal, which is a shuffle of the numbers in order, and what the generator then answers
abbrev pub next_deal : Stream → List ℕ × Stream
next_deal = shuffled (deal_from 0) 0

-- the generator gives these deals next, in order, and then answers as it does here
abbrev pub Draws : Stream → List (List ℕ) → Stream → Type 0
Draws old [] new = new ≡ old
Draws old (d ∷ ds) new = (d ≡ (next_deal old).0) × Draws (next_deal old).1 ds new

-- the events Tick with these deals
abbrev pub ticks_of : List (List ℕ) → List Event
ticks_of [] = []
ticks_of (d ∷ ds) = Tick d ∷ ticks_of ds

-- the calls of a ticker are Ticks with the deals that its generator draws, one a turn
pub record Ticking (old : ChaCha) (p : CallerView) (new : ChaCha) (q : CallerView) (turns : ℕ)
    : Type 0 where
  pub deals : List (List ℕ)
  pub draws : Draws (answers old) deals (answers new)
  pub each : length deals ≡ turns
  pub calls : NewCalls p q (ticks_of deals)

-- the last turn of a ticker: the Tick with the next deal was refused
pub record TicksInVain (limit : ℕ) (why : Refusal) (old : ChaCha) (p : CallerView) (new : ChaCha)
    (q : CallerView)
    : Type 0 where
  pub deal : List ℕ
  pub drawn : (deal, answers new) ≡ next_deal (answers old)
  pub refused : Refuses limit why p q (Tick deal)
