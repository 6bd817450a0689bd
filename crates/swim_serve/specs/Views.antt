-- What contracts see of where datagrams go.
use Rattle.std.specs.Prelude.{ℕ, List}
use Rattle.swim_shared.specs.Outboxes.{SenderView}

-- what a contract sees of a link: what it took, destination and bytes, in order, and how much it
-- refused, as far as it tells
pub record LinkView : Type 0 where
  pub took : List (ℕ × List ℕ)
  pub lost : ℕ

-- the same of these parts
abbrev pub link_of : List (ℕ × List ℕ) → ℕ → LinkView
link_of took lost = record { took = took; lost = lost }

-- what a contract sees of a ring and the link that it goes to: how often it was handed on
pub record RingView : Type 0 where
  pub turns : ℕ
  pub ring : SenderView
  pub link : LinkView
