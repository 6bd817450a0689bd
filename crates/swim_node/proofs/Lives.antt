-- What is held stays so between two openings, and so numbers rise over lives.
use Rattle.std.proofs.Common.{ℕ, ◌+◌, ◌<◌, ◌≤◌, List, [], ◌∷◌, ◌++◌, Option, Some, None, max, sym, subst, arith, inl, inr}
use Rattle.std.specs.Option.{option_to_list}
use Rattle.swim_disk.specs.Disk.{DiskState, IsSettled}
use Rattle.swim_state.specs.declared.owner.Owner.{Owner}
use Rattle.swim_state.specs.Held.{Held, Through, Covers}
use Rattle.swim_node.specs.History.{Base}
use Rattle.swim_node.specs.Owns.{owns, owns_in, AreAtMost, AreAtLeast, greatest_with, greater_of}
use Rattle.swim_node.specs.Node.{next_base}
use Rattle.swim_node.specs.Lives.{Era, Life, AreJoined, numbers_in, numbers_of, ceiling_of, IsLived, Then, Killed, Crashed, Cut, Refused, Reached, Here, Next, AreLives, BeginsAbove, AreBelow, AreBelowAll, AreRising}
use Rattle.swim_node.proofs.Lists.{at_most-append}

-- Disks

held-cut : (owner : Owner) (b : ℕ) (d f : DiskState) (c : List ℕ) → Held owner d b → Through (Covers owner b) d f → f.since d.clock c → Covers owner b c
held-cut owner b d f c h t left = elim (t.each d.clock c (omega arith) left) [ inl old ↦ h c (d.only_now c old) | inr covers ↦ covers ]

held-through : (owner : Owner) (b : ℕ) (d e : DiskState) → Held owner d b → Through (Covers owner b) d e → Held owner e b
held-through owner b d e h t c image = held-cut owner b d e c h t (e.now d.clock c t.later image)

held-settled : (owner : Owner) (b : ℕ) (e : DiskState) → IsSettled e → Covers owner b e.content → Held owner e b
held-settled owner b e settled covers c image = subst (λ (x : List ℕ). Covers owner b x) (sym (settled c image)) covers

held-then : (D : Type 0) (state : D → DiskState) (owner : Owner) (b : ℕ) (d e : D) → Then D state owner b d e → Held owner (state d) b → Held owner (state e) b
held-then D state owner b d _ (Killed _) h = h
held-then D state owner b d e (Crashed _ _ left settled) h = held-settled owner b (state e) settled (h (state e).content left)
held-then D state owner b d e (Cut _ f _ through left settled) h = held-settled owner b (state e) settled (held-cut owner b (state d) (state f) (state e).content h through left)
held-then D state owner b d e (Refused _ _ through) h = held-through owner b (state d) (state e) h through

-- what a life left, and what became of it, is held to the life's ceiling
pub held-reached : (D : Type 0) (state : D → DiskState) (owner : Owner) (b : ℕ) (d e : D) → Reached D state owner b d e → Held owner (state d) b → Held owner (state e) b
held-reached D state owner b d _ (Here _) h = h
held-reached D state owner b d f (Next _ e _ step rest) h = held-reached D state owner b e f rest (held-then D state owner b d e step h)

-- Numbers

most-parts : (g : ℕ) (xs ys : List ℕ) → AreAtMost g (xs ++ ys) → AreAtMost g xs × AreAtMost g ys
most-parts g [] ys h = (tt {0}, h)
most-parts g (x ∷ xs) ys h = let rest = most-parts g xs ys h.1 in ((h.0, rest.0), rest.1)

more-parts : (g : ℕ) (o : Option ℕ) (n : ℕ) → AreAtMost g (option_to_list (greater_of o n)) → AreAtMost g (option_to_list o) × (n ≤ g)
more-parts g None n h = (tt {0}, h.0)
more-parts g (Some m) n h = let most : max n m ≤ g = h.0 in ((omega arith, tt {0}), omega arith)

-- what bounds the greatest number bounds all
greatest-parts : (g : ℕ) (o : Option ℕ) (ns : List ℕ) → AreAtMost g (option_to_list (greatest_with o ns)) → AreAtMost g (option_to_list o) × AreAtMost g ns
greatest-parts g o [] h = (h, tt {0})
greatest-parts g o (n ∷ ns) h =
    let rest = greatest-parts g (greater_of o n) ns h in
    let first = more-parts g o n rest.0 in
    (first.0, (first.1, rest.1))

-- what bounds the greatest number of earlier eras bounds the numbers of each
eras-most : (g : ℕ) (start : Base) (eras : List Era) (base : Base) → AreJoined start eras base → AreAtMost g (option_to_list base.past) → AreAtMost g (option_to_list start.past) × AreAtMost g (numbers_in eras)
eras-most g start [] base joined h = (subst (λ (b : Base). AreAtMost g (option_to_list b.past)) joined.same h, tt {0})
eras-most g start (era ∷ eras) base joined h =
    let later = eras-most g (next_base era.base era.entries) eras base joined.2 h in
    let all = greatest-parts g None (owns era.base era.entries) later.0 in
    let parts = most-parts g (option_to_list era.base.past) (owns_in era.base.state.settings.me era.entries) all.1 in (
      subst (λ (b : Base). AreAtMost g (option_to_list b.past)) joined.0.same parts.0,
      at_most-append g (owns_in era.base.state.settings.me era.entries) (numbers_in eras) parts.1 later.1,
    )

life-most : {D : Type 0} (state : D → DiskState) (owner : Owner) (life : Life D) → IsLived state owner life → AreAtMost (ceiling_of life) (numbers_of life)
life-most state owner life h =
    let parts = most-parts (ceiling_of life) (option_to_list life.base.past) (owns_in life.base.state.settings.me life.entries) h.covers in
    at_most-append (ceiling_of life) (numbers_in life.eras) (owns_in life.base.state.settings.me life.entries) (eras-most (ceiling_of life) _ life.eras life.base h.joined parts.0).1 parts.1

least-more : (f k : ℕ) (ns : List ℕ) → k ≤ f → AreAtLeast f ns → AreAtLeast k ns
least-more f k [] le h = tt {0}
least-more f k (n ∷ ns) le h = let low = h.0 in (omega arith, least-more f k ns le h.1)

below-bound : (g f : ℕ) (ms ns : List ℕ) → g < f → AreAtMost g ms → AreAtLeast f ns → AreBelow ms ns
below-bound g f [] ns lt h k = tt {0}
below-bound g f (m ∷ ms) ns lt h k = let low = h.0 in (least-more f (m + 1) ns (omega arith) k, below-bound g f ms ns lt h.1 k)

-- Lives

-- each of these lives began above g
abbrev FirstsAbove : {D : Type 0} → ℕ → List (Life D) → Type 0
FirstsAbove g [] = Unit {0}
FirstsAbove g (life ∷ lives) = (g < life.first) × FirstsAbove g lives

firsts-more : {D : Type 0} (g h : ℕ) (lives : List (Life D)) → g ≤ h → FirstsAbove h lives → FirstsAbove g lives
firsts-more g h [] le k = tt {0}
firsts-more g h (life ∷ lives) le k = let low = k.0 in (omega arith, firsts-more g h lives le k.1)

firsts : {D : Type 0} (state : D → DiskState) (owner : Owner) (life : Life D) (lives : List (Life D)) → AreLives state owner (life ∷ lives) → FirstsAbove (ceiling_of life) lives
firsts state owner life [] h = tt {0}
firsts {D} state owner life (next ∷ lives) h =
    let later : IsLived state owner next = h.2.0 in
    let above : ceiling_of life < next.first = later.above (ceiling_of life) (held-reached D state owner (ceiling_of life) life.left next.opened h.1 (IsLived.held h.0)) in
    let started : next.first ≤ ceiling_of next = later.started in
    (above, firsts-more (ceiling_of life) (ceiling_of next) lives (omega arith) (firsts state owner next lives h.2))

below-all : {D : Type 0} (state : D → DiskState) (owner : Owner) (g : ℕ) (ms : List ℕ) (lives : List (Life D)) → AreAtMost g ms → FirstsAbove g lives → AreLives state owner lives → AreBelowAll ms lives
below-all state owner g ms [] most above h = tt {0}
below-all state owner g ms (life ∷ lives) most above h =
    (below-bound g life.first ms (numbers_of life) above.0 most (IsLived.begun h.0), below-all state owner g ms lives most above.1 h.2)

-- own numbers rise over lives
pub lives-rise : {D : Type 0} (state : D → DiskState) (owner : Owner) (lives : List (Life D)) → AreLives state owner lives → AreRising lives
lives-rise state owner [] h = tt {0}
lives-rise state owner (life ∷ lives) h =
    (below-all state owner (ceiling_of life) (numbers_of life) lives (life-most state owner life h.0) (firsts state owner life lives h) h.2, lives-rise state owner lives h.2)

-- an opening that goes above what the disk holds goes above all that the last life said
pub begins_above : {D : Type 0} (state : D → DiskState) (owner : Owner) (opened : D) (first : ℕ) → ((b : ℕ) → Held owner (state opened) b → b < first)
    → BeginsAbove state owner opened first
begins_above {D} state owner opened first above = λ last lived reached.
    let g = ceiling_of last in
    below-bound g first (numbers_of last) (first ∷ []) (above g (held-reached D state owner g last.left opened reached lived.held))
    (life-most state owner last lived) (omega arith, tt {0})
