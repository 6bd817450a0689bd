-- Which lines other heads than theirs do not begin.
use Rattle.std.proofs.Common.{◌≡◌, ℕ, [], ◌∷◌, sym, Option, Some, None}
use Rattle.swim_member.specs.declared.state.Phase.{Phase}
use Rattle.swim_member.specs.declared.state.Phase.TheVariants as phase
use Rattle.swim_record.specs.declared.argument.Argument.TheVariants.{Number}
use Rattle.swim_record.specs.declared.head.Head.{Head}
use Rattle.swim_record.specs.declared.head.Head.TheVariants as head
use Rattle.swim_record.specs.declared.line.Line.{Line}
use Rattle.swim_record.specs.declared.line.Line.TheVariants as line
use Rattle.swim_record.specs.declared.line.Start.{Start}
use Rattle.swim_record.specs.declared.line.Times.{Times}
use Rattle.swim_record.specs.Lines.{arguments_of, head_in, number_or_none, phase_head}

-- five or six numbers are not seven
five-seven : (a b c d e a' b' c' d' e' f' g' : ℕ) (past : Option ℕ) → Number a ∷ Number b ∷ Number c ∷ Number d ∷ Number e ∷ number_or_none past ≡ Number a' ∷ Number b' ∷ Number c' ∷ Number d' ∷ Number e' ∷ Number f' ∷ Number g' ∷ [] → ⊥
five-seven a b c d e a' b' c' d' e' f' g' None is = absurd (cc)
five-seven a b c d e a' b' c' d' e' f' g' (Some n) is = absurd (cc)

pub not_timed : (h : Head) (l : Line) (t : Times) → (h ≡ head.Times → ⊥) → head_in l ≡ h → arguments_of l ≡ arguments_of (line.Times t) → ⊥
not_timed h (line.Times times) t other begins is = other (sym begins)
not_timed h (line.Begin start) t other begins is = five-seven start.number start.time start.seq start.place start.granted t.period t.direct t.suspect t.forget t.helpers t.block t.limit start.past is
not_timed h _ t other begins is = absurd (cc)

-- the head of a beginning is that of a phase
by_phase : (h : Head) (p : Phase) → (h ≡ head.Running → ⊥) → (h ≡ head.Left → ⊥) → (h ≡ head.Expelled → ⊥) → phase_head p ≡ h → ⊥
by_phase h phase.Running running left expelled is = running (sym is)
by_phase h phase.Left running left expelled is = left (sym is)
by_phase h phase.Expelled running left expelled is = expelled (sym is)

pub not_begun : (h : Head) (l : Line) (s : Start) → (h ≡ head.Running → ⊥) → (h ≡ head.Left → ⊥) → (h ≡ head.Expelled → ⊥) → head_in l ≡ h → arguments_of l ≡ arguments_of (line.Begin s) → ⊥
not_begun h (line.Times t) s running left expelled begins is = five-seven s.number s.time s.seq s.place s.granted t.period t.direct t.suspect t.forget t.helpers t.block t.limit s.past (sym is)
not_begun h (line.Begin start) s running left expelled begins is = by_phase h start.phase running left expelled begins
not_begun h _ s running left expelled begins is = absurd (cc)
