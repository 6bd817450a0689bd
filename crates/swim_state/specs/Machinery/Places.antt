-- Proofs that the parts of a version lie where a layout wants them, wherever its first part
-- begins: past the first block, within the file, and apart. A value of `Layout` has to carry them.
use Rattle.std.proofs.Common.{arith, inl, inr}
use Rattle.std.specs.Prelude.{ℕ, ◌+◌, ◌≤◌, Bool, List}
use Rattle.swim_state.specs.declared.layout.TheConstants.{BLOCK}
use Rattle.swim_state.specs.Layout.{Layout, Apart, other_slot, body_from, gate_from, size_from}
use Rattle.swim_state.specs.declared.layout.Saved.{Saved}
use Rattle.swim_state.specs.declared.layout.Slot.{Slot}
use Rattle.swim_state.specs.declared.layout.Slot.TheVariants.{A, B}

pub whole_block : (start : ℕ) → BLOCK ≤ start → BLOCK ≤ size_from start
whole_block start past = omega (arith, past)

pub body_past : (start : ℕ) → BLOCK ≤ start → (slot : Slot) → BLOCK ≤ body_from start slot
body_past start past A = past
body_past start past B = omega (arith, past)

pub gate_past : (start : ℕ) → BLOCK ≤ start → (slot : Slot) → BLOCK ≤ gate_from start slot
gate_past start past A = omega (arith, past)
gate_past start past B = omega (arith, past)

pub body_within : (start size : ℕ) → size ≤ BLOCK → (slot : Slot)
    → body_from start slot + size ≤ size_from start
body_within start size small A = omega (arith, small)
body_within start size small B = omega (arith, small)

pub gate_within : (start : ℕ) → (slot : Slot) → gate_from start slot + 1 ≤ size_from start
gate_within start A = omega arith
gate_within start B = omega arith

pub bodies_apart : (start size : ℕ) → size ≤ BLOCK → (slot : Slot)
    → Apart (body_from start slot) size (body_from start (other_slot slot)) size
bodies_apart start size small A = inr (omega (arith, small))
bodies_apart start size small B = inl (omega (arith, small))

pub gates_apart : (start : ℕ) → (slot : Slot)
    → Apart (gate_from start slot) 1 (gate_from start (other_slot slot)) 1
gates_apart start A = inr (omega arith)
gates_apart start B = inl (omega arith)

pub body_apart : (start size : ℕ) → size ≤ BLOCK → (slot beside : Slot)
    → Apart (body_from start slot) size (gate_from start beside) 1
body_apart start size small A A = inr (omega (arith, small))
body_apart start size small A B = inr (omega (arith, small))
body_apart start size small B A = inl (omega (arith, small))
body_apart start size small B B = inr (omega (arith, small))

pub gate_apart : (start size : ℕ) → size ≤ BLOCK → (slot beside : Slot)
    → Apart (gate_from start slot) 1 (body_from start beside) size
gate_apart start size small A A = inl (omega (arith, small))
gate_apart start size small A B = inr (omega (arith, small))
gate_apart start size small B A = inl (omega (arith, small))
gate_apart start size small B B = inl (omega (arith, small))

-- the version whose first part begins here, with bodies of this size, read like this
abbrev pub laid_out : (start size : ℕ) → (List ℕ → Bool) → (List ℕ → Saved) → BLOCK ≤ start
    → size ≤ BLOCK → Layout
laid_out start size is_good saved_in past small = record {
  body_at = body_from start;
  gate_at = gate_from start;
  body_size = size;
  file_size = size_from start;
  is_good = is_good;
  saved_in = saved_in;
  whole_block = whole_block start past;
  body_past = body_past start past;
  gate_past = gate_past start past;
  body_within = body_within start size small;
  gate_within = gate_within start;
  bodies_apart = bodies_apart start size small;
  gates_apart = gates_apart start;
  body_apart = body_apart start size small;
  gate_apart = gate_apart start size small;
}
