-- Datagrams after one of them is lost, and the last has its place.
use Rattle.std.proofs.Common.{◌≡◌, ℕ, ◌-◌, length, slice_index_or, subst, sym, append-nil, List, [], ◌∷◌, zero, suc, Some, slice_get, slice_set}
use Rattle.std.specs.List.{AllByRecursion, swap_remove}
use Rattle.swim_wire.specs.Spelling.{HasText}
use Rattle.swim_member.specs.declared.answer.Out.{Out}
use Rattle.swim_group.specs.Network.{WasSent}
use Rattle.swim_group.specs.Nodes.{after_node_moves}
use Rattle.swim_group.specs.declared.seat.Seat.{Seat}
use Rattle.swim_group.specs.RealNodes.{HasNodeRun}
use Rattle.swim_detect.proofs.Lists.{all-take}
use Rattle.swim_group.proofs.Seating.{GoesOn}

all-get : {X : Type 0} (Q : X → Type 0) (xs : List X) (i : ℕ) (x : X) → slice_get xs i ≡ Some x → AllByRecursion Q xs → Q x
all-get Q [] i x e a = absurd (cc)
all-get Q (y ∷ xs) zero x e a = let same : y ≡ x = cc in subst Q same a.0
all-get Q (y ∷ xs) (suc i) x e a = all-get Q xs i x e a.1

all-index : {X : Type 0} (Q : X → Type 0) (xs : List X) (i : ℕ) (d : X) → Q d → AllByRecursion Q xs → Q (slice_index_or xs i d)
all-index Q [] i d q a = q
all-index Q (y ∷ xs) zero d q a = a.0
all-index Q (y ∷ xs) (suc i) d q a = all-index Q xs i d q a.1

all-set : {X : Type 0} (Q : X → Type 0) (xs : List X) (i : ℕ) (x : X) → Q x → AllByRecursion Q xs → AllByRecursion Q (slice_set xs i x)
all-set Q [] i x q a = a
all-set Q (y ∷ xs) zero x q a = (q, a.1)
all-set Q (y ∷ xs) (suc i) x q a = (a.0, all-set Q xs i x q a.1)

-- what holds of all holds of all that are left
all-left : {X : Type 0} (Q : X → Type 0) (xs : List X) (i : ℕ) (x : X) → slice_get xs i ≡ Some x → AllByRecursion Q xs → AllByRecursion Q (swap_remove xs i x)
all-left Q xs i x e a =
    let last : Q (slice_index_or xs (length xs - 1) x) = all-index Q xs (length xs - 1) x (all-get Q xs i x e a) a in
    all-take Q (length xs - 1) (slice_set xs i (slice_index_or xs (length xs - 1) x)) (all-set Q xs i (slice_index_or xs (length xs - 1) x) last a)

-- the run is the same
pub left-run : (seats : List Seat) (kept : List Out) (i : ℕ) (out : Out) → slice_get kept i ≡ Some out → (h : HasNodeRun seats kept) → GoesOn seats kept h seats (swap_remove kept i out) []
left-run seats kept i out e h = record {
  next = record {
    group = h.group;
    moves = h.moves;
    begins = h.begins;
    run = h.run;
    lives = h.lives;
    sent = all-left (λ (o : Out). WasSent (after_node_moves h.group h.moves).sent o.datagram) kept i out e h.sent;
    fit = all-left (λ (o : Out). HasText o.datagram) kept i out e h.fit;
  };
  sent = sym (append-nil (after_node_moves h.group h.moves).sent);
}
