-- Eight places, of which the first few are used.
use Rattle.std.specs.Prelude.{◌≡◌, ℕ, ◌-◌, ◌≤◌, List, ◌++◌, length, take, drop, replicate}
use Rattle.std.proofs.Common.{arith, sym, ◌∙◌, ap}
use Rattle.std.proofs.lemmas.List.{length-take-le, take-append-drop}
use Rattle.swim_state.specs.declared.peers.TheConstants.{PEERS_MAX}

-- the places that aren't used hold the least endpoint
pub record IsPadded (count : ℕ) (places : List ℕ) : Type 0 where
  pub few : count ≤ PEERS_MAX
  pub size : length places ≡ PEERS_MAX
  pub unused : drop count places ≡ replicate (PEERS_MAX - count) 1

-- eight places with these first
abbrev pub padded : List ℕ → List ℕ
padded peers = peers ++ replicate (PEERS_MAX - length peers) 1

-- the count and the places follow from the peers
pub count_back : (count : ℕ) (places : List ℕ) → IsPadded count places
    → length (take count places) ≡ count
count_back count places is = length-take-le count places (omega (arith, is.few, is.size))

pub places_back : (count : ℕ) (places : List ℕ) → IsPadded count places
    → padded (take count places) ≡ places
places_back count places is =
    ap (λ n. take count places ++ replicate (PEERS_MAX - n) 1) (count_back count places is)
    ∙ ap (λ (l : List ℕ). take count places ++ l) (sym is.unused)
    ∙ take-append-drop count places
