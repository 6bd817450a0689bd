-- One entry, one era, one life more.
use Rattle.std.proofs.Common.{◌≡◌, ℕ, ◌<◌, List, [], ◌∷◌, ◌++◌, length, refl, sym, ap, ◌∙◌, arith}
use Rattle.std.specs.Prelude.{All}
use Rattle.std.proofs.lemmas.List.Elements.{All-append, All-cons, All-nil}
use Rattle.swim_disk.specs.Disk.{DiskState, IsSettled}
use Rattle.swim_state.specs.declared.owner.Owner.{Owner}
use Rattle.swim_state.specs.Held.{Held}
use Rattle.swim_node.specs.declared.entry.Entry.{Entry}
use Rattle.swim_node.specs.Lives.{Era, Life, IsLived, ceiling_of, Then, Crashed, Refused, Reached, Here, Next, AreLives}
use Rattle.swim_node.proofs.Lives.{held-reached}
use Rattle.swim_play.specs.Life.{PlayDisk, disk_state, IsMine, AreMine, IsOfOne, IsOnto, Spares, AreOnOneDisk}
use Rattle.swim_play.specs.Machinery.Session.{Leads}

-- ---- the calls of one caller

pub mine-happened : (entries : List Entry) (e : Entry) → All IsMine entries → IsMine e → All IsMine (entries ++ e ∷ [])
mine-happened entries e h mine = All-append IsMine entries (e ∷ []) h (All-cons IsMine e [] mine (All-nil IsMine))

pub mine-rebased : (eras : List Era) (era : Era) → All AreMine eras → AreMine era → All AreMine (eras ++ era ∷ [])
mine-rebased eras era h mine = All-append AreMine eras (era ∷ []) h (All-cons AreMine era [] mine (All-nil AreMine))

-- ---- lives one after another

lives-snoc : {D : Type 0} (state : D → DiskState) (owner : Owner) (lives : List (Life D)) (life : Life D) → AreLives state owner lives → IsOnto state owner lives life.opened → IsLived state owner life → AreLives state owner (lives ++ life ∷ [])
lives-snoc state owner [] life h onto lived = (lived, tt {0}, tt {0})
lives-snoc state owner (first ∷ []) life h onto lived = (h.0, onto, (lived, tt {0}, tt {0}))
lives-snoc state owner (first ∷ next ∷ lives) life h onto lived = (h.0, h.1, lives-snoc state owner (next ∷ lives) life h.2 onto lived)

onto-snoc : {D : Type 0} (state : D → DiskState) (owner : Owner) (lives : List (Life D)) (life : Life D) → IsOnto state owner (lives ++ life ∷ []) life.left
onto-snoc state owner [] life = Here life.left
onto-snoc state owner (first ∷ []) life = Here life.left
onto-snoc state owner (first ∷ next ∷ lives) life = onto-snoc state owner (next ∷ lives) life

reached-then : (D : Type 0) (state : D → DiskState) (owner : Owner) (b : ℕ) (d e f : D) → Reached D state owner b d e → Then D state owner b e f → Reached D state owner b d f
reached-then D state owner b d _ f (Here _) step = Next d f f step (Here f)
reached-then D state owner b d e f (Next _ x _ first rest) step = Next d x f first (reached-then D state owner b x e f rest step)

-- what may become of the disk, whatever it is held to, may become of it after these lives
onto-then : {D : Type 0} (state : D → DiskState) (owner : Owner) (lives : List (Life D)) (d e : D) → AreLives state owner lives → IsOnto state owner lives d → ((b : ℕ) → Held owner (state d) b → Then D state owner b d e) → IsOnto state owner lives e
onto-then state owner [] d e h onto may = tt {0}
onto-then {D} state owner (life ∷ []) d e h onto may =
    reached-then D state owner (ceiling_of life) life.left d e onto (may (ceiling_of life) (held-reached D state owner (ceiling_of life) life.left d onto (IsLived.held h.0)))
onto-then state owner (first ∷ next ∷ lives) d e h onto may = onto-then state owner (next ∷ lives) d e h.2 onto may

-- after a life something is held
onto-held : {D : Type 0} (state : D → DiskState) (owner : Owner) (life : Life D) (lives : List (Life D)) (d : D) → AreLives state owner (life ∷ lives) → IsOnto state owner (life ∷ lives) d → (b : ℕ) × Held owner (state d) b
onto-held {D} state owner life [] d h onto = (ceiling_of life, held-reached D state owner (ceiling_of life) life.left d onto (IsLived.held h.0))
onto-held state owner life (next ∷ lives) d h onto = onto-held state owner next lives d h.2 onto

pub leads-held : (owner : Owner) (lives : List (Life PlayDisk)) (d : PlayDisk) → Leads owner lives d → 0 < length lives → (b : ℕ) × Held owner (disk_state d) b
leads-held owner [] d h some = absurd (omega (arith, some))
leads-held owner (life ∷ lives) d h some = onto-held disk_state owner life lives d h.lives_are h.onto

module _ (owner : Owner) (lives : List (Life PlayDisk)) where
  pub leads-none : (d : PlayDisk) → lives ≡ [] → Leads owner lives d
  leads-none d none = rw none (record { lives_are = tt {0}; mine = All-nil IsOfOne; onto = tt {0} })

  pub leads-spared : (d e : PlayDisk) → Leads owner lives d → Spares owner d e → Leads owner lives e
  leads-spared d e h spared = record {
    lives_are = h.lives_are;
    mine = h.mine;
    onto = onto-then disk_state owner lives d e h.lives_are h.onto (λ b held. Refused d e (spared b held));
  }

  pub leads-crashed : (d e : PlayDisk) → Leads owner lives d → (disk_state d).images (disk_state e).content → IsSettled (disk_state e) → Leads owner lives e
  leads-crashed d e h image settled = record {
    lives_are = h.lives_are;
    mine = h.mine;
    onto = onto-then disk_state owner lives d e h.lives_are h.onto (λ b held. Crashed d e image settled);
  }

  pub leads-ended : (life : Life PlayDisk) → Leads owner lives life.opened → IsLived disk_state owner life → IsOfOne life → Leads owner (lives ++ life ∷ []) life.left
  leads-ended life h lived mine = record {
    lives_are = lives-snoc disk_state owner lives life h.lives_are h.onto lived;
    mine = All-append IsOfOne lives (life ∷ []) h.mine (All-cons IsOfOne life [] mine (All-nil IsOfOne));
    onto = onto-snoc disk_state owner lives life;
  }

  pub on_one_disk : (d : PlayDisk) → Leads owner lives d → AreOnOneDisk lives
  on_one_disk d h = record { owner = owner; lives_are = h.lives_are; mine = h.mine }

-- ---- the last of a list

split-last : {A : Type 0} (xs : List A) → 0 < length xs → (before : List A) × (x : A) × (xs ≡ before ++ x ∷ [])
split-last [] more = absurd (omega (arith, more))
split-last (x ∷ []) more = ([], x, refl)
split-last (x ∷ y ∷ xs) more = let rest = split-last (y ∷ xs) (omega arith) in (x ∷ rest.0, rest.1, ap (λ (l : List _). x ∷ l) rest.2)

pub ends-with : {A : Type 0} (xs : List A) (y : A) → 0 < length xs → ((before : List A) → (x : A) → xs ≡ before ++ x ∷ [] → y ≡ x) → (before : List A) × (xs ≡ before ++ y ∷ [])
ends-with xs y more same =
    let parts = split-last xs more in
    (parts.0, parts.2 ∙ ap (λ (x : _). parts.0 ++ x ∷ []) (sym (same parts.0 parts.1 parts.2)))
