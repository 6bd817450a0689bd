-- What a crash leaves, from one call of an era to the next.
use Rattle.std.proofs.Common.{◌≡◌, ◌∙◌, ℕ, ◌≤◌, List, [], ◌∷◌, ◌++◌, ⊎_elim, inl, sym, subst, refl, append_assoc, arith}
use Rattle.std.proofs.lemmas.List.{append-nil}
use Rattle.swim_disk.specs.Disk.{DiskState}
use Rattle.swim_state.specs.declared.owner.Owner.{Owner}
use Rattle.swim_state.specs.Held.{Covers, Held, Through}
use Rattle.swim_node.specs.declared.entry.Entry.{Entry}
use Rattle.swim_node.specs.History.{Base, granted_of}
use Rattle.swim_node.specs.Node.{NodeView}
use Rattle.swim_node.specs.Owns.{owns, AreAtMost}
use Rattle.swim_shared.specs.Moments.{CoversEach, CoversEra, CoversSince}

-- a disk that nothing was done to
pub unmoved : (P : List ℕ → Type 0) (disk : DiskState) → Through P disk disk
unmoved P disk = record { later = omega arith; each = λ t image le left. inl left }

module _ (owner : Owner) (base : Base) where
  -- what is held now is held since now
  now : (disk : DiskState) (entries : List Entry) → Held owner disk (granted_of base entries) → AreAtMost (granted_of base entries) (owns base entries) → CoversSince disk owner base disk.clock entries
  now disk entries held sent = record { held = λ image left. held image (disk.only_now image left); sent = sent }

  begun : (disk : DiskState) (entries : List Entry) → Held owner disk (granted_of base entries) → AreAtMost (granted_of base entries) (owns base entries) → CoversEach disk owner base disk.clock entries []
  begun disk entries held sent = (omega arith, now disk entries held sent)

  -- an era of which nothing was called
  pub begins : (disk : DiskState) (t : ℕ) (entries : List Entry) → entries ≡ [] → disk.clock ≡ t → Held owner disk (granted_of base entries) → AreAtMost (granted_of base entries) (owns base entries) → CoversEra disk owner base t entries
  begins disk t entries none clock held sent =
      let held' : Held owner disk (granted_of base []) = subst (λ (es : List Entry). Held owner disk (granted_of base es)) none held in
      let sent' : AreAtMost (granted_of base []) (owns base []) = subst (λ (es : List Entry). AreAtMost (granted_of base es) (owns base es)) none sent in
      subst (λ (x : ℕ). CoversEra disk owner base x entries) clock
      (subst (λ (es : List Entry). CoversEra disk owner base disk.clock es) (sym none) (begun disk [] held' sent'))

  step : (before rest : List Entry) (e : Entry) → (before ++ e ∷ []) ++ rest ≡ before ++ e ∷ rest
  step before rest e = append_assoc before (e ∷ []) rest

  rises : (disk : DiskState) (t : ℕ) (before rest : List Entry) → CoversEach disk owner base t before rest → granted_of base before ≤ granted_of base (before ++ rest)
  rises disk t before [] h = subst (λ (es : List Entry). granted_of base before ≤ granted_of base es) (sym (append-nil before)) (omega arith)
  rises disk t before (e ∷ rest) h =
      let more : granted_of base (before ++ e ∷ []) ≤ granted_of base (before ++ e ∷ rest) =
      subst (λ (es : List Entry). granted_of base (before ++ e ∷ []) ≤ granted_of base es) (step before rest e) (rises disk h.2 (before ++ e ∷ []) rest h.4) in
      omega (arith, h.1, more)

  early : (disk : DiskState) (t : ℕ) (before rest : List Entry) → CoversEach disk owner base t before rest → t ≤ disk.clock
  early disk t before [] h = h.0
  early disk t before (e ∷ rest) h = let later = early disk h.2 (before ++ e ∷ []) rest h.4 in omega (arith, h.3, later)

  -- a call that leaves no less than that
  still : (d f : DiskState) (t b : ℕ) (entries : List Entry) → t ≤ d.clock → granted_of base entries ≤ b → Through (Covers owner b) d f → CoversSince d owner base t entries → CoversSince f owner base t entries
  still d f t b entries le low through h = record {
    held = λ image left. ⊎_elim (λ was. h.held image was) (λ covers. record { sound = covers.sound; covered = omega (arith, low, covers.covered) }) (through.each t image le left);
    sent = h.sent;
  }

  carried : (d f : DiskState) (t b : ℕ) (before rest : List Entry) → granted_of base (before ++ rest) ≤ b → Through (Covers owner b) d f → CoversEach d owner base t before rest → CoversEach f owner base t before rest
  carried d f t b before [] low through h =
      let whole : granted_of base before ≤ b = subst (λ (es : List Entry). granted_of base es ≤ b) (append-nil before) low in
      (omega (arith, h.0, through.later), still d f t b before h.0 whole through h.1)
  carried d f t b before (e ∷ rest) low through h =
      let up = rises d t before (e ∷ rest) h in
      let whole : granted_of base ((before ++ e ∷ []) ++ rest) ≤ b = subst (λ (es : List Entry). granted_of base es ≤ b) (sym (step before rest e)) low in
      (still d f t b before (early d t before (e ∷ rest) h) (omega (arith, up, low)) through h.0, h.1, h.2, h.3, carried d f h.2 b (before ++ e ∷ []) rest whole through h.4)

  -- one entry more, since now
  grown : (f : DiskState) (t : ℕ) (before rest es : List Entry) (e : Entry) → before ++ rest ≡ es → granted_of base es ≤ granted_of base (es ++ e ∷ []) → CoversSince f owner base f.clock (es ++ e ∷ []) → CoversEach f owner base t before rest → CoversEach f owner base t before (rest ++ e ∷ [])
  grown f t before [] es e is low last h =
      let same : before ≡ es = sym (append-nil before) ∙ is in
      let up : granted_of base before ≤ granted_of base (before ++ e ∷ []) = subst (λ (xs : List Entry). granted_of base xs ≤ granted_of base (xs ++ e ∷ [])) (sym same) low in
      let ends : CoversSince f owner base f.clock (before ++ e ∷ []) = subst (λ (xs : List Entry). CoversSince f owner base f.clock (xs ++ e ∷ [])) (sym same) last in
      (h.1, up, f.clock, h.0, (omega arith, ends))
  grown f t before (x ∷ rest) es e is low last h =
      (h.0, h.1, h.2, h.3, grown f h.2 (before ++ x ∷ []) rest es e (step before rest x ∙ is) low last h.4)

  -- a call of the era
  enters : (d f : DiskState) (t : ℕ) (old new : List Entry) (e : Entry) → new ≡ old ++ e ∷ [] → granted_of base old ≤ granted_of base new → Through (Covers owner (granted_of base old)) d f → Held owner f (granted_of base new) → AreAtMost (granted_of base new) (owns base new) → CoversEra d owner base t old → CoversEra f owner base t new
  enters d f t old new e is low through held sent h =
      let low' : granted_of base old ≤ granted_of base (old ++ e ∷ []) = subst (λ (es : List Entry). granted_of base old ≤ granted_of base es) is low in
      let held' : Held owner f (granted_of base (old ++ e ∷ [])) = subst (λ (es : List Entry). Held owner f (granted_of base es)) is held in
      let sent' : AreAtMost (granted_of base (old ++ e ∷ [])) (owns base (old ++ e ∷ [])) = subst (λ (es : List Entry). AreAtMost (granted_of base es) (owns base es)) is sent in
      subst (λ (es : List Entry). CoversEra f owner base t es) (sym is)
      (grown f t [] old old e refl low' (now f (old ++ e ∷ []) held' sent') (carried d f t (granted_of base old) [] old (omega arith) through h))

  -- a call after the last entry
  pub goes_on : (d f : DiskState) (t : ℕ) (entries : List Entry) → Through (Covers owner (granted_of base entries)) d f → CoversEra d owner base t entries → CoversEra f owner base t entries
  goes_on d f t entries through h = carried d f t (granted_of base entries) [] entries (omega arith) through h

module _ {D : Type 0} (state : D → DiskState) (owner : Owner) (base : Base) where
  -- what is held, said of an owner and a base of other names
  held_as : (node : NodeView D) → node.owner ≡ owner → node.base ≡ base → Held node.owner (state node.disk) (granted_of node.base node.entries) → Held owner (state node.disk) (granted_of base node.entries)
  held_as node same_owner same_base held = subst (λ (o : Owner). Held o (state node.disk) (granted_of base node.entries)) same_owner (subst (λ (b : Base). Held node.owner (state node.disk) (granted_of b node.entries)) same_base held)

  sent_as : (node : NodeView D) → node.base ≡ base → AreAtMost (granted_of node.base node.entries) (owns node.base node.entries) → AreAtMost (granted_of base node.entries) (owns base node.entries)
  sent_as node same_base sent = subst (λ (b : Base). AreAtMost (granted_of b node.entries) (owns b node.entries)) same_base sent

  -- a node whose era has just begun
  pub begins_node : (t : ℕ) (node : NodeView D) → node.owner ≡ owner → node.base ≡ base → node.entries ≡ [] → (state node.disk).clock ≡ t → Held node.owner (state node.disk) (granted_of node.base node.entries) → AreAtMost (granted_of node.base node.entries) (owns node.base node.entries) → CoversEra (state node.disk) owner base t node.entries
  begins_node t node same_owner same_base none clock held sent = begins owner base (state node.disk) t node.entries none clock (held_as node same_owner same_base held) (sent_as node same_base sent)

  -- a node that entered one call more
  pub enters_node : (t : ℕ) (old new : NodeView D) (e : Entry) → old.owner ≡ owner → old.base ≡ base → new.owner ≡ old.owner → new.base ≡ old.base → new.entries ≡ old.entries ++ e ∷ [] → granted_of old.base old.entries ≤ granted_of new.base new.entries → Through (Covers old.owner (granted_of old.base old.entries)) (state old.disk) (state new.disk) → Held new.owner (state new.disk) (granted_of new.base new.entries) → AreAtMost (granted_of new.base new.entries) (owns new.base new.entries) → CoversEra (state old.disk) owner base t old.entries → CoversEra (state new.disk) owner base t new.entries
  enters_node t old new e same_owner same_base new_owner new_base is low through held sent h =
      let low' : granted_of base old.entries ≤ granted_of base new.entries =
      subst (λ (b : Base). granted_of base old.entries ≤ granted_of b new.entries) (new_base ∙ same_base)
      (subst (λ (b : Base). granted_of b old.entries ≤ granted_of new.base new.entries) same_base low) in
      let through' : Through (Covers owner (granted_of base old.entries)) (state old.disk) (state new.disk) =
      subst (λ (o : Owner). Through (Covers o (granted_of base old.entries)) (state old.disk) (state new.disk)) same_owner
      (subst (λ (b : Base). Through (Covers old.owner (granted_of b old.entries)) (state old.disk) (state new.disk)) same_base through) in
      enters owner base (state old.disk) (state new.disk) t old.entries new.entries e is low' through' (held_as new (new_owner ∙ same_owner) (new_base ∙ same_base) held) (sent_as new (new_base ∙ same_base) sent) h
