-- A life that goes on from one node to the next.
use Rattle.std.proofs.Common.{◌≡◌, ◌∙◌, ℕ, List, [], ◌∷◌, ◌++◌, ap, subst, sym, refl, append_assoc, arith}
use Rattle.std.proofs.lemmas.List.{append-nil}
use Rattle.std.specs.Prelude.{Bool, true, false, Option, Some, None, is_some}
use Rattle.swim_disk.specs.Disk.{DiskState}
use Rattle.swim_node.specs.declared.entry.Entry.{Entry}
use Rattle.swim_state.specs.declared.owner.Owner.{Owner}
use Rattle.swim_state.specs.Held.{Covers, Held, Through}
use Rattle.swim_node.specs.History.{Base, IsLegal, granted_of}
use Rattle.swim_node.specs.Lives.{EndsEra, Era, GoesOn, IsLiving, IsRaised, era_of, life_of}
use Rattle.swim_node.specs.Node.{NodeView, next_base}
use Rattle.swim_node.specs.Owns.{owns, AreAtMost}
use Rattle.swim_record.specs.Handing.{recorded}
use Rattle.swim_node.proofs.Living.{goes_raised}
use Rattle.logbook.specs.Pages.{Book}
use Rattle.swim_node.specs.Link.{LinkId}
use Rattle.swim_shared.specs.Moments.{CoversEra}
use Rattle.swim_shared.specs.Outboxes.{OutboxView, SenderView}
use Rattle.swim_shared.specs.Parts.{PartsView}
use Rattle.swim_shared.proofs.Moments.{begins_node, goes_on}
use Rattle.swim_serve.specs.declared.fault.Fault.{Fault}
use Rattle.swim_serve.specs.Eras.{EraOf, LivesThrough, NamesParts, OutsideView, ServesAnew, StaysIn}
use Rattle.swim_serve.specs.Members.{Eras, Here, Hosts, IsGiven, MemberView, Next, ServesEra, member_of}
use Rattle.swim_serve.specs.Faults.{fault_of}
use Rattle.swim_serve.specs.Works.{EraEnds}

-- an equal base is one that was raised
pub raised : (start base : Base) → base ≡ start → IsRaised start base
raised start base is = let same : IsRaised start start = record { same = refl; grows = omega arith } in subst (IsRaised start) (sym is) same

module _ {D : Type 0} (keeps : Type 0) (state : D → DiskState) where
  -- after some calls of an era it is the life that it was
  pub same_life : (a b : NodeView D) → StaysIn keeps state a b → GoesOn state a b
  same_life a b stays =
      goes_raised state a b (raised a.base b.base stays.base) stays.owner stays.first

  -- a node of the same name as these parts, and one of which nothing was called
  stays_in : (a n : NodeView D) (base : Base) (name clock : ℕ) (owner : Owner) (first : ℕ) → a.base ≡ base → (state a.disk).name ≡ name → (state a.disk).clock ≡ clock → a.owner ≡ owner → a.first ≡ first → IsLegal base n.entries → n.base ≡ base → (state n.disk).name ≡ name → n.owner ≡ owner → n.first ≡ first → (keeps → CoversEra (state n.disk) owner base clock n.entries) → StaysIn keeps state a n
  stays_in a n base name clock owner first a_base a_name a_clock a_owner a_first legal n_base n_name n_owner n_first covers = record {
    base = n_base ∙ sym a_base;
    legal = subst (λ (b : Base). IsLegal b n.entries) (sym n_base) legal;
    disk = n_name ∙ sym a_name;
    owner = n_owner ∙ sym a_owner;
    first = n_first ∙ sym a_first;
    covers = λ model.
        subst (λ (o : Owner). CoversEra (state n.disk) o a.base (state a.disk).clock n.entries) (sym a_owner)
        (subst (λ (b : Base). CoversEra (state n.disk) owner b (state a.disk).clock n.entries) (sym a_base)
        (subst (λ (t : ℕ). CoversEra (state n.disk) owner base t n.entries) (sym a_clock) (covers model)));
  }

  -- the same of a node that was shared as the parts of this name
  pub stays_named : (parts : PartsView D OutboxView) (ring : SenderView) (n : NodeView D) (book : Book) (base : Base) (disk clock : ℕ) (owner : Owner) (first : ℕ) (link : LinkId) (start : List (ℕ × List ℕ)) → NamesParts state book base disk clock owner first link start parts ring → IsLegal base n.entries → n.base ≡ base → (state n.disk).name ≡ disk → n.owner ≡ owner → n.first ≡ first → (keeps → CoversEra (state n.disk) owner base clock n.entries) → StaysIn keeps state parts.node n
  stays_named parts ring n book base disk clock owner first link start named legal n_base n_name n_owner n_first covers =
      stays_in parts.node n base disk clock owner first named.base_is named.disk_is named.clock_is named.owner_is named.first_is legal n_base n_name n_owner n_first covers

  is_legal : (n : NodeView D) → n.entries ≡ [] → IsLegal n.base n.entries
  is_legal n none = subst (λ (es : List Entry). IsLegal n.base es) (sym none) (record { each = tt; within = omega arith })

  pub stays_same : (a n : NodeView D) → n ≡ a → a.entries ≡ [] → (keeps → Held n.owner (state n.disk) (granted_of n.base n.entries)) → AreAtMost (granted_of n.base n.entries) (owns n.base n.entries) → StaysIn keeps state a n
  stays_same a n is none held sent =
      let empty : n.entries ≡ [] = ap (λ (x : NodeView D). x.entries) is ∙ none in
      record {
        base = ap (λ (x : NodeView D). x.base) is;
        legal = is_legal n empty;
        disk = ap (λ (x : NodeView D). (state x.disk).name) is;
        owner = ap (λ (x : NodeView D). x.owner) is;
        first = ap (λ (x : NodeView D). x.first) is;
        covers = λ model. begins_node state a.owner a.base (state a.disk).clock n (ap (λ (x : NodeView D). x.owner) is) (ap (λ (x : NodeView D). x.base) is) empty (ap (λ (x : NodeView D). (state x.disk).clock) is) (held model) sent;
      }

  pub through_none : (a b : NodeView D) → GoesOn state a b → LivesThrough state a [] b
  through_none a b goes settings limit opened eras living =
      subst (λ (es : List Era). IsLiving state b.owner (life_of settings limit opened es b)) (sym (append-nil eras)) (goes settings limit opened eras living)

  -- and one era more has ended at its end
  pub through_era : (a n b : NodeView D) → StaysIn keeps state a n → EndsEra state n b → LivesThrough state a (era_of n ∷ []) b
  through_era a n b stays ends settings limit opened eras living = ends settings limit opened eras (same_life a n stays settings limit opened eras living)

  pub through_both : (a b c : NodeView D) (es fs : List Era) → LivesThrough state a es b → LivesThrough state b fs c → LivesThrough state a (es ++ fs) c
  through_both a b c es fs first then settings limit opened eras living =
      subst (λ (xs : List Era). IsLiving state c.owner (life_of settings limit opened xs c)) (append_assoc eras es fs) (then settings limit opened (eras ++ es) (first settings limit opened eras living))

  -- a whole era: the node n had its journal, and the next one begins with b
  pub era_done : (a n b : NodeView D) (serves : List Entry → Type 0) → StaysIn keeps state a n → serves n.entries → IsRaised (next_base n.base n.entries) b.base → (state b.disk).name ≡ (state n.disk).name → b.owner ≡ n.owner → b.first ≡ n.first → EndsEra state n b → (keeps → Through (Covers n.owner (granted_of n.base n.entries)) (state n.disk) (state b.disk)) → EraOf keeps state a b (era_of n) serves
  era_done a n b serves stays served raised disk owner first ends through = record {
    base = stays.base;
    legal = stays.legal;
    served = served;
    goes_on = raised;
    disk = disk ∙ stays.disk;
    owner = owner ∙ stays.owner;
    first = first ∙ stays.first;
    life = through_era a n b stays ends;
    covers = λ model.
        let same : Through (Covers a.owner (granted_of a.base n.entries)) (state n.disk) (state b.disk) =
        subst (λ (o : Owner). Through (Covers o (granted_of a.base n.entries)) (state n.disk) (state b.disk)) stays.owner
        (subst (λ (x : Base). Through (Covers n.owner (granted_of x n.entries)) (state n.disk) (state b.disk)) stays.base (through model)) in
        goes_on a.owner a.base (state n.disk) (state b.disk) (state a.disk).clock n.entries same (stays.covers model);
  }

-- what a keeper is given after an era with a fault, and after one without
pub not_given : (keeps : Bool) (why : Option Fault) (given : List Era) (era : Era) → is_some why ≡ true → IsGiven keeps why given given era
not_given true None given era is = cc
not_given true (Some why) given era is = refl
not_given false None given era is = refl
not_given false (Some why) given era is = refl

pub is_given : (keeps : Bool) (why : Option Fault) (before now : List Era) (era : Era) → is_some why ≡ false → (keeps ≡ true → now ≡ before ++ era ∷ []) → (keeps ≡ false → now ≡ before) → IsGiven keeps why before now era
is_given true None before now era is on off = on refl
is_given true (Some why) before now era is on off = cc
is_given false None before now era is on off = off refl
is_given false (Some why) before now era is on off = off refl

-- whole eras of a member
module _ {D : Type 0} (keeps : Type 0) (state : D → DiskState) (came tells : Type 0) where
  -- the node p was shared, which is that of the member
  pub era_served : (p a n b : NodeView D) (outside after : OutsideView) (ends : EraEnds) → p ≡ a → StaysIn keeps state p n → ServesAnew came tells p.base.limit outside after ends n.entries → IsRaised (next_base n.base n.entries) b.base → (state b.disk).name ≡ (state n.disk).name → b.owner ≡ n.owner → b.first ≡ n.first → EndsEra state n b → (keeps → Through (Covers n.owner (granted_of n.base n.entries)) (state n.disk) (state b.disk)) → (kept kept' : Bool) (given given' : List Era) → IsGiven kept (fault_of ends) given given' (recorded n.base n.entries) → ServesEra keeps state came tells (member_of a outside kept given) (member_of b after kept' given') ends (era_of n)
  era_served p a n b outside after ends is stays served raised disk owner first ends_era through kept kept' given given' gives =
      subst (λ (x : NodeView D). ServesEra keeps state came tells (member_of x outside kept given) (member_of b after kept' given') ends (era_of n)) is (record { is = era_done keeps state p n b _ stays served raised disk owner first ends_era through; given = gives })

-- lives through many of them
module _ {D : Type 0} (keeps : Type 0) (state : D → DiskState) (came tells relists : Type 0) where
  pub eras_live : (a : MemberView D) (es : List Era) (b : MemberView D) → Eras (ServesEra keeps state came tells) (Hosts keeps state came tells relists) a es b → LivesThrough state a.node es b.node
  eras_live a _ _ (Here _) = through_none keeps state a.node a.node (λ settings limit opened eras living. living)
  eras_live a _ d (Next _ b c _ before ends last eras era then) =
      let to_c = through_both keeps state a.node b.node c.node before (last ∷ []) (eras_live a before b eras) era.is.life in
      subst (λ (n : NodeView D). LivesThrough state a.node (before ++ last ∷ []) n) (sym (ap (λ m. m.node) then.rest)) to_c

  -- and so is the last one, whole or cut short
  pub whole_live : (a : MemberView D) (es : List Era) (b : MemberView D) (last : Era) (left : NodeView D) → Eras (ServesEra keeps state came tells) (Hosts keeps state came tells relists) a es b → LivesThrough state b.node (last ∷ []) left → LivesThrough state a.node (es ++ last ∷ []) left
  whole_live a es b last left eras life = through_both keeps state a.node b.node left es (last ∷ []) (eras_live a es b eras) life

  pub cut_live : (a : MemberView D) (es : List Era) (b : MemberView D) (left : NodeView D) → Eras (ServesEra keeps state came tells) (Hosts keeps state came tells relists) a es b → StaysIn keeps state b.node left → LivesThrough state a.node es left
  cut_live a es b left eras stays settings limit opened past living = same_life keeps state b.node left stays settings limit opened (past ++ es) (eras_live a es b eras settings limit opened past living)
