-- A save of the peers, from one raise by one or two.
use Rattle.std.proofs.Common.{◌≡◌, ◌⊎◌, inl, inr, ℕ, ◌+◌, ◌<◌, true, false, List, Result, Ok, Err, refl, sym, ap, ◌∙◌, subst, arith}
use Rattle.std.specs.Prelude.{IsErrOf, OnOk}
use Rattle.std.proofs.lemmas.Bool.{true_from_ne_false}
use Rattle.swim_disk.specs.Disk.{DiskState, Rests}
use Rattle.swim_state.specs.Held.{Held}
use Rattle.swim_state.specs.Raising.{HasCeiling, Raises, ReadsFloor, Tries}
use Rattle.swim_state.specs.Store.{StoreView}
use Rattle.swim_state.specs.declared.fault.SaveFault.{SaveFault}
use Rattle.swim_state.specs.declared.fault.SaveFault.TheVariants.{Exhausted}
use Rattle.swim_state.proofs.Raising.{guards, raised_on, rests_still, tries_still}
use Rattle.swim_node.specs.Keeping.{KeepsGiven, RaisesByOne}
use Rattle.swim_wire.specs.declared.update.TheConstants.{NUMBER_MAX}

module _ {D : Type 0} (keeps : Type 0) (state : D → DiskState) (peers : List ℕ) where
  -- a raise that was refused for another reason than that there is no number
  faulted : (fault : SaveFault) (to : ℕ) (old new : StoreView D) → (IsErrOf {T = Unit {0}} (Err fault) Exhausted → ⊥) → (old.ceiling ≡ NUMBER_MAX → ⊥) → Raises keeps state to 0 peers (Err fault) old new → KeepsGiven keeps state peers (Err fault) old new
  faulted fault to old new other room raises = record {
    tries = raises.tries;
    ok = tt;
    exact = tt;
    exhausted = λ most. absurd (room most);
    untouched = λ most. absurd (room most);
    full = λ e. absurd (other e);
    cases = λ e. absurd (other e);
    unwritten = λ model e. absurd (other e);
    ready = inr raises.err.1;
  }

  granted : (old new : StoreView D) → (old.ceiling ≡ NUMBER_MAX → ⊥) → Tries keeps state (Ok (tt {0})) old new → old.ceiling < new.ceiling × new.peers ≡ peers × new.broken ≡ false → (old.broken ≡ false → new.ceiling ≡ old.ceiling + 1) → KeepsGiven keeps state peers (Ok (tt {0})) old new
  granted old new room tries ok exact = record {
    tries = tries;
    ok = ok;
    exact = exact;
    exhausted = λ most. absurd (room most);
    untouched = λ most. absurd (room most);
    full = λ e. absurd cc;
    cases = λ e. absurd cc;
    unwritten = λ model e. absurd cc;
    ready = tt;
  }

  -- by one raise, after which the peers are these
  pub kept_by_one : (result : Result (Unit {0}) SaveFault) (old new : StoreView D) → RaisesByOne keeps state peers result old new → OnOk result (new.peers ≡ peers) → KeepsGiven keeps state peers result old new
  kept_by_one (Ok done) old new one same =
      let room : old.ceiling ≡ NUMBER_MAX → ⊥ = λ most. let wrong = one.full.1 most in cc in
      let raises = one.raises room in
      granted old new room raises.tries (omega (arith, raises.ok.0), same, raises.ok.2) (λ whole. omega (arith, (raises.exact whole).ceiling_is, raises.ok.0, raises.ok.1))
  kept_by_one (Err Exhausted) old new one same =
      let most = one.full.0 refl in
      let as_was : new ≡ old = one.untouched refl in
      record {
        tries = subst (λ (s : StoreView D). Tries keeps state (Err Exhausted) old s) (sym as_was) (tries_still keeps state old one.held);
        ok = tt;
        exact = tt;
        exhausted = λ _. refl;
        untouched = λ _. as_was;
        full = λ _. ap (λ (s : StoreView D). s.ceiling) as_was ∙ most;
        cases = λ _. inl most;
        unwritten = λ model _. subst (λ (s : StoreView D). Rests (state old.disk) (state s.disk)) (sym as_was) (rests_still (state old.disk));
        ready = inl refl;
      }
  kept_by_one (Err fault) old new one same =
      let room : old.ceiling ≡ NUMBER_MAX → ⊥ = λ most. let wrong = one.full.1 most in cc in
      faulted fault _ old new (λ e. cc) room (one.raises room)

  read_others : (to : ℕ) (old mid : StoreView D) → (mid.peers ≡ peers → ⊥) → HasCeiling to peers mid ⊎ (ReadsFloor state old mid × Rests (state old.disk) (state mid.disk)) → ReadsFloor state old mid × Rests (state old.disk) (state mid.disk)
  read_others to old mid others (inl has) = absurd (others has.peers_are)
  read_others to old mid others (inr reads) = reads

  -- a broken store that found other peers, and then had no number for these
  no_more : (old mid : StoreView D) → old.broken ≡ true → mid.broken ≡ false → mid.ceiling ≡ NUMBER_MAX → (old.ceiling ≡ NUMBER_MAX → ⊥) → (mid.peers ≡ peers → ⊥) → (keeps → ReadsFloor state old mid × Rests (state old.disk) (state mid.disk)) → Tries keeps state (Ok (tt {0})) old mid → KeepsGiven keeps state peers (Err Exhausted) old mid
  no_more old mid was whole most room others reads tries = record {
    tries = record {
      owner = tries.owner;
      counts = record { name = tries.counts.name; device = λ e. absurd cc; calm = λ _. tries.counts.calm (λ e. cc) };
      grows = tries.grows;
      reread = λ _. was;
      steady = λ unbroken. absurd (let e : true ≡ false = sym was ∙ unbroken in cc);
      guards = λ model. let said = tries.guards model in guards state _ old mid (λ e. cc) said.held said.moments said.covered tt (inr (reads model).0) said.beside;
    };
    ok = tt;
    exact = tt;
    exhausted = λ first. absurd (room first);
    untouched = λ first. absurd (room first);
    full = λ _. most;
    cases = λ _. inr (was, whole, others);
    unwritten = λ model _. (reads model).1;
    ready = inl refl;
  }

  twice : (result : Result (Unit {0}) SaveFault) (to ceiling : ℕ) (old mid new : StoreView D) → (result ≡ Err Exhausted → ⊥) → (old.ceiling ≡ NUMBER_MAX → ⊥) → old.broken ≡ true → mid.broken ≡ false → old.ceiling < to → OnOk result (mid.broken ≡ false → HasCeiling ceiling peers new) → Raises keeps state to 0 peers result old new → KeepsGiven keeps state peers result old new
  twice (Ok done) to ceiling old mid new other room was whole above exact raises =
      granted old new room raises.tries (omega (arith, above, raises.ok.0), (exact whole).peers_are, raises.ok.2) (λ unbroken. absurd (let e : true ≡ false = sym was ∙ unbroken in cc))
  twice (Err fault) to ceiling old mid new other room was whole above exact raises = faulted fault to old new other room raises

  -- the second of two raises, where it is one
  goes_twice : (result : Result (Unit {0}) SaveFault) (old mid new : StoreView D) → (result ≡ Err Exhausted → ⊥) → (mid.peers ≡ peers → ⊥) → (old.ceiling ≡ NUMBER_MAX → ⊥) → Raises keeps state (old.ceiling + 1) 0 peers (Ok (tt {0})) old mid → RaisesByOne keeps state peers result mid new → (keeps → Held old.owner (state old.disk) old.ceiling) → KeepsGiven keeps state peers result old new
  goes_twice result old mid new other others room raised second held =
      let whole = raised.ok.2 in
      let was : old.broken ≡ true = true_from_ne_false old.broken (λ unbroken. others (raised.exact unbroken).peers_are) in
      let again = second.raises (λ most. other (second.full.1 most)) in
      let reads : keeps → ReadsFloor state old mid × Rests (state old.disk) (state mid.disk) = λ model. read_others _ old mid others (raised.raised model) in
      twice result _ _ old mid new other room was whole (omega (arith, raised.ok.0)) again.exact
      (raised_on keeps state _ 0 peers result old mid new was whole raised.tries.grows raised.tries.owner raised.tries.counts.name (raised.tries.counts.calm (λ e. cc)) held (λ model. (reads model).1) (λ model. (reads model).0) again)

  -- by two, where the first one found that an earlier save was done after all, with other peers
  pub kept_by_two : (result : Result (Unit {0}) SaveFault) (old mid new : StoreView D) → RaisesByOne keeps state peers (Ok (tt {0})) old mid → (mid.peers ≡ peers → ⊥) → RaisesByOne keeps state peers result mid new → KeepsGiven keeps state peers result old new
  kept_by_two result old mid new first others second =
      let room : old.ceiling ≡ NUMBER_MAX → ⊥ = λ most. let wrong = first.full.1 most in cc in
      by result refl room (first.raises room)
    where
      by : (answer : Result (Unit {0}) SaveFault) → answer ≡ result → (old.ceiling ≡ NUMBER_MAX → ⊥) → Raises keeps state (old.ceiling + 1) 0 peers (Ok (tt {0})) old mid → KeepsGiven keeps state peers result old new
      by (Err Exhausted) is room raised =
          let was : old.broken ≡ true = true_from_ne_false old.broken (λ unbroken. others (raised.exact unbroken).peers_are) in
          subst (λ (r : Result (Unit {0}) SaveFault). KeepsGiven keeps state peers r old new) is
          (subst (λ (s : StoreView D). KeepsGiven keeps state peers (Err Exhausted) old s) (sym (second.untouched (sym is)))
          (no_more old mid was raised.ok.2 (second.full.0 (sym is)) room others (λ model. read_others _ old mid others (raised.raised model)) raised.tries))
      by answer is room raised = goes_twice result old mid new (λ e. cc) others room raised second first.held
