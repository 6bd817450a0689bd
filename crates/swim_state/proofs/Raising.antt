-- What a raise does to a store, from its steps.
use Rattle.std.proofs.Common.{◌≡◌, ◌⊎◌, inl, inr, ℕ, ◌+◌, ◌<◌, ◌≤◌, Bool, true, false, List, Result, Ok, Err, refl, sym, ap, ◌∙◌, subst, arith}
use Rattle.std.specs.Prelude.{OnOk, OnErr, IsErrOf}
use Rattle.std.proofs.lemmas.Result.{on_ok_weaker, on_err_weaker}
use Rattle.swim_disk.specs.Disk.{DiskState, IsSettled, Rests}
use Rattle.swim_state.specs.Alone.{IsBeside, LeavesAlone, target_by, target_in}
use Rattle.swim_state.specs.File.{floor_of, peers_in, version_in, AreOf, IsSound}
use Rattle.swim_state.specs.Held.{Covers, HasPeers, Held, Through}
use Rattle.swim_state.specs.Raising.{CountsFaults, Guards, HasCeiling, Raises, ReadsFloor, Tries}
use Rattle.swim_state.specs.Machinery.Saving.{Saves}
use Rattle.swim_state.specs.Second.{version_2}
use Rattle.swim_state.specs.Store.{IsStore, StoreView, reserved}
use Rattle.swim_state.specs.declared.fault.SaveFault.{SaveFault}
use Rattle.swim_state.specs.declared.fault.SaveFault.TheVariants.{Changed, Exhausted}
use Rattle.swim_state.specs.declared.layout.Version.TheVariants.{Two}
use Rattle.swim_state.specs.declared.owner.Owner.{Owner}
use Rattle.swim_state.specs.declared.slots.Slots.{Slots}
use Rattle.swim_state.proofs.Alone.{alone_at, alone_on, rests_alone, target_read}
use Rattle.swim_state.proofs.Moments.{goes_on, rests_through, since_from, weaker}
use Rattle.swim_state.proofs.Whole.{are_says, floor_read, peers_read, settled_held, settled_peers}
use Rattle.swim_wire.specs.declared.update.TheConstants.{NUMBER_MAX}

-- what a sync and a read of the slots leave: just what was read
pub reread_held : (owner : Owner) (slots : Slots) (old new : DiskState) → Rests old new → IsSettled new → AreOf version_2 old.content slots → ((c : List ℕ) → old.images c → version_in c ≡ Two) → ((c : List ℕ) → old.images c → IsSound owner c) → Held owner new (floor_of slots) × HasPeers new (peers_in slots)
reread_held owner slots old new rests settled same two sound =
    let left : old.images new.content = rests.images new.content new.reads in
    let are = subst (λ (image : List ℕ). AreOf version_2 image slots) (sym rests.content) same in (
      settled_held owner new slots settled (two new.content left) (sound new.content left) are,
      settled_peers new slots settled (two new.content left) are,
    )

-- a save of a store that isn't broken, said of its ceiling
module _ {keeps : Type 0} {disk : DiskState} {owner : Owner} {ceiling : ℕ} {slots : Slots} {broken : Bool} (store : IsStore keeps disk owner ceiling slots broken) (whole : broken ≡ false) (model : keeps) where
  pub saves_now : {T E : Type 0} (after : Slots) (result : Result T E) (new : DiskState) → ((o : Owner) → IsSound o disk.content → Saves o (floor_of slots) after result disk new) → Saves owner ceiling after result disk new
  saves_now after result new saves = subst (λ n. Saves owner n after result disk new) (store.floor whole) (saves owner (store.covered model disk.content disk.reads).sound)

  pub save_beside : (new : DiskState) → LeavesAlone (IsBeside (target_by slots.a slots.b)) disk new → LeavesAlone (IsBeside (target_in disk.content)) disk new
  save_beside new alone = alone_at (target_read disk.content slots (store.same whole model)) alone

-- after one that was done a crash leaves just what was saved
pub saved_held : {T E : Type 0} (owner : Owner) (n : ℕ) (after : Slots) (done : T) (old new : DiskState) → Saves {E = E} owner n after (Ok done) old new → Held owner new (floor_of after) × HasPeers new (peers_in after)
saved_held owner n after done old new saves =
    let two = (saves.images new.content new.reads).1 in
    (settled_held owner new after saves.settled two saves.sound saves.same, settled_peers new after saves.settled two saves.same)

-- a call that does nothing
pub rests_still : (disk : DiskState) → Rests disk disk
rests_still disk = record {
  content = refl;
  images = λ c left. left;
  time = record { later = omega arith; only = λ t c le left. inl left; all = λ t c le left. left };
}

module _ {D : Type 0} (state : D → DiskState) (result : Result (Unit {0}) SaveFault) (old new : StoreView D) (changed : IsErrOf result Changed → ⊥) (held : Held old.owner (state old.disk) old.ceiling) where
  pub guards : Through (Covers old.owner old.ceiling) (state old.disk) (state new.disk) → Held new.owner (state new.disk) new.ceiling → OnOk result (HasPeers (state new.disk) new.peers) → OnErr result (HasCeiling old.ceiling old.peers new ⊎ ReadsFloor state old new) → LeavesAlone (IsBeside (target_in (state old.disk).content)) (state old.disk) (state new.disk) → Guards state result old new
  guards moments covered named stood beside = assumption (since_from _ _ _ moments held)

  -- where nothing was written
  pub guards_still : Rests (state old.disk) (state new.disk) → Held new.owner (state new.disk) new.ceiling → OnOk result (HasPeers (state new.disk) new.peers) → OnErr result (HasCeiling old.ceiling old.peers new ⊎ ReadsFloor state old new) → Guards state result old new
  guards_still rests covered named stood = guards (rests_through _ _ _ rests held) covered named stood (rests_alone _ _ _ rests)

module _ {D : Type 0} (keeps : Type 0) (state : D → DiskState) where
  -- the store is as it was, but broken
  pub failed : (to spare : ℕ) (peers : List ℕ) (fault : SaveFault) (old new : StoreView D) → old.ceiling < to → new.owner ≡ old.owner → HasCeiling old.ceiling old.peers new → new.broken ≡ true → (fault ≡ Exhausted → ⊥) → (fault ≡ Changed → old.broken ≡ true) → CountsFaults {T = Unit {0}} (Err fault) (state old.disk) (state new.disk) → (keeps → HasCeiling old.ceiling old.peers new ⊎ ReadsFloor state old new → Guards state (Err fault) old new) → Raises keeps state to spare peers (Err fault) old new
  failed to spare peers fault old new above owner same broken room reread counts guarded = record {
    tries = record { owner = owner; counts = counts; grows = omega (arith, same.ceiling_is); reread = λ e. reread cc; steady = λ _. same; guards = λ model. guarded model (inl same) };
    room = λ e. room cc;
    ok = tt;
    err = (omega (arith, above, same.ceiling_is), broken);
    exact = tt;
    raised = λ _. tt;
  }

  -- the number, with the spare ones, was saved with the peers
  pub done : (to spare : ℕ) (peers : List ℕ) (old new : StoreView D) → old.ceiling < to → to ≤ NUMBER_MAX → new.owner ≡ old.owner → HasCeiling (reserved to spare) peers new → new.broken ≡ false → CountsFaults (Ok (tt {0})) (state old.disk) (state new.disk) → (keeps → Guards state (Ok (tt {0})) old new) → Raises keeps state to spare peers (Ok (tt {0})) old new
  done to spare peers old new above bounded owner has whole counts guarded = record {
    tries = record { owner = owner; counts = counts; grows = omega (arith, above, bounded, has.ceiling_is); reread = λ e. absurd cc; steady = tt; guards = guarded };
    room = λ e. cc;
    ok = (omega (arith, bounded, has.ceiling_is), omega (arith, bounded, has.ceiling_is), whole);
    err = tt;
    exact = λ _. has;
    raised = λ _. inl has;
  }

  -- no number is left, and nothing is done
  pub tries_still : (store : StoreView D) → (keeps → Held store.owner (state store.disk) store.ceiling) → Tries keeps state (Err Exhausted) store store
  tries_still store held =
      let same : HasCeiling store.ceiling store.peers store = record { ceiling_is = refl; peers_are = refl } in
      record {
        owner = refl;
        counts = record { name = refl; device = λ e. absurd cc; calm = λ _. refl };
        grows = omega arith;
        reread = λ e. absurd cc;
        steady = λ _. same;
        guards = λ model. guards_still state _ _ _ (λ e. cc) (held model) (rests_still (state store.disk)) (held model) tt (inl same);
      }

  -- what a broken store read is the floor, with the peers that stand with it
  pub reads_floor : (slots : Slots) (old new : StoreView D) → old.broken ≡ true → version_in (state old.disk).content ≡ Two → AreOf version_2 (state old.disk).content slots → new.ceiling ≡ floor_of slots → new.peers ≡ peers_in slots → ReadsFloor state old new
  reads_floor slots old new was two same ceiling peers =
      let content = (state old.disk).content in
      record {
        broken = was;
        floor_is = record {
          ceiling_is = ceiling ∙ floor_read content slots (are_says content Two slots two same);
          peers_are = peers ∙ peers_read content slots (are_says content Two slots two same);
        };
      }

  -- a broken store read a floor that is no less than the number
  pub reached : (to spare : ℕ) (peers : List ℕ) (old new : StoreView D) → to ≤ new.ceiling → new.ceiling ≤ NUMBER_MAX → old.ceiling ≤ new.ceiling → new.owner ≡ old.owner → old.broken ≡ true → new.broken ≡ false → CountsFaults (Ok (tt {0})) (state old.disk) (state new.disk) → (keeps → Rests (state old.disk) (state new.disk)) → (keeps → ReadsFloor state old new) → (keeps → Guards state (Ok (tt {0})) old new) → Raises keeps state to spare peers (Ok (tt {0})) old new
  reached to spare peers old new enough bounded grows owner was whole counts rests reads guarded = record {
    tries = record { owner = owner; counts = counts; grows = grows; reread = λ _. was; steady = tt; guards = guarded };
    room = λ e. cc;
    ok = (enough, bounded, whole);
    err = tt;
    exact = λ unbroken. absurd (let e : true ≡ false = sym was ∙ unbroken in cc);
    raised = λ model. inr (reads model, rests model);
  }

  -- what a whole store may have after a fault, said of the broken one that was read into it
  stood_by : (old mid new : StoreView D) → mid.broken ≡ false → ReadsFloor state old mid → HasCeiling mid.ceiling mid.peers new ⊎ ReadsFloor state mid new → HasCeiling old.ceiling old.peers new ⊎ ReadsFloor state old new
  stood_by old mid new whole reads (inl same) = inr (record {
    broken = reads.broken;
    floor_is = record { ceiling_is = same.ceiling_is ∙ reads.floor_is.ceiling_is; peers_are = same.peers_are ∙ reads.floor_is.peers_are };
  })
  stood_by old mid new whole reads (inr again) = absurd (let e : true ≡ false = sym again.broken ∙ whole in cc)

  once_broken : (result : Result (Unit {0}) SaveFault) (P Q : Type 0) (old : StoreView D) → old.broken ≡ true → OnOk result (old.broken ≡ false → P) × OnErr result (old.broken ≡ false → Q)
  once_broken (Ok done) P Q old was = (λ unbroken. absurd (let e : true ≡ false = sym was ∙ unbroken in cc), tt)
  once_broken (Err fault) P Q old was = (tt, λ unbroken. absurd (let e : true ≡ false = sym was ∙ unbroken in cc))

  -- a broken store read a floor that is below the number, and raised it then
  pub raised_on : (to spare : ℕ) (peers : List ℕ) (result : Result (Unit {0}) SaveFault) (old mid new : StoreView D) → old.broken ≡ true → mid.broken ≡ false → old.ceiling ≤ mid.ceiling → mid.owner ≡ old.owner → (state mid.disk).name ≡ (state old.disk).name → (state mid.disk).failures ≡ (state old.disk).failures → (keeps → Held old.owner (state old.disk) old.ceiling) → (keeps → Rests (state old.disk) (state mid.disk)) → (keeps → ReadsFloor state old mid) → Raises keeps state to spare peers result mid new → Raises keeps state to spare peers result old new
  raised_on to spare peers result old mid new was whole grows owner name calm held rests reads raises =
      let tries = raises.tries in
      record {
        tries = record {
          owner = tries.owner ∙ owner;
          counts = record { name = tries.counts.name ∙ name; device = λ e. tries.counts.device e ∙ ap (λ n. n + 1) calm; calm = λ other. tries.counts.calm other ∙ calm };
          grows = omega (arith, grows, tries.grows);
          reread = λ _. was;
          steady = (once_broken result (Unit {0}) _ old was).1;
          guards = λ model.
              let said = tries.guards model in
              let covers : (c : List ℕ) → Covers mid.owner mid.ceiling c → Covers old.owner old.ceiling c = λ c covers. record { sound = subst (λ (o : Owner). IsSound o c) owner covers.sound; covered = omega (arith, grows, covers.covered) } in
              guards state result old new said.changed (held model)
              (goes_on _ _ _ _ (rests_through _ _ _ (rests model) (held model)) (weaker _ _ _ _ covers said.moments))
              said.covered said.named
              (on_err_weaker result (stood_by old mid new whole (reads model)) said.stood)
              (alone_on _ _ _ _ (rests_alone _ _ _ (rests model)) (subst (λ (image : List ℕ). LeavesAlone (IsBeside (target_in image)) (state mid.disk) (state new.disk)) (rests model).content said.beside));
        };
        room = raises.room;
        ok = raises.ok;
        err = raises.err;
        exact = (once_broken result _ (Unit {0}) old was).0;
        raised = λ model. on_ok_weaker result (λ exact. inl (exact whole)) raises.exact;
      }
