-- What openings come to, and what other lines make of what plays.
use Rattle.std.proofs.Common.{◌≡◌, ℕ, ◌+◌, ◌-◌, ◌<◌, true, false, None, Some, List, [], ◌∷◌, ◌++◌, map, refl, sym, ap, ◌∙◌, subst, inl, inr, length}
use Rattle.std.specs.Prelude.{Option, is_some, Result, Ok, Err, OnOk, OnErr, IfOk, IfErr, ◌≢◌, ◌⊎◌}
use Rattle.std.proofs.lemmas.List.{length-map, map-append}
use Rattle.swim_disk.specs.Fault.{inner_of}
use Rattle.swim_script.specs.Patches.{IsPatched}
use Rattle.swim_disk.specs.declared.mem.Choice.{Choice}
use Rattle.swim_state.specs.File.{floor}
use Rattle.swim_state.specs.Recovery.{fault_of as shown}
use Rattle.swim_state.specs.declared.owner.Owner.{Owner}
use Rattle.swim_state.specs.declared.fault.InitFault.{InitFault}
use Rattle.swim_state.specs.declared.fault.RecoverFault.{RecoverFault}
use Rattle.swim_state.specs.declared.fault.RecoverFault.TheVariants as recover
use Rattle.swim_member.specs.Checks.{fault_of}
use Rattle.swim_member.specs.declared.event.Event.{Event}
use Rattle.swim_member.specs.declared.settings.SettingsFault.{SettingsFault}
use Rattle.swim_node.specs.Lives.{Life}
use Rattle.swim_node.specs.declared.entry.Entry.{Entry}
use Rattle.swim_node.specs.declared.fault.ApplyFault.{ApplyFault}
use Rattle.swim_node.specs.declared.fault.ApplyFault.TheVariants.{EraFull, OutOfTurn}
use Rattle.swim_node.specs.declared.fault.ApplyFault.TheVariants as apply
use Rattle.swim_node.specs.declared.fault.OpenFault.{OpenFault}
use Rattle.swim_node.specs.declared.fault.OpenFault.TheVariants.{NoMemory}
use Rattle.swim_node.specs.declared.fault.OpenFault.TheVariants as node
use Rattle.swim_node.specs.Node.{owner_of}
use Rattle.swim_script.specs.declared.command.Command.TheVariants.{Init, Start, Crash, Overwrite, KeepPeers}
use Rattle.swim_script.specs.declared.patch.Patch.{Patch}
use Rattle.swim_script.specs.declared.first.FirstNumber.{FirstNumber}
use Rattle.swim_play.specs.declared.session.OpeningOutcome.{OpeningOutcome}
use Rattle.swim_play.specs.declared.session.OpeningOutcome.TheVariants.{Begun, Refused}
use Rattle.swim_play.specs.declared.session.OpeningRefusal.TheVariants as refusal
use Rattle.swim_play.specs.Life.{PlayDisk, disk_state, Adds, IsDeclined}
use Rattle.swim_play.specs.Play.{Playing, ScriptedLife, Becomes, IfClosed, IfOpen, IfDisk, IsMade, with_disk, IsCrashed, IsOpening, IsRefused, ComesAfterLives, Opens, Starts, CanOpen, with_life, with_life_ended, ended_with, asked_of, event_of, with_left, with_new_era, WritesState, Does}
use Rattle.swim_play.specs.Machinery.Session.{IsAnswered, events_in}

some-of : {A : Type 0} (o : Option A) → is_some o ≡ true → (x : A) × (o ≡ Some x)
some-of None h = absurd (cc)
some-of (Some x) h = (x, refl)

none-of : {A : Type 0} (o : Option A) → is_some o ≡ false → o ≡ None
none-of None h = refl
none-of (Some x) h = absurd (cc)

-- ---- lines where no member is open, and lines on a disk

pub if-closed : (p q : Playing) (Done : Type 0) → is_some p.life ≡ false → Done → IfClosed p.life p q Done
if-closed p q Done closed done = subst (λ (o : Option ScriptedLife). IfClosed o p q Done) (sym (none-of p.life closed)) done

pub if-disk : (p q : Playing) (old : PlayDisk) (Done : PlayDisk → Type 0) → p.disk ≡ Some old → Done old → IfDisk p.disk p q Done
if-disk p q old Done at done = subst (λ (o : Option PlayDisk). IfDisk o p q Done) (sym at) done

pub if-disk-so : (o : Option PlayDisk) (p r q : Playing) (Old Done : PlayDisk → Type 0) → is_some o ≡ true → ((disk : PlayDisk) → Old disk → Done disk) → IfDisk o r q Old → IfDisk o p q Done
if-disk-so None p r q Old Done has so old = absurd (cc)
if-disk-so (Some disk) p r q Old Done has so old = so disk old

-- ---- new disks

module _ (p q : Playing) (owner : Owner) (disk : PlayDisk) (answer : Result (Unit {0}) InitFault) (closed : is_some p.life ≡ false) (same : owner ≡ owner_of p.setup.settings) where
  pub init-does : (ceiling : ℕ) → IsMade owner ceiling disk answer → q ≡ with_disk disk p → Does p (Init ceiling) q
  init-does ceiling is_made is =
      if-closed p q _ closed (answer, (disk, subst (λ (o : Owner). IsMade o ceiling disk answer) same is_made, is))

  starts : (first : FirstNumber) (ceiling : ℕ) → ceiling ≡ first.value - 1 → IsMade owner ceiling disk answer → OnOk answer (Opens disk (with_disk disk p) q) → OnErr answer (q ≡ with_disk disk p) → Does p (Start first) q
  starts first ceiling below is_made ok err =
      if-closed p q (Starts first.value p q) closed (record { disk = disk; answer = answer; is_made = subst (λ (o : Owner). IsMade o (first.value - 1) disk answer) same (subst (λ (n : ℕ). IsMade owner n disk answer) below is_made); ok = ok; err = err })

  -- there is no state file
  pub start-unmade : (first : FirstNumber) (ceiling : ℕ) (fault : InitFault) → ceiling ≡ first.value - 1 → IsMade owner ceiling disk answer → answer ≡ Err fault → q ≡ with_disk disk p → Does p (Start first) q
  start-unmade first ceiling fault below is_made refused is = starts first ceiling below is_made (rw refused tt) (rw refused is)

  -- there is one, and an opening follows
  pub start-opens : (first : FirstNumber) (ceiling : ℕ) (done : Unit {0}) (m : Playing) (opening : OpeningOutcome) → ceiling ≡ first.value - 1 → IsMade owner ceiling disk answer → answer ≡ Ok done → m ≡ with_disk disk p
      → IfDisk m.disk m q (λ disk. IsOpening disk opening m q) → Does p (Start first) q
  start-opens first ceiling done m opening below is_made made_it is opens =
      starts first ceiling below is_made (rw made_it (opening, subst (λ (m : Playing). IfDisk m.disk m q (λ disk. IsOpening disk opening m q)) is opens)) (rw made_it tt)

-- ---- crashes

pub ended-disk : (p : Playing) (o : Option ScriptedLife) → (ended_with o p).disk ≡ p.disk
ended-disk p None = refl
ended-disk p (Some life) = refl

-- where no member is open nothing ends
pub ended-none : (p : Playing) → is_some p.life ≡ false → p ≡ with_life_ended p
ended-none p closed = subst (λ (o : Option ScriptedLife). p ≡ ended_with o p) (sym (none-of p.life closed)) refl

pub crash-does : (p m q : Playing) (choice : Choice) → m ≡ with_life_ended p → is_some m.disk ≡ true → IfDisk m.disk m q (λ disk. Becomes (IsCrashed choice disk) m q) → Does p (Crash choice) q
crash-does p m q choice is has crashed =
    let disk_is : m.disk ≡ p.disk = ap (λ (r : Playing). r.disk) is ∙ ended-disk p p.life in
    subst (λ (o : Option PlayDisk). IfDisk o p q (λ disk. Becomes (IsCrashed choice disk) (with_life_ended p) q)) disk_is
    (if-disk-so m.disk p m q _ _ has (λ disk new. subst (λ (r : Playing). Becomes (IsCrashed choice disk) r q) is new) crashed)

-- ---- other bytes

pub overwrite-does : {E : Type 0} (p q : Playing) (patch : Patch) (result : Result (Unit {0}) E) → is_some p.life ≡ false → OnOk result (IfDisk p.disk p q (λ disk. Becomes (λ new. IsPatched patch.at patch.bytes.items (inner_of disk) (inner_of new)) (record p { apart = true }) q)) → OnOk result (Does p (Overwrite patch) q)
overwrite-does p q patch (Ok done) closed becomes = if-closed p q _ closed becomes
overwrite-does p q patch (Err e) closed becomes = tt

-- ---- openings

-- the settings are not sound
pub opening-unsound : (p : Playing) (fault : SettingsFault) → is_some p.disk ≡ true → fault_of p.setup.settings ≡ Some fault → IfDisk p.disk p p (λ disk. IsOpening disk (Refused (refusal.Settings fault)) p p)
opening-unsound p fault has shows =
    let at = some-of p.disk has in
    if-disk p p at.0 (λ disk. IsOpening disk (Refused (refusal.Settings fault)) p p) at.1
    (record { disk = at.0; cause = (shows, refl); lived = λ same some. tt; is = ap (λ (o : Option PlayDisk). record p { disk = o }) at.1 })

-- what the node answers of a disk on which something is held
pub after_lives : (f : OpenFault) → ((fault : RecoverFault) → f ≡ node.Refused fault → (fault ≡ recover.Device) ⊎ (fault ≡ recover.Exhausted)) → ComesAfterLives (refusal.Open f)
after_lives node.Limit only = tt
after_lives NoMemory only = tt
after_lives (node.Refused recover.Device) only = tt
after_lives (node.Refused recover.Exhausted) only = tt
after_lives (node.Refused recover.NotState) only = elim (only recover.NotState refl) [ inl same ↦ absurd (cc) | inr same ↦ absurd (cc) ]
after_lives (node.Refused recover.WrongOwner) only = elim (only recover.WrongOwner refl) [ inl same ↦ absurd (cc) | inr same ↦ absurd (cc) ]
after_lives (node.Refused recover.NoSlot) only = elim (only recover.NoSlot refl) [ inl same ↦ absurd (cc) | inr same ↦ absurd (cc) ]
after_lives (node.Refused recover.Damaged) only = elim (only recover.Damaged refl) [ inl same ↦ absurd (cc) | inr same ↦ absurd (cc) ]

module _ (p q : Playing) (old new : PlayDisk) (at : p.disk ≡ Some old) where
  pub opening-begun : (first : ℕ) → CanOpen p.setup → shown (owner_of p.setup.settings) (disk_state old).content ≡ None → first ≡ floor (disk_state old).content + 1 → q ≡ with_life old first new p → IfDisk p.disk p q (λ disk. IsOpening disk (Begun first) p q)
  opening-begun first can sound next is = if-disk p q old (λ disk. IsOpening disk (Begun first) p q) at (record { can = can; sound = sound; next = next; disk = new; is = is })

  refused-as : (fault : OpenFault) (opening : OpeningOutcome) → opening ≡ Refused (refusal.Open fault) → IsRefused p.setup old (refusal.Open fault) new → (p.apart ≡ false → 0 < length p.lives → ComesAfterLives (refusal.Open fault)) → q ≡ record p { disk = Some new } → IfDisk p.disk p q (λ disk. IsOpening disk opening p q)
  refused-as fault opening same shows lived is =
      if-disk p q old (λ disk. IsOpening disk opening p q) at (subst (λ (o : OpeningOutcome). IsOpening old o p q) (sym same) (record { disk = new; cause = shows; lived = lived; is = is }))

  -- the node did not open
  pub opening-refused : {E : Type 0} (fault : OpenFault) (result : Result OpeningOutcome E) → (fault ≢ NoMemory → IsRefused p.setup old (refusal.Open fault) new) → (p.apart ≡ false → 0 < length p.lives → ComesAfterLives (refusal.Open fault)) → q ≡ record p { disk = Some new } → IfOk result (λ opening. opening ≡ Refused (refusal.Open fault)) → OnOk result (fault ≢ NoMemory) → IfOk result (λ opening. IfDisk p.disk p q (λ disk. IsOpening disk opening p q))
  opening-refused fault (Ok opening) shows lived is same room = refused-as fault opening same (shows room) lived is
  opening-refused fault (Err error) shows lived is same room = tt

-- ---- events

-- what the open life answered, as what plays sees it
pub answered-is : (p : Playing) (old new : Life PlayDisk) (event : Event) (answer : Result (Unit {0}) ApplyFault) → p.disk ≡ Some old.left → p.life ≡ Some (asked_of old) → OnOk answer (Adds old new event) → IfErr answer (IsDeclined old) → OnErr answer (new ≡ old) → IsAnswered event p.life p (record p { disk = Some new.left; life = Some (asked_of new) }) answer
answered-is p old new event answer at living added declined same =
    subst (λ (o : Option ScriptedLife). IsAnswered event o p (record p { disk = Some new.left; life = Some (asked_of new) }) answer) (sym living) (by-answer answer added declined same)
  where
    by-answer : (answer : Result (Unit {0}) ApplyFault) → OnOk answer (Adds old new event) → IfErr answer (IsDeclined old) → OnErr answer (new ≡ old) → IsAnswered event (Some (asked_of old)) p (record p { disk = Some new.left; life = Some (asked_of new) }) answer
    by-answer (Ok done) added declined same = record {
      room = rw (length-map old.entries event_of) added.room;
      disk = new.left;
      is = ap (λ (life : ScriptedLife). record p { disk = Some new.left; life = Some life }) (ap asked_of added.entries ∙ ap (λ (events : List Event). record (asked_of old) { events = events; left = new.left }) (map-append event_of old.entries (added.entry ∷ []) ∙ ap (λ (e : Event). map event_of old.entries ++ e ∷ []) added.happened));
    }
    by-answer (Err EraFull) added declined same = (length-map old.entries event_of ∙ declined, rw same (ap (λ (o : Option PlayDisk). record p { disk = o; life = Some (asked_of old) }) (sym at) ∙ ap (λ (o : Option ScriptedLife). record p { life = o }) (sym living)))
    by-answer (Err apply.NoMemory) added declined same = rw same (ap (λ (o : Option PlayDisk). record p { disk = o; life = Some (asked_of old) }) (sym at) ∙ ap (λ (o : Option ScriptedLife). record p { life = o }) (sym living))
    by-answer (Err OutOfTurn) added declined same = declined

-- ---- peers that are kept

-- a new era is one of the open life, and has no events
pub era-open : (o : Option ScriptedLife) → is_some o ≡ true → is_some (with_new_era o) ≡ true
era-open None h = absurd (cc)
era-open (Some life) h = refl

pub era-empty : (o : Option ScriptedLife) → events_in (with_new_era o) ≡ []
era-empty None = refl
era-empty (Some life) = refl

pub no-events : (entries : List Entry) → map event_of entries ≡ [] → entries ≡ []
no-events [] h = refl
no-events (e ∷ entries) h = absurd (cc)

-- what the open life wrote, as what plays sees it
pub written-is : (p : Playing) (old new : Life PlayDisk) → p.life ≡ Some (asked_of old) → asked_of new ≡ record (asked_of old) { left = new.left } → WritesState p (record p { disk = Some new.left; life = Some (asked_of new) })
written-is p old new living kept =
    (new.left, ap (λ (l : ScriptedLife). record p { disk = Some new.left; life = Some l }) kept ∙ ap (λ (o : Option ScriptedLife). record p { disk = Some new.left; life = with_left new.left o }) (sym living))

pub keep-does : (p m q : Playing) → is_some p.life ≡ true → m ≡ record p { life = with_new_era p.life } → WritesState m q → Does p KeepPeers q
keep-does p m q opened era writes =
    subst (λ (o : Option ScriptedLife). IfOpen o p q (WritesState (record p { life = with_new_era p.life }) q)) (sym (some-of p.life opened).1)
    (subst (λ (r : Playing). WritesState r q) era writes)
