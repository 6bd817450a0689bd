-- Why a real node is not opened.
use Rattle.std.proofs.Common.{◌≡◌, ◌≢◌, ℕ, ◌<◌, ◌≤◌, ◌==◌, nat_lt, ◌⊎◌, inl, inr, max, arith, Bool, true, false, cond, refl, sym, ◌∙◌, ap, subst, List, length, take, slice_index_or, slice_set, Option, Some, None}
use Rattle.std.proofs.lemmas.Bool.{eqb-true}
use Rattle.swim_wire.specs.declared.update.TheConstants.{NUMBER_MAX}
use Rattle.swim_disk.specs.Disk.{DiskState, IsSettled}
use Rattle.swim_state.specs.declared.owner.Owner.{Owner}
use Rattle.swim_state.specs.declared.layout.Slot.TheVariants.{A, B}
use Rattle.swim_state.specs.declared.layout.Reading.{Reading}
use Rattle.swim_state.specs.declared.layout.Reading.TheVariants.{Shut, Holds, Damaged}
use Rattle.swim_state.specs.declared.fault.RecoverFault.{RecoverFault}
use Rattle.swim_state.specs.declared.fault.RecoverFault.TheVariants.{Device, NotState, WrongOwner, Exhausted}
use Rattle.swim_state.specs.File.{floor, ceiling_of, head, letters, says, layout_of, version_in, IsSound}
use Rattle.swim_state.specs.Held.{Held, Covers}
use Rattle.swim_state.specs.Recovery.{fault_of, head_fault, slots_fault, first_fault, same_bytes}
use Rattle.swim_node.specs.declared.fault.OpenFault.{OpenFault}
use Rattle.swim_node.specs.declared.fault.OpenFault.TheVariants.{Limit, NoMemory, Refused}
use Rattle.swim_node.specs.declared.entry.Tag.{Tag}
use Rattle.swim_node.specs.declared.fault.ApplyFault.{ApplyFault}
use Rattle.swim_node.specs.declared.fault.ApplyFault.TheVariants.{EraFull, OutOfTurn}
use Rattle.swim_node.specs.declared.fault.ApplyFault.TheVariants as apply
use Rattle.swim_node.specs.Node.{NodeView, IsTurn, Refused as Unentered}
use Rattle.swim_node.specs.declared.opening.TheConstants.{LIMIT_MAX}
use Rattle.swim_state.specs.declared.fault.InitFault.{InitFault}
use Rattle.swim_state.specs.declared.fault.InitFault.TheVariants as init
use Rattle.swim_member.specs.declared.answer.Out.{Out}
use Rattle.swim_member.specs.declared.event.Event.{Event}
use Rattle.swim_group.specs.declared.fault.NodesFault.{NodesFault}
use Rattle.swim_group.specs.declared.fault.NodesFault.TheVariants.{NotOpened, NoNode, Gone, NoDatagram, Readable}
use Rattle.swim_group.specs.declared.fault.NodesFault.TheVariants as nodes
use Rattle.swim_group.specs.declared.seat.Seat.{Seat}
use Rattle.swim_group.specs.RealNodes.{RealNodes, NodeDisk, LeavesThere}
use Rattle.swim_group.specs.Refusing.{IsNoLimit, IsUnrecovered, IsUnopened, IsUnopenedFirst, IsNotMade, IsUnentered, IsDeaf, IsShut, IsUnheard, IsNoStep, IsNoDelivery, IsNoOpening, IsAbsent}
use Rattle.swim_group.proofs.Holding.{get-at}
use Rattle.swim_group.proofs.Seating.{real, set-back, left-at}

-- Files

-- of what the slots say: no number is left above the floor
slots-floor : (a b : Reading) → slots_fault a b ≡ Some Exhausted → max (ceiling_of a) (ceiling_of b) ≡ NUMBER_MAX
slots-floor Damaged b e = absurd (cc)
slots-floor Shut Shut e = absurd (cc)
slots-floor Shut Damaged e = absurd (cc)
slots-floor Shut (Holds b) e = at (b.ceiling == NUMBER_MAX) refl e
  where
    at : (t : Bool) → (b.ceiling == NUMBER_MAX) ≡ t → cond t (Some Exhausted) None ≡ Some Exhausted → max 0 b.ceiling ≡ NUMBER_MAX
    at true h f = let same : b.ceiling ≡ NUMBER_MAX = eqb-true b.ceiling NUMBER_MAX h in omega arith
    at false h f = absurd (cc)
slots-floor (Holds a) Shut e = at (a.ceiling == NUMBER_MAX) refl e
  where
    at : (t : Bool) → (a.ceiling == NUMBER_MAX) ≡ t → cond t (Some Exhausted) None ≡ Some Exhausted → max a.ceiling 0 ≡ NUMBER_MAX
    at true h f = let same : a.ceiling ≡ NUMBER_MAX = eqb-true a.ceiling NUMBER_MAX h in omega arith
    at false h f = absurd (cc)
slots-floor (Holds a) Damaged e = absurd (cc)
slots-floor (Holds a) (Holds b) e = at (max a.ceiling b.ceiling == NUMBER_MAX) refl e
  where
    at : (t : Bool) → (max a.ceiling b.ceiling == NUMBER_MAX) ≡ t → cond t (Some Exhausted) None ≡ Some Exhausted → max a.ceiling b.ceiling ≡ NUMBER_MAX
    at true h f = eqb-true (max a.ceiling b.ceiling) NUMBER_MAX h
    at false h f = absurd (cc)

head-other : (owner : Owner) (front : List ℕ) → head_fault owner front ≢ Some Exhausted
unfolding head_fault
head-other owner front e = at (same_bytes (take 10 front) letters) (same_bytes front (head owner)) e
  where
    at : (a b : Bool) → cond a (cond b None (Some WrongOwner)) (Some NotState) ≢ Some Exhausted
    at true true f = cc
    at true false f = cc
    at false b f = cc

later-fault : (first later : Option RecoverFault) → first ≢ Some Exhausted → first_fault first later ≡ Some Exhausted → later ≡ Some Exhausted
later-fault None later other e = e
later-fault (Some fault) later other e = absurd (other e)

-- a file is exhausted where its floor is the greatest number
exhausted-floor : (owner : Owner) (content : List ℕ) → fault_of owner content ≡ Some Exhausted → floor content ≡ NUMBER_MAX
unfolding fault_of
exhausted-floor owner content e = at (nat_lt (length content) (layout_of (version_in content)).file_size) e
  where
    at : (b : Bool) → cond b (Some NotState) (first_fault (head_fault owner (take 24 content)) (slots_fault (says content A) (says content B))) ≡ Some Exhausted → floor content ≡ NUMBER_MAX
    at true f = absurd (cc)
    at false f =
        slots-floor (says content A) (says content B)
        (later-fault (head_fault owner (take 24 content)) (slots_fault (says content A) (says content B)) (head-other owner (take 24 content)) f)

unrecovered : (owner : Owner) (content : List ℕ) (why : RecoverFault) → (why ≡ Device) ⊎ (why ≡ Exhausted) → (why ≢ Device → fault_of owner content ≡ Some why) → IsUnrecovered content why
unrecovered owner content why (inl e) shown = subst (IsUnrecovered content) (sym e) (tt {0})
unrecovered owner content why (inr e) shown =
    let other : why ≢ Device = λ d. apart (sym d ∙ e) in
    subst (IsUnrecovered content) (sym e) (exhausted-floor owner content (shown other ∙ ap (λ f. Some f) e))
  where
    apart : Device ≢ Exhausted
    apart i = cc

-- Openings

pub unopened : (limit : ℕ) (owner : Owner) (content : List ℕ) (why : OpenFault) → (why ≡ Limit → IsNoLimit limit)
    → ((fault : RecoverFault) → why ≡ Refused fault → (fault ≡ Device) ⊎ (fault ≡ Exhausted))
    → ((fault : RecoverFault) → fault ≢ Device → why ≡ Refused fault → fault_of owner content ≡ Some fault)
    → IsUnopened limit content why
unopened limit owner content (Refused why) range held shown = unrecovered owner content why (held why refl) (λ other. shown why other refl)
unopened limit owner content Limit range held shown = range refl
unopened limit owner content NoMemory range held shown = tt {0}

pub within-limit : (limit : ℕ) → 1 ≤ limit → limit ≤ LIMIT_MAX → IsNoLimit limit → ⊥
within-limit limit low high (inl e) = absurd (omega arith)
within-limit limit low high (inr h) = absurd (omega arith)

-- what a crash left of a disk that held a ceiling holds it
pub held-left : (old left : DiskState) (owner : Owner) (b : ℕ) → Held owner old b → old.images left.content → IsSettled left → Held owner left b
held-left old left owner b held image settled c there = subst (Covers owner b) (sym (settled c there)) (held left.content image)

-- a new file has a floor, which is 0
pub held-new : (disk : DiskState) (owner : Owner) → ((c : List ℕ) → disk.images c → IsSound owner c × (floor c ≡ 0)) → Held owner disk 0
held-new disk owner made c there = let both : IsSound owner c × (floor c ≡ 0) = made c there in record { sound = both.0; covered = omega arith }

-- and so it is not exhausted
pub unopened-first : (limit : ℕ) (content : List ℕ) (why : OpenFault) → floor content ≡ 0 → IsUnopened limit content why → IsUnopenedFirst limit why
unopened-first limit content (Refused why) zero h = only why h
  where
    only : (fault : RecoverFault) → IsUnrecovered content fault → fault ≡ Device
    only Device k = refl
    only Exhausted k = absurd (omega arith)
    only _ k = absurd k
unopened-first limit content Limit zero h = h
unopened-first limit content NoMemory zero h = h

-- Seats

pub unmade : (why : InitFault) → (why ≡ init.Range → ⊥) → (why ≡ init.NotEmpty → ⊥) → IsNotMade why
unmade init.Device range empty = tt {0}
unmade init.Range range empty = range refl
unmade init.NotEmpty range empty = empty refl

-- a call in turn
pub unentered : (node : NodeView NodeDisk) (tag : Tag) (fault : ApplyFault) → IsTurn node.entries tag → Unentered node.base node.entries tag fault → IsUnentered node fault
unentered node tag EraFull turn h = h.1
unentered node tag apply.NoMemory turn h = tt {0}
unentered node tag OutOfTurn turn h = h turn

-- Calls

module _ (seats : List Seat) (kept : List Out) (room limit which : ℕ) (old : Seat) (there : which < length seats) (at : old ≡ slice_index_or seats which old) where
  pub unheard : (fault : NodesFault) → IsDeaf old fault → IsUnheard (real seats kept room limit) which fault
  unheard NoNode h = absurd h
  unheard nodes.NoMemory h = tt {0}
  unheard fault h = record { seat = old; found = get-at seats which old there at; has = h }

  pub absent : (fault : NodesFault) → fault ≡ Gone → old.node ≡ None → IsAbsent (real seats kept room limit) which fault
  absent fault is gone = subst (IsAbsent (real seats kept room limit) which) (sym is) (record { seat = old; found = get-at seats which old there at; has = gone })

  pub no-opening : (new : Seat) (fault : NodesFault) → LeavesThere old new fault → IsShut old limit fault → IsNoOpening (real seats kept room limit) (real (slice_set seats which new) kept room limit) which fault
  no-opening new Gone is h = (
    record { seat = old; found = get-at seats which old there at; has = h },
    ap (λ ss. real ss kept room limit) (ap (slice_set seats which) is ∙ set-back seats which old there at),
  )
  no-opening new (NotOpened why) is h = (record { seat = old; found = get-at seats which old there at; has = h }, left-at seats kept room limit which old new there at is)
  no-opening new _ is h = absurd h

pub no-step : (g : RealNodes) (which : ℕ) (event : Event) (fault : NodesFault) → IsUnheard g which fault → IsNoStep g which event fault
no-step g which event Readable h = absurd h.has
no-step g which event fault h = h

pub no-delivery : (g : RealNodes) (which datagram : ℕ) (fault : NodesFault) → IsUnheard g which fault → IsNoDelivery g which datagram fault
no-delivery g which datagram NoDatagram h = absurd h.has
no-delivery g which datagram fault h = h
