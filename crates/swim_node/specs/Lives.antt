-- Lives one after another, each opened on what became of the disk that the one before left.
use Rattle.std.specs.Prelude.{◌≡◌, ◌↔◌, ◌⊎◌, ℕ, ◌+◌, ◌<◌, ◌≤◌, List, [], ◌∷◌, ◌++◌, Some}
use Rattle.swim_disk.specs.Disk.{DiskState, IsSettled}
use Rattle.swim_state.specs.declared.owner.Owner.{Owner}
use Rattle.swim_state.specs.Held.{Held, Through, Covers}
use Rattle.swim_state.specs.Recovery.{fault_of}
use Rattle.swim_state.specs.declared.fault.RecoverFault.{RecoverFault}
use Rattle.swim_state.specs.declared.fault.RecoverFault.TheVariants.{Device, Exhausted}
use Rattle.swim_member.specs.declared.settings.Settings.{Settings}
use Rattle.swim_node.specs.declared.entry.Entry.{Entry}
use Rattle.swim_node.specs.declared.fault.OpenFault.{OpenFault}
use Rattle.swim_node.specs.declared.fault.OpenFault.TheVariants as opening
use Rattle.swim_node.specs.declared.opening.TheConstants.{LIMIT_MAX}
use Rattle.swim_node.specs.History.{Base, IsLegal, granted_of, fresh_base}
use Rattle.swim_node.specs.Owns.{owns, owns_in, AreAtMost, AreAtLeast}
use Rattle.swim_node.specs.Node.{NodeView, granted_base, owner_of, next_base}

-- an era that a rebase ended
pub record Era : Type 0 where
  pub base : Base
  pub entries : List Entry

-- a life: with which settings and era limit it was opened, on which disk and with which
-- first number, its earlier eras in order, its last era, and the disk that it left
pub record Life (D : Type 0) : Type 0 where
  pub settings : Settings
  pub limit : ℕ
  pub opened : D
  pub first : ℕ
  pub eras : List Era
  pub base : Base
  pub entries : List Entry
  pub left : D

-- a base that is this one, or has a greater ceiling: peers were saved before its first entry
pub record IsRaised (start base : Base) : Type 0 where
  pub same : base ≡ granted_base start base.granted
  pub grows : start.granted ≤ base.granted

-- from this base each era is legal, and each next one begins
-- with the state after the one before, up to the last base
abbrev pub AreJoined : Base → List Era → Base → Type 0
AreJoined start [] base = IsRaised start base
AreJoined start (era ∷ eras) base = IsRaised start era.base
    × IsLegal era.base era.entries
    × AreJoined (next_base era.base era.entries) eras base

-- the own numbers in the datagrams of these eras, taken or lost
abbrev pub numbers_in : List Era → List ℕ
numbers_in [] = []
numbers_in (era ∷ eras) = owns_in era.base.state.settings.me era.entries ++ numbers_in eras

-- all own numbers of a life
abbrev pub numbers_of : {D : Type 0} → Life D → List ℕ
numbers_of life = numbers_in life.eras ++ owns_in life.base.state.settings.me life.entries

-- the ceiling that was granted last
abbrev pub ceiling_of : {D : Type 0} → Life D → ℕ
ceiling_of life = granted_of life.base life.entries

-- the era that goes on
abbrev pub era_of : {D : Type 0} → NodeView D → Era
era_of node = record { base = node.base; entries = node.entries }

-- the life of this node, which was opened so on that disk, and of which these eras have ended
abbrev pub life_of : {D : Type 0} → Settings → ℕ → D → List Era → NodeView D → Life D
life_of settings limit opened eras node = record {
  settings = settings;
  limit = limit;
  opened = opened;
  first = node.first;
  eras = eras;
  base = node.base;
  entries = node.entries;
  left = node.disk;
}

-- what holds of a life while it goes on, beside what its node keeps: it was opened above
-- all that was held, its eras are joined, and no number of an ended one is below its first
pub record IsLiving {D : Type 0} (state : D → DiskState) (owner : Owner) (life : Life D)
    : Type 0 where
  pub same_owner : owner ≡ owner_of life.settings
  pub joined : AreJoined (fresh_base life.settings life.first life.limit) life.eras life.base
  pub above : (b : ℕ) → Held owner (state life.opened) b → b < life.first
  pub begun : AreAtLeast life.first (numbers_in life.eras)

-- a call of a node that ends no era: its life goes on
abbrev pub GoesOn : {D : Type 0} → (D → DiskState) → NodeView D → NodeView D → Type 0
GoesOn {D} state old new =
    (settings : Settings) → (limit : ℕ) → (opened : D) → (eras : List Era)
    → IsLiving state old.owner (life_of settings limit opened eras old)
    → IsLiving state new.owner (life_of settings limit opened eras new)

-- a call that ends an era: its life goes on, with one ended era more
abbrev pub EndsEra : {D : Type 0} → (D → DiskState) → NodeView D → NodeView D → Type 0
EndsEra {D} state old new =
    (settings : Settings) → (limit : ℕ) → (opened : D) → (eras : List Era)
    → IsLiving state old.owner (life_of settings limit opened eras old)
    → IsLiving state new.owner (life_of settings limit opened (eras ++ era_of old ∷ []) new)

-- what the node of a life told of it: `open` of its first number, `disk` at the end
-- of each era of the numbers sent, and `disk` or `into_disk` of the disk that it left
pub record IsLived {D : Type 0} (state : D → DiskState) (owner : Owner) (life : Life D)
    : Type 0 where
  pub same_owner : owner ≡ owner_of life.settings
  pub joined : AreJoined (fresh_base life.settings life.first life.limit) life.eras life.base
  pub legal : IsLegal life.base life.entries
  pub above : (b : ℕ) → Held owner (state life.opened) b → b < life.first
  pub begun : AreAtLeast life.first (numbers_of life)
  pub started : life.first ≤ ceiling_of life
  pub covers : AreAtMost (ceiling_of life) (owns life.base life.entries)
  pub held : Held owner (state life.left) (ceiling_of life)

-- whichever life it is that goes on with this node, it is one
-- that was lived, if it ends now and leaves the disk as it is
abbrev pub MayEnd : {D : Type 0} → (D → DiskState) → NodeView D → Type 0
MayEnd {D} state node =
    (settings : Settings) → (limit : ℕ) → (opened : D) → (eras : List Era)
    → IsLiving state node.owner (life_of settings limit opened eras node)
    → IsLived state node.owner (life_of settings limit opened eras node)

-- what may become of a disk with a floor of at least b: it stays as it was
-- when the process is killed, a crash leaves one of its images, or one of
-- the images of a call that was cut short, or a recovery is refused
pub data Then (D : Type 0) (state : D → DiskState) (owner : Owner) (b : ℕ) : D → D → Type 0 where
  Killed : (d : D) → Then D state owner b d d
  Crashed : (d e : D)
      → (state d).images (state e).content
      → IsSettled (state e)
      → Then D state owner b d e
  Cut : (d f e : D)
      → Through (Covers owner b) (state d) (state f)
      → (state f).since (state d).clock (state e).content
      → IsSettled (state e)
      → Then D state owner b d e
  Refused : (d e : D) → Through (Covers owner b) (state d) (state e) → Then D state owner b d e

-- all that became of it, one after another
pub data Reached (D : Type 0) (state : D → DiskState) (owner : Owner) (b : ℕ) : D → D → Type 0 where
  Here : (d : D) → Reached D state owner b d d
  Next : (d e f : D)
      → Then D state owner b d e
      → Reached D state owner b e f
      → Reached D state owner b d f

-- the first of these lives, if there is one, was
-- opened on what became of the disk that this one left
abbrev pub IsFollowed : {D : Type 0} → (D → DiskState) → Owner → Life D → List (Life D) → Type 0
IsFollowed state owner life [] = Unit {0}
IsFollowed {D} state owner life (next ∷ lives) =
    Reached D state owner (ceiling_of life) life.left next.opened

-- each of the first numbers is below each of the others
abbrev pub AreBelow : List ℕ → List ℕ → Type 0
AreBelow [] ns = Unit {0}
AreBelow (m ∷ ms) ns = AreAtLeast (m + 1) ns × AreBelow ms ns

-- A life that begins with this number on this disk says none that the last one said, whatever
-- became of the disk since that one left it.
abbrev pub BeginsAbove : {D : Type 0} → (D → DiskState) → Owner → D → ℕ → Type 0
BeginsAbove {D} state owner opened first =
    (last : Life D) → IsLived state owner last
    → Reached D state owner (ceiling_of last) last.left opened
    → AreBelow (numbers_of last) (first ∷ [])

-- On this disk no life began, for this reason. A device fault is one failed call, and no call
-- failed for any other; the limit is refused where it is out of its range; any other fault is the
-- first that the disk shows. From a disk that holds a number only a device fault or exhaustion
-- comes, and no moment of the call left less on it, after a crash, than it held.
pub record Unopened {D : Type 0} (state : D → DiskState) (settings : Settings) (limit : ℕ)
    (reason : OpenFault) (opened left : D)
    : Type 0 where
  pub range : (reason ≡ opening.Limit) ↔ ((limit ≡ 0) ⊎ (LIMIT_MAX < limit))
  pub device : reason ≡ opening.Refused Device
      → (state left).failures ≡ (state opened).failures + 1
  pub calm : (reason ≡ opening.Refused Device → ⊥)
      → (state left).failures ≡ (state opened).failures
  pub shown : (fault : RecoverFault) → (fault ≡ Device → ⊥) → reason ≡ opening.Refused fault
      → fault_of (owner_of settings) (state opened).content ≡ Some fault
  pub from_held : (b : ℕ) → Held (owner_of settings) (state opened) b → (fault : RecoverFault)
      → reason ≡ opening.Refused fault → (fault ≡ Device) ⊎ (fault ≡ Exhausted)
  pub leaves : (b : ℕ) → Held (owner_of settings) (state opened) b
      → Through (Covers (owner_of settings) b) (state opened) (state left)

-- lives of one owner, each opened after the one before
abbrev pub AreLives : {D : Type 0} → (D → DiskState) → Owner → List (Life D) → Type 0
AreLives state owner [] = Unit {0}
AreLives state owner (life ∷ lives) =
    IsLived state owner life × IsFollowed state owner life lives × AreLives state owner lives

-- these numbers are below each own number of these lives
abbrev pub AreBelowAll : {D : Type 0} → List ℕ → List (Life D) → Type 0
AreBelowAll ms [] = Unit {0}
AreBelowAll ms (life ∷ lives) = AreBelow ms (numbers_of life) × AreBelowAll ms lives

-- every own number of a later life is above every own number of an earlier one
abbrev pub AreRising : {D : Type 0} → List (Life D) → Type 0
AreRising [] = Unit {0}
AreRising (life ∷ lives) = AreBelowAll (numbers_of life) lives × AreRising lives
