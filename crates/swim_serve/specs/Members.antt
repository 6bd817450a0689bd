-- A member from one era to the next.
use Rattle.std.specs.Prelude.{◌≡◌, ◌⊎◌, ℕ, List, [], ◌∷◌, ◌++◌, Bool, true, IsTrue, IsSome}
use Rattle.std.specs.Prelude.{Option, Some, None, Result, IfOk, IfErr, OnOk}
use Rattle.swim_disk.specs.Disk.{DiskState}
use Rattle.swim_member.specs.declared.state.Phase.{Phase}
use Rattle.swim_member.specs.declared.state.Phase.TheVariants as phases
use Rattle.swim_node.specs.Lives.{Era}
use Rattle.swim_node.specs.Node.{NodeView}
use Rattle.swim_record.specs.Handing.{recorded}
use Rattle.swim_shell.specs.declared.conversation.ControlEnd.{ControlEnd}
use Rattle.swim_shell.specs.declared.conversation.ControlEnd.TheVariants as control
use Rattle.swim_serve.specs.declared.era.EraFault.{EraFault}
use Rattle.swim_serve.specs.declared.fault.Fault.{Fault}
use Rattle.swim_serve.specs.declared.fault.Fault.TheVariants as fault
use Rattle.swim_serve.specs.declared.grace.MemberEnd.{MemberEnd}
use Rattle.swim_serve.specs.declared.grace.MemberEnd.TheVariants as member
use Rattle.swim_serve.specs.Desks.{IsHosted}
use Rattle.swim_serve.specs.Eras.{EraOf, LivesThrough, OutsideView, ServesAnew, StaysIn}
use Rattle.swim_serve.specs.Faults.{fault_by, fault_of}
use Rattle.swim_serve.specs.Works.{EraEnds}

-- what a contract sees of who keeps the eras of a member: whether it keeps them now, and those that
-- it was given, in order
pub record KeeperView : Type 0 where
  pub keeps : Bool
  pub given : List Era

-- what a contract sees of a member between two eras: its node, what it works with, and its keeper
pub record MemberView (D : Type 0) : Type 0 where
  pub node : NodeView D
  pub outside : OutsideView
  pub keeper : KeeperView

-- the same of these parts
abbrev pub member_of : {D : Type 0} → NodeView D → OutsideView → Bool → List Era → MemberView D
member_of node outside keeps given = record {
  node = node;
  outside = outside;
  keeper = record { keeps = keeps; given = given };
}

-- an expelled member ends once its wait is over
abbrev pub end_by_phase : Phase → Bool → Option MemberEnd
end_by_phase phases.Expelled true = Some member.Expelled
end_by_phase _ _ = None

-- how the member ends after an era, if it does: told by the line `stop`, or else expelled
abbrev pub member_end : Option ControlEnd → Phase → Bool → Option MemberEnd
member_end (Some control.Asked) now is_over = Some member.Stopped
member_end _ now is_over = end_by_phase now is_over

-- a member ends so after an era whose workers ended so: none of them by a fault, and the wait of
-- one that is expelled, if it waits for an end, is over or not
pub record EndsMember (expelled_ends : Option ℕ) (ends : EraEnds) (now : Phase) (end : MemberEnd)
    : Type 0 where
  pub sound : fault_of ends ≡ None
  pub is_over : Bool
  pub waited : IsTrue is_over → IsSome expelled_ends
  pub end_is : member_end ends.control now is_over ≡ Some end

-- or it fails after such an era: by the fault of a worker, or since for some seconds the system had
-- no thread for one
abbrev pub FailsMember : EraEnds → Fault → Type 0
FailsMember ends why = (fault_of ends ≡ Some why) ⊎ ((fault_of ends ≡ None) × (why ≡ fault.Threads))

-- the fault of an era that was cut short
abbrev pub CutsEra : Fault → Type 0
CutsEra why = (cause : EraFault) × (why ≡ fault_by cause)

-- one who keeps eras is given each that no fault ended, and another is given none
abbrev pub IsGiven : Bool → Option Fault → List Era → List Era → Era → Type 0
IsGiven true None before now era = now ≡ before ++ era ∷ []
IsGiven _ _ before now era = now ≡ before

-- eras one after another, each of which takes a member so from one view to the next; and what
-- happens to it after each of them
pub data Eras {V : Type 0} (era : V → V → EraEnds → Era → Type 0) (then : EraEnds → V → V → Type 0)
    : V → List Era → V → Type 0 where
  Here : (a : V) → Eras era then a [] a
  Next : (a b c d : V) (before : List Era) (ends : EraEnds) (last : Era) → Eras era then a before b
      → era b c ends last → then ends c d → Eras era then a (before ++ last ∷ []) d

-- a disk tells whether it keeps its model, and its state; an inbound and a link whether they tell
module _ {D : Type 0} (keeps : Type 0) (state : D → DiskState) (came tells : Type 0) where
  -- one era took the member from one view to the other, its workers ended so, and its keeper was
  -- given it, if it kept eras as this one began
  pub record ServesEra (a b : MemberView D) (ends : EraEnds) (era : Era) : Type 0 where
    pub is : EraOf keeps state a.node b.node era
        (ServesAnew came tells a.node.base.limit a.outside b.outside ends)
    pub given : IsGiven a.keeper.keeps (fault_of ends) a.keeper.given b.keeper.given
        (recorded era.base era.entries)

  -- its host was asked after an era that ended so, and may keep eras from now on or not
  pub record Hosts (relists : Type 0) (ends : EraEnds) (a b : MemberView D) : Type 0 where
    pub desk : IsHosted relists ends.control a.outside.desk b.outside.desk
    pub given : b.keeper.given ≡ a.keeper.given
    pub rest : b ≡ record a {
      outside = record a.outside { desk = b.outside.desk };
      keeper = b.keeper;
    }

  -- the last era of a member was whole, it ended so by it, and this node is left, with what its
  -- keeper was given
  pub record EndsWhole (expelled_ends : Option ℕ) (before : MemberView D)
      (how : Result MemberEnd Fault) (left : NodeView D) (given : List Era) (era : Era)
      : Type 0 where
    pub last : MemberView D
    pub ends : EraEnds
    pub served : ServesEra before last ends era
    pub left_is : left ≡ last.node
    pub given_is : given ≡ last.keeper.given
    pub ended : IfOk how (EndsMember expelled_ends ends left.base.state.phase)
    pub failed : IfErr how (FailsMember ends)

  -- or it was cut short by a fault, and this node is left; nobody was given it
  pub record EndsCut (before : MemberView D) (how : Result MemberEnd Fault) (left : NodeView D)
      (given : List Era)
      : Type 0 where
    pub failed : IfErr how CutsEra
    pub not_ended : OnOk how ⊥
    pub stays : StaysIn keeps state before.node left
    pub given_is : given ≡ before.keeper.given

  -- eras took it from this view to one from which on it ends so, and this node is left, with what
  -- its keeper was given; after each of them its host was asked, which ever changes whom it joins,
  -- or never. All of these are eras of one life
  pub record LivedBy (relists : Type 0) (first : MemberView D) (how : Result MemberEnd Fault)
      (left : NodeView D) (given : List Era)
      : Type 0 where
    pub before : MemberView D
    pub eras : List Era
    pub done : Eras ServesEra (Hosts relists) first eras before
    pub last : ((era : Era)
        × EndsWhole first.outside.expelled_ends before how left given era
        × LivesThrough state first.node (eras ++ era ∷ []) left)
        ⊎ (EndsCut before how left given × LivesThrough state first.node eras left)

  -- the same of one whose host never changes that, whoever was given its eras
  abbrev pub Lived : NodeView D → OutsideView → Result MemberEnd Fault → NodeView D → Type 0
  Lived node outside how left =
      (kept : Bool) × (before : List Era) × (given : List Era)
      × LivedBy ⊥ (member_of node outside kept before) how left given
