-- The law of a group, as a run looks whether it is kept.
use Rattle.std.specs.Prelude.{◌≡◌, ℕ, List, [], ◌∷◌, ◌++◌, length, take, Option, Some, None}
use Rattle.std.specs.Prelude.{IfSome}
use Rattle.swim_wire.specs.declared.datagram.Datagram.{Datagram}
use Rattle.swim_member.specs.declared.answer.Out.{Out}
use Rattle.swim_group.specs.Checking.{MayFollow, KeepTheLaw, Remembers}
use Rattle.swim_group.specs.RealNodes.{RealNodes, HasSent}
use Rattle.swim_simulate.specs.declared.law.Broken.{Broken}
use Rattle.swim_simulate.specs.declared.law.Broken.TheVariants.{Group, Detection}
use Rattle.swim_simulate.specs.declared.law.LawBreak.{LawBreak}
use Rattle.swim_simulate.specs.declared.watched.TheConstants.{ROOM}

-- the numbers that each member told of itself, or none where a datagram was not seen, and where
-- a law was broken first
pub record LawView : Type 0 where
  pub told : Option (List (ℕ × List ℕ))
  pub stop : Option LawBreak

-- where nothing is said of a datagram, it keeps the law after all that was seen before, and it is
-- seen too
abbrev pub LooksAt : LawView → LawView → Datagram → Type 0
LooksAt old new d =
    (told : List (ℕ × List ℕ)) → (sent : List Out) → (out : Out)
    → new.stop ≡ None
    → old.told ≡ Some told
    → Remembers told sent
    → out.datagram ≡ d
    → MayFollow sent d
    × ((now : List (ℕ × List ℕ)) × (new.told ≡ Some now) × Remembers now (sent ++ out ∷ []))

-- what was broken first stays
abbrev pub KeepsFirst : LawView → LawView → Type 0
KeepsFirst old new = (stop : LawBreak) → old.stop ≡ Some stop → new.stop ≡ Some stop

-- what was broken first, or else this
abbrev pub first_of : Option LawBreak → LawBreak → Option LawBreak
first_of None stop = Some stop
first_of (Some first) stop = Some first

-- what is remembered, if anything still is, is what was told in these
abbrev pub KnowsAll : Option (List (ℕ × List ℕ)) → List Out → Type 0
KnowsAll told sent = IfSome told (λ numbers. Remembers numbers sent)

-- a datagram that keeps the law after all that was sent before: nothing is said of it, and it is
-- seen too
abbrev pub PassesNext : LawView → LawView → Datagram → Type 0
PassesNext old new d = (sent : List Out) → (out : Out)
    → out.datagram ≡ d
    → KnowsAll old.told sent
    → MayFollow sent d
    → (new.stop ≡ old.stop) × KnowsAll new.told (sent ++ out ∷ [])

-- and so do these
abbrev pub PassesAll : LawView → LawView → List Out → Type 0
PassesAll old new outs = (sent : List Out)
    → KnowsAll old.told sent
    → KeepTheLaw sent outs
    → (new.stop ≡ old.stop) × KnowsAll new.told (sent ++ outs)

-- what was sent last is looked at, where so many were kept before, and as
-- many as there is room for are kept now
abbrev pub LooksAtLast : LawView → LawView → List Out → ℕ → Type 0
LooksAtLast old new kept count = (before outs : List Out)
    → length before ≡ count
    → kept ≡ take ROOM (before ++ outs)
    → PassesAll old new outs

-- the law has seen all that was sent in a run of these nodes, if it still looks
abbrev pub SeesAll : LawView → RealNodes → Type 0
SeesAll law nodes = HasSent nodes (KnowsAll law.told)

-- it is the law of detection that was broken, and not that of a group
abbrev pub IsOfDetection : Broken → Type 0
IsOfDetection (Detection lapse) = Unit {0}
IsOfDetection (Group breach) = ⊥

-- no law of a group was broken
abbrev pub IsLawful : Option LawBreak → Type 0
IsLawful stop = IfSome stop (λ s. IsOfDetection s.broken)
