-- A life that goes on, and one that ends.
use Rattle.std.proofs.Common.{◌≡◌, ℕ, List, [], ◌∷◌, ◌++◌, Option, refl, ap, ◌∙◌, arith}
use Rattle.std.specs.Option.{option_to_list}
use Rattle.swim_disk.specs.Disk.{DiskState}
use Rattle.swim_state.specs.Held.{Held}
use Rattle.swim_member.specs.State.{State as Member}
use Rattle.swim_node.specs.History.{Base, IsLegal}
use Rattle.swim_node.specs.Owns.{owns, owns_in, AreAtLeast}
use Rattle.swim_node.specs.Node.{NodeView, IsNode, granted_base, next_base}
use Rattle.swim_node.specs.Lives.{Era, AreJoined, IsRaised, numbers_in, era_of, GoesOn, EndsEra, MayEnd}
use Rattle.swim_node.proofs.Lists.{at_least-append}

joined-snoc : (start : Base) (eras : List Era) (era : Era) → AreJoined start eras era.base → IsLegal era.base era.entries → AreJoined start (eras ++ era ∷ []) (next_base era.base era.entries)
joined-snoc start [] era joined legal = (joined, legal, record { same = refl; grows = omega arith })
joined-snoc start (first ∷ eras) era joined legal = (joined.0, joined.1, joined-snoc (next_base first.base first.entries) eras era joined.2 legal)

-- a greater ceiling of the last base
raised-more : (start base new : Base) → IsRaised start base → IsRaised base new → IsRaised start new
raised-more start base new first second = record {
  same = second.same ∙ ap (λ (b : Base). granted_base b new.granted) first.same;
  grows = omega (arith, first.grows, second.grows);
}

joined-raised : (start : Base) (eras : List Era) (base new : Base) → AreJoined start eras base → IsRaised base new → AreJoined start eras new
joined-raised start [] base new joined more = raised-more start base new joined more
joined-raised start (era ∷ eras) base new joined more = (joined.0, joined.1, joined-raised (next_base era.base era.entries) eras base new joined.2 more)

at_least-parts : (f : ℕ) (ms ns : List ℕ) → AreAtLeast f (ms ++ ns) → AreAtLeast f ms × AreAtLeast f ns
at_least-parts f [] ns h = (tt {0}, h)
at_least-parts f (m ∷ ms) ns h = let rest = at_least-parts f ms ns h.1 in ((h.0, rest.0), rest.1)

numbers-snoc : (f : ℕ) (eras : List Era) (era : Era) → AreAtLeast f (numbers_in eras) → AreAtLeast f (owns era.base era.entries) → AreAtLeast f (numbers_in (eras ++ era ∷ []))
numbers-snoc f [] era h k = at_least-append f (owns_in era.base.state.settings.me era.entries) [] (at_least-parts f (option_to_list era.base.past) _ k).1 (tt {0})
numbers-snoc f (first ∷ eras) era h k =
    let parts = at_least-parts f (owns_in first.base.state.settings.me first.entries) (numbers_in eras) h in
    at_least-append f (owns_in first.base.state.settings.me first.entries) _ parts.0 (numbers-snoc f eras era parts.1 k)

-- a call that raises the ceiling of the base
pub goes_raised : {D : Type 0} (state : D → DiskState) (old new : NodeView D) → IsRaised old.base new.base → new.owner ≡ old.owner → new.first ≡ old.first → GoesOn state old new
goes_raised state old new raised owner first settings limit opened eras h = record {
  same_owner = rw owner h.same_owner;
  joined = rw first (joined-raised _ eras old.base new.base h.joined raised);
  above = rw (owner, first) h.above;
  begun = rw first h.begun;
}

-- a call that leaves base, owner and first number as they were
pub goes_on : {D : Type 0} (state : D → DiskState) (old new : NodeView D) → new.base ≡ old.base → new.owner ≡ old.owner → new.first ≡ old.first → GoesOn state old new
goes_on state old new base owner first = goes_raised state old new (rw base (record { same = refl; grows = omega arith })) owner first

-- a call that begins an era with what is now
pub ends_era : {D : Type 0} (state : D → DiskState) (old new : NodeView D) → new.base ≡ next_base old.base old.entries → new.owner ≡ old.owner → new.first ≡ old.first → IsLegal old.base old.entries → AreAtLeast old.first (owns old.base old.entries) → EndsEra state old new
ends_era state old new base owner first legal begun settings limit opened eras h = record {
  same_owner = rw owner h.same_owner;
  joined = rw (base, first) (joined-snoc _ eras (era_of old) h.joined legal);
  above = rw (owner, first) h.above;
  begun = rw first (numbers-snoc old.first eras (era_of old) h.begun begun);
}

-- what a node keeps makes a life that ends one that was lived
pub may_end : {D : Type 0} (state : D → DiskState) (node : NodeView D) (member : Member) (ceiling : ℕ) (top : Option ℕ) → IsNode node.base node.entries node.first member ceiling top → Held node.owner (state node.disk) ceiling → MayEnd state node
may_end state node member ceiling top n held settings limit opened eras h = record {
  same_owner = h.same_owner;
  joined = h.joined;
  legal = n.legal;
  above = h.above;
  begun = at_least-append node.first (numbers_in eras) _ h.begun (at_least-parts node.first (option_to_list node.base.past) _ n.begun).1;
  started = omega (arith, n.low, n.high, n.granted);
  covers = rw n.granted n.covers;
  held = rw n.granted held;
}
