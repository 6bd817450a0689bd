use Rattle.std.proofs.Common.{◌≡◌, ◌↔◌, ◌⊎◌, ℕ, List, Contains, Err, sym, subst}
use Rattle.std.specs.List.Sorted.{IsNonDecreasing, IsBinarySearchResult}
use Rattle.std.specs.Ordering.{nat_cmp}
use Rattle.swim_group.proofs.Adding.{place-sorted, place-contains}
use Rattle.swim_group.proofs.numbers.add.Goals as goal

pub returns-clause-sorted : goal.returns-clause-sorted
returns-clause-sorted c =
    let search : IsBinarySearchResult (λ y. nat_cmp y c.args.number) c.args.rising.now.items (Err c.in-Err.place) = subst (λ (xs : List ℕ). IsBinarySearchResult (λ y. nat_cmp y c.args.number) xs (Err c.in-Err.place)) c.deref.ensures.value c.in-Err.ensures.position in
    subst IsNonDecreasing (sym c.in-Ok.ensures.items) (place-sorted c.args.rising.now.items c.args.number c.in-Err.place search c.requires.sorted)

pub returns-clause-added : goal.returns-clause-added
returns-clause-added c n =
    subst (λ (xs : List ℕ). Contains xs n ↔ (Contains c.args.rising.now.items n ⊎ (n ≡ c.args.number))) (sym c.in-Ok.ensures.items) (place-contains c.args.rising.now.items c.args.number c.in-Err.place n)
