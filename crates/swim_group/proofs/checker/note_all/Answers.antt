use Rattle.std.proofs.Common.{rules, ◌≡◌, ◌∙◌, ℕ, List, [], Option, Some, None, cond, BTreeMap, ap, subst, sym}
use Rattle.std.specs.Prelude.{IsSome, unwrap_or}
use Rattle.std.specs.BTreeMap.{is_at}
use Rattle.std.specs.Map.{lookup}
use Rattle.std.specs.Ordering.{nat_cmp}
use Rattle.std.proofs.lemmas.Map.Steps.{set_value_same}
use Rattle.std.proofs.lemmas.Result.{on_ok_weaker, on_err_weaker}
use Rattle.swim_group.specs.Checking.{IsAdded, told_numbers}
use Rattle.swim_group.proofs.Checking.{found-numbers, noted-at, numbers-set}
use Rattle.swim_group.proofs.checker.note_all.Goals as goal

is-some : {X : Type 0} (o : Option X) (x : X) → o ≡ Some x → IsSome o
is-some o x e = search rules

pub returns-in-Some-clause-ok : goal.returns-in-Some-clause-ok
returns-in-Some-clause-ok c =
    let found : lookup (is_at (nat_cmp c.args.sender)) c.args.told.now.entries ≡ Some c.in-Some.numbers.now = sym c.in-Some.ensures.value in
    let writes = c.get_mut.follows.holds c.add_own.new.self in
    let sets = writes.3 (is-some (lookup (is_at (nat_cmp c.args.sender)) c.args.told.now.entries) c.in-Some.numbers.now found) in
    on_ok_weaker c.add_own.result
    (λ added. noted-at c.args.told.now.entries (c.get_mut.follows.lender c.add_own.new.self).entries c.args.sender c.in-Some.numbers.now c.add_own.new.self c.args.updates.now
    (found-numbers c.args.told.now.entries c.args.sender c.in-Some.numbers.now found) added
    (numbers-set c.args.told.now.entries (c.get_mut.follows.lender c.add_own.new.self).entries c.args.sender c.add_own.new.self sets.0))
    c.add_own.ensures.ok

pub returns-in-Some-clause-err : goal.returns-in-Some-clause-err
returns-in-Some-clause-err c =
    let found : lookup (is_at (nat_cmp c.args.sender)) c.args.told.now.entries ≡ Some c.in-Some.numbers.now = sym c.in-Some.ensures.value in
    let writes = c.get_mut.follows.holds c.add_own.new.self in
    on_err_weaker c.add_own.result
    (λ same. writes.0 ∙ set_value_same (is_at (nat_cmp c.args.sender)) c.args.told.now.entries c.add_own.new.self (found ∙ ap Some (sym same)))
    c.add_own.ensures.err

pub returns-clause-ok : goal.returns-clause-ok
returns-clause-ok c =
    let none : lookup (is_at (nat_cmp c.args.sender)) c.args.told.now.entries ≡ None = sym c.in_default.ensures.value in
    let had : told_numbers c.args.told.now.entries c.args.sender ≡ [] = ap (λ o. unwrap_or o []) none in
    let sets : (q : ℕ) → lookup (is_at (nat_cmp q)) c.insert.new.self.entries ≡ cond (is_at (nat_cmp c.args.sender) q) (Some c.add_own-2.new.self) (lookup (is_at (nat_cmp q)) c.args.told.now.entries) =
    subst (λ (m : BTreeMap ℕ (List ℕ)). (q : ℕ) → lookup (is_at (nat_cmp q)) c.insert.new.self.entries ≡ cond (is_at (nat_cmp c.args.sender) q) (Some c.add_own-2.new.self) (lookup (is_at (nat_cmp q)) m.entries)) c.get_mut.follows.holds-at-none c.in_ok-insert.ensures.updates.0 in
    noted-at c.args.told.now.entries c.insert.new.self.entries c.args.sender [] c.add_own-2.new.self c.args.updates.now had
    (subst (λ (ns : List ℕ). IsAdded ns c.args.sender c.args.updates.now c.add_own-2.new.self) c.new-numbers.ensures c.in_ok-add_own.ensures.ok)
    (numbers-set c.args.told.now.entries c.insert.new.self.entries c.args.sender c.add_own-2.new.self sets)
