use Rattle.std.proofs.Common.{◌≡◌, rules, Err}
use Rattle.std.proofs.lemmas.Result.{err_from_is_err_and}
use Rattle.swim_node.proofs.KeptPeers.{kept_by_one, kept_by_two}
use Rattle.swim_node.proofs.keeping.keep.Goals as goal

pub returns-in_err-raise_by_one : goal.returns-in_err-raise_by_one
returns-in_err-raise_by_one g c =
    let p = err_from_is_err_and c.from_residual.result c.from_residual.ensures.1 in
    rw (p.1, p.2) (kept_by_one _ _ _ (Err c.in_err-raise_by_one.field-0.0) _ _ c.in_err-raise_by_one.ensures tt)

pub returns-then-eq : goal.returns-then-eq
returns-then-eq g c =
    let same : c.raise_by_one.new.store.peers ≡ c.args.peers.now = search rules in
    kept_by_one _ _ _ _ _ _ c.in_ok-raise_by_one.ensures same

pub returns : goal.returns
returns g c =
    let others : c.raise_by_one.new.store.peers ≡ c.args.peers.now → ⊥ = search rules in
    kept_by_two _ _ _ _ _ _ _ c.in_ok-raise_by_one.ensures others c.raise_by_one-2.ensures
