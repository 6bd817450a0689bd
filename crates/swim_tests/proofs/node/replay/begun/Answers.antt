use Rattle.std.proofs.Common.{◌≡◌, ap, ◌∙◌, subst, sym, Result, Ok, Err, Some}
use Rattle.std.specs.Result.{OnOk, result_ok}
use Rattle.swim_member.specs.Checks.{AreSound}
use Rattle.swim_node.specs.History.{Base}
use Rattle.swim_node.specs.contracts.beginning.Beginning.{the_view}
use Rattle.swim_tests.proofs.node.replay.begun.Goals as goal

-- what holds where a result is good holds of one that was expected to be
expected : {A E P : Type 0} (answer : Result A E) (x : A) → result_ok answer ≡ Some x → OnOk answer P → P
expected (Ok y) x e h = h
expected (Err fault) x e h = absurd (cc)

pub begin-requires : goal.begin-requires
begin-requires g c =
    let looked = ap the_view c.beginning-inside.view_is ∙ c.beginning.view_is in
    record {
      sound = subst AreSound (ap (λ (b : Base). b.state.settings) looked)
          (expected c.check-sound.result c.expect.result (sym c.ok.ensures.value ∙ c.expect.ensures) c.check-sound.ensures.ok);
    }
