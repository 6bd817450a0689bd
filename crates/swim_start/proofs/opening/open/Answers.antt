use Rattle.std.proofs.Common.{◌≡◌, Some, None, subst}
use Rattle.std.proofs.lemmas.Result.{IfOk-weaker}
use Rattle.swim_disk.specs.File.{FileView, file_state}
use Rattle.swim_node.specs.Node.{owner_of}
use Rattle.swim_state.specs.Recovery.{fault_of}
use Rattle.swim_start.proofs.Outcomes.{of_refused}
use Rattle.swim_start.proofs.opening.open.Goals as goal

pub returns-clause-entries : goal.returns-clause-entries
returns-clause-entries g c = IfOk-weaker c.open.result _ _ (λ node life. life.entries) c.open.ensures.opens

pub returns-clause-limit : goal.returns-clause-limit
returns-clause-limit g c = of_refused c.open.result _ _ c.open.ensures.refused (λ refused why. why.range)

-- the watched disk shows what the file shows
pub returns-clause-fault : goal.returns-clause-fault
returns-clause-fault g c =
    of_refused c.open.result _ _ c.open.ensures.refused
    (λ refused why fault other is. subst (λ (d : FileView). fault_of (owner_of c.args.settings) (file_state d).content ≡ Some fault) c.new.ensures.inner ((why.unopened tt).shown fault other is))

pub returns-clause-none : goal.returns-clause-none
returns-clause-none g c =
    IfOk-weaker c.open.result _ _
    (λ node life. subst (λ (d : FileView). fault_of (owner_of c.args.settings) (file_state d).content ≡ None) c.new.ensures.inner (life.none tt))
    c.open.ensures.opens

pub returns-clause-begins : goal.returns-clause-begins
returns-clause-begins g c =
    IfOk-weaker c.open.result _ _ (λ node life. (c.new.result, c.new.ensures.inner, life.begins tt, life.living tt)) c.open.ensures.opens

pub returns-clause-refused : goal.returns-clause-refused
returns-clause-refused g c =
    of_refused c.open.result _ _ c.open.ensures.refused (λ refused why. (c.new.result, c.new.ensures.inner, why.unopened tt))
