use Rattle.std.proofs.Common.{sym, ap, ◌∙◌}
use Rattle.swim_http.specs.Requests.{path_in}
use Rattle.swim_http.proofs.Paths.{path_in-split, path_in-whole}
use Rattle.swim_http.proofs.request.path_in.Goals as goal

-- the target is cut at its first question mark
pub returns-in-Some : goal.returns-in-Some
returns-in-Some c =
    sym (ap path_in c.in-Some.ensures.parts
    ∙ path_in-split c.in-Some.path.now c.in-Some.field-0-1.now c.in-Some.ensures.first)

-- it has none
pub returns-in-None : goal.returns-in-None
returns-in-None c = sym (path_in-whole c.args.target.now c.in-None.ensures.none)
