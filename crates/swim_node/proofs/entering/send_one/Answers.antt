use Rattle.std.proofs.Common.{◌∙◌, ap, ◌++◌, ◌∷◌, [], List, ℕ}
use Rattle.swim_node.proofs.entering.send_one.Goals as goal

pub returns-in-Ok-clause-took : goal.returns-in-Ok-clause-took
returns-in-Ok-clause-took g c tells =
    c.in-Ok.ensures.took tells
    ∙ ap (λ (text : List ℕ). g.L.Link.took c.args.link.now ++ (c.args.out.now.to, text) ∷ []) c.encode_into-len.ensures.text.text
