use Rattle.std.proofs.Common.{ap, ◌∙◌}
use Rattle.swim_shell.proofs.Talking.{hears_line}
use Rattle.swim_shell.proofs.conversation.Conversation.hear.Goals as goal

pub returns-clause-line : goal.returns-clause-line
returns-clause-line g c = rw (← c.self.view_is) (hears_line _ _ _ _ _ c.in_ok-line.line _ _ _ (ap (λ v. v.left) c.self.view_is ∙ c.requires) c.in_ok-line.ensures.line c.understand-asked.ensures c.respond-refused.ensures (ap g.Wr.Write.contents c.put.ensures.writer) c.put.ensures.left c.end_of-self-inside.ensures)
