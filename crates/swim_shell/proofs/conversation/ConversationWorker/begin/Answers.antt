use Rattle.swim_shell.proofs.Talking.{converses_start}
use Rattle.swim_shell.proofs.conversation.ConversationWorker.begin.Goals as goal

pub returns : goal.returns
returns g c p = rw (← c.self.view_is, c.carried-self-inside.ensures) (converses_start _ _ p)
