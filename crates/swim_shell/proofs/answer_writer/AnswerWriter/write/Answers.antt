use Rattle.std.proofs.Common.{◌∙◌}
use Rattle.swim_shell.proofs.Writing.{gives_some}
use Rattle.swim_shell.proofs.answer_writer.AnswerWriter.write.Goals as goal

pub returns-clause-gives : goal.returns-clause-gives
returns-clause-gives g c = gives_some _ _ c.args.self.now.answer.bytes _ c.args.self.now.written c.in_ok-count.count (c.as_bytes.ensures.value ∙ c.as_str.ensures.value) c.in_ok-count.ensures.bytes
