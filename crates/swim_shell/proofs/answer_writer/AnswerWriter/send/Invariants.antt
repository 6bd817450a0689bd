use Rattle.std.proofs.Common.{[]}
use Rattle.swim_shell.specs.Answers.{Gives}
use Rattle.swim_shell.specs.Views.{left_of}
use Rattle.swim_shell.specs.Writes.{WritesOn}
use Rattle.swim_shell.proofs.Trying.{Trying}
use Rattle.swim_shell.proofs.answer_writer.AnswerWriter.send.Given as goal

-- what was written so far, and that there is more
abbrev pub invariant-loop : goal.invariant-loop
invariant-loop g l = let contents = g.Wr.Write.contents in record {
  gives : Gives (contents l.initial.self.writer) (contents l.self.writer) (left_of l.initial.self) (left_of l.self) [];
  tried : Trying WritesOn l.initial.self.steps l.self.steps l.counter;
}
