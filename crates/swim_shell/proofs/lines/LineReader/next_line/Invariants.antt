use Rattle.std.proofs.Common.{[]}
use Rattle.swim_shell.specs.Lines.{Takes, ReadsOn}
use Rattle.swim_shell.specs.Views.{kept_of}
use Rattle.swim_shell.proofs.Trying.{Trying}
use Rattle.swim_shell.proofs.lines.LineReader.next_line.Given as goal

-- no byte is lost so far, and the line goes on
abbrev pub invariant-loop : goal.invariant-loop
invariant-loop g l = let remaining = g.Rd.Read.remaining in record {
  took : Takes (remaining l.initial.self.input.reader) (remaining l.self.input.reader) (kept_of l.initial.self) (kept_of l.self) [];
  tried : Trying ReadsOn l.initial.self.input.answers l.self.input.answers l.counter;
}
