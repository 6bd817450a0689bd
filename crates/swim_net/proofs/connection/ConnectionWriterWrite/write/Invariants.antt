use Rattle.std.specs.Io.KnownBytes.{Keeps}
use Rattle.swim_net.proofs.connection.ConnectionWriterWrite.write.Given as goal

-- nothing was written yet
abbrev pub invariant-loop : goal.invariant-loop
invariant-loop g l = let contents = g.S.Write.contents in Keeps (contents l.initial.self.stream) (contents l.self.stream)
