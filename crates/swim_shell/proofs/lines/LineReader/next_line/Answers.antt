use Rattle.std.proofs.Common.{rules, ◌≡◌}
use Rattle.std.specs.Prelude.{None}
use Rattle.swim_shell.specs.Views.{ahead_of}
use Rattle.swim_shell.proofs.Reading.{part_same, part_whole, part_alone, part_more, on_byte, on_fault, ends_fault, ends_input, at_end, fault_no_end}
use Rattle.swim_shell.proofs.Trying.{trying_more, tried_end}
use Rattle.swim_shell.proofs.lines.LineReader.next_line.Goals.{in-Ok-Some, in-Err+in_default}
use Rattle.swim_shell.proofs.lines.LineReader.next_line.Goals as goal

pub returns-in-Ok-Some-eq10-clause-line : goal.returns-in-Ok-Some-eq10-clause-line
returns-in-Ok-Some-eq10-clause-line g c = part_whole _ _ _ _ _ _ _ _ _ _ _ c.loop.invariant.took c.in-Ok-Some-eq10.ensures.byte c.in-Ok-Some-eq10.field-0-is c.in-Ok-Some-eq10.field-0-0-test c.finish.ensures.lacks c.finish.ensures.line c.finish.ensures.empty

pub returns-in-Some-clause-none : goal.returns-in-Some-clause-none
returns-in-Some-clause-none g c = part_alone _ _ _ _ _ _ _ c.in-Some.why c.loop.invariant.took c.in-Err.ensures.byte.0 c.in-Err.ensures.byte.1 c.loop.self.part.part.lacks (λ e. absurd (fault_no_end c.kind.result c.fault_at.result c.in-Some.why c.fault_at.ensures c.in-Some.is e))

pub returns-in-Some-clause-why : goal.returns-in-Some-clause-why
returns-in-Some-clause-why g c = tried_end _ _ _ _ _ _ _ _ _ c.loop.invariant.tried c.in-Err.ensures.told (ends_fault c.in-Err.error c.kind.result c.fault_at.result c.in-Some.why c.fault_at.ensures c.kind.ensures c.in-Some.is)

pub returns-in-Ok-None-clause-none : goal.returns-in-Ok-None-clause-none
returns-in-Ok-None-clause-none g c =
    let remaining = g.Rd.Read.remaining in
    let end = at_end (remaining c.loop.self.input.reader) (remaining c.next_byte.new.self.reader) (ahead_of c.loop.self.input) (ahead_of c.next_byte.new.self) c.in-Ok-None.field-0 c.in-Ok-None.field-0-is c.in-Ok-None.ensures.byte in
    part_alone _ _ _ _ _ _ _ _ c.loop.invariant.took end.0 end.2 c.loop.self.part.part.lacks (λ _. end.1)

pub returns-in-Ok-None-clause-why : goal.returns-in-Ok-None-clause-why
returns-in-Ok-None-clause-why g c = tried_end _ _ _ _ _ _ _ _ _ c.loop.invariant.tried c.in-Ok-None.ensures.told (ends_input c.in-Ok-None.field-0 c.in-Ok-None.field-0-is)

pub loop-preserved : goal.loop-preserved
loop-preserved g c = elim c.match-next_byte.branch [ in-Ok-Some w ↦ rw w.self-is (record { took = part_more _ _ _ _ _ _ _ _ _ _ c.loop.invariant.took w.in-Ok-Some.ensures.byte w.in-Ok-Some.field-0-is w.add.ensures; tried = trying_more _ _ _ _ _ _ c.loop.invariant.tried w.in-Ok-Some.ensures.told (on_byte w.in-Ok-Some.field-0 w.in-Ok-Some.byte w.in-Ok-Some.field-0-is w.in-Ok-Some.byte-test.1) }) | in-Err+in_default w ↦ (let none : w.fault_at.result ≡ None = search rules in rw w.self-is (record { took = part_same _ _ _ _ _ _ _ c.loop.invariant.took w.in-Err.ensures.byte.0; tried = trying_more _ _ _ _ _ _ c.loop.invariant.tried w.in-Err.ensures.told (on_fault w.in-Err.error w.kind.result w.fault_at.result w.fault_at.ensures w.kind.ensures none) })) ]
