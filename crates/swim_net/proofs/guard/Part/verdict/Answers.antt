use Rattle.swim_net.proofs.Guarding.{judged_refused, judged_known}
use Rattle.swim_net.proofs.guard.Part.verdict.Goals as goal

pub returns-then-is_no_line : goal.returns-then-is_no_line
returns-then-is_no_line c = judged_refused c.args.self.bytes _ _ _ _ _ _ c.args.self.part.first c.as_slice.ensures.value c.begins_as_http.ensures c.if-begins_as_http.false c.line.ensures c.understand.ensures c.is_no_line.ensures c.if-is_no_line.true

pub returns : goal.returns
returns c = judged_known c.args.self.bytes _ _ _ _ _ _ c.args.self.part.first c.as_slice.ensures.value c.begins_as_http.ensures c.if-begins_as_http.false c.line.ensures c.understand.ensures c.is_no_line.ensures c.if-is_no_line.false
