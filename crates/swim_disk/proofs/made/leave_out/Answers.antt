use Rattle.std.proofs.Common.{◌+◌, ◌-◌, ◌∙◌, arith, ap, subst, sym, drop, take, length, length-drop, List}
use Rattle.std.proofs.lemmas.List.{take_all}
use Rattle.swim_disk.specs.Machinery.Made.{AreWrites, made}
use Rattle.swim_disk.specs.declared.past.Call.{Call}
use Rattle.swim_disk.proofs.Making.{made_removed, writes_removed}
use Rattle.swim_disk.proofs.made.leave_out.Goals as goal

pub returns-then-is_covered-clause-made : goal.returns-then-is_covered-clause-made
returns-then-is_covered-clause-made c start =
    let next = c.args.place + 1 in
    let writes = c.args.writes.now.items in
    let all = c.deref.result.now in
    let later = take (length all - next) (drop next all) in
    let rest = take_all (length all - next) (drop next all) (omega (arith, length-drop next all)) ∙ ap (λ (l : List Call). drop next l) c.deref.ensures.value in
    ap (λ (l : List Call). made start l) c.remove.ensures.items
    ∙ made_removed writes c.args.place c.index.result.now later c.requires c.index.ensures rest (c.is_covered.ensures c.if-is_covered.true) start

pub returns-then-is_covered-clause-writes : goal.returns-then-is_covered-clause-writes
returns-then-is_covered-clause-writes c are = subst (λ (l : List Call). AreWrites l) (sym c.remove.ensures.items) (writes_removed c.args.writes.now.items c.args.place are)
