use Rattle.std.proofs.Common.{◌≡◌, ◌+◌, Some, None, List, [], ◌∷◌, ◌++◌, ap, subst, ◌∙◌, arith, append-nil}
use Rattle.std.proofs.lemmas.Grind.{common_steps}
use Rattle.swim_script.specs.declared.command.Command.{Command}
use Rattle.swim_script.specs.Commands.{and_lines}
use Rattle.swim_script.proofs.Scripts.{AreRead, read_all, read_more, room_more}
use Rattle.swim_script.proofs.script.read_script.Goals as goal

pub loop-rest-preserved-else-is_err : goal.loop-rest-preserved-else-is_err
loop-rest-preserved-else-is_err c =
    let items : c.push.new.self.items ≡ c.loop-rest.commands.items ++ c.in-Ok-Some.command ∷ [] = grind (arith, common_steps) in
    let split = ap and_lines c.in-Some.is ∙ c.split_line.ensures.lines in
    let line = c.split_line.result.0.now in
    let next = c.split_line.result.1 in
    let says = rw c.in-Ok-Some.field-0-is at c.in-Ok-Some.ensures.said in
    record {
      read = rw items (read_more c.args.script.now line c.loop-rest.rest next c.loop-rest.commands.items c.loop-rest.number (Some c.in-Ok-Some.command) c.loop-rest.invariant.read split c.in-Ok-Some.ensures.bytes says);
      room = room_more c.in-Some.text.now next c.loop-rest.number _ c.split_line.ensures.shorter (rw c.in-Some.is at c.loop-rest.invariant.room);
    }

pub loop-rest-preserved : goal.loop-rest-preserved
loop-rest-preserved c =
    let split = ap and_lines c.in-Some.is ∙ c.split_line.ensures.lines in
    let line = c.split_line.result.0.now in
    let next = c.split_line.result.1 in
    let says = rw c.in-Ok-None.field-0-is at c.in-Ok-None.ensures.said in
    let more = read_more c.args.script.now line c.loop-rest.rest next c.loop-rest.commands.items c.loop-rest.number None c.loop-rest.invariant.read split c.in-Ok-None.ensures.bytes says in
    record {
      read = subst (λ (commands : List Command). AreRead c.args.script.now next commands (c.loop-rest.number + 1)) (append-nil c.loop-rest.commands.items) more;
      room = room_more c.in-Some.text.now next c.loop-rest.number _ c.split_line.ensures.shorter (rw c.in-Some.is at c.loop-rest.invariant.room);
    }

pub returns-clause-commands : goal.returns-clause-commands
returns-clause-commands c =
    read_all c.args.script.now c.loop-rest.commands.items c.loop-rest.number (rw c.in_default.is at c.loop-rest.invariant.read)
