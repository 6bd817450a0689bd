use Rattle.std.proofs.Common.{rules, ◌≡◌, true, [], subst}
use Rattle.std.specs.Prelude.{None, Some}
use Rattle.swim_shell.specs.declared.conversation.ControlEnd.TheVariants.{Closed, ReadFault}
use Rattle.swim_shell.specs.Control.{HearsNone}
use Rattle.swim_shell.specs.Views.{waits}
use Rattle.swim_shell.proofs.Talking.{goes_on, ends_so, turn_sends, turn_hears, turn_waits, turn_closes, turn_fails}
use Rattle.swim_shell.proofs.conversation.ConversationWorker.turn.Goals as goal

pub returns-then-is_waiting-clause-on : goal.returns-then-is_waiting-clause-on
returns-then-is_waiting-clause-on g c =
    let had : waits c.args.self.now ≡ true = search rules in
    goes_on g.C.Caller.limit c.args.self.now c.send.new.self (g.C.Caller.known c.args.caller.now) (g.C.Caller.known c.args.caller.now) c.send.result (turn_sends g.C.Caller.limit c.args.self.now c.send.new.self (g.C.Caller.known c.args.caller.now) c.send.result had c.send.ensures.sends)

pub returns-then-is_waiting-clause-end : goal.returns-then-is_waiting-clause-end
returns-then-is_waiting-clause-end g c =
    let had : waits c.args.self.now ≡ true = search rules in
    ends_so g.C.Caller.limit c.args.self.now c.send.new.self (g.C.Caller.known c.args.caller.now) (g.C.Caller.known c.args.caller.now) c.send.result (turn_sends g.C.Caller.limit c.args.self.now c.send.new.self (g.C.Caller.known c.args.caller.now) c.send.result had c.send.ensures.sends)

pub returns-in-Ok-clause-on : goal.returns-in-Ok-clause-on
returns-in-Ok-clause-on g c =
    let free : c.args.self.now.due ≡ None = search rules in
    goes_on g.C.Caller.limit c.args.self.now c.send-in-Ok.new.self (g.C.Caller.known c.args.caller.now) (g.C.Caller.known c.hear.new.caller) c.send-in-Ok.result (turn_hears g.C.Caller.limit c.args.self.now c.hear.new.self c.send-in-Ok.new.self (g.C.Caller.known c.args.caller.now) (g.C.Caller.known c.hear.new.caller) c.send-in-Ok.result free c.in-Ok.ensures.line c.send-in-Ok.ensures.sends)

pub returns-in-Ok-clause-end : goal.returns-in-Ok-clause-end
returns-in-Ok-clause-end g c =
    let free : c.args.self.now.due ≡ None = search rules in
    ends_so g.C.Caller.limit c.args.self.now c.send-in-Ok.new.self (g.C.Caller.known c.args.caller.now) (g.C.Caller.known c.hear.new.caller) c.send-in-Ok.result (turn_hears g.C.Caller.limit c.args.self.now c.hear.new.self c.send-in-Ok.new.self (g.C.Caller.known c.args.caller.now) (g.C.Caller.known c.hear.new.caller) c.send-in-Ok.result free c.in-Ok.ensures.line c.send-in-Ok.ensures.sends)

pub returns-in-Err-NotYet-clause-on : goal.returns-in-Err-NotYet-clause-on
returns-in-Err-NotYet-clause-on g c =
    let none = subst (HearsNone c.args.self.now c.hear.new.self) c.in-Err-NotYet.field-0-is c.in-Err-NotYet.ensures.none in
    goes_on g.C.Caller.limit c.args.self.now c.hear.new.self (g.C.Caller.known c.args.caller.now) (g.C.Caller.known c.hear.new.caller) None (turn_waits g.C.Caller.limit c.args.self.now c.hear.new.self (g.C.Caller.known c.args.caller.now) (g.C.Caller.known c.hear.new.caller) c.in-Err-NotYet.ensures.same none)

pub returns-in-Err-Ended-clause-end : goal.returns-in-Err-Ended-clause-end
returns-in-Err-Ended-clause-end g c =
    let free : c.args.self.now.due ≡ None = search rules in
    let empty : c.args.self.now.left ≡ [] = search rules in
    let none = subst (HearsNone c.args.self.now c.hear.new.self) c.in-Err-Ended.field-0-is c.in-Err-Ended.ensures.none in
    ends_so g.C.Caller.limit c.args.self.now c.hear.new.self (g.C.Caller.known c.args.caller.now) (g.C.Caller.known c.hear.new.caller) (Some Closed) (turn_closes g.C.Caller.limit c.args.self.now c.hear.new.self (g.C.Caller.known c.args.caller.now) (g.C.Caller.known c.hear.new.caller) empty free c.in-Err-Ended.ensures.same none)

pub returns-in-Err-Failed-clause-end : goal.returns-in-Err-Failed-clause-end
returns-in-Err-Failed-clause-end g c =
    let free : c.args.self.now.due ≡ None = search rules in
    let empty : c.args.self.now.left ≡ [] = search rules in
    let none = subst (HearsNone c.args.self.now c.hear.new.self) c.in-Err-Failed.field-0-is c.in-Err-Failed.ensures.none in
    ends_so g.C.Caller.limit c.args.self.now c.hear.new.self (g.C.Caller.known c.args.caller.now) (g.C.Caller.known c.hear.new.caller) (Some ReadFault) (turn_fails g.C.Caller.limit c.args.self.now c.hear.new.self (g.C.Caller.known c.args.caller.now) (g.C.Caller.known c.hear.new.caller) empty free c.in-Err-Failed.ensures.same none)
