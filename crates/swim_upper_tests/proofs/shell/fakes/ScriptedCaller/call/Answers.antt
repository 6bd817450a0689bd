use Rattle.std.proofs.Common.{refl, ap, [], ◌∷◌, ◌++◌, ◌∙◌}
use Rattle.swim_node.specs.declared.entry.Entry.{Entry}
use Rattle.swim_node.specs.declared.entry.Save.TheVariants.{Kept}
use Rattle.swim_upper_tests.proofs.Scripted.{told}
use Rattle.swim_upper_tests.proofs.shell.fakes.ScriptedCaller.call.Goals as goal

pub returns : goal.returns
returns g c =
    let e : Entry = record { tag = record { caller = 1; turn = 0 }; event = c.args.event; granted = 0; save = Kept; outs = c.new.result; outcomes = c.new-2.result; reply = c.reply.result } in
    let grown = c.and-self-2.ensures ∙ ap (λ s. s ++ e ∷ []) c.next_said-said.ensures.seen in
    let entered = c.next_said-said.ensures.asked ∙ c.and-self.ensures in
    record { ok = told c.args.self.now.seen c.and-self-2.result c.args.self.now.is_spent c.next_said-said.new.self.is_spent c.args.self.now.asked c.next_said-said.new.self.asked e refl grown entered; err = tt }
