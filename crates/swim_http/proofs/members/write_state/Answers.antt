use Rattle.std.proofs.Common.{List, ℕ, ◌++◌, ap, ◌∙◌}
use Rattle.std.specs.Prelude.{codes}
use Rattle.std.proofs.lemmas.Result.{on_ok_weaker}
use Rattle.swim_wire.specs.Text.{endpoint_text}
use Rattle.swim_http.specs.Gauges.{group_word}
use Rattle.swim_http.specs.Members.{state_sample}
use Rattle.swim_http.proofs.members.write_state.Goals as goal

-- the word that was written is the state's
pub returns : goal.returns
unfolding state_sample
returns c =
    on_ok_weaker c.write.result
    (λ written. written ∙ ap (λ (word : List ℕ). c.args.text.now.bytes.items ++ (codes "swim_member_state{group=\"" ++ (group_word c.args.group ++ (codes "\",member=\"" ++ (endpoint_text c.args.row.now.who ++ (codes "\",state=\"" ++ (word ++ codes "\"} 1\n"))))))) c.state_name-state.ensures)
    c.write.ensures.bytes
