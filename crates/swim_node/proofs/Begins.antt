-- Where an era begins: its bounds, and the state that a member goes on from.
use Rattle.std.proofs.Common.{◌≡◌, ℕ, ◌≤◌, ◌<◌, ◌==◌, ◌||◌, nat_lt, Bool, true, false, cond, refl, Option, Some, None, arith}
use Rattle.std.specs.Option.{option_map, option_to_list}
use Rattle.std.proofs.lemmas.Bool.{eqb-false, le-ltb, ltb-false, ne_eqb, or_from, or_parts}
use Rattle.swim_member.specs.declared.resume.ResumeFault.{ResumeFault}
use Rattle.swim_member.specs.State.{State}
use Rattle.swim_member.specs.Resuming.{resume_fault}
use Rattle.swim_node.specs.declared.beginning.BeginFault.{BeginFault}
use Rattle.swim_node.specs.declared.beginning.BeginFault.TheVariants as fault
use Rattle.swim_node.specs.declared.opening.TheConstants.{LIMIT_MAX}
use Rattle.swim_node.specs.History.{Base}
use Rattle.swim_node.specs.Owns.{AreAtMost}
use Rattle.swim_node.specs.Replaying.{begin_fault, bounds_fault, is_above, or_state}

-- what no fault of a beginning means
pub record IsBeginning (b : Base) : Type 0 where
  pub some : 0 < b.limit
  pub short : b.limit ≤ LIMIT_MAX
  pub low : b.state.number ≤ b.granted
  pub past : is_above b.granted b.past ≡ false
  pub resumes : resume_fault b.state ≡ None

clear : (b : Bool) (f : BeginFault) (rest : Option BeginFault) → cond b (Some f) rest ≡ None → (b ≡ false) × (rest ≡ None)
clear true f rest h = absurd (cc)
clear false f rest h = (refl, h)

no-fault : (o : Option ResumeFault) → option_map (λ f. fault.State f) o ≡ None → o ≡ None
no-fault None h = refl
no-fault (Some f) h = absurd (cc)

no-state : (o : Option BeginFault) (s : State) → or_state o s ≡ None → (o ≡ None) × (resume_fault s ≡ None)
no-state None s h = (refl, no-fault (resume_fault s) h)
no-state (Some f) s h = absurd (cc)

pub begun-bounds : (b : Base) → begin_fault b ≡ None → IsBeginning b
begun-bounds b h =
    let both : (bounds_fault b.limit b.state.number b.granted b.past ≡ None) × (resume_fault b.state ≡ None) = no-state (bounds_fault b.limit b.state.number b.granted b.past) b.state h in
    let limit = clear (b.limit == 0 || nat_lt LIMIT_MAX b.limit) _ _ both.0 in
    let number = clear (nat_lt b.granted b.state.number) _ _ limit.1 in
    let past = clear (is_above b.granted b.past) _ _ number.1 in
    let parts = or_parts (b.limit == 0) (nat_lt LIMIT_MAX b.limit) limit.0 in
    let some = eqb-false b.limit 0 parts.0 in
    record { some = omega (arith, some); short = ltb-false LIMIT_MAX b.limit parts.1; low = ltb-false b.granted b.state.number number.0; past = past.0; resumes = both.1 }

pub begins-both : (b : Base) → bounds_fault b.limit b.state.number b.granted b.past ≡ None → resume_fault b.state ≡ None → begin_fault b ≡ None
begins-both b h k = rw (h, k) refl

pub begins-bounds : (b : Base) → IsBeginning b → begin_fault b ≡ None
begins-bounds b h =
    let limit : (b.limit == 0 || nat_lt LIMIT_MAX b.limit) ≡ false = or_from (b.limit == 0) (nat_lt LIMIT_MAX b.limit) (ne_eqb b.limit 0 (λ e. let some = h.some in absurd (omega arith))) (le-ltb LIMIT_MAX b.limit h.short) in
    let number : nat_lt b.granted b.state.number ≡ false = le-ltb b.granted b.state.number h.low in
    begins-both b (rw (limit, number, h.past) refl) h.resumes

pub at_most-past : (g : ℕ) (past : Option ℕ) → AreAtMost g (option_to_list past) → is_above g past ≡ false
at_most-past g None h = refl
at_most-past g (Some n) h = le-ltb g n h.0
