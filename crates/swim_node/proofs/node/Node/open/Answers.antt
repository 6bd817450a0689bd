use Rattle.std.proofs.Common.{◌≡◌, ◌<◌, ℕ, arith, rules}
use Rattle.swim_state.specs.declared.fault.RecoverFault.TheVariants.{Device}
use Rattle.swim_state.specs.Held.{Held}
use Rattle.swim_state.specs.declared.owner.Owner.{Owner}
use Rattle.swim_node.specs.Node.{owner_of}
use Rattle.swim_node.proofs.Lives.{begins_above}
use Rattle.swim_node.proofs.node.Node.open.Goals as goal

-- the first number is one above the floor of what the disk has, and nothing else is left by a crash
pub returns-in-Ok-clause-opens : goal.returns-in-Ok-clause-opens
returns-in-Ok-clause-opens g c =
    let disk = g.D.Disk.state c.args.disk in
    let above : g.D.Disk.keeps_model → (owner : Owner) (b : ℕ) → Held owner disk b → b < c.ceiling-first.result = λ keeps owner b held.
    let covers = (held disk.content disk.reads).covered in omega (arith, covers, c.in-Ok.ensures.first keeps, c.ceiling-first.ensures.value) in
    record {
      entries = search rules;
      base = search rules;
      bounds = search rules;
      owner = search rules;
      whole = search rules;
      limit_fits = search rules;
      calm = search rules;
      none = search rules;
      first = search rules;
      above = λ keeps. above keeps (owner_of c.args.settings);
      kept = search rules;
      begins = λ keeps. begins_above g.D.Disk.state c.in-Ok.store.owner c.args.disk c.ceiling-first.result (above keeps c.in-Ok.store.owner);
      living = λ keeps. record { same_owner = search rules; joined = search rules; above = above keeps c.in-Ok.store.owner; begun = tt };
    }

pub returns-in-Err-clause-refused : goal.returns-in-Err-clause-refused
returns-in-Err-clause-refused g c =
    let said = c.in-Err.ensures in
    record {
      range = search rules;
      at_limit = λ e. absurd cc;
      at_memory = λ e. absurd cc;
      device = λ is. let same : c.in-Err.fault ≡ Device = cc in said.device same;
      calm = λ other. said.calm (λ same. other cc);
      rests = λ keeps other. said.refused keeps (λ same. other cc);
      unopened = λ keeps. record {
        range = search rules;
        device = λ is. let same : c.in-Err.fault ≡ Device = cc in said.device same;
        calm = λ other. said.calm (λ same. other cc);
        shown = λ fault other is. let same : c.in-Err.fault ≡ fault = cc in rw (← same) (said.fault keeps (λ device. other cc));
        from_held = λ b held fault is. let same : c.in-Err.fault ≡ fault = cc in rw (← same) (said.from_held keeps b held);
        leaves = said.moments keeps;
      };
    }
