use Rattle.std.proofs.Common.{◌≡◌, List, []}
use Rattle.std.specs.Prelude.{IsSome}
use Rattle.swim_node.specs.Lives.{Era}
use Rattle.swim_serve.specs.Members.{Eras, Hosts, ServesEra, member_of}
use Rattle.swim_serve.proofs.serving.run_kept.Given as goal

-- each era begins with an empty journal, after those that were
abbrev pub invariant-loop : goal.invariant-loop
invariant-loop g l =
    record {
      entries : l.left.0.entries ≡ [];
      wait : l.grace.expulsion.wait ≡ l.fn.outside.expelled_ends;
      known : IsSome l.grace.expulsion.end_at → IsSome l.grace.expulsion.wait;
      eras : (past : List Era) × Eras
          (ServesEra g.D.Disk.keeps_model g.D.Disk.state g.I.Inbound.tells g.M.Link.tells)
          (Hosts g.D.Disk.keeps_model g.D.Disk.state g.I.Inbound.tells g.M.Link.tells g.H.Host.relists)
          (member_of l.fn.node l.fn.outside (g.H.Keeper.keeps l.fn.host) (g.H.Keeper.given l.fn.host))
          past
          (member_of l.left.0 l.left.1 (g.H.Keeper.keeps l.host) (g.H.Keeper.given l.host));
    }
