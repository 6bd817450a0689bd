use Rattle.std.proofs.Common.{◌≡◌, ◌+◌, ◌++◌, ◌∷◌, ◌∙◌, [], refl, subst, sym, ap, take}
use Rattle.swim_group.specs.Checking.{KeepTheLaw, MayFollow, Remembers, as_sent}
use Rattle.swim_group.proofs.Checking.{law-snoc, as_sent-snoc}
use Rattle.swim_group.proofs.Holding.{get-at}
use Rattle.swim_group.proofs.Keeping.{run-passes}
use Rattle.swim_group.proofs.Naming.{take-last}
use Rattle.swim_group.proofs.checker.check_all.Goals as goal

pub loop-i-preserved : goal.loop-i-preserved
loop-i-preserved c =
    let next : as_sent (take (c.loop-i.i + 1) c.args.datagrams.now) ≡ as_sent (take c.loop-i.i c.args.datagrams.now) ++ record { to = 0; datagram = c.index-datagrams-i.result } ∷ [] =
    ap as_sent (take-last c.args.datagrams.now c.loop-i.i c.index-datagrams-i.result c.loop-i-test.true c.index-datagrams-i.is) ∙ as_sent-snoc (take c.loop-i.i c.args.datagrams.now) c.index-datagrams-i.result in
    let both : MayFollow (as_sent (take c.loop-i.i c.args.datagrams.now)) c.index-datagrams-i.result × Remembers c.check.new.self (as_sent (take c.loop-i.i c.args.datagrams.now) ++ record { to = 0; datagram = c.index-datagrams-i.result } ∷ []) =
    c.in_default.ensures.ok (as_sent (take c.loop-i.i c.args.datagrams.now)) (record { to = 0; datagram = c.index-datagrams-i.result }) refl c.loop-i.invariant.known in
    record {
      law = subst (KeepTheLaw []) (sym next) (law-snoc [] (as_sent (take c.loop-i.i c.args.datagrams.now)) (record { to = 0; datagram = c.index-datagrams-i.result }) c.loop-i.invariant.law both.0);
      known = subst (Remembers c.check.new.self) (sym next) both.1;
    }

pub returns-in-Err-clause-run : goal.returns-in-Err-clause-run
returns-in-Err-clause-run c group moves begins run same =
    run-passes group moves c.args.datagrams.now c.loop-i.i c.in-Err.fault begins run same record {
      datagram = c.index-datagrams-i.result;
      found = get-at c.args.datagrams.now c.loop-i.i c.index-datagrams-i.result c.loop-i-test.true c.index-datagrams-i.is;
      before = c.loop-i.invariant.law;
      broken = c.in-Err.ensures.broken (as_sent (take c.loop-i.i c.args.datagrams.now)) c.loop-i.invariant.known;
    }
