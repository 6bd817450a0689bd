use Rattle.std.proofs.Common.{refl, subst, sym}
use Rattle.swim_shell.proofs.Trying.{trying_more}
use Rattle.swim_net.specs.Datagrams.{MayRetry}
use Rattle.swim_net.specs.Udp.{SendsAgain, sends_of}
use Rattle.swim_net.proofs.udp.UdpLinkLink.send.Goals.{in-Interrupted, in-NoRoom}
use Rattle.swim_net.proofs.udp.UdpLinkLink.send.Goals as goal

-- one more send, after which it is tried again
pub loop-preserved : goal.loop-preserved
loop-preserved g c =
    let again : MayRetry c.went_by.result = elim c.match-went_by.branch [ in-Interrupted w ↦ subst MayRetry (sym w.in-Interrupted.is) tt | in-NoRoom w ↦ subst MayRetry (sym w.in-NoRoom.is) tt ] in
    record {
      tried = trying_more (SendsAgain c.args.to c.args.bytes.now) (sends_of c.args.self.now) (sends_of c.loop.self) c.send-answer.new.self.answers.items c.loop.counter _ c.loop.invariant.tried c.send-answer.ensures.told
          ((c.address_of.ensures, refl), subst MayRetry c.went_by.ensures again);
      same = c.loop.invariant.same;
    }
