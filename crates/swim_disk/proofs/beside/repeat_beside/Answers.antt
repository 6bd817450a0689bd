use Rattle.std.proofs.Common.{◌≡◌, ◌∙◌, ◌+◌, ◌∷◌, ◌++◌, [], ap, sym, subst, take, List}
use Rattle.std.proofs.lemmas.List.{take_more}
use Rattle.swim_disk.specs.MemDisk.{disk_of}
use Rattle.swim_disk.specs.Machinery.Patch.{Patched}
use Rattle.swim_disk.specs.Replay.{Disk, replay}
use Rattle.swim_disk.specs.declared.past.Call.{Call}
use Rattle.swim_disk.proofs.Recorded.{replay_more}
use Rattle.swim_disk.proofs.beside.repeat_beside.Goals as goal

pub loop-call-preserved : goal.loop-call-preserved
loop-call-preserved c =
    let more : take (c.loop-call.call-index + 1) c.args.calls.now ≡ take c.loop-call.call-index c.args.calls.now ++ c.call-item.result ∷ [] =
    take_more c.args.calls.now c.loop-call.call-index c.call-item.result c.loop-call-test.true ∙ ap (λ (x : Call). take c.loop-call.call-index c.args.calls.now ++ x ∷ []) (sym c.call-item.is) in
    record {
      kept = λ bytes size was. c.in_ok-repeat_call.ensures.kept bytes size (c.loop-call.invariant.kept bytes size was);
      name = c.in_ok-repeat_call.ensures.name ∙ c.loop-call.invariant.name;
      patches = λ p size d h.
          subst (λ (e : Disk). Patched c.args.at p e (disk_of c.repeat_call.new.disk))
          (sym (ap (λ (l : List Call). replay d l) more ∙ replay_more d (take c.loop-call.call-index c.args.calls.now) c.call-item.result))
          (c.in_ok-repeat_call.ensures.patches p size (replay d (take c.loop-call.call-index c.args.calls.now)) (c.loop-call.invariant.patches p size d h));
    }
