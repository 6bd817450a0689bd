use Rattle.std.proofs.Common.{◌≡◌, take}
use Rattle.swim_disk.specs.MemDisk.{disk_of, state_of}
use Rattle.swim_disk.specs.Part.{KeepsPart}
use Rattle.swim_disk.specs.Machinery.Patch.{Patches}
use Rattle.swim_disk.specs.Replay.{replay}
use Rattle.swim_disk.proofs.beside.repeat_beside.Given as goal

-- what the calls so far made, with the bytes that stand
abbrev pub invariant-loop-call : goal.invariant-loop-call
invariant-loop-call l =
    record {
      kept : KeepsPart l.at l.count (state_of l.initial.disk) (state_of l.disk);
      name : (state_of l.disk).name ≡ (state_of l.initial.disk).name;
      patches : Patches l.at l.count (λ d. replay d (take l.call-index l.calls)) (disk_of l.initial.disk) (disk_of l.disk);
    }
