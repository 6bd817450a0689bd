use Rattle.std.proofs.Common.{◌≡◌, ◌≤◌, ◌++◌, List, take}
use Rattle.swim_state.specs.Alone.{IsEarlier, LeavesAlone}
use Rattle.swim_state.specs.Held.{Covers, Through}
use Rattle.swim_node.specs.declared.entry.Entry.{Entry}
use Rattle.swim_node.specs.History.{granted_of}
use Rattle.swim_node.specs.Node.{Ran}
use Rattle.swim_node.specs.Sending.{SendsAll}
use Rattle.swim_node.proofs.running.run.Given as goal

-- the calls so far were entered, the link took what they mark as taken, no moment so far left less than the ceiling at the start, and only slots of version 2 were written
abbrev pub invariant-loop-i : goal.invariant-loop-i
invariant-loop-i g l =
    record {
      ran : Ran l.initial.node l.node (take l.i l.calls);
      name : g.L.Link.name l.link ≡ g.L.Link.name l.initial.link;
      disk : (g.D.Disk.state l.node.disk).name ≡ (g.D.Disk.state l.initial.node.disk).name;
      sends : (added : List Entry) × (l.node.entries ≡ l.initial.node.entries ++ added) × SendsAll g.L.Link.tells (g.L.Link.took l.initial.link) (g.L.Link.took l.link) (g.L.Link.failures l.initial.link) (g.L.Link.failures l.link) added;
      grows : granted_of l.initial.node.base l.initial.node.entries ≤ granted_of l.node.base l.node.entries;
      moments : g.D.Disk.keeps_model → Through (Covers l.initial.node.owner (granted_of l.initial.node.base l.initial.node.entries)) (g.D.Disk.state l.initial.node.disk) (g.D.Disk.state l.node.disk);
      earlier : g.D.Disk.keeps_model → LeavesAlone IsEarlier (g.D.Disk.state l.initial.node.disk) (g.D.Disk.state l.node.disk);
    }
