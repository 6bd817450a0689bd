use Rattle.std.proofs.Common.{[]}
use Rattle.swim_disk.specs.Fault.{state_of}
use Rattle.swim_disk.specs.MemDisk.{state_of as memory_of}
use Rattle.swim_node.specs.Link.{link_number}
use Rattle.swim_thread_tests.proofs.shared.calls.first_call.Given as goal

-- the parts that were just made
abbrev pub ghosts-first : goal.ghosts-first
ghosts-first g a = record {
  book = a.parts.book;
  base = a.parts.node.base;
  disk = (state_of memory_of a.parts.node.disk).name;
  clock = (state_of memory_of a.parts.node.disk).clock;
  owner = a.parts.node.owner;
  first = a.parts.node.first;
  link = link_number 0;
  start = [];
}
