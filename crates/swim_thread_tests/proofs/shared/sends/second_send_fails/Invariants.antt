use Rattle.std.proofs.Common.{[]}
use Rattle.swim_disk.specs.Fault.{state_of}
use Rattle.swim_disk.specs.MemDisk.{state_of as memory_of}
use Rattle.swim_thread_tests.proofs.shared.sends.second_send_fails.Given as goal

-- the parts that were just made
abbrev pub ghosts-told : goal.ghosts-told
ghosts-told g a = record {
  book = a.parts.book;
  base = a.parts.node.base;
  disk = (state_of memory_of a.parts.node.disk).name;
  clock = (state_of memory_of a.parts.node.disk).clock;
  owner = a.parts.node.owner;
  first = a.parts.node.first;
  link = a.parts.link.ring;
  start = [];
}
