use Rattle.std.proofs.Common.{[]}
use Rattle.swim_serve.proofs.serving.one_era.Given as goal

-- the parts that were just made
abbrev pub ghosts-run_era : goal.ghosts-run_era
ghosts-run_era g a = record {
  book = a.parts.book;
  base = a.parts.node.base;
  disk = (g.D.Disk.state a.parts.node.disk).name;
  clock = (g.D.Disk.state a.parts.node.disk).clock;
  owner = a.parts.node.owner;
  first = a.parts.node.first;
  link = a.parts.link.ring;
  start = [];
}
