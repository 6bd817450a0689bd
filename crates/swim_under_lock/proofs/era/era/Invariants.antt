use Rattle.swim_under_lock.proofs.era.era.Given as goal

-- the parts that were just made
abbrev pub ghosts-named : goal.ghosts-named
ghosts-named g a = record {
  book = a.parts.book;
  base = a.parts.node.base;
  disk = (g.D.Disk.state a.parts.node.disk).name;
  clock = (g.D.Disk.state a.parts.node.disk).clock;
  owner = a.parts.node.owner;
  first = a.parts.node.first;
  link = g.L.Link.name a.parts.link;
  start = g.L.Link.took a.parts.link;
}
