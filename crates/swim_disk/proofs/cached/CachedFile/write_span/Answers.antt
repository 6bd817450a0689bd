use Rattle.swim_disk.specs.Cache.{backing_in}
use Rattle.swim_disk.proofs.Spanning.{written_span}
use Rattle.swim_disk.proofs.cached.CachedFile.write_span.Goals as goal

pub returns-clause-done : goal.returns-clause-done
returns-clause-done g c = written_span c.write_all.result c.args.span c.args.content.now (backing_in g.B.BackingFile.deeds c.write_all.new.self) c.requires.range c.requires.within c.write_all.ensures.done
