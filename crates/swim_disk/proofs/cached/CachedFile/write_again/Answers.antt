use Rattle.swim_disk.specs.Cache.{backing_in}
use Rattle.swim_disk.specs.declared.cached.Span.{Span}
use Rattle.swim_disk.proofs.Spanning.{within_at, span_but, span_comes}
use Rattle.swim_disk.proofs.cached.CachedFile.write_again.Goals as goal

abbrev none : Span
none = record { from = 0; until = 0 }

pub write_span-requires-clause-range : goal.write_span-requires-clause-range
write_span-requires-clause-range g c = (within_at c.args.content.now c.args.spans.now c.loop-span.span-index none c.requires.within c.loop-span-test.true).0

pub write_span-requires-clause-within : goal.write_span-requires-clause-within
write_span-requires-clause-within g c = (within_at c.args.content.now c.args.spans.now c.loop-span.span-index none c.requires.within c.loop-span-test.true).1

pub returns-in_err-write_span-clause-new : goal.returns-in_err-write_span-clause-new
returns-in_err-write_span-clause-new g c =
    let file = backing_in g.B.BackingFile.deeds in
    let range = (within_at c.args.content.now c.args.spans.now c.loop-span.span-index none c.requires.within c.loop-span-test.true).0 in
    span_but c.args.spans.now c.args.content.now (file c.loop-span.self) (file c.write_span.new.self) c.loop-span.span-index none c.loop-span-test.true range c.write_span.ensures.beside c.loop-span.invariant.0

pub loop-span-preserved : goal.loop-span-preserved
loop-span-preserved g c =
    let file = backing_in g.B.BackingFile.deeds in
    let range = (within_at c.args.content.now c.args.spans.now c.loop-span.span-index none c.requires.within c.loop-span-test.true).0 in (
      span_but c.args.spans.now c.args.content.now (file c.loop-span.self) (file c.write_span.new.self) c.loop-span.span-index none c.loop-span-test.true range c.write_span.ensures.beside c.loop-span.invariant.0,
      span_comes c.args.spans.now c.args.content.now (file c.loop-span.self) (file c.write_span.new.self) c.loop-span.span-index none c.loop-span-test.true range c.write_span.ensures.beside c.in_ok-write_span.ensures.done c.loop-span.invariant.1,
    )
