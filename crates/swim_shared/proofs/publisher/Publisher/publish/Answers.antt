use Rattle.std.proofs.Common.{◌≡◌, drop, sym, subst}
use Rattle.swim_shared.specs.Published.{IsRight}
use Rattle.swim_shared.proofs.Last.{replaced}
use Rattle.swim_shared.proofs.publisher.Publisher.publish.Goals as goal

pub publish_as-writer-requires : goal.publish_as-writer-requires
publish_as-writer-requires g c next is views h at =
    let old = c.in-Some.writer in
    let same : next ≡ c.args.next = replaced c.append.new.self.desk.shown.value c.args.next next (drop old.behind old.log.items) (drop c.append.new.self.behind c.append.new.self.log.items) c.in-Ok.ensures.pending is in
    let right = subst (IsRight g.N.Name.book g.N.Name.base) (sym same) c.requires in
    (tt, right, right)
