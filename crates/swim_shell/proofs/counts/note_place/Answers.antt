use Rattle.std.proofs.Common.{◌≡◌, rules}
use Rattle.swim_member.specs.Texts.{note_number}
use Rattle.swim_shell.proofs.Counting.{named_at}
use Rattle.swim_shell.proofs.counts.note_place.Goals as goal

pub returns-clause-named : goal.returns-clause-named
returns-clause-named c =
    let same : c.from.result ≡ note_number c.args.note = search rules in
    rw same (named_at c.args.note)
