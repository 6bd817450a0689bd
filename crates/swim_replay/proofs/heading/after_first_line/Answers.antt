use Rattle.std.proofs.Common.{sym, ◌∙◌}
use Rattle.swim_words.proofs.Splits.{no_split, same_split}
use Rattle.swim_replay.specs.Versions.{version_text}
use Rattle.swim_replay.proofs.Versions.{same_version, version_lacks}
use Rattle.swim_replay.proofs.heading.after_first_line.Goals as goal

pub returns-in_err-first : goal.returns-in_err-first
returns-in_err-first c v rest says = absurd (no_split 10 (version_text v) rest c.args.text.now c.in_err-first.ensures.none says)

pub returns-in_err-version : goal.returns-in_err-version
returns-in_err-version c v rest says =
    let cut = same_split 10 c.args.text.now c.in_ok-first.first.now c.in_ok-first.rest.now (version_text v) rest c.in_ok-first.ensures.first c.in_ok-first.ensures.parts (version_lacks v) says in
    absurd (c.in_err-version.ensures.none v cut.0)

pub returns : goal.returns
returns c v rest says =
    let cut = same_split 10 c.args.text.now c.in_ok-first.first.now c.in_ok-first.rest.now (version_text v) rest c.in_ok-first.ensures.first c.in_ok-first.ensures.parts (version_lacks v) says in
    (same_version c.in_ok-version.version v (sym c.in_ok-version.ensures.version ∙ cut.0), cut.1)
