use Rattle.swim_words.proofs.Tables.{none_named}
use Rattle.swim_replay.specs.Versions.{version_text}
use Rattle.swim_replay.specs.declared.heading.TheConstants.TextVersion.{ALL}
use Rattle.swim_replay.proofs.Versions.{all_versions}
use Rattle.swim_replay.proofs.heading.TextVersion.of.Goals as goal

pub returns-clause-none : goal.returns-clause-none
returns-clause-none c = none_named version_text ALL c.args.line.now c.named.result all_versions c.named.ensures.none
