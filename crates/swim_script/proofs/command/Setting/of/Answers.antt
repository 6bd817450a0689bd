use Rattle.swim_words.proofs.Tables.{none_named}
use Rattle.swim_script.specs.Commands.{setting_text}
use Rattle.swim_script.specs.declared.command.TheConstants.Setting.{ALL}
use Rattle.swim_script.proofs.Keywords.{all_settings}
use Rattle.swim_script.proofs.command.Setting.of.Goals as goal

pub returns-clause-none : goal.returns-clause-none
returns-clause-none c = none_named setting_text ALL c.args.word.now c.named.result all_settings c.named.ensures.none
