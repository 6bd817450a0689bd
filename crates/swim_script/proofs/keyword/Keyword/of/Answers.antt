use Rattle.swim_words.proofs.Tables.{none_named}
use Rattle.swim_script.specs.Commands.{keyword_text}
use Rattle.swim_script.specs.declared.keyword.TheConstants.Keyword.{ALL}
use Rattle.swim_script.proofs.Keywords.{all_keywords}
use Rattle.swim_script.proofs.keyword.Keyword.of.Goals as goal

pub returns-clause-none : goal.returns-clause-none
returns-clause-none c = none_named keyword_text ALL c.args.word.now c.named.result all_keywords c.named.ensures.none
