use Rattle.swim_words.proofs.Tables.{none_named}
use Rattle.swim_record.specs.Text.{head_word}
use Rattle.swim_record.specs.declared.head.TheConstants.Head.{ALL}
use Rattle.swim_record.proofs.Heads.{all_heads}
use Rattle.swim_record.proofs.head.Head.of.Goals as goal

pub returns-clause-none : goal.returns-clause-none
returns-clause-none c = none_named head_word ALL c.args.word.now c.named.result all_heads c.named.ensures.none
