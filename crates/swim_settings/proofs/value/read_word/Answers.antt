use Rattle.std.proofs.Common.{refl}
use Rattle.toml.specs.View.{table_view}
use Rattle.swim_settings.proofs.Naming.{no_word}
use Rattle.swim_settings.proofs.value.read_word.Goals as goal

pub returns-in-None-clause-none : goal.returns-in-None-clause-none
returns-in-None-clause-none g c =
    (refl, no_word g.W.Word.text_of c.args.key (table_view c.args.table.now) c.args.words.now c.in_ok-text.text.now c.requires.all c.in_ok-text.ensures.text (rw (← c.as_bytes.ensures.value) c.in-None.ensures.none))
