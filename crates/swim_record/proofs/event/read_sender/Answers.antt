use Rattle.std.proofs.Common.{◌∷◌, ◌++◌}
use Rattle.swim_words.specs.Words.{endpoint_text}
use Rattle.swim_words.proofs.Endpoints.{endpoint_lacks}
use Rattle.swim_words.proofs.Splits.{no_split, same_split}
use Rattle.swim_record.proofs.Events.{one_endpoint}
use Rattle.swim_record.proofs.event.read_sender.Goals as goal

pub returns-in_err-first : goal.returns-in_err-first
returns-in_err-first c from word is same =
    absurd (no_split 32 (endpoint_text from) word c.in_ok-rest.rest.now c.in_err-first.ensures.none (c.in_ok-rest.ensures (endpoint_text from ++ 32 ∷ word) same))

pub returns-in_err-from : goal.returns-in_err-from
returns-in_err-from c from word is same =
    let cut = same_split 32 c.in_ok-rest.rest.now c.in_ok-first.first.now c.in_ok-first.word.now (endpoint_text from) word c.in_ok-first.ensures.first c.in_ok-first.ensures.parts (endpoint_lacks from is) (c.in_ok-rest.ensures (endpoint_text from ++ 32 ∷ word) same) in
    absurd (c.in_err-from.ensures.none from (record { says = cut.0; endpoint = is }))

pub returns : goal.returns
returns c from word is same =
    let cut = same_split 32 c.in_ok-rest.rest.now c.in_ok-first.first.now c.in_ok-first.word.now (endpoint_text from) word c.in_ok-first.ensures.first c.in_ok-first.ensures.parts (endpoint_lacks from is) (c.in_ok-rest.ensures (endpoint_text from ++ 32 ∷ word) same) in
    (one_endpoint c.in_ok-first.first.now c.in_ok-from.from from c.in_ok-from.ensures.endpoint is cut.0, cut.1)
