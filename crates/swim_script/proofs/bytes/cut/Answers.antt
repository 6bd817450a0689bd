use Rattle.std.proofs.Common.{◌≤◌, length, sym, ◌∙◌, arith}
use Rattle.std.proofs.lemmas.List.{take_all}
use Rattle.swim_script.proofs.bytes.cut.Goals as goal

pub returns : goal.returns
returns c =
    let bytes = c.args.bytes.now in
    let short : length bytes ≤ 513 = omega arith in
    let ended : length bytes ≤ c.loop-byte.byte-index = omega arith in
    c.loop-byte.invariant.0 ∙ take_all c.loop-byte.byte-index bytes ended ∙ sym (take_all 513 bytes short)
