use Rattle.std.proofs.Common.{◌≡◌, ◌+◌, ◌^◌, ◌<◌, take}
use Rattle.std.specs.Fmt.{decimal}
use Rattle.swim_words.proofs.words.read_number.Given as goal

-- the digits so far are those of the number so far
abbrev pub invariant-loop-byte : goal.invariant-loop-byte
invariant-loop-byte l = (take (l.byte-index + 1) l.text ≡ decimal l.number) × (l.number < 2 ^ 64)
