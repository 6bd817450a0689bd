-- Each head is in the table, and has a word of its own.
use Rattle.std.proofs.Common.{◌≡◌, Contains, Some, refl}
use Rattle.swim_words.proofs.Tables.{named_in, in_table, same_value}
use Rattle.swim_record.specs.declared.head.Head.{Head}
use Rattle.swim_record.specs.declared.head.Head.TheVariants as head
use Rattle.swim_record.specs.declared.head.TheConstants.Head.{ALL}
use Rattle.swim_record.specs.Text.{head_word}

heads : (h : Head) → named_in head_word ALL (head_word h) ≡ Some h
heads head.Member = refl
heads _ = refl

pub all_heads : (h : Head) → Contains ALL h
all_heads h = in_table head_word ALL (head_word h) h (heads h)

pub same_head : (h k : Head) → head_word h ≡ head_word k → h ≡ k
same_head h k same = same_value head_word ALL heads h k same
