-- Where lines end.
use Rattle.std.proofs.Common.{◌≡◌, ℕ, ◌/◌, ◌%◌, ◌^◌, ◌<◌, Bool, true, false, cond, List, [], ◌∷◌, ◌++◌, inl, inr, refl, sym, ap, ◌∙◌, arith, append_assoc, Some, zero, suc}
use Rattle.std.specs.Prelude.{◌≢◌, ◌==◌, ◌||◌, All, codes, slice_index}
use Rattle.std.specs.Str.{bytes_eq}
use Rattle.std.specs.Fmt.{decimal}
use Rattle.std.proofs.lemmas.List.Elements.{All-append, All-cons, All-head, All-nil, All-tail}
use Rattle.hex.specs.Hex.{IsBytes, encode_lower, encode_with, hex_digit_value, lower_digits}
use Rattle.hex.proofs.HexLemmas.{IsDigits-lower_digits}
use Rattle.swim_words.specs.Words.{Lacks, No, endpoint_text, split_by}
use Rattle.swim_words.proofs.Digits.{lacks_decimal}
use Rattle.swim_words.proofs.Endpoints.{endpoint_apart}
use Rattle.swim_words.proofs.Splits.{differs, lacks_byte, no_split, same_split}
use Rattle.swim_rules.specs.Deals.{IsDeal}
use Rattle.swim_member.specs.declared.event.Event.{Event}
use Rattle.swim_member.specs.declared.event.Event.TheVariants as event
use Rattle.swim_record.specs.declared.argument.Argument.{Argument}
use Rattle.swim_record.specs.declared.argument.Argument.TheVariants.{Number, Who}
use Rattle.swim_record.specs.declared.event.EventWord.{EventWord}
use Rattle.swim_record.specs.declared.event.EventWord.TheVariants as word
use Rattle.swim_record.specs.declared.head.Head.{Head}
use Rattle.swim_record.specs.declared.head.Head.TheVariants as head
use Rattle.swim_record.specs.declared.line.Line.{Line}
use Rattle.swim_record.specs.Blocks.{AreFit, HasNoLine, IsFit, StartsWith}
use Rattle.swim_record.specs.Events.{IsEvent, event_word, word_of, words_after}
use Rattle.swim_record.specs.Lines.{Says, arguments_of, head_in, line_text}
use Rattle.swim_record.specs.Recording.{bytes_text, event_words, lines_text}
use Rattle.swim_record.specs.Text.{IsArgument, argument_text, arguments_text, head_word}
use Rattle.swim_record.proofs.Backs.{same_line}
use Rattle.swim_record.proofs.Events.{cut_words, event_parts, word_lacks}
use Rattle.swim_record.proofs.Texts.{cut_arguments, head_lacks, same_word}
use Rattle.swim_record.proofs.Writing.{lines-append}

-- No end stands within a line

number-ends : (n : ℕ) → n < 2 ^ 64 → Lacks 10 (decimal n)
number-ends n fits = lacks_decimal 10 n fits (inl (omega arith))

argument-ends : (a : Argument) → IsArgument a → Lacks 10 (argument_text a)
argument-ends (Number n) is = number-ends n is
argument-ends (Who e) is = endpoint_apart 10 e (omega arith) is

pub arguments-ends : (args : List Argument) → All IsArgument args → Lacks 10 (arguments_text args)
arguments-ends [] are = All-nil (differs 10)
arguments-ends (a ∷ args) are =
    All-cons (differs 10) 32 (argument_text a ++ arguments_text args) (λ same. omega arith)
    (All-append (differs 10) (argument_text a) (arguments_text args) (argument-ends a (All-head IsArgument a args are)) (arguments-ends args (All-tail IsArgument a args are)))

head-ends : (h : Head) → Lacks 10 (head_word h)
head-ends head.Member = lacks_byte 10 (head_word head.Member) refl
head-ends h = lacks_byte 10 (head_word h) refl

pub line_ends : (l : Line) → IsFit l → Lacks 10 (line_text l)
line_ends l fit = All-append (differs 10) (head_word (head_in l)) (arguments_text (arguments_of l)) (head-ends (head_in l)) (arguments-ends (arguments_of l) fit)

-- Nor within an event's

digit-ends : (d : ℕ) → d < 16 → slice_index lower_digits d ≢ 10
digit-ends d lt same =
    let value : hex_digit_value 10 ≡ Some d = sym (ap hex_digit_value same) ∙ IsDigits-lower_digits d lt in absurd (cc)

hex-ends : (bytes : List ℕ) → IsBytes bytes → Lacks 10 (encode_lower bytes)
unfolding encode_with
hex-ends [] are = All-nil (differs 10)
hex-ends (b ∷ bytes) are =
    let small : b < 256 = are 0 in
    All-cons (differs 10) (slice_index lower_digits (b / 16)) (slice_index lower_digits (b % 16) ∷ encode_lower bytes) (digit-ends (b / 16) (omega arith))
    (All-cons (differs 10) (slice_index lower_digits (b % 16)) (encode_lower bytes) (digit-ends (b % 16) (omega arith)) (hex-ends bytes (λ i. are (suc i))))

bytes-of : (xs : List ℕ) → All (λ n. n < 256) xs → IsBytes xs
bytes-of [] all i = omega arith
bytes-of (x ∷ xs) all zero = All-head (λ n. n < 256) x xs all
bytes-of (x ∷ xs) all (suc i) = bytes-of xs (All-tail (λ n. n < 256) x xs all) i

pub deal_bytes : (deal : List ℕ) → IsDeal deal → IsBytes deal
deal_bytes deal is = bytes-of deal is.below

bytes-ends : (bytes : List ℕ) → IsBytes bytes → Lacks 10 (bytes_text bytes)
bytes-ends [] are = lacks_byte 10 (codes "-") refl
bytes-ends (b ∷ bytes) are = hex-ends (b ∷ bytes) are

word-ends : (k : EventWord) → Lacks 10 (event_word k)
word-ends word.Deal = lacks_byte 10 (event_word word.Deal) refl
word-ends k = lacks_byte 10 (event_word k) refl

spaced-ends : (text : List ℕ) → Lacks 10 text → Lacks 10 (32 ∷ text)
spaced-ends text lacks = All-cons (differs 10) 32 text (λ same. omega arith) lacks

after-ends : (e : Event) → IsEvent e → Lacks 10 (words_after e)
after-ends (event.Tick deal) is = spaced-ends (encode_lower deal) (hex-ends deal (deal_bytes deal is))
after-ends (event.Datagram from bytes) is =
    spaced-ends (endpoint_text from ++ 32 ∷ bytes_text bytes.items)
    (All-append (differs 10) (endpoint_text from) (32 ∷ bytes_text bytes.items) (endpoint_apart 10 from (omega arith) is.0) (spaced-ends (bytes_text bytes.items) (bytes-ends bytes.items is.1)))
after-ends event.ReceiveFailed is = All-nil (differs 10)
after-ends (event.SendFailed count) is = spaced-ends (decimal count) (number-ends count (omega (arith, is)))
after-ends (event.Join peer) is = spaced-ends (endpoint_text peer) (endpoint_apart 10 peer (omega arith) is)
after-ends event.Leave is = All-nil (differs 10)
after-ends (event.Members after) (inl none) = rw none (All-nil (differs 10))
after-ends (event.Members after) (inr is) = at (after == 0)
  where
    at : (b : Bool) → Lacks 10 (cond b [] (32 ∷ endpoint_text after))
    at true = All-nil (differs 10)
    at false = spaced-ends (endpoint_text after) (endpoint_apart 10 after (omega arith) is)

pub event_ends : (e : Event) → IsEvent e → Lacks 10 (event_words e)
event_ends e is = rw event_parts (All-append (differs 10) (event_word (word_of e)) (words_after e) (word-ends (word_of e)) (after-ends e is))

-- No line is an event's

is_word : List ℕ → Bool
is_word text =
    bytes_eq text (codes "deal") || (bytes_eq text (codes "recv") || (bytes_eq text (codes "recvfail") || (bytes_eq text (codes "sendfail")
    || (bytes_eq text (codes "join") || (bytes_eq text (codes "leave") || bytes_eq text (codes "members"))))))

is-word : (k : EventWord) → is_word (event_word k) ≡ true
unfolding is_word
is-word word.Deal = refl
is-word _ = refl

no-word : (h : Head) → is_word (head_word h) ≡ false
unfolding is_word
no-word head.Member = refl
no-word _ = refl

pub event_alone : (e : Event) (after : List ℕ) → IsEvent e → HasNoLine (event_words e ++ 10 ∷ after)
event_alone e after is l rest starts =
    let cut = same_split 10 (event_words e ++ 10 ∷ after) (event_words e) after (line_text l) rest (event_ends e is) refl (line_ends l starts.1) starts.0 in
    let words = same_word (event_word (word_of e)) (words_after e) (head_word (head_in l)) (arguments_text (arguments_of l)) (word_lacks (word_of e)) (head_lacks (head_in l)) (cut_words e) (cut_arguments (arguments_of l)) (sym (event_parts e) ∙ cut.0) in
    let both : true ≡ false = sym (is-word (word_of e)) ∙ ap is_word words.0 ∙ no-word (head_in l) in
    absurd (cc)

-- Lines before what is none are read in one way

goes : (l : Line) (lines : List Line) (rest : List ℕ) → lines_text (l ∷ lines) ++ rest ≡ line_text l ++ 10 ∷ (lines_text lines ++ rest)
goes l lines rest = append_assoc (line_text l) (10 ∷ lines_text lines) rest

pub same_lines : (lines others : List Line) (rest after : List ℕ) → AreFit lines → AreFit others → HasNoLine rest → HasNoLine after → lines_text lines ++ rest ≡ lines_text others ++ after → (lines ≡ others) × (rest ≡ after)
same_lines [] [] rest after fit fits none stop same = (refl, same)
same_lines [] (o ∷ others) rest after fit fits none stop same = absurd (none o (lines_text others ++ after) (same ∙ goes o others after, All-head IsFit o others fits))
same_lines (l ∷ lines) [] rest after fit fits none stop same = absurd (stop l (lines_text lines ++ rest) (sym same ∙ goes l lines rest, All-head IsFit l lines fit))
same_lines (l ∷ lines) (o ∷ others) rest after fit fits none stop same =
    let one : IsFit l = All-head IsFit l lines fit in
    let other : IsFit o = All-head IsFit o others fits in
    let cut = same_split 10 (line_text l ++ 10 ∷ (lines_text lines ++ rest)) (line_text l) (lines_text lines ++ rest) (line_text o) (lines_text others ++ after) (line_ends l one) refl (line_ends o other) (sym (goes l lines rest) ∙ same ∙ goes o others after) in
    let more = same_lines lines others rest after (All-tail IsFit l lines fit) (All-tail IsFit o others fits) none stop cut.1 in (
      ap (λ (x : Line). x ∷ lines) (same_line (line_text l) l o (refl, one) (cut.0, other)) ∙ ap (λ (xs : List Line). o ∷ xs) more.0,
      more.1,
    )

-- The line at the front

pub front_none : (text : List ℕ) → Lacks 10 text → HasNoLine text
front_none text lacks l rest starts = no_split 10 (line_text l) rest text lacks starts.0

pub front_other : (text word after : List ℕ) → text ≡ split_by 10 word after → Lacks 10 word → No (Says word) → HasNoLine text
front_other text word after parts lacks none l rest starts =
    let cut = same_split 10 text word after (line_text l) rest lacks parts (line_ends l starts.1) starts.0 in
    none l (cut.0, starts.1)

pub front_is : (text word after : List ℕ) (l : Line) → text ≡ split_by 10 word after → Says word l → StartsWith text l after
front_is text word after l parts says = (parts ∙ ap (λ (w : List ℕ). w ++ 10 ∷ after) says.0, says.1)

pub lines_more : (text rest after : List ℕ) (lines : List Line) (l : Line) → text ≡ lines_text lines ++ rest → StartsWith rest l after → text ≡ lines_text (lines ++ l ∷ []) ++ after
lines_more text rest after lines l read starts =
    read
    ∙ ap (λ (t : List ℕ). lines_text lines ++ t) (starts.0 ∙ sym (append_assoc (line_text l) (10 ∷ []) after))
    ∙ sym (append_assoc (lines_text lines) (line_text l ++ 10 ∷ []) after)
    ∙ ap (λ (t : List ℕ). t ++ after) (sym (lines-append lines (l ∷ [])))

pub fit_more : (lines : List Line) (l : Line) → AreFit lines → IsFit l → AreFit (lines ++ l ∷ [])
fit_more lines l fit one = All-append IsFit lines (l ∷ []) fit (All-cons IsFit l [] one (All-nil IsFit))
