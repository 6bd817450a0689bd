-- What is written is read in one way.
use Rattle.std.proofs.Common.{◌≡◌, ℕ, ◌/◌, ◌≤◌, ◌⊎◌, List, [], ◌∷◌, ◌++◌, inl, inr, refl, sym, ap, ◌∙◌, arith, append_assoc, append-nil, length, length-append, Option, Some, None}
use Rattle.std.specs.Prelude.{◌≢◌, All}
use Rattle.std.specs.Fmt.{decimal}
use Rattle.std.proofs.lemmas.Fmt.{decimal_injective}
use Rattle.std.proofs.lemmas.List.Elements.{All-append, All-cons, All-head, All-nil, All-tail}
use Rattle.swim_record.proofs.Heads.{same_head}
use Rattle.swim_words.specs.Words.{No, Lacks}
use Rattle.swim_words.proofs.Digits.{lacks_decimal}
use Rattle.swim_words.proofs.Endpoints.{endpoint_lacks, from_second, same_endpoint}
use Rattle.swim_words.proofs.Splits.{differs, lacks_byte, no_split}
use Rattle.swim_record.specs.declared.argument.Argument.{Argument}
use Rattle.swim_record.specs.declared.argument.Argument.TheVariants.{Number, Who}
use Rattle.swim_record.specs.declared.head.Head.{Head}
use Rattle.swim_record.specs.declared.head.Head.TheVariants as head
use Rattle.swim_record.specs.declared.line.Line.{Line}
use Rattle.swim_record.specs.declared.line.Line.TheVariants as line
use Rattle.swim_record.specs.Lines.{Says, arguments_of, head_in, number_or_none}
use Rattle.swim_record.specs.Text.{IsArgument, SaysArguments, argument_text, arguments_text, head_word}

-- a text that is empty or goes on with a space
abbrev pub IsCutOff : List ℕ → Type 0
IsCutOff text = (text ≡ []) ⊎ ((after : List ℕ) × (text ≡ 32 ∷ after))

-- two words with what follows them are the same where both are cut off at the first space
pub same_word : (a b c d : List ℕ) → Lacks 32 a → Lacks 32 c → IsCutOff b → IsCutOff d → a ++ b ≡ c ++ d → (a ≡ c) × (b ≡ d)
same_word [] b [] d one other cut cut' e = (refl, e)
same_word [] b (y ∷ c) d one other (inl none) cut' e = absurd (let f : [] ≡ y ∷ c ++ d = sym none ∙ e in cc)
same_word [] b (y ∷ c) d one other (inr (after, is)) cut' e =
    absurd (All-head (differs 32) y c other (let f : 32 ∷ after ≡ y ∷ c ++ d = sym is ∙ e in cc))
same_word (x ∷ a) b [] d one other cut (inl none) e = absurd (let f : x ∷ a ++ b ≡ [] = e ∙ none in cc)
same_word (x ∷ a) b [] d one other cut (inr (after, is)) e =
    absurd (All-head (differs 32) x a one (let f : x ∷ a ++ b ≡ 32 ∷ after = e ∙ is in cc))
same_word (x ∷ a) b (y ∷ c) d one other cut cut' e =
    let rest : a ++ b ≡ c ++ d = cc in
    let same = same_word a b c d (All-tail (differs 32) x a one) (All-tail (differs 32) y c other) cut cut' rest in
    (let head : x ≡ y = cc in let tail = same.0 in cc, same.1)

pub cut_arguments : (args : List Argument) → IsCutOff (arguments_text args)
cut_arguments [] = inl refl
cut_arguments (a ∷ args) = inr (argument_text a ++ arguments_text args, refl)

pub argument_lacks : (a : Argument) → IsArgument a → Lacks 32 (argument_text a)
argument_lacks (Number n) is = lacks_decimal 32 n is (inl (omega arith))
argument_lacks (Who e) is = endpoint_lacks e is

-- An endpoint's text is that of no other, and of no number

pub same_argument : (a b : Argument) → IsArgument a → IsArgument b → argument_text a ≡ argument_text b → a ≡ b
same_argument (Number n) (Number m) is other same = ap (λ (k : ℕ). Number k) (decimal_injective n m is other same)
same_argument (Number n) (Who e) is other same = absurd (no_split 46 (decimal (e / 65536 / 16777216)) (from_second e) (decimal n) (lacks_decimal 46 n is (inl (omega arith))) same)
same_argument (Who e) (Number n) is other same = absurd (no_split 46 (decimal (e / 65536 / 16777216)) (from_second e) (decimal n) (lacks_decimal 46 n other (inl (omega arith))) (sym same))
same_argument (Who d) (Who e) is other same = ap (λ (k : ℕ). Who k) (same_endpoint d e is other same)

-- One argument more

pub text-snoc : (args : List Argument) (a : Argument) → arguments_text (args ++ a ∷ []) ≡ arguments_text args ++ 32 ∷ argument_text a
text-snoc [] a = ap (λ (l : List ℕ). 32 ∷ l) (append-nil (argument_text a))
text-snoc (b ∷ args) a =
    ap (λ (l : List ℕ). 32 ∷ argument_text b ++ l) (text-snoc args a)
    ∙ ap (λ (l : List ℕ). 32 ∷ l) (sym (append_assoc (argument_text b) (arguments_text args) (32 ∷ argument_text a)))

-- what is left begins with a word, and says arguments that begin with it
record GoesOn (word next : List ℕ) (others : List Argument) : Type 0 where
  first : Argument
  after : List Argument
  is : others ≡ first ∷ after
  spelled : word ≡ argument_text first
  fits : IsArgument first
  says : SaysArguments next after

goes_on : (rest after word next : List ℕ) (others : List Argument) → rest ≡ 32 ∷ after → after ≡ word ++ next → Lacks 32 word → IsCutOff next → SaysArguments rest others → GoesOn word next others
goes_on rest after word next [] is parts lacks cut says = absurd (let f : 32 ∷ after ≡ [] = sym is ∙ says.0 in cc)
goes_on rest after word next (b ∷ bs) is parts lacks cut says =
    let whole : 32 ∷ after ≡ 32 ∷ argument_text b ++ arguments_text bs = sym is ∙ says.0 in
    let both : after ≡ argument_text b ++ arguments_text bs = cc in
    let fits : IsArgument b = All-head IsArgument b bs says.1 in
    let same = same_word word next (argument_text b) (arguments_text bs) lacks (argument_lacks b fits) cut (cut_arguments bs) (sym parts ∙ both) in
    record { first = b; after = bs; is = refl; spelled = same.0; fits = fits; says = (same.1, All-tail IsArgument b bs says.1) }

pub none_space : (rest after : List ℕ) (space : ℕ) (others : List Argument) → rest ≡ space ∷ after → space ≢ 32 → SaysArguments rest others → ⊥
none_space rest after space [] is other says = let f : space ∷ after ≡ [] = sym is ∙ says.0 in absurd (cc)
none_space rest after space (b ∷ bs) is other says = other (let f : space ∷ after ≡ 32 ∷ argument_text b ++ arguments_text bs = sym is ∙ says.0 in cc)

pub none_full : (rest after : List ℕ) (space : ℕ) (args before others : List Argument) → rest ≡ space ∷ after → args ≡ before ++ others → length before ≡ 8 → SaysArguments rest others → length args ≤ 8 → ⊥
none_full rest after space args before [] is all full says few = let f : space ∷ after ≡ [] = sym is ∙ says.0 in absurd (cc)
none_full rest after space args before (b ∷ bs) is all full says few =
    omega (arith, full, few, ap length all, length-append before (b ∷ bs))

pub none_word : (rest after word next : List ℕ) (others : List Argument) → rest ≡ 32 ∷ after → after ≡ word ++ next → Lacks 32 word → IsCutOff next → No (λ argument. (word ≡ argument_text argument) × IsArgument argument) → SaysArguments rest others → ⊥
none_word rest after word next others is parts lacks cut none says =
    let on = goes_on rest after word next others is parts lacks cut says in
    none on.first (on.spelled, on.fits)

pub read_more : (text rest after word next : List ℕ) (before : List Argument) (a : Argument) → text ≡ arguments_text before ++ rest → rest ≡ 32 ∷ after → after ≡ word ++ next → word ≡ argument_text a → text ≡ arguments_text (before ++ a ∷ []) ++ next
read_more text rest after word next before a read is parts spelled =
    read
    ∙ ap (λ (l : List ℕ). arguments_text before ++ l) (is ∙ ap (λ (l : List ℕ). 32 ∷ l) (parts ∙ ap (λ (w : List ℕ). w ++ next) spelled))
    ∙ sym (append_assoc (arguments_text before) (32 ∷ argument_text a) next)
    ∙ ap (λ (l : List ℕ). l ++ next) (sym (text-snoc before a))

pub fit_more : (before : List Argument) (a : Argument) → All IsArgument before → IsArgument a → All IsArgument (before ++ a ∷ [])
fit_more before a fit fits = All-append IsArgument before (a ∷ []) fit (All-cons IsArgument a [] fits (All-nil IsArgument))

pub all_more : (rest after word next : List ℕ) (args before others : List Argument) (a : Argument) → rest ≡ 32 ∷ after → after ≡ word ++ next → Lacks 32 word → IsCutOff next → word ≡ argument_text a → IsArgument a → args ≡ before ++ others → SaysArguments rest others → (left : List Argument) × (args ≡ (before ++ a ∷ []) ++ left) × SaysArguments next left
all_more rest after word next args before others a is parts lacks cut spelled fits all says =
    let on = goes_on rest after word next others is parts lacks cut says in
    let same : on.first ≡ a = same_argument on.first a on.fits fits (sym on.spelled ∙ spelled) in (
      on.after,
      all ∙ ap (λ (l : List Argument). before ++ l) (on.is ∙ ap (λ (x : Argument). x ∷ on.after) same) ∙ sym (append_assoc before (a ∷ []) on.after),
      on.says,
    )

-- Heads

pub head_lacks : (h : Head) → Lacks 32 (head_word h)
head_lacks head.Member = lacks_byte 32 (head_word head.Member) refl
head_lacks h = lacks_byte 32 (head_word h) refl

-- Lines

pub same_arguments : (args others : List Argument) → All IsArgument args → All IsArgument others → arguments_text args ≡ arguments_text others → args ≡ others
same_arguments [] [] fit fits same = refl
same_arguments [] (b ∷ others) fit fits same = absurd (cc)
same_arguments (a ∷ args) [] fit fits same = absurd (cc)
same_arguments (a ∷ args) (b ∷ others) fit fits same =
    let one : IsArgument a = All-head IsArgument a args fit in
    let other : IsArgument b = All-head IsArgument b others fits in
    let whole : argument_text a ++ arguments_text args ≡ argument_text b ++ arguments_text others = cc in
    let parts = same_word (argument_text a) (arguments_text args) (argument_text b) (arguments_text others) (argument_lacks a one) (argument_lacks b other) (cut_arguments args) (cut_arguments others) whole in
    ap (λ (x : Argument). x ∷ args) (same_argument a b one other parts.0)
    ∙ ap (λ (rest : List Argument). b ∷ rest) (same_arguments args others (All-tail IsArgument a args fit) (All-tail IsArgument b others fits) parts.1)

pub few_arguments : (l : Line) → length (arguments_of l) ≤ 8
few_arguments (line.Begin start) = past start.past
  where
    past : (o : Option ℕ) → length (Number start.number ∷ Number start.time ∷ Number start.seq ∷ Number start.place ∷ Number start.granted ∷ number_or_none o) ≤ 8
    past None = omega arith
    past (Some n) = omega arith
few_arguments _ = omega arith

-- a text that is cut at its first space says a line whose head is what stands before it
pub line_parts : (text word rest : List ℕ) (l : Line) → text ≡ word ++ rest → Lacks 32 word → IsCutOff rest → Says text l → (word ≡ head_word (head_in l)) × SaysArguments rest (arguments_of l)
line_parts text word rest l parts lacks cut says =
    let same = same_word word rest (head_word (head_in l)) (arguments_text (arguments_of l)) lacks (head_lacks (head_in l)) cut (cut_arguments (arguments_of l)) (sym parts ∙ says.0) in
    (same.0, (same.1, says.1))

pub line_none : (text word rest : List ℕ) (h : Head) (args : List Argument) → text ≡ word ++ rest → Lacks 32 word → IsCutOff rest → word ≡ head_word h → SaysArguments rest args → No (λ l. (head_in l ≡ h) × (arguments_of l ≡ args)) → No (Says text)
line_none text word rest h args parts lacks cut spelled said none l says =
    let is = line_parts text word rest l parts lacks cut says in
    none l (same_head (head_in l) h (sym is.0 ∙ spelled), same_arguments (arguments_of l) args is.1.1 said.1 (sym is.1.0 ∙ said.0))

pub same_words : (text : List ℕ) (l m : Line) → Says text l → Says text m → (head_in l ≡ head_in m) × (arguments_of l ≡ arguments_of m)
same_words text l m one other =
    let parts = line_parts text (head_word (head_in m)) (arguments_text (arguments_of m)) l other.0 (head_lacks (head_in m)) (cut_arguments (arguments_of m)) one in
    (same_head (head_in l) (head_in m) (sym parts.0), same_arguments (arguments_of l) (arguments_of m) one.1 other.1 (sym parts.1.0))
