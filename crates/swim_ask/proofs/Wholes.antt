-- How many lines the answer to a line has.
use Rattle.std.proofs.Common.{◌≡◌, ◌==◌, ℕ, ◌+◌, ◌^◌, ◌<◌, inl, inr, List, [], ◌∷◌, ◌++◌, cond, min, leb, drop, Bool, true, false, Option, Some, None, IfNone, IfSome, refl, sym, ◌∙◌, ap, arith}
use Rattle.std.specs.Prelude.{◌≢◌, codes}
use Rattle.std.specs.Option.{unwrap_or}
use Rattle.std.specs.Fmt.{decimal}
use Rattle.std.proofs.lemmas.Fmt.{decimal_injective}
use Rattle.std.proofs.lemmas.Bool.{cond-false, false≢true, le-leb, leb-true, ne_eqb}
use Rattle.std.proofs.lemmas.List.{append_cancel_left, take-append-drop}
use Rattle.std.proofs.lemmas.List.Elements.{All-append, All-head, All-tail}
use Rattle.std.proofs.lemmas.List.Sums.{sum_by-cons}
use Rattle.swim_words.specs.Words.{Lacks, split_by}
use Rattle.swim_words.proofs.Digits.{lacks_decimal}
use Rattle.swim_words.proofs.Splits.{differs, lacks_byte, same_split}
use Rattle.swim_ask.specs.Whole.{AsksLines, Follow, IsWhole, TellsMore, ends}

same_more : (answer : List ℕ) (m n : ℕ) → TellsMore answer m → TellsMore answer n → m ≡ n
same_more answer m n one other =
    let rest : split_by 10 (decimal m) one.rest ≡ split_by 10 (decimal n) other.rest =
    append_cancel_left (codes "ok ") (split_by 10 (decimal m) one.rest) (split_by 10 (decimal n) other.rest) (sym one.says ∙ other.says) in
    let parts = same_split 10 (split_by 10 (decimal m) one.rest) (decimal m) one.rest (decimal n) other.rest (lacks_decimal 10 m one.small (inl (omega arith))) refl (lacks_decimal 10 n other.small (inl (omega arith))) rest in
    decimal_injective m n one.small other.small parts.0

-- so many follow, and no other number
same_follow : (line answer : List ℕ) (m n : ℕ) → Follow line answer m → Follow line answer n → m ≡ n
same_follow line answer m n (inl one) (inl other) = same_more answer m n one.1 other.1
same_follow line answer m n (inl one) (inr none) = absurd (none.0 (one.0, (m, one.1)))
same_follow line answer m n (inr none) (inl other) = absurd (none.0 (other.0, (n, other.1)))
same_follow line answer m n (inr none) (inr nor) = none.1 ∙ sym nor.1

-- the first line of an answer that says how many follow
first_says : (answer first rest : List ℕ) (more : ℕ) → Lacks 10 first → answer ≡ split_by 10 first rest → TellsMore answer more → first ≡ codes "ok " ++ decimal more
first_says answer first rest more lacks cut tells =
    let none : Lacks 10 (codes "ok " ++ decimal more) = All-append (differs 10) (codes "ok ") (decimal more) (lacks_byte 10 (codes "ok ") refl) (lacks_decimal 10 more tells.small (inl (omega arith))) in
    (same_split 10 answer first rest (codes "ok " ++ decimal more) tells.rest lacks cut none tells.says).0

-- the first line does not begin so
pub none_begun : (line answer first rest : List ℕ) → Lacks 10 first → answer ≡ split_by 10 first rest → ((more : List ℕ) → first ≢ codes "ok " ++ more) → Follow line answer 0
none_begun line answer first rest lacks cut none =
    inr (λ p. none (decimal p.1.0) (first_says answer first rest p.1.0 lacks cut p.1.1), refl)

-- or it goes on with what was read as a number, or with none
pub as_read : (line answer first rest count : List ℕ) (number : Option ℕ) (more : ℕ) → AsksLines line → Lacks 10 first → answer ≡ split_by 10 first rest → first ≡ codes "ok " ++ count → IfSome number (λ n. count ≡ decimal n) → IfNone number ((n : ℕ) → n < 2 ^ 64 → count ≢ decimal n) → more ≡ unwrap_or number 0 → more < 2 ^ 64 → Follow line answer more
as_read line answer first rest count (Some n) more asks lacks cut begins is none same fits =
    inl (asks, record { rest = rest; says = cut ∙ ap (λ w. split_by 10 w rest) (begins ∙ ap (λ w. codes "ok " ++ w) (is ∙ ap decimal (sym same))); small = fits })
as_read line answer first rest count None more asks lacks cut begins is none same fits =
    inr (λ p. none p.1.0 p.1.1.small (append_cancel_left (codes "ok ") count (decimal p.1.0) (sym begins ∙ first_says answer first rest p.1.0 lacks cut p.1.1)), same)

-- Ends of lines

pub none_ended : (text : List ℕ) → Lacks 10 text → ends text ≡ 0
none_ended [] lacks = refl
none_ended (byte ∷ text) lacks =
    let other = All-head (differs 10) byte text lacks in
    let others = none_ended text (All-tail (differs 10) byte text lacks) in
    let test : ℕ → ℕ = λ x. cond (x == 10) 1 0 in
    let first : ◌≡◌ {A = ℕ} (cond (byte == 10) 1 0) 0 = cond-false (byte == 10) 1 0 (ne_eqb byte 10 other) in
    omega (arith, sum_by-cons test byte text, first, others)

-- an answer is whole where as many lines as are wanted have ended
pub whole_by : (line answer : List ℕ) (more wanted ended : ℕ) → Follow line answer more → wanted ≡ min (more + 1) 18446744073709551615 → ended ≡ ends answer → ended < 18446744073709551615 → (leb wanted ended ≡ true → IsWhole line answer) × (IsWhole line answer → leb wanted ended ≡ true)
whole_by line answer more wanted ended follow is same fits = (
  λ test.
      let enough = leb-true wanted ended test in
      record {
        first = omega arith;
        others = λ n other. omega (arith, enough, is, same, fits, same_follow line answer n more other follow);
      },
  λ whole. le-leb wanted ended (omega (arith, whole.others more follow)),
)

pub not_whole : (line answer : List ℕ) → Lacks 10 answer → IsWhole line answer → ⊥
not_whole line answer lacks whole = omega (arith, whole.first, none_ended answer lacks)

-- What asks for lines

pub asks_by : (line : List ℕ) (members begins counters : Bool) → members ≡ false → (line ≡ codes "members" → members ≡ true) → begins ≡ false → ((rest : List ℕ) → line ≡ codes "members " ++ rest → begins ≡ true) → (counters ≡ true → line ≡ codes "counters") → (line ≡ codes "counters" → counters ≡ true) → (counters ≡ true → AsksLines line) × (AsksLines line → counters ≡ true)
asks_by line members begins counters not one nor two to from = (
  λ test. inr (inr (to test)),
  λ asks. elim asks [
    | inl is ↦ absurd (false≢true (sym not ∙ one is))
    | inr others ↦ elim others [
      | inl is ↦ absurd (false≢true (sym nor ∙ two (drop 8 line) (sym (take-append-drop 8 line) ∙ ap (λ w. w ++ drop 8 line) is)))
      | inr is ↦ from is
    ]
  ],
)
