-- The line of a row is read in one way, and so are the lines of rows.
use Rattle.std.proofs.Common.{◌≡◌, ℕ, ◌+◌, ◌^◌, ◌<◌, ◌≤◌, List, [], ◌∷◌, ◌++◌, length, length-append, get_or, append_assoc, refl, sym, ◌∙◌, ap, subst, lit<, inl, arith}
use Rattle.std.specs.Prelude.{◌≢◌, All, codes}
use Rattle.std.specs.Fmt.{decimal}
use Rattle.std.proofs.lemmas.Fmt.{decimal_injective}
use Rattle.std.proofs.lemmas.List.{append-nil, append_cancel_right}
use Rattle.std.proofs.lemmas.List.Elements.{All-append, All-cons, All-head, All-nil, All-tail}
use Rattle.swim_wire.specs.Text.{kind_word}
use Rattle.swim_wire.specs.declared.update.Update.{Update}
use Rattle.swim_wire.specs.declared.update.UpdateKind.{UpdateKind}
use Rattle.swim_wire.specs.declared.update.UpdateKind.TheVariants.{Alive, Suspect, Confirm}
use Rattle.swim_shell.specs.Answers.{row_text, rows_text}
use Rattle.swim_news.specs.News.{AreFrom}
use Rattle.swim_words.specs.Words.{Lacks, No, SaysEndpoint, endpoint_text, split_by}
use Rattle.swim_words.proofs.Digits.{lacks_decimal}
use Rattle.swim_words.proofs.Endpoints.{endpoint_apart, same_endpoint}
use Rattle.swim_words.proofs.Splits.{lacks_byte, lacks_split, no_split, same_split}
use Rattle.swim_ask.specs.Answers.{AddsRows, FitsAfter, IsRow, SaysRow, SaysRows}
use Rattle.swim_news.proofs.Order.{from-left}

-- The words of a line

kind_lacks_end : (kind : UpdateKind) → Lacks 10 (kind_word kind)
kind_lacks_end Alive = lacks_byte 10 (codes "alive") refl
kind_lacks_end Suspect = lacks_byte 10 (codes "suspect") refl
kind_lacks_end Confirm = lacks_byte 10 (codes "confirm") refl

kind_lacks_space : (kind : UpdateKind) → Lacks 32 (kind_word kind)
kind_lacks_space Alive = lacks_byte 32 (codes "alive") refl
kind_lacks_space Suspect = lacks_byte 32 (codes "suspect") refl
kind_lacks_space Confirm = lacks_byte 32 (codes "confirm") refl

first_of : List ℕ → ℕ
first_of text = get_or text 0 0

apart : (m n : ℕ) → m < n → m ≡ n → ⊥
apart m n less same = omega arith

same_kind : (a b : UpdateKind) → kind_word a ≡ kind_word b → a ≡ b
unfolding first_of
same_kind Alive Alive same = refl
same_kind Alive Suspect same = absurd (apart 97 115 (lit< tt) (ap first_of same))
same_kind Alive Confirm same = absurd (apart 97 99 (lit< tt) (ap first_of same))
same_kind Suspect Alive same = absurd (apart 97 115 (lit< tt) (sym (ap first_of same)))
same_kind Suspect Suspect same = refl
same_kind Suspect Confirm same = absurd (apart 99 115 (lit< tt) (sym (ap first_of same)))
same_kind Confirm Alive same = absurd (apart 97 99 (lit< tt) (sym (ap first_of same)))
same_kind Confirm Suspect same = absurd (apart 99 115 (lit< tt) (ap first_of same))
same_kind Confirm Confirm same = refl

-- the words of a row that are left after its kind, and its line without its end
abbrev pub row_rest : Update → List ℕ
row_rest row = split_by 32 (endpoint_text row.who) (decimal row.number)

abbrev pub row_line : Update → List ℕ
row_line row = split_by 32 (kind_word row.kind) (row_rest row)

row_lacks : (row : Update) → IsRow row → Lacks 10 (row_line row)
row_lacks row is =
    lacks_split 10 32 (kind_word row.kind) (row_rest row) (λ same. omega arith) (kind_lacks_end row.kind)
    (lacks_split 10 32 (endpoint_text row.who) (decimal row.number) (λ same. omega arith) (endpoint_apart 10 row.who (omega arith) is.endpoint) (lacks_decimal 10 row.number is.number (inl (omega arith))))

ended : (row : Update) (rest : List ℕ) → row_text row ++ rest ≡ split_by 10 (row_line row) rest
ended row rest =
    let kind : List ℕ = kind_word row.kind in
    let who : List ℕ = endpoint_text row.who in
    let number : List ℕ = decimal row.number in
    append_assoc kind (32 ∷ (who ++ 32 ∷ (number ++ 10 ∷ []))) rest
    ∙ ap (λ w. kind ++ 32 ∷ w) (append_assoc who (32 ∷ (number ++ 10 ∷ [])) rest)
    ∙ ap (λ w. kind ++ 32 ∷ (who ++ 32 ∷ w)) (append_assoc number (10 ∷ []) rest)
    ∙ ap (λ w. kind ++ 32 ∷ w) (sym (append_assoc who (32 ∷ number) (10 ∷ rest)))
    ∙ sym (append_assoc kind (32 ∷ row_rest row) (10 ∷ rest))

line_ended : (row : Update) → row_line row ++ 10 ∷ [] ≡ row_text row
line_ended row = sym (ended row []) ∙ append-nil (row_text row)

in_line : (line : List ℕ) (row : Update) → SaysRow line row → line ≡ row_line row
in_line line row says = append_cancel_right line (row_line row) (10 ∷ []) (says.says ∙ sym (line_ended row))

line_says : (line : List ℕ) (row : Update) → line ≡ row_line row → IsRow row → SaysRow line row
line_says line row same is = record { says = ap (λ w. w ++ 10 ∷ []) same ∙ line_ended row; is = is }

-- a line of these words is the row's
pub row_read : (line kind rest who number : List ℕ) (row : Update) → line ≡ split_by 32 kind rest → rest ≡ split_by 32 who number → kind ≡ kind_word row.kind → SaysEndpoint who row.who → number ≡ decimal row.number → row.number < 2 ^ 64 → SaysRow line row
row_read line kind rest who number row cut next first second third fits =
    let after : rest ≡ row_rest row = next ∙ ap (λ w. split_by 32 w number) second.says ∙ ap (λ w. split_by 32 (endpoint_text row.who) w) third in
    line_says line row (cut ∙ ap (λ w. split_by 32 w rest) first ∙ ap (λ w. split_by 32 (kind_word row.kind) w) after) (record { endpoint = second.endpoint; number = fits })

-- a row's line has its words
pub kind_in : (line kind rest : List ℕ) (row : Update) → Lacks 32 kind → line ≡ split_by 32 kind rest → SaysRow line row → (kind ≡ kind_word row.kind) × (rest ≡ row_rest row)
kind_in line kind rest row lacks cut says =
    same_split 32 line kind rest (kind_word row.kind) (row_rest row) lacks cut (kind_lacks_space row.kind) (in_line line row says)

pub who_in : (rest who number : List ℕ) (row : Update) → Lacks 32 who → rest ≡ split_by 32 who number → rest ≡ row_rest row → IsRow row → (who ≡ endpoint_text row.who) × (number ≡ decimal row.number)
who_in rest who number row lacks cut says is =
    same_split 32 rest who number (endpoint_text row.who) (decimal row.number) lacks cut (endpoint_apart 32 row.who (omega arith) is.endpoint) says

pub no_words : (line : List ℕ) → Lacks 32 line → No (SaysRow line)
no_words line lacks row says = no_split 32 (kind_word row.kind) (row_rest row) line lacks (in_line line row says)

pub no_rest : (rest : List ℕ) (row : Update) → Lacks 32 rest → rest ≢ row_rest row
no_rest rest row lacks says = no_split 32 (endpoint_text row.who) (decimal row.number) rest lacks says

same_fields : (r s : Update) → r.kind ≡ s.kind → r.who ≡ s.who → r.number ≡ s.number → r ≡ s
same_fields r s kind who number = λ k. record { kind = kind k; who = who k; number = number k }

-- a line is of one row
same_row : (line : List ℕ) (r s : Update) → SaysRow line r → SaysRow line s → r ≡ s
same_row line r s one other =
    let words = kind_in line (kind_word r.kind) (row_rest r) s (kind_lacks_space r.kind) (in_line line r one) other in
    let rest = who_in (row_rest r) (endpoint_text r.who) (decimal r.number) s (endpoint_apart 32 r.who (omega arith) one.is.endpoint) refl words.1 other.is in
    same_fields r s (same_kind r.kind s.kind words.0) (same_endpoint r.who s.who one.is.endpoint other.is.endpoint rest.0) (decimal_injective r.number s.number one.is.number other.is.number rest.1)

-- Rows, line by line

-- the first row of lines, and the others
pub record FirstRow (line rest : List ℕ) (more : List Update) : Type 0 where
  pub row : Update
  pub others : List Update
  pub are : more ≡ row ∷ others
  pub first : SaysRow line row
  pub says : SaysRows rest others

first_row : (left line rest : List ℕ) (more : List Update) → Lacks 10 line → left ≡ split_by 10 line rest → SaysRows left more → FirstRow line rest more
first_row left line rest [] lacks cut says = absurd (no_split 10 line rest says.rest says.no_more (sym says.says ∙ cut))
first_row left line rest (row ∷ others) lacks cut says =
    let is : IsRow row = All-head IsRow row others says.rows in
    let lines : left ≡ split_by 10 (row_line row) (rows_text others ++ says.rest) =
    says.says ∙ append_assoc (row_text row) (rows_text others) says.rest ∙ ended row (rows_text others ++ says.rest) in
    let same = same_split 10 left line rest (row_line row) (rows_text others ++ says.rest) lacks cut (row_lacks row is) lines in
    record {
      row = row;
      others = others;
      are = refl;
      first = line_says line row same.0 is;
      says = record { rest = says.rest; says = same.1; no_more = says.no_more; rows = All-tail IsRow row others says.rows };
    }

-- these rows of a text were added, and this is left of it, whatever it may say
pub record RowsSoFar (text left : List ℕ) (old now : List Update) (count : ℕ) : Type 0 where
  pub page : List Update
  pub says : text ≡ rows_text page ++ left
  pub rows : All IsRow page
  pub added : now ≡ old ++ page
  pub many : count ≡ length page
  pub only : (whole : List Update) → FitsAfter text old whole → (more : List Update) × (whole ≡ page ++ more) × SaysRows left more

pub none_added : (text : List ℕ) (old : List Update) → RowsSoFar text text old old 0
none_added text old = record {
  page = [];
  says = refl;
  rows = All-nil IsRow;
  added = sym (append-nil old);
  many = refl;
  only = λ whole fits. (whole, refl, fits.says);
}

rows_text-more : (page : List Update) (row : Update) (rest : List ℕ) → rows_text (page ++ row ∷ []) ++ rest ≡ rows_text page ++ (row_text row ++ rest)
rows_text-more [] row rest = ap (λ w. w ++ rest) (append-nil (row_text row))
rows_text-more (r ∷ page) row rest =
    append_assoc (row_text r) (rows_text (page ++ row ∷ [])) rest
    ∙ ap (λ w. row_text r ++ w) (rows_text-more page row rest)
    ∙ sym (append_assoc (row_text r) (rows_text page) (row_text row ++ rest))

pub one_added : (text left line rest : List ℕ) (old now next : List Update) (row : Update) (count : ℕ) → RowsSoFar text left old now count → Lacks 10 line → left ≡ split_by 10 line rest → SaysRow line row → next ≡ now ++ row ∷ [] → RowsSoFar text rest old next (count + 1)
one_added text left line rest old now next row count so_far lacks cut says added =
    let here : left ≡ row_text row ++ rest = cut ∙ ap (λ w. split_by 10 w rest) (in_line line row says) ∙ sym (ended row rest) in
    record {
      page = so_far.page ++ row ∷ [];
      says = so_far.says ∙ ap (λ w. rows_text so_far.page ++ w) here ∙ sym (rows_text-more so_far.page row rest);
      rows = All-append IsRow so_far.page (row ∷ []) so_far.rows (All-cons IsRow row [] says.is (All-nil IsRow));
      added = added ∙ ap (λ w. w ++ row ∷ []) so_far.added ∙ append_assoc old so_far.page (row ∷ []);
      many = omega (arith, so_far.many, length-append so_far.page (row ∷ []));
      only = λ whole fits.
          let (more, are, left_says) = so_far.only whole fits in
          let found = first_row left line rest more lacks cut left_says in
          let same : found.row ≡ row = same_row line found.row row found.first says in
          (found.others, are ∙ ap (λ w. so_far.page ++ w) found.are ∙ ap (λ r. so_far.page ++ r ∷ found.others) same ∙ sym (append_assoc so_far.page (row ∷ []) found.others), found.says);
    }

pub all_added : (text left : List ℕ) (old now : List Update) (count : ℕ) → RowsSoFar text left old now count → Lacks 10 left → AddsRows text old now count
all_added text left old now count so_far lacks = record {
  page = so_far.page;
  says = record { rest = left; says = so_far.says; no_more = lacks; rows = so_far.rows };
  added = so_far.added;
  many = so_far.many;
}

-- a line that is no row
pub unread : (text left line rest : List ℕ) (old now : List Update) (count : ℕ) → RowsSoFar text left old now count → Lacks 10 line → left ≡ split_by 10 line rest → No (SaysRow line) → No (FitsAfter text old)
unread text left line rest old now count so_far lacks cut none whole fits =
    let left_is = so_far.only whole fits in
    let found = first_row left line rest left_is.0 lacks cut left_is.2 in
    none found.row found.first

-- a row that does not fit after the others
pub unfit : (text left line rest : List ℕ) (old now : List Update) (row : Update) (count : ℕ) → RowsSoFar text left old now count → Lacks 10 line → left ≡ split_by 10 line rest → SaysRow line row → (AreFrom 0 (now ++ row ∷ []) → length now < 257 → ⊥) → No (FitsAfter text old)
unfit text left line rest old now row count so_far lacks cut says out whole fits =
    let left_is = so_far.only whole fits in
    let found = first_row left line rest left_is.0 lacks cut left_is.2 in
    let same : found.row ≡ row = same_row line found.row row found.first says in
    let whole_is : whole ≡ so_far.page ++ row ∷ found.others = left_is.1 ∙ ap (λ w. so_far.page ++ w) found.are ∙ ap (λ r. so_far.page ++ r ∷ found.others) same in
    let all : old ++ whole ≡ (now ++ row ∷ []) ++ found.others =
    ap (λ w. old ++ w) whole_is ∙ sym (append_assoc old so_far.page (row ∷ found.others)) ∙ ap (λ w. w ++ row ∷ found.others) (sym so_far.added) ∙ sym (append_assoc now (row ∷ []) found.others) in
    out (from-left 0 (now ++ row ∷ []) found.others (let P : List Update → Type 0 = λ w. AreFrom 0 w in subst P all fits.order))
    (omega (arith, fits.room, ap length whole_is, length-append so_far.page (row ∷ found.others), ap length so_far.added, length-append old so_far.page))

-- more rows than a page has
pub too_many : (text left : List ℕ) (old now : List Update) (count : ℕ) → RowsSoFar text left old now count → 257 ≤ count → No (FitsAfter text old)
too_many text left old now count so_far over whole fits =
    let left_is = so_far.only whole fits in
    omega (arith, over, fits.few, so_far.many, ap length left_is.1, length-append so_far.page left_is.0)
