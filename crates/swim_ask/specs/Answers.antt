-- What a running member says in its answers.
use Rattle.std.specs.Prelude.{◌≡◌, ℕ, ◌+◌, ◌^◌, ◌<◌, ◌≤◌, List, [], ◌∷◌, ◌++◌, length, All, codes}
use Rattle.swim_news.specs.News.{AreFrom}
use Rattle.swim_node.specs.declared.entry.Status.{Status}
use Rattle.swim_shell.specs.Answers.{row_text, rows_text, status_text}
use Rattle.swim_shell.specs.Counters.{counters_text}
use Rattle.swim_shell.specs.declared.counters.TheConstants.{COUNTERS}
use Rattle.swim_wire.specs.Numbers.{IsEndpoint}
use Rattle.swim_wire.specs.declared.datagram.TheConstants.{UPDATES_MAX}
use Rattle.swim_wire.specs.declared.update.TheConstants.{MEMBERS_MAX}
use Rattle.swim_wire.specs.declared.update.Update.{Update}
use Rattle.swim_words.specs.Words.{Lacks, split_by}

-- the text is this status, whose numbers are below 2^64
pub record SaysStatus (text : List ℕ) (s : Status) : Type 0 where
  pub says : text ≡ status_text s
  pub number : s.number < 2 ^ 64
  pub alive : s.alive < 2 ^ 64
  pub suspect : s.suspect < 2 ^ 64
  pub confirmed : s.confirmed < 2 ^ 64
  pub entries : s.length < 2 ^ 64

-- the text is these counters, each of which is below 2^64
pub record SaysCounters (text values : List ℕ) : Type 0 where
  pub says : text ≡ counters_text values
  pub whole : length values ≡ COUNTERS
  pub small : All (λ value. value < 2 ^ 64) values

-- the row is of an endpoint and a number below 2^64
pub record IsRow (row : Update) : Type 0 where
  pub endpoint : IsEndpoint row.who
  pub number : row.number < 2 ^ 64

-- the line, with its end, is this row's
pub record SaysRow (line : List ℕ) (row : Update) : Type 0 where
  pub says : line ++ 10 ∷ [] ≡ row_text row
  pub is : IsRow row

-- the text has these rows, a line each, and no line after them
pub record SaysRows (text : List ℕ) (page : List Update) : Type 0 where
  pub rest : List ℕ
  pub says : text ≡ rows_text page ++ rest
  pub no_more : Lacks 10 rest
  pub rows : All IsRow page

-- the rows of the text, so many, came after the old ones
pub record AddsRows (text : List ℕ) (old new : List Update) (count : ℕ) : Type 0 where
  pub page : List Update
  pub says : SaysRows text page
  pub added : new ≡ old ++ page
  pub many : count ≡ length page

-- the text has these rows, no more than a page has, and they fit after the old ones
pub record FitsAfter (text : List ℕ) (old page : List Update) : Type 0 where
  pub says : SaysRows text page
  pub order : AreFrom 0 (old ++ page)
  pub few : length page ≤ UPDATES_MAX
  pub room : length old + length page ≤ MEMBERS_MAX

-- the answer begins with `ok` and a space, and these lines come after its first one
pub record HasAfterFirst (answer lines : List ℕ) : Type 0 where
  pub first : List ℕ
  pub says : answer ≡ codes "ok " ++ split_by 10 first lines
  pub one_line : Lacks 10 first

-- the rows that are in these lines of the answer, so many, came after the old ones
pub record AddsAnswer (answer : List ℕ) (old new : List Update) : Type 0 where
  pub lines : List ℕ
  pub after : HasAfterFirst answer lines
  pub count : ℕ
  pub adds : AddsRows lines old new count
