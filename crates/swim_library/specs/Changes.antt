-- What a program is told of the members that its own knows.
use Rattle.std.specs.Prelude.{◌≡◌, ◌≢◌, ◌⊎◌, ℕ, ◌≤◌, ◌==◌, Bool, true, false, zero, suc}
use Rattle.std.specs.Prelude.{List, [], ◌∷◌, ◌++◌, length, unwrap_or}
use Rattle.swim_member.specs.declared.event.Event.TheVariants.{Members}
use Rattle.swim_news.specs.News.{AreFrom, AreNews, last_of}
use Rattle.swim_news.specs.declared.change.Change.{Change}
use Rattle.swim_news.specs.declared.change.Change.TheVariants.{New, Changed, Gone}
use Rattle.swim_news.specs.declared.rows.TheConstants.{PAGES_MAX}
use Rattle.swim_node.specs.declared.entry.Reply.{Reply}
use Rattle.swim_wire.specs.declared.datagram.TheConstants.{UPDATES_MAX}
use Rattle.swim_wire.specs.declared.update.TheConstants.{MEMBERS_MAX}
use Rattle.swim_wire.specs.declared.update.Update.{Update}
use Rattle.swim_library.specs.Running.{AddsTo}
use Rattle.swim_library.specs.Shapes.{endpoint_as, row_as}
use Rattle.swim_library.specs.declared.running.Running.{Running}
use Rattle.swim_library.specs.declared.shapes.SwimRow.{SwimRow}

-- that there is no row of this member, as C sees it
abbrev pub no_row_as : ℕ → SwimRow
no_row_as who = let e = endpoint_as who in
    record { number = 0; address = e.address; port = e.port; kind = 0 }

-- the row that it is after a change, as C sees it
abbrev pub row_after_as : Change → SwimRow
row_after_as (New now) = row_as now
row_after_as (Changed was now) = row_as now
row_after_as (Gone was) = no_row_as was.who

-- the row that it was before
abbrev pub row_before_as : Change → SwimRow
row_before_as (New now) = no_row_as now.who
row_before_as (Changed was now) = row_as was
row_before_as (Gone was) = row_as was

-- the rows are in order, and no more than there can be
abbrev pub AreAllRows : List Update → Type 0
AreAllRows rows = AreFrom 0 rows × (length rows ≤ MEMBERS_MAX)

-- The page after these rows was read, and its rows follow them where all are in order. It is full,
-- or the last one.
pub record AddsPage (old new : Running) (before rows : List Update) (full : Bool) : Type 0 where
  pub reply : Reply
  pub adds : AddsTo old new (Members (unwrap_or (last_of before) 0)) reply
  pub all : AreAllRows (before ++ reply.page.items) → rows ≡ before ++ reply.page.items
  pub full_is : full ≡ (length reply.page.items == UPDATES_MAX)

-- so many full pages were read, one after another from the first row on, and these are their rows
abbrev pub AddsFullPages : Running → ℕ → Running → List Update → Type 0
AddsFullPages old zero new rows = (new ≡ old) × (rows ≡ [])
AddsFullPages old (suc pages) new rows = (between : Running) × (before : List Update)
    × AddsFullPages old pages between before
    × AddsPage between new before rows true

-- full pages were read, and then one that is not
pub record AddsLastPage (old new : Running) (rows : List Update) : Type 0 where
  pub pages : ℕ
  pub between : Running
  pub before : List Update
  pub full : AddsFullPages old pages between before
  pub last : AddsPage between new before rows false

-- all pages were read: the last is not full, or there can be no more
abbrev pub AddsAllPages : Running → Running → List Update → Type 0
AddsAllPages old new rows = AddsLastPage old new rows ⊎ AddsFullPages old PAGES_MAX new rows

-- nothing changed but what was told
pub record OnlyTells (old new : Running) : Type 0 where
  pub node : new.node ≡ old.node
  pub outbox : new.outbox ≡ old.outbox
  pub notes : new.notes ≡ old.notes
  pub due : new.due ≡ old.due
  pub seeking : new.seeking ≡ old.seeking
  pub limit : new.limit ≡ old.limit

-- all pages were read, and the changes to their rows from those that were told wait to be told
pub record FindsChanges (old new : Running) : Type 0 where
  pub between : Running
  pub read : AddsAllPages old between new.told.rows
  pub news : AreNews old.told.rows new.told.rows new.told.changes.items
  pub same : OnlyTells between new

-- changes wait already, or none did, and they were looked for
abbrev pub HasLooked : Running → Running → Type 0
HasLooked old new = ((new ≡ old) × (old.told.changes.items ≢ []))
    ⊎ ((old.told.changes.items ≡ []) × FindsChanges old new)

-- the first change that waits was told, and the others still wait
pub record TellsChange (old new : Running) (row was : SwimRow) : Type 0 where
  pub between : Running
  pub change : Change
  pub looked : HasLooked old between
  pub first : between.told.changes.items ≡ change ∷ new.told.changes.items
  pub rows : new.told.rows ≡ between.told.rows
  pub same : OnlyTells between new
  pub row_is : row ≡ row_after_as change
  pub was_is : was ≡ row_before_as change

-- all rows were read, and they are as they were told
pub record HasNothingToTell (old new : Running) : Type 0 where
  pub finds : FindsChanges old new
  pub none : new.told.changes.items ≡ []

-- memory was short after so many pages, and what was told stays
pub record ReadsInVain (old new : Running) : Type 0 where
  pub pages : ℕ
  pub rows : List Update
  pub full : AddsFullPages old pages new rows
  pub told : new.told ≡ old.told
