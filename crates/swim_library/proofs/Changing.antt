-- Rows that are read page by page.
use Rattle.std.proofs.Common.{◌≡◌, ◌∙◌, ◌↔◌, ◌<◌, ◌≤◌, ◌+◌, ℕ, Bool, IsTrue, List, [], ◌∷◌, ◌++◌, length, take, ap, arith, inl, inr, length-append, subst, sym}
use Rattle.std.proofs.lemmas.List.{append_assoc}
use Rattle.swim_news.specs.News.{AreFrom, AreNews}
use Rattle.swim_wire.specs.declared.update.TheConstants.{MEMBERS_MAX}
use Rattle.swim_wire.specs.declared.update.Update.{Update}
use Rattle.swim_library.specs.Changes.{AddsAllPages, AreAllRows, FindsChanges, HasLooked, HasNothingToTell, OnlyTells}
use Rattle.swim_library.specs.declared.changes.Told.{Told}
use Rattle.swim_library.specs.declared.running.Running.{Running}
use Rattle.swim_news.proofs.Order.{from-left}

all-left : (rows more : List Update) → AreAllRows (rows ++ more) → AreAllRows rows
all-left rows more all = (from-left 0 rows more all.0, let most = all.1 in omega (arith, simp length-append at most))

-- a row of a page that is in order was added
pub one_more : (before rows new page : List Update) (i : ℕ) (row : Update) (added : Bool) → (AreAllRows (before ++ take i page) → rows ≡ before ++ take i page) → (IsTrue added → new ≡ rows ++ row ∷ []) → IsTrue added ↔ AreFrom 0 (rows ++ row ∷ []) × (length rows < MEMBERS_MAX) → take (i + 1) page ≡ take i page ++ row ∷ [] → AreAllRows (before ++ take (i + 1) page) → new ≡ before ++ take (i + 1) page
one_more before rows new page i row added so_far more fits next whole =
    let grown : before ++ take (i + 1) page ≡ (before ++ take i page) ++ row ∷ [] = ap (λ w. before ++ w) next ∙ sym (append_assoc before (take i page) (row ∷ [])) in
    let all : AreAllRows ((before ++ take i page) ++ row ∷ []) = subst AreAllRows grown whole in
    let same : rows ≡ before ++ take i page = so_far (all-left (before ++ take i page) (row ∷ []) all) in
    let now : AreAllRows (rows ++ row ∷ []) = subst (λ w. AreAllRows (w ++ row ∷ [])) (sym same) all in
    let most : length (rows ++ row ∷ []) ≤ MEMBERS_MAX = now.1 in
    let room : length rows < MEMBERS_MAX = omega (arith, simp length-append at most) in
    more (fits.1 (now.0, room)) ∙ (ap (λ w. w ++ row ∷ []) same ∙ sym grown)

-- what a look found is there as long as what was told is
finds_same : (old mid new : Running) → FindsChanges old mid → new.told ≡ mid.told → OnlyTells mid new → FindsChanges old new
finds_same old mid new finds told only = record {
  between = finds.between;
  read = subst (λ (t : Told). AddsAllPages old finds.between t.rows) (sym told) finds.read;
  news = subst (λ (t : Told). AreNews old.told.rows t.rows t.changes.items) (sym told) finds.news;
  same = record { node = only.node ∙ finds.same.node; outbox = only.outbox ∙ finds.same.outbox; notes = only.notes ∙ finds.same.notes; due = only.due ∙ finds.same.due; seeking = only.seeking ∙ finds.same.seeking; limit = only.limit ∙ finds.same.limit };
}

-- no change waits though it was looked for
pub none_waits : (old mid new : Running) → HasLooked old mid → mid.told.changes.items ≡ [] → new.told ≡ mid.told → OnlyTells mid new → HasNothingToTell old new
none_waits old mid new (inl is) none told only = absurd (is.1 (ap (λ (r : Running). r.told.changes.items) (sym is.0) ∙ none))
none_waits old mid new (inr is) none told only = record { finds = finds_same old mid new is.1 told only; none = ap (λ (t : Told). t.changes.items) told ∙ none }
