-- How a disk over a file keeps itself through one more call.
use Rattle.std.proofs.Common.{◌≡◌, ◌⊎◌, true, false, refl, inl, inr, ⊎_elim, ℕ, ◌+◌, ◌-◌, ◌<◌, ◌≤◌, min, List, [], ◌∷◌, ◌++◌, Bool, Vec, length, ap, sym, ◌∙◌, subst, arith, slice_index}
use Rattle.std.proofs.lemmas.Bool.{false≢true, cases_lt}
use Rattle.std.specs.Prelude.{Result, Ok, Err, IsOk, OnOk, is_err, ◌||◌}
use Rattle.std.specs.declared.alloc.Global.{Global}
use Rattle.std.proofs.lemmas.Result.{on_ok_weaker}
use Rattle.swim_disk.specs.Cache.{AreInside, HasBut, InRanges, InSpans, WaitsIn}
use Rattle.swim_disk.specs.Deeds.{Backing, backing_of, Comes, ComesAll, LiesBeside, KeepsAll, StaysBeside}
use Rattle.swim_disk.specs.Disk.{Torn, Writes, overlaid}
use Rattle.swim_disk.specs.Machinery.Torn.{overlaid_torn, torn_same}
use Rattle.swim_disk.specs.File.{IsFile, FileView, Puts}
use Rattle.swim_disk.specs.Replay.{Disk, fresh, replay}
use Rattle.swim_disk.specs.declared.backing.Deed.{Deed}
use Rattle.swim_disk.specs.declared.cached.Span.{Span}
use Rattle.swim_disk.specs.declared.mem.TheConstants.{MOST_BYTES}
use Rattle.swim_disk.specs.declared.past.Call.{Call}
use Rattle.swim_disk.specs.declared.past.Call.TheVariants.{Write, Sync}
use Rattle.swim_disk.proofs.Parts.{overlaid_has}
use Rattle.swim_disk.proofs.Recorded.{Told, memory_of, replay_more, noted_write, elapses_same}
use Rattle.swim_disk.proofs.Spanning.{InSpan, in_or_beside, spans_before, spans_last, spans_more, within_more}

-- the range of a write with the gap before it
abbrev pub span_of : ℕ → ℕ → List ℕ → Span
span_of at n content = record { from = min at (length content); until = at + n }

-- bytes beside it are those of the content before
module _ (at : ℕ) (content next : List ℕ) (bytes : List ℕ) (is : next ≡ overlaid content at bytes) where
  abbrev span : Span
  span = span_of at (length bytes) content

  torn : Torn at (length bytes) content next
  torn = subst (λ (l : List ℕ). Torn at (length bytes) content l) (sym is) (overlaid_torn content at bytes)

  reaches : at + length bytes ≤ length next
  reaches = subst (λ (l : List ℕ). at + length bytes ≤ length l) (sym is) (overlaid_has content at bytes).within

  beside_old : (i : ℕ) → i < length next → LiesBeside span.from (span.until - span.from) i → i < length content
  beside_old i less beside =
      ⊎_elim
      (λ (low : i < span.from). omega (arith, low))
      (λ (high : span.from + (span.until - span.from) ≤ i). omega (arith, high, less, torn.no_longer))
      beside

  beside_same : (i : ℕ) → i < length next → LiesBeside span.from (span.until - span.from) i → slice_index next i ≡ slice_index content i
  beside_same i less beside =
      ⊎_elim
      (λ (low : i < span.from). torn.before i (beside_old i less beside) (omega (arith, low)))
      (λ (high : span.from + (span.until - span.from) ≤ i). torn.after i (beside_old i less beside) (omega (arith, high)))
      beside

  put_but : (unsynced : List Span) (old new : Backing) → StaysBeside span.from (span.until - span.from) old new → HasBut unsynced content old → HasBut (unsynced ++ span ∷ []) next new
  put_but unsynced old new stays has = λ i less.
      ⊎_elim
      (λ here. inr (spans_last unsynced span i here))
      (λ beside. ⊎_elim
      (λ kept. inl (subst (λ (b : ℕ). new.kept i b) (sym (beside_same i less beside)) ((stays i (slice_index content i) beside).0 kept)))
      (λ later. inr (spans_before unsynced span i later))
      (has i (beside_old i less beside)))
      (in_or_beside span i (omega arith))

  put_comes : {T E : Type 0} (result : Result T E) (old new : Backing) → IsOk result → OnOk result (WaitsIn span next new) → StaysBeside span.from (span.until - span.from) old new
      → ComesAll content old → ComesAll next new
  put_comes (Ok value) old new ok waits stays comes = λ i less.
      ⊎_elim
      (λ here. inr (waits i here.0 here.1))
      (λ beside. subst (λ (b : ℕ). Comes new i b) (sym (beside_same i less beside))
      (⊎_elim
      (λ kept. inl ((stays i (slice_index content i) beside).0 kept))
      (λ waiting. inr ((stays i (slice_index content i) beside).1 waiting))
      (comes i (beside_old i less beside))))
      (in_or_beside span i (omega arith))
  put_comes (Err e) old new ok waits stays comes = absurd (false≢true ok)

  put_written : (i synced : ℕ) (writes : List (ℕ × ℕ)) → synced ≤ length content → InSpan span i → InRanges ((at, length bytes) ∷ writes) i ⊎ (synced ≤ i)
  put_written i synced writes within here =
      ⊎_elim
      (λ (gap : i < at). inr (omega (arith, gap, within, here.0)))
      (λ (from : at ≤ i). inl (inl (from, here.1)))
      (cases_lt i at)

-- a write that is taken in, and made
pub file_puts : {T E : Type 0} (result : Result T E) (content next : List ℕ) (unsynced : List Span) (calls : List Call) (stale now : Bool) (old new : Backing) (at : ℕ) (kept : Vec ℕ Global)
    → IsFile content unsynced calls stale old → length next ≤ MOST_BYTES → next ≡ overlaid content at kept.items
    → StaysBeside (min at (length content)) (at + length kept.items - min at (length content)) old new → OnOk result (WaitsIn (span_of at (length kept.items) content) next new)
    → (now ≡ false → (stale ≡ false) × IsOk result)
    → IsFile next (unsynced ++ span_of at (length kept.items) content ∷ []) (calls ++ Write at kept ∷ []) now new
file_puts result content next unsynced calls stale now old new at kept was size is stays waits fresh_if =
    let more = replay_more (fresh []) calls (Write at kept) in
    let was_torn = torn at content next kept.items is in
    record {
      size = size;
      holds = is ∙ ap (λ (o : List ℕ). overlaid o at kept.items) was.holds ∙ sym (ap (λ d. d.content) more);
      longer = omega (arith, was.longer, was_torn.no_shorter, ap (λ (d : Disk). length d.synced) more);
      within = within_more content next unsynced (span_of at (length kept.items) content) was_torn.no_shorter (omega arith) (reaches at content next kept.items is) was.within;
      written = λ i in_spans. subst (λ (d : Disk). InRanges d.writes i ⊎ (length d.synced ≤ i)) (sym more)
          (⊎_elim
          (λ before. ⊎_elim (λ later. inl (inr later)) (λ past. inr past) (was.written i before))
          (λ here. put_written at content next kept.items is i _ _ was.longer here)
          (spans_more unsynced (span_of at (length kept.items) content) i in_spans));
      but = put_but at content next kept.items is unsynced old new stays was.but;
      good = λ sound. put_comes at content next kept.items is result old new (fresh_if sound).1 waits stays (was.good (fresh_if sound).0);
    }

-- a file that is not stale after a write was not stale before, and the write was done
pub fresh_by : {T E : Type 0} (result : Result T E) (stale failed : Bool) → failed ≡ is_err result → (stale || failed) ≡ false → (stale ≡ false) × IsOk result
fresh_by (Ok done) false failed is none = (refl, refl)
fresh_by (Err fault) false failed is none = (refl, absurd (false≢true (sym none ∙ is)))
fresh_by result true failed is none = absurd (false≢true (sym none))

-- a sync that is done
pub file_settles : (content : List ℕ) (unsynced none : List Span) (calls : List Call) (stale now : Bool) (old new : Backing)
    → IsFile content unsynced calls stale old → none ≡ [] → KeepsAll content new
    → IsFile content none (calls ++ Sync ∷ []) now new
file_settles content unsynced none calls stale now old new was empty has_all =
    let more = replay_more (fresh []) calls Sync in
    record {
      size = was.size;
      holds = was.holds ∙ sym (ap (λ d. d.content) more);
      longer = omega (arith, ap (λ (d : Disk). length d.synced) more, ap (λ (l : List ℕ). length l) was.holds);
      within = subst (λ (l : List Span). AreInside content l) (sym empty) tt;
      written = λ i in_spans. absurd (subst (λ (l : List Span). InSpans l i) empty in_spans);
      but = λ i less. inl (has_all i less);
      good = λ _ i less. inl (has_all i less);
    }

-- what a disk over a file tells beside its calls
abbrev pub told_by : FileView → Told
told_by view = record { name = view.name; failures = view.failures; calls = view.asked }

-- a write that is among the calls
pub view_write : {T E : Type 0} (result : Result T E) (calls later : List Call) (at : ℕ) (u v : Told) (kept : Vec ℕ Global) (bytes : List ℕ) → kept.items ≡ bytes → later ≡ calls ++ Write at kept ∷ []
    → Writes at bytes result (memory_of [] calls u) (memory_of [] later v)
view_write result calls later at u v kept bytes same is =
    subst (λ (l : List Call). Writes at bytes result (memory_of [] calls u) (memory_of [] l v)) (sym is)
    (subst (λ (b : List ℕ). Writes at b result (memory_of [] calls u) (memory_of [] (calls ++ Write at kept ∷ []) v)) same
    (noted_write result [] calls at u v kept))

-- a write that was refused before anything was written
pub view_refuse : {T E : Type 0} (fault : E) (calls later : List Call) (at : ℕ) (u v : Told) (bytes : List ℕ) → later ≡ calls
    → Writes {T = T} at bytes (Err fault) (memory_of [] calls u) (memory_of [] later v)
view_refuse {T} {E} fault calls later at u v bytes is =
    subst (λ (l : List Call). Writes {T = T} at bytes (Err fault) (memory_of [] calls u) (memory_of [] l v)) (sym is) (record {
      done = tt;
      failed = torn_same at (length bytes) _;
      images = λ c left. (c, left, torn_same at (length bytes) c);
      time = elapses_same [] calls u v;
    })

-- The same write, told by other views of the disk before and after it, and with an answer of the same kind.
abbrev pub same_kind : {T E U F : Type 0} → Result T E → Result U F → Type 0
same_kind (Ok value) (Ok other) = Unit {0}
same_kind (Err e) (Err other) = Unit {0}
same_kind result other = ⊥

kind_done : {T E U F : Type 0} (P : Type 0) (result : Result T E) (other : Result U F) → same_kind result other → OnOk result P → OnOk other P
kind_done P (Ok value) (Ok other) same p = p
kind_done P (Err e) (Err other) same p = tt
kind_done P (Ok value) (Err other) same p = absurd same
kind_done P (Err e) (Ok other) same p = absurd same

pub puts_as : {T E U F : Type 0} (result : Result T E) (other : Result U F) (at : ℕ) (bytes : List ℕ) (old was new now : FileView)
    → old.calls ≡ was.calls → old.deeds ≡ was.deeds → new.calls ≡ now.calls → new.deeds ≡ now.deeds → same_kind result other
    → Puts at bytes result old new → Puts at bytes other was now
puts_as result other at bytes old was new now old_calls old_deeds new_calls new_deeds same puts =
    let start = λ (l : List Call). min at (length (replay (fresh []) l).content) in
    let stays : List Call → List Deed → List Deed → Type 0 = λ l d e. StaysBeside (start l) (at + length bytes - start l) (backing_of d) (backing_of e) in
    let waits : List Call → List Call → List Deed → Type 0 = λ l m e. (i : ℕ) → start l ≤ i → i < at + length bytes → (backing_of e).waiting i (slice_index (replay (fresh []) m).content i) in
    record {
      calls = (puts.calls.0, puts.calls.1, sym new_calls ∙ puts.calls.2 ∙ ap (λ (l : List Call). l ++ Write at puts.calls.0 ∷ []) old_calls);
      beside = subst (λ (l : List Call). stays l was.deeds now.deeds) old_calls
          (subst (λ (d : List Deed). stays old.calls d now.deeds) old_deeds (subst (λ (e : List Deed). stays old.calls old.deeds e) new_deeds puts.beside));
      done = kind_done (waits was.calls now.calls now.deeds) result other same
          (on_ok_weaker result (λ all. subst (λ (l : List Call). waits l now.calls now.deeds) old_calls
          (subst (λ (m : List Call). waits old.calls m now.deeds) new_calls (subst (λ (e : List Deed). waits old.calls new.calls e) new_deeds all))) puts.done);
    }
