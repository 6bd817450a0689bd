use Rattle.std.proofs.Common.{rules, ◌≡◌, ◌||◌, ◌+◌, ◌-◌, ◌≤◌, min, Vec, Global, ◌∷◌, ◌++◌, [], ℕ, List, length, subst, sym, ap, ◌∙◌, slice_index}
use Rattle.std.specs.Prelude.{OnOk}
use Rattle.std.proofs.lemmas.Result.{on_ok_weaker}
use Rattle.swim_disk.specs.Cache.{WaitsIn}
use Rattle.swim_disk.specs.Count.{count_of}
use Rattle.swim_disk.specs.Deeds.{backing_of, StaysBeside}
use Rattle.swim_disk.specs.Disk.{overlaid}
use Rattle.swim_disk.specs.File.{IsFile, FileView, Puts}
use Rattle.swim_disk.specs.Replay.{fresh, replay}
use Rattle.swim_disk.specs.declared.cached.Span.{Span}
use Rattle.swim_disk.specs.declared.past.Call.{Call}
use Rattle.swim_disk.proofs.Filing.{file_puts, fresh_by, span_of}
use Rattle.swim_disk.proofs.file.FileDisk.put.Goals as goal

module _ (c : goal.After-self-1) where
  abbrev kept : Vec ℕ Global
  kept = c.replace-noted.result

  abbrev content : List ℕ
  content = c.self.inside.content.items

  same : kept.items ≡ c.args.bytes.now
  same = search rules

  abbrev span : Span
  span = record { from = c.min.result; until = c.args.at + length c.args.bytes.now }

  from_is : c.min.result ≡ min c.args.at (length content)
  from_is = search rules

  span_is : span ≡ span_of c.args.at (length kept.items) content
  span_is =
      ap (λ (f : ℕ). record { from = f; until = c.args.at + length c.args.bytes.now }) from_is
      ∙ ap (λ (l : List ℕ). record { from = min c.args.at (length content); until = c.args.at + length l }) (sym same)

  now_is : c.deref.result.now ≡ c.overlay.new.content.items
  now_is = search rules

pub invariant_of-self-2 : goal.invariant_of-self-2
invariant_of-self-2 c =
    let self = c.self.inside in
    let stale = self.is_stale || c.is_err.result in
    let old = backing_of self.file.below.deeds in
    let new = backing_of c.write_span-written.new.self.below.deeds in
    let next = c.overlay.new.content.items in
    let written = c.write_span-written.result in
    let size = length (kept c).items in
    let is : next ≡ overlaid (content c) c.args.at (kept c).items = c.in_ok-overlay.ensures.done ∙ ap (λ (b : List ℕ). overlaid (content c) c.args.at b) (sym (same c)) in
    let pushed : c.push_reserved.new.self.items ≡ self.unsynced.items ++ span c ∷ [] = search rules in
    let stays = subst (λ (s : Span). StaysBeside s.from (s.until - s.from) old new) (span_is c) c.write_span-written.ensures.beside in
    let waits = subst (λ (s : Span). OnOk written (WaitsIn s next new)) (span_is c) (subst (λ (l : List ℕ). OnOk written (WaitsIn (span c) l new)) (now_is c) c.write_span-written.ensures.done) in
    subst (λ (l : List Span). IsFile next l c.with_write-calls.result.0 stale new) (sym (pushed ∙ ap (λ (s : Span). self.unsynced.items ++ s ∷ []) (span_is c)))
    (subst (λ (l : List Call). IsFile next (self.unsynced.items ++ span_of c.args.at size (content c) ∷ []) l stale new) (sym c.with_write-calls.ensures.calls)
    (file_puts written (content c) next self.unsynced.items self.calls self.is_stale stale old new c.args.at (kept c) c.self.invariant c.in_ok-overlay.ensures.size is stays waits
    (fresh_by written self.is_stale c.is_err.result c.is_err.ensures.value)))

pub returns-clause-given : goal.returns-clause-given
returns-clause-given c =
    let self = c.self.inside in
    let old = backing_of self.file.below.deeds in
    let new = backing_of c.write_span-written.new.self.below.deeds in
    let written = c.write_span-written.result in
    let end = c.args.at + length c.args.bytes.now in
    let start : c.min.result ≡ min c.args.at (length (replay (fresh []) self.calls).content) = from_is c ∙ ap (λ (l : List ℕ). min c.args.at (length l)) c.self.invariant.holds in
    let reads : c.deref.result.now ≡ (replay (fresh []) c.with_write-calls.result.0).content = now_is c ∙ (invariant_of-self-2 c).holds in
    let view : FileView = record { name = self.number; calls = c.with_write-calls.result.0; failures = count_of self.failures; asked = count_of self.asked; deeds = c.write_span-written.new.self.below.deeds } in
    subst (λ (v : FileView). Puts c.args.at c.args.bytes.now written v view) c.self.view_is (record {
      calls = (kept c, same c, c.with_write-calls.ensures.calls);
      beside = subst (λ (n : ℕ). StaysBeside n (end - n) old new) start c.write_span-written.ensures.beside;
      done = on_ok_weaker written (λ waits i low high. subst (λ (l : List ℕ). new.waiting i (slice_index l i)) reads (waits i (subst (λ (n : ℕ). n ≤ i) (sym start) low) high)) c.write_span-written.ensures.done;
    })
