use Rattle.std.proofs.Common.{rules, ◌≡◌, ◌∙◌, ap, arith, ℕ, ◌+◌, ◌-◌, ◌<◌, ◌≤◌, List, ◌++◌, length, take, drop, replicate}
use Rattle.std.specs.Vec.{vec_len}
use Rattle.swim_disk.specs.Disk.{overlaid}
use Rattle.swim_disk.proofs.Laid.{laid, laid_past, laid_within}
use Rattle.swim_disk.proofs.mem.overlay.Goals as goal
use Rattle.swim_disk.proofs.mem.overlay.Goals.{then-len-end+in_ok-resize, else-len-end}
use borrow.Rule.Slice.PartMut.{post_of}

-- the content, with the room that the write takes, becomes what is wanted
module _ (c : goal.After-content-1) where
  abbrev old : List ℕ
  old = c.args.content.now.items

  abbrev room : List ℕ
  room = c.if-len-end.content.items

  abbrev end : ℕ
  end = c.args.at + length c.args.bytes.now

  abbrev written : List ℕ → List ℕ
  written l = take c.args.at l ++ c.args.bytes.now ++ drop end l

  whole : vec_len c.if-len-end.content ≡ length room
  whole = search rules

  within : end ≤ length room
  within = elim c.if-len-end.branch [
    | then-len-end+in_ok-resize w ↦ search rules
    | else-len-end w ↦ search rules
  ]

  wanted : written room ≡ overlaid old c.args.at c.args.bytes.now
  wanted = elim c.if-len-end.branch [
    | then-len-end+in_ok-resize w ↦
        let past : length old < end = search rules in
        let count : vec_len c.args.content.now ≡ length old = search rules in
        laid_past old room c.args.at c.args.bytes.now past (ap (λ v. v.items) w.content-is ∙ w.in_ok-resize.ensures.items ∙ ap (λ n. take end old ++ replicate (end - n) 0) count)
    | else-len-end w ↦
        let low : end ≤ length old = search rules in
        ap (λ v. written v.items) w.content-is ∙ laid_within old c.args.at c.args.bytes.now low
  ]

pub returns-clause-done : goal.returns-clause-done
returns-clause-done c =
    let at = c.args.at in
    let count : at + length c.args.bytes.now - at ≡ length c.args.bytes.now = omega arith in
    ap (λ l. take (vec_len c.if-len-end.content) (take at l ++ (c.copy_from_slice.new.self ++ post_of at (at + length c.args.bytes.now - at) l) ++ drop (length (take at l ++ (c.copy_from_slice.new.self ++ post_of at (at + length c.args.bytes.now - at) l))) (room c))) c.deref_mut.ensures.value
    ∙ ap (λ b. take (vec_len c.if-len-end.content) (take at (room c) ++ (b ++ post_of at (at + length c.args.bytes.now - at) (room c)) ++ drop (length (take at (room c) ++ (b ++ post_of at (at + length c.args.bytes.now - at) (room c)))) (room c))) c.copy_from_slice.ensures.after
    ∙ laid c.args.bytes.now (room c) at (at + length c.args.bytes.now - at) (vec_len c.if-len-end.content) count (whole c) (omega (arith, within c, count))
    ∙ wanted c
