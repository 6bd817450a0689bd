use Rattle.std.proofs.Common.{arith, ◌≡◌, ◌∙◌, ◌+◌, ◌-◌, ap, min, max, length, length-drop, take, drop, ℕ, List}
use Rattle.std.proofs.lemmas.List.{take_all}
use Rattle.std.proofs.lemmas.Result.{on_ok_weaker}
use Rattle.swim_disk.specs.MemDisk.{disk_of}
use Rattle.swim_disk.specs.Replay.{Disk, written}
use Rattle.swim_disk.proofs.Patched.{take_min, drop_min}
use Rattle.swim_disk.proofs.beside.write_beside.Goals as goal

pub returns-clause-kept : goal.returns-clause-kept
returns-clause-kept c = λ bytes size was. c.write_apart-2.ensures.kept bytes size (c.in_ok-write_apart.ensures.kept bytes size was)

pub returns-clause-done : goal.returns-clause-done
returns-clause-done c =
    let w = c.args.bytes.now in
    let end = c.args.at + c.args.count in
    let low : c.min.result ≡ min c.args.begin c.args.at = c.min.ensures in
    let high : c.max.result ≡ max c.args.begin end = c.max.ensures in
    let first : take c.min-before.result w ≡ take (c.args.at - c.args.begin) w =
    ap (λ n. take n w) (c.min-before.ensures ∙ ap (λ n. min (length w) n) c.saturating_sub.ensures) ∙ take_min (c.args.at - c.args.begin) w in
    let last : take (length w - c.min-skipped.result) (drop c.min-skipped.result w) ≡ drop (end - c.args.begin) w =
    take_all (length w - c.min-skipped.result) (drop c.min-skipped.result w) (omega (arith, length-drop c.min-skipped.result w))
    ∙ ap (λ n. drop n w) (c.min-skipped.ensures ∙ ap (λ n. min (length w) n) c.saturating_sub-2.ensures) ∙ drop_min (end - c.args.begin) w in
    on_ok_weaker c.write_apart-2.result
    (λ is. is
    ∙ ap (λ (d : Disk). written c.max.result (take (length w - c.min-skipped.result) (drop c.min-skipped.result w)) d) c.in_ok-write_apart.ensures.done
    ∙ ap (λ n. written n (take (length w - c.min-skipped.result) (drop c.min-skipped.result w)) (written c.min.result (take c.min-before.result w) (disk_of c.args.disk.now))) high
    ∙ ap (λ (l : List ℕ). written (max c.args.begin end) l (written c.min.result (take c.min-before.result w) (disk_of c.args.disk.now))) last
    ∙ ap (λ n. written (max c.args.begin end) (drop (end - c.args.begin) w) (written n (take c.min-before.result w) (disk_of c.args.disk.now))) low
    ∙ ap (λ (l : List ℕ). written (max c.args.begin end) (drop (end - c.args.begin) w) (written (min c.args.begin c.args.at) l (disk_of c.args.disk.now))) first)
    c.write_apart-2.ensures.done
