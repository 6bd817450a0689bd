use Rattle.std.proofs.Common.{rules, ◌≡◌, ◌∙◌, ◌∷◌, ◌++◌, [], ap, arith, subst, sym, List, ℕ, length}
use Rattle.swim_disk.specs.Choice.{left_by}
use Rattle.swim_disk.specs.Replay.{Disk, Leaves, fresh, replay}
use Rattle.swim_disk.specs.declared.past.Call.{Call}
use Rattle.swim_disk.specs.declared.past.Call.TheVariants.{Sync}
use Rattle.swim_disk.proofs.Filled.{left_reached, left_shorter}
use Rattle.swim_disk.proofs.Making.{history_made, only_kept, only_made, settled_synced}
use Rattle.swim_disk.proofs.mem.MemDisk.crash.Goals as goal

pub invariant_of-result : goal.invariant_of-result
invariant_of-result c =
    let self = c.args.self in
    let start = self.start.items in
    let chosen = c.leave.ensures.chosen start in
    let all : c.len.result ≡ length c.leave.new.writes.items = search rules in
    record {
      size = omega (
        arith,
        ap (λ (l : List ℕ). length l) chosen,
        ap (λ (d : Disk). length (left_by c.args.choice d)) self.kept,
        left_shorter c.args.choice start self.history,
        ap (λ (l : List ℕ). length l) (history_made start self.history self.writes.items self.synced self.kept),
        self.size,
      );
      unsynced = c.leave.ensures.writes;
      within = omega (arith, all);
      kept = ap (λ (l : List Call). replay (fresh start) l) (c.all_synced.ensures ∙ ap (λ (l : List Call). l ++ Sync ∷ []) c.deref.ensures.value)
          ∙ only_kept start c.leave.new.writes.items c.len.result (omega (arith, all));
    }

module _ (c : goal.After-result-1) where
  chosen : (replay (fresh c.args.self.start.items) c.all_synced.result).content ≡ left_by c.args.choice (replay (fresh c.args.self.start.items) c.args.self.history)
  chosen =
      let self = c.args.self in
      let start = self.start.items in
      ap (λ (l : List Call). (replay (fresh start) l).content) (c.all_synced.ensures ∙ ap (λ (l : List Call). l ++ Sync ∷ []) c.deref.ensures.value)
      ∙ only_made start c.leave.new.writes.items
      ∙ c.leave.ensures.chosen start
      ∙ sym (ap (λ (d : Disk). left_by c.args.choice d) self.kept)

pub returns-clause-chosen : goal.returns-clause-chosen
returns-clause-chosen c = chosen c

pub returns-clause-image : goal.returns-clause-image
returns-clause-image c =
    let self = c.args.self in
    subst (λ (l : List ℕ). Leaves (replay (fresh self.start.items) self.history) l) (sym (chosen c)) (left_reached c.args.choice self.start.items self.history)

pub returns-clause-settled : goal.returns-clause-settled
returns-clause-settled c =
    let start = c.args.self.start.items in
    subst (λ (l : List Call). (left : List ℕ) → Leaves (replay (fresh start) l) left → left ≡ (replay (fresh start) l).content)
    (sym (c.all_synced.ensures ∙ ap (λ (l : List Call). l ++ Sync ∷ []) c.deref.ensures.value)) (settled_synced start c.leave.new.writes.items)
