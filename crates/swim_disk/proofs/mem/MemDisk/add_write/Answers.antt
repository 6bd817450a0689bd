use Rattle.std.proofs.Common.{rules, ◌≡◌, ◌∙◌, ◌∷◌, ◌++◌, [], ap, arith, subst, sym, refl, List, ℕ, length, length-append}
use Rattle.swim_disk.specs.Machinery.Made.{AreWrites, made, kept_by}
use Rattle.swim_disk.specs.Replay.{fresh, replay}
use Rattle.swim_disk.specs.declared.past.Call.{Call}
use Rattle.swim_disk.specs.declared.past.Call.TheVariants.{Write}
use Rattle.swim_disk.proofs.Making.{kept_write, length_once, made_append, writes_append}
use Rattle.swim_disk.proofs.mem.MemDisk.add_write.Goals as goal

pub invariant_of-self-2 : goal.invariant_of-self-2
invariant_of-self-2 c =
    let self = c.args.self.now in
    let start = self.start.items in
    let writes = self.writes.items in
    let call = Write c.args.at c.in_ok-bytes.bytes in
    let same : c.in_ok-bytes.bytes.items ≡ c.args.bytes.now = search rules in
    let pushed : c.push_reserved.new.self.items ≡ writes ++ call ∷ [] = search rules in
    record {
      size = omega (
        arith,
        ap (λ (l : List Call). length (made start l)) pushed,
        ap (λ (l : List ℕ). length l) (made_append start writes (call ∷ [])),
        length_once (made start writes) call,
        ap (λ (l : List ℕ). length l) same,
        self.size,
        c.requires,
      );
      unsynced = subst (λ (l : List Call). AreWrites l) (sym pushed) (writes_append writes (call ∷ []) self.unsynced refl);
      within = omega (arith, self.within, ap (λ (l : List Call). length l) pushed, length-append writes (call ∷ []));
      kept = ap (λ (l : List Call). replay (fresh start) l) c.and-self.ensures
          ∙ kept_write start self.history writes self.synced call self.within self.kept
          ∙ ap (λ (l : List Call). kept_by start l self.synced) (sym pushed);
    }

pub returns-clause-done : goal.returns-clause-done
returns-clause-done c =
    let same : c.in_ok-bytes.bytes.items ≡ c.args.bytes.now = search rules in
    (c.in_ok-bytes.bytes, same, c.and-self.ensures)
