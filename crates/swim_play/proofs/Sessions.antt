-- What happens to a session, and what that is to a script.
use Rattle.std.proofs.Common.{◌≡◌, ℕ, ◌<◌, Bool, true, false, List, [], ◌∷◌, ◌++◌, length, refl, sym, subst, ap, ◌∙◌}
use Rattle.std.specs.Prelude.{All, Option, Some, None, is_some, Result, Ok, Err, OnOk}
use Rattle.std.proofs.lemmas.List.Elements.{All-nil}
use Rattle.swim_disk.specs.Disk.{IsSettled}
use Rattle.swim_state.specs.Held.{Held}
use Rattle.swim_state.specs.declared.owner.Owner.{Owner}
use Rattle.swim_node.specs.Lives.{Life, IsLived}
use Rattle.swim_node.specs.Node.{owner_of}
use Rattle.swim_script.specs.declared.command.Command.{Command}
use Rattle.swim_play.specs.declared.session.Run.{Run}
use Rattle.swim_play.specs.declared.session.SessionStage.{SessionStage}
use Rattle.swim_play.specs.declared.session.SessionStage.TheVariants.{Bare, Idle, Open}
use Rattle.swim_play.specs.Life.{PlayDisk, disk_state, IsOfOne, Spares, AreOnOneDisk}
use Rattle.swim_play.specs.Machinery.Session.{Leads, IsSession}
use Rattle.swim_play.specs.Play.{Playing, ScriptedLife, Scene, IsRun, Shows, Plays, kept_by, with_life_ended, ended_with}
use Rattle.swim_play.proofs.Lives.{leads-held, leads-none, leads-spared, leads-crashed, leads-ended, on_one_disk}
use Rattle.swim_play.proofs.Openings.{ended-disk}

-- the lives since the last other disk or owner are of one owner on one disk
pub session-run : (owner : Owner) (apart : Bool) (runs : List Run) (lives : List (Life PlayDisk)) (stage : SessionStage) → IsSession owner apart runs lives stage → AreOnOneDisk lives
session-run owner apart runs lives Bare h = rw h.now (record { owner = owner; lives_are = tt {0}; mine = All-nil IsOfOne })
session-run owner true runs lives (Idle disk) h = h.now
session-run owner false runs lives (Idle disk) h = on_one_disk owner lives disk h.now
session-run owner apart runs lives (Open life) h = on_one_disk (owner_of life.settings) lives life.opened (h.now.0)

-- after lives of this owner on this disk something is held
pub session-held : (owner : Owner) (apart : Bool) (runs : List Run) (lives : List (Life PlayDisk)) (d : PlayDisk) → IsSession owner apart runs lives (Idle d) → apart ≡ false → 0 < length lives → (b : ℕ) × Held owner (disk_state d) b
session-held owner true runs lives d h same some = absurd (cc)
session-held owner false runs lives d h same some = leads-held owner lives d h.now some

module _ (owner : Owner) (runs : List Run) (lives : List (Life PlayDisk)) where
  pub session-named : (next : Owner) (apart : Bool) (stage : SessionStage) → IsSession owner apart runs lives stage → IsSession next true runs lives stage
  session-named next apart Bare h = record { ended = h.ended; now = h.now }
  session-named next true (Idle disk) h = record { ended = h.ended; now = h.now }
  session-named next false (Idle disk) h = record { ended = h.ended; now = on_one_disk owner lives disk h.now }
  session-named next apart (Open life) h = record { ended = h.ended; now = (h.now.0, λ never. absurd (cc)) }

  pub session-put : (apart : Bool) (stage : SessionStage) (disk : PlayDisk) → IsSession owner apart runs lives stage → IsSession owner true runs lives (Idle disk)
  session-put apart stage disk h = record { ended = h.ended; now = session-run owner apart runs lives stage h }

  pub session-crashed : (apart : Bool) (d e : PlayDisk) → IsSession owner apart runs lives (Idle d) → (disk_state d).images (disk_state e).content → IsSettled (disk_state e) → IsSession owner apart runs lives (Idle e)
  session-crashed true d e h image settled = record { ended = h.ended; now = h.now }
  session-crashed false d e h image settled = record { ended = h.ended; now = leads-crashed owner lives d e h.now image settled }

  pub session-refused : (apart : Bool) (d e : PlayDisk) → IsSession owner apart runs lives (Idle d) → Spares owner d e → IsSession owner apart runs lives (Idle e)
  session-refused true d e h spared = record { ended = h.ended; now = h.now }
  session-refused false d e h spared = record { ended = h.ended; now = leads-spared owner lives d e h.now spared }

  pub session-rebased : (apart : Bool) (old new : Life PlayDisk) → IsSession owner apart runs lives (Open old) → new.settings ≡ old.settings → new.opened ≡ old.opened → IsSession owner apart runs lives (Open new)
  session-rebased apart old new h settings opened = record {
    ended = h.ended;
    now = (rw (settings, opened) h.now.0, λ same. rw settings (h.now.1 same));
  }

  pub session-ended : (apart : Bool) (life : Life PlayDisk) → IsSession owner apart runs lives (Open life) → IsLived disk_state (owner_of life.settings) life → IsOfOne life → IsSession owner apart runs (lives ++ life ∷ []) (Idle life.left)
  session-ended true life h lived mine = record {
    ended = h.ended;
    now = on_one_disk (owner_of life.settings) (lives ++ life ∷ []) life.left (leads-ended (owner_of life.settings) lives life h.now.0 lived mine);
  }
  session-ended false life h lived mine = record {
    ended = h.ended;
    now = subst (λ (o : Owner). Leads o (lives ++ life ∷ []) life.left) (sym (h.now.1 refl)) (leads-ended (owner_of life.settings) lives life h.now.0 lived mine);
  }

  -- a life that begins apart from those before
  pub session-begun-apart : (life : Life PlayDisk) → All IsRun runs → lives ≡ [] → owner ≡ owner_of life.settings → IsSession owner false runs lives (Open life)
  session-begun-apart life with_life_ended none named = record { ended = with_life_ended; now = (leads-none (owner_of life.settings) lives life.opened none, λ same. named) }

  -- a life that follows those before
  pub session-begun : (d : PlayDisk) (life : Life PlayDisk) → IsSession owner false runs lives (Idle d) → life.opened ≡ d → owner ≡ owner_of life.settings → IsSession owner false runs lives (Open life)
  session-begun d life h opened named = record {
    ended = h.ended;
    now = (subst (λ (o : Owner). Leads o lives life.opened) named (rw opened h.now), λ same. named);
  }

-- ---- openings, as lines

pub on_ok : {T E : Type 0} (P Q : Type 0) (result : Result T E) → (P → Q) → OnOk result P → OnOk result Q
on_ok P Q (Ok v) so p = so p
on_ok P Q (Err e) so p = p

kept-some : (o : Option PlayDisk) (planned : Option ℕ) → is_some o ≡ true → kept_by o planned ≡ None
kept-some None planned there = absurd (cc)
kept-some (Some disk) planned there = refl

-- where there is a disk a crash leaves no plan of the link
pub kept-none : (p q : Playing) (planned : Option ℕ) → q ≡ with_life_ended p → is_some q.disk ≡ true → kept_by p.disk planned ≡ None
kept-none p q planned closed there = kept-some p.disk planned (subst (λ (o : Option PlayDisk). is_some o ≡ true) (ap (λ (r : Playing). r.disk) closed ∙ ended-disk p p.life) there)

-- one line more
pub plays-snoc : (p : Scene) (commands : List Command) (q : Scene) (command : Command) (r : Scene) → Plays p commands q → Shows q command r → Plays p (commands ++ command ∷ []) r
plays-snoc p [] q command r h step = (r, subst (λ (x : Scene). Shows x command r) h step, refl)
plays-snoc p (first ∷ commands) q command r h step = (h.0, h.1, plays-snoc h.0 commands q command r h.2 step)
