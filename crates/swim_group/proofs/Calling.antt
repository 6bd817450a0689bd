-- A call of a node is a move of each group in which the node lives.
use Rattle.std.proofs.Common.{◌≡◌, ℕ, refl, sym, ◌∙◌, ap, subst, List, [], ◌∷◌, ◌++◌, zero, suc, Some, slice_get, slice_set}
use Rattle.swim_disk.specs.Disk.{DiskState, IsSettled}
use Rattle.swim_member.specs.declared.event.Event.{Event}
use Rattle.swim_member.specs.declared.settings.Settings.{Settings}
use Rattle.swim_node.specs.declared.entry.Entry.{Entry}
use Rattle.swim_node.specs.History.{Base, fresh_base}
use Rattle.swim_node.specs.Lives.{Era, Life, IsLived, IsLiving, GoesOn, EndsEra, MayEnd, Here, Next, Crashed, era_of, life_of}
use Rattle.swim_node.specs.Node.{NodeView, owner_of, next_base, granted_base}
use Rattle.swim_group.specs.Network.{IsNotInvented}
use Rattle.swim_group.specs.Nodes.{NodeGroup, NodeMove, Calls, Rebases, Raises, Opens, NodeMayMove, MayBefall, WasLived, LivesAt, IsMoveOf, IsOpeningOf, node_of, life_after, moved_at, after_node_move}

module _ {D : Type 0} (state : D → DiskState) where
  pub get-set : (lives : List (Life D)) (k : ℕ) (life new : Life D) → slice_get lives k ≡ Some life → slice_get (slice_set lives k new) k ≡ Some new
  get-set [] k life new e = absurd (cc)
  get-set (l ∷ lives) zero life new e = refl
  get-set (l ∷ lives) (suc k) life new e = get-set lives k life new e

  -- a move after which the life of this node goes on
  pub moves-to : (g : NodeGroup D) (m : NodeMove D) (life : Life D) (new : NodeView D) (settings : Settings) (limit : ℕ) (opened : D) (eras : List Era)
      → slice_get g.lives (node_of m) ≡ Some life → MayBefall state g.sent life m
      → life_after m life ≡ life_of settings limit opened eras new → IsLiving state new.owner (life_of settings limit opened eras new) → MayEnd state new
      → NodeMayMove state g m × LivesAt state (after_node_move g m) (node_of m) new
  moves-to g m life new settings limit opened eras found may same living ends =
      let lived : IsLived state new.owner (life_of settings limit opened eras new) = ends settings limit opened eras living in
      let owned : WasLived state (life_of settings limit opened eras new) = subst (λ o. IsLived state o (life_of settings limit opened eras new)) living.same_owner lived in
      let set : slice_get (slice_set g.lives (node_of m) (life_after m life)) (node_of m) ≡ Some (life_of settings limit opened eras new) = get-set g.lives (node_of m) life (life_after m life) found ∙ ap (λ (l : Life D). Some l) same in (
        record { life = life; found = found; may = may; lived = subst (WasLived state) (sym same) owned },
        record {
          settings = settings;
          limit = limit;
          opened = opened;
          eras = eras;
          found = subst (λ o. slice_get (moved_at g m o).lives (node_of m) ≡ Some (life_of settings limit opened eras new)) (sym found) set;
          living = living;
        },
      )

  -- a life by its parts
  abbrev pub life_with : Settings → ℕ → D → List Era → D → ℕ → Base → List Entry → Life D
  life_with settings limit opened eras left first base entries =
      record { settings = settings; limit = limit; opened = opened; first = first; eras = eras; base = base; entries = entries; left = left }

  -- an entry came into the journal
  pub entered-moves : (old new : NodeView D) (event : Event) (e : Entry) → e.event ≡ event → new.base ≡ old.base → new.first ≡ old.first → new.entries ≡ old.entries ++ e ∷ [] → GoesOn state old new → MayEnd state new → IsMoveOf state old new (λ sent. IsNotInvented sent event) (λ which. Calls which e new.disk)
  entered-moves old new event e is base first entries goes ends g which at may =
      let same : life_after (Calls which e new.disk) (life_of at.settings at.limit at.opened at.eras old) ≡ life_of at.settings at.limit at.opened at.eras new =
      ap (λ n. life_with at.settings at.limit at.opened at.eras new.disk n old.base (old.entries ++ e ∷ [])) (sym first)
      ∙ ap (λ b. life_with at.settings at.limit at.opened at.eras new.disk new.first b (old.entries ++ e ∷ [])) (sym base)
      ∙ ap (life_with at.settings at.limit at.opened at.eras new.disk new.first new.base) (sym entries) in
      moves-to g (Calls which e new.disk) (life_of at.settings at.limit at.opened at.eras old) new at.settings at.limit at.opened at.eras at.found (subst (IsNotInvented g.sent) (sym is) may) same (goes at.settings at.limit at.opened at.eras at.living) ends

  -- an era ended
  pub ended-moves : (old new : NodeView D) → new.base ≡ next_base old.base old.entries → new.first ≡ old.first → new.entries ≡ [] → new.disk ≡ old.disk → EndsEra state old new → MayEnd state new → IsMoveOf state old new (λ sent. Unit {0}) (λ which. Rebases which)
  ended-moves old new base first entries disk goes ends g which at may =
      let eras : List Era = at.eras ++ era_of old ∷ [] in
      let same : life_after (Rebases which) (life_of at.settings at.limit at.opened at.eras old) ≡ life_of at.settings at.limit at.opened eras new =
      ap (λ d. life_with at.settings at.limit at.opened eras d old.first (next_base old.base old.entries) []) (sym disk)
      ∙ ap (λ n. life_with at.settings at.limit at.opened eras new.disk n (next_base old.base old.entries) []) (sym first)
      ∙ ap (λ b. life_with at.settings at.limit at.opened eras new.disk new.first b []) (sym base)
      ∙ ap (life_with at.settings at.limit at.opened eras new.disk new.first new.base) (sym entries) in
      moves-to g (Rebases which) (life_of at.settings at.limit at.opened at.eras old) new at.settings at.limit at.opened eras at.found (tt {0}) same (goes at.settings at.limit at.opened at.eras at.living) ends

  -- the ceiling was raised, or a save of the peers failed
  pub raised-moves : (old new : NodeView D) → new.base ≡ granted_base old.base new.base.granted → new.first ≡ old.first → new.entries ≡ old.entries → GoesOn state old new → MayEnd state new → IsMoveOf state old new (λ sent. Unit {0}) (λ which. Raises which new.base.granted new.disk)
  raised-moves old new base first entries goes ends g which at may =
      let same : life_after (Raises which new.base.granted new.disk) (life_of at.settings at.limit at.opened at.eras old) ≡ life_of at.settings at.limit at.opened at.eras new =
      ap (λ n. life_with at.settings at.limit at.opened at.eras new.disk n (granted_base old.base new.base.granted) old.entries) (sym first)
      ∙ ap (λ b. life_with at.settings at.limit at.opened at.eras new.disk new.first b old.entries) (sym base)
      ∙ ap (life_with at.settings at.limit at.opened at.eras new.disk new.first new.base) (sym entries) in
      moves-to g (Raises which new.base.granted new.disk) (life_of at.settings at.limit at.opened at.eras old) new at.settings at.limit at.opened at.eras at.found (tt {0}) same (goes at.settings at.limit at.opened at.eras at.living) ends

  -- a node was opened on this disk
  pub opened-moves : (settings : Settings) (limit : ℕ) (opened : D) (new : NodeView D) → new.base ≡ fresh_base settings new.first limit → new.entries ≡ [] → IsLiving state new.owner (life_of settings limit opened [] new) → MayEnd state new → IsOpeningOf state settings limit opened new
  opened-moves settings limit opened new base entries living ends g which life found may =
      let same : life_after (Opens which settings limit new.first opened new.disk) life ≡ life_of settings limit opened [] new =
      ap (λ b. life_with settings limit opened [] new.disk new.first b []) (sym base) ∙ ap (life_with settings limit opened [] new.disk new.first new.base) (sym entries) in
      moves-to g (Opens which settings limit new.first opened new.disk) life new settings limit opened [] found may same living ends

  -- a crash of a node that lives, and an opening on what it left of the disk
  pub crashed-moves : (settings : Settings) (limit : ℕ) (old new : NodeView D) (opened : D) → (state old.disk).images (state opened).content → IsSettled (state opened) → IsOpeningOf state settings limit opened new → IsMoveOf state old new (λ sent. owner_of settings ≡ old.owner) (λ which. Opens which settings limit new.first opened new.disk)
  crashed-moves settings limit old new opened image settled opening g which at same =
      let life : Life D = life_of at.settings at.limit at.opened at.eras old in
      opening g which (life_of at.settings at.limit at.opened at.eras old) at.found
      (same ∙ at.living.same_owner, Next old.disk opened opened (Crashed old.disk opened image settled) (Here opened))
