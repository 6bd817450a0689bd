-- A run of nodes with their state files is a run of their members.
use Rattle.std.proofs.Common.{◌≡◌, ℕ, ◌<◌, ◌≤◌, ◌==◌, refl, sym, ◌∙◌, ap, subst, List, [], ◌∷◌, ◌++◌, append-nil, map, zero, suc, Some, slice_get, slice_set, arith}
use Rattle.std.specs.List.{AllByRecursion, IsDistinct}
use Rattle.swim_disk.specs.Disk.{DiskState}
use Rattle.swim_state.specs.declared.owner.Owner.{Owner}
use Rattle.swim_state.specs.Held.{Held}
use Rattle.swim_member.specs.declared.answer.Out.{Out}
use Rattle.swim_member.specs.declared.settings.Settings.{Settings}
use Rattle.swim_member.specs.Events.{Step}
use Rattle.swim_node.specs.History.{steps}
use Rattle.swim_node.specs.Lives.{Life, Reached, ceiling_of}
use Rattle.swim_node.specs.Node.{owner_of}
use Rattle.swim_node.proofs.Lives.{held-reached}
use Rattle.swim_group.specs.Group.{Place, Group, Restarts, Begins, IsFresh, RestartsAbove, OfPlace, AreOwns, IsRunOf, name_at, state_at, place_at, change_at, with_event, sent_at, after_move, after_moves}
use Rattle.swim_group.specs.Nodes.{NodeGroup, NodeMove, Calls, Rebases, Raises, Opens, NodeMayMove, MayBefall, IsNodeRun, IsOpened, NodesBegin, WasLived, node_of, new_life, life_after, moved_at, after_node_move, after_node_moves, name_in, place_of, members_of, move_of, moves_of}
use Rattle.swim_group.proofs.Telling.{IsKept, HasOwns, all-at, kept-begins, kept-moves}
use Rattle.swim_group.specs.Numbers.{AllGiveWay}
use Rattle.swim_group.proofs.Passing.{restarted-overrides}
use Rattle.swim_group.proofs.Holding.{moves-append, run-append, owns-under}
use Rattle.swim_group.proofs.Living.{life-low, entry-sent, steps-entry, steps-era}

-- Lists of lives

module _ {D : Type 0} where
  place-found : (lives : List (Life D)) (k : ℕ) (life : Life D) → slice_get lives k ≡ Some life → place_at (map place_of lives) k ≡ Some (place_of life)
  place-found [] k life e = absurd (cc)
  place-found (l ∷ lives) zero life e = let same : l ≡ life = cc in ap (λ (m : Life D). Some (place_of m)) same
  place-found (l ∷ lives) (suc k) life e = place-found lives k life e

  places-set : (f : Place → Place) (lives : List (Life D)) (k : ℕ) (life new : Life D) → slice_get lives k ≡ Some life → f (place_of life) ≡ place_of new → map place_of (slice_set lives k new) ≡ change_at (map place_of lives) k f
  places-set f [] k life new e h = absurd (cc)
  places-set f (l ∷ lives) zero life new e h = let same : l ≡ life = cc in ap (λ p. p ∷ map place_of lives) (sym h ∙ ap (λ (m : Life D). f (place_of m)) (sym same))
  places-set f (l ∷ lives) (suc k) life new e h = ap (λ ps. place_of l ∷ ps) (places-set f lives k life new e h)

  places-same : (lives : List (Life D)) (k : ℕ) (life new : Life D) → slice_get lives k ≡ Some life → place_of new ≡ place_of life → map place_of (slice_set lives k new) ≡ map place_of lives
  places-same [] k life new e h = absurd (cc)
  places-same (l ∷ lives) zero life new e h = let same : l ≡ life = cc in ap (λ p. p ∷ map place_of lives) (h ∙ ap place_of (sym same))
  places-same (l ∷ lives) (suc k) life new e h = ap (λ ps. place_of l ∷ ps) (places-same lives k life new e h)

  names-of : (lives : List (Life D)) → map name_at (map place_of lives) ≡ map name_in lives
  names-of [] = refl
  names-of (l ∷ lives) = ap (λ xs. name_in l ∷ xs) (names-of lives)

  all-lives-at : (Q : Life D → Type 0) (lives : List (Life D)) (k : ℕ) (life : Life D) → slice_get lives k ≡ Some life → AllByRecursion Q lives → Q life
  all-lives-at Q [] k life e a = absurd (cc)
  all-lives-at Q (l ∷ lives) zero life e a = let same : l ≡ life = cc in subst Q same a.0
  all-lives-at Q (l ∷ lives) (suc k) life e a = all-lives-at Q lives k life e a.1

  all-lives-set : (Q : Life D → Type 0) (lives : List (Life D)) (k : ℕ) (new : Life D) → Q new → AllByRecursion Q lives → AllByRecursion Q (slice_set lives k new)
  all-lives-set Q [] k new q a = tt {0}
  all-lives-set Q (l ∷ lives) zero new q a = (q, a.1)
  all-lives-set Q (l ∷ lives) (suc k) new q a = (a.0, all-lives-set Q lives k new q a.1)

-- One move

abbrev group_with : List Place → List Out → Group
group_with places sent = record { places = places; sent = sent }

group-same : (xs ys : List Place) (sent made : List Out) → xs ≡ ys → sent ≡ made → group_with xs sent ≡ group_with ys made
group-same xs ys sent made e f = ap (λ ps. group_with ps sent) e ∙ ap (group_with ys) f

abbrev place_with : Settings → ℕ → List Step → Place
place_with settings first steps = record { settings = settings; first = first; steps = steps }

module _ {D : Type 0} (state : D → DiskState) where
  moved-members : (g : NodeGroup D) (m : NodeMove D) (life : Life D) → slice_get g.lives (node_of m) ≡ Some life → WasLived state (life_after m life) → members_of (moved_at g m (Some life)) ≡ after_moves (members_of g) (move_of m)
  moved-members g (Calls which e left) life found lived =
      let new : Life D = life_after (Calls which e left) life in
      group-same (map place_of (slice_set g.lives which new)) (change_at (map place_of g.lives) which (with_event e.event e.granted)) (g.sent ++ e.outs.items) (g.sent ++ sent_at (place_at (map place_of g.lives) which) e.event e.granted)
      (places-set (with_event e.event e.granted) g.lives which life new found (ap (place_with life.settings life.first) (sym (steps-entry life.eras life.entries e))))
      (ap (λ (outs : List Out). g.sent ++ outs) (sym (ap (λ o. sent_at o e.event e.granted) (place-found g.lives which life found) ∙ entry-sent state life e left lived)))
  moved-members g (Rebases which) life found lived =
      let new : Life D = life_after (Rebases which) life in
      group-same (map place_of (slice_set g.lives which new)) (map place_of g.lives) (g.sent ++ []) g.sent
      (places-same g.lives which life new found (ap (place_with life.settings life.first) (steps-era life.eras life.base life.entries))) (append-nil g.sent)
  moved-members g (Raises which ceiling left) life found lived =
      let new : Life D = life_after (Raises which ceiling left) life in
      group-same (map place_of (slice_set g.lives which new)) (map place_of g.lives) (g.sent ++ []) g.sent (places-same g.lives which life new found refl) (append-nil g.sent)
  moved-members g (Opens which settings limit first opened left) life found lived =
      let new : Life D = life_after (Opens which settings limit first opened left) life in
      group-same (map place_of (slice_set g.lives which new)) (change_at (map place_of g.lives) which (λ p. record { settings = settings; first = first; steps = [] })) (g.sent ++ []) g.sent
      (places-set (λ p. record { settings = settings; first = first; steps = [] }) g.lives which life new found refl) (append-nil g.sent)

  pub node-moved : (g : NodeGroup D) (m : NodeMove D) → NodeMayMove state g m → members_of (after_node_move g m) ≡ after_moves (members_of g) (move_of m)
  node-moved g m h = ap (λ o. members_of (moved_at g m o)) h.found ∙ moved-members g m h.life h.found h.lived

  -- who is opened anew begins above all that it told of itself
  opened-above : (life : Life D) (settings : Settings) (limit first : ℕ) (opened left : D) → owner_of settings ≡ owner_of life.settings → Reached D state (owner_of settings) (ceiling_of life) life.left opened → WasLived state life → WasLived state (new_life settings limit first opened left) → (state_at (place_of life)).number < first
  opened-above life settings limit first opened left same reached lived next =
      let held : Held (owner_of settings) (state life.left) (ceiling_of life) = subst (λ o. Held o (state life.left) (ceiling_of life)) (sym same) lived.held in
      let above : ceiling_of life < first = next.above (ceiling_of life) (held-reached D state (owner_of settings) (ceiling_of life) life.left opened reached held) in
      let low : (state_at (place_of life)).number ≤ ceiling_of life = life-low state life lived in
      omega arith

  opens-above : (g : NodeGroup D) → IsKept (members_of g) → (which : ℕ) (settings : Settings) (limit first : ℕ) (opened left : D) (life : Life D) → slice_get g.lives which ≡ Some life → MayBefall state g.sent life (Opens which settings limit first opened left) → WasLived state life → WasLived state (new_life settings limit first opened left) → RestartsAbove g.sent settings first (place_of life)
  opens-above g kept which settings limit first opened left life found may lived next =
      let name : settings.me ≡ life.settings.me = ap (λ (o : Owner). o.me) may.0 in
      let owns : HasOwns g.sent (place_of life) = all-at (HasOwns g.sent) (map place_of g.lives) which (place_of life) (place-found g.lives which life found) kept.owns in
      record {
        name = name;
        above = subst (λ x. AreOwns x (λ n. n < first) g.sent) (sym name)
            (owns-under life.settings.me (state_at (place_of life)).number first (opened-above life settings limit first opened left may.0 may.1 lived next) g.sent owns);
      }

  may-run : (g : NodeGroup D) (m : NodeMove D) → IsKept (members_of g) → (life : Life D) → slice_get g.lives (node_of m) ≡ Some life → MayBefall state g.sent life m → WasLived state life → WasLived state (life_after m life) → IsRunOf (members_of g) (move_of m)
  may-run g (Calls which e left) kept life found may lived next = (may, tt {0})
  may-run g (Rebases which) kept life found may lived next = tt {0}
  may-run g (Raises which ceiling left) kept life found may lived next = tt {0}
  may-run g (Opens which settings limit first opened left) kept life found may lived next =
      (subst (λ o. OfPlace o (RestartsAbove g.sent settings first)) (sym (place-found g.lives which life found)) (opens-above g kept which settings limit first opened left life found may lived next), tt {0})

  -- Runs

  -- what holds of a group of nodes at all times
  pub record AreLiving (g : NodeGroup D) : Type 0 where
    pub kept : IsKept (members_of g)
    pub lived : AllByRecursion (WasLived state) g.lives

  pub node-run : (g : NodeGroup D) (m : NodeMove D) → AreLiving g → NodeMayMove state g m → IsRunOf (members_of g) (move_of m)
  node-run g m h may = may-run g m h.kept may.life may.found may.may (all-lives-at (WasLived state) g.lives (node_of m) may.life may.found h.lived) may.lived

  living-move : (g : NodeGroup D) (m : NodeMove D) → AreLiving g → NodeMayMove state g m → AreLiving (after_node_move g m)
  living-move g m h may = record {
    kept = subst IsKept (sym (node-moved g m may)) (kept-moves (move_of m) (members_of g) (node-run g m h may) h.kept);
    lived = subst (λ o. AllByRecursion (WasLived state) (moved_at g m o).lives) (sym may.found) (all-lives-set (WasLived state) g.lives (node_of m) (life_after m may.life) may.lived h.lived);
  }

  pub living-moves : (moves : List (NodeMove D)) (g : NodeGroup D) → AreLiving g → IsNodeRun state g moves → AreLiving (after_node_moves g moves)
  living-moves [] g h run = h
  living-moves (m ∷ moves) g h run = living-moves moves (after_node_move g m) (living-move g m h run.0) run.1

  pub nodes-moved : (moves : List (NodeMove D)) (g : NodeGroup D) → IsNodeRun state g moves → members_of (after_node_moves g moves) ≡ after_moves (members_of g) (moves_of moves)
  nodes-moved [] g run = refl
  nodes-moved (m ∷ moves) g run =
      nodes-moved moves (after_node_move g m) run.1
      ∙ ap (λ h. after_moves h (moves_of moves)) (node-moved g m run.0)
      ∙ sym (moves-append (move_of m) (members_of g) (moves_of moves))

  pub nodes-run : (moves : List (NodeMove D)) (g : NodeGroup D) → AreLiving g → IsNodeRun state g moves → IsRunOf (members_of g) (moves_of moves)
  nodes-run [] g h run = tt {0}
  nodes-run (m ∷ moves) g h run =
      run-append (move_of m) (members_of g) (moves_of moves) (node-run g m h run.0)
      (subst (λ (k : Group). IsRunOf k (moves_of moves)) (node-moved g m run.0) (nodes-run moves (after_node_move g m) (living-move g m h run.0) run.1))

  -- Beginnings

  fresh-lives : (lives : List (Life D)) → AllByRecursion (IsOpened state) lives → AllByRecursion IsFresh (map place_of lives)
  fresh-lives [] a = tt {0}
  fresh-lives (l ∷ lives) a = (ap (λ (m : Life D). (place_of m).steps) a.0.new, fresh-lives lives a.1)

  lives-opened : (lives : List (Life D)) → AllByRecursion (IsOpened state) lives → AllByRecursion (WasLived state) lives
  lives-opened [] a = tt {0}
  lives-opened (l ∷ lives) a = (a.0.lived, lives-opened lives a.1)

  pub members-begin : (g : NodeGroup D) → NodesBegin state g → Begins (members_of g)
  members-begin g h = record {
    fresh = fresh-lives g.lives h.opened;
    names = subst (IsDistinct (λ x y. x == y)) (sym (names-of g.lives)) h.names;
    sent = h.sent;
  }

  pub living-begins : (g : NodeGroup D) → NodesBegin state g → AreLiving g
  living-begins g h = record { kept = kept-begins (members_of g) (members-begin g h); lived = lives-opened g.lives h.opened }

  -- Overriding

  -- the Alive of a node that is opened anew overrides what is said of it
  pub opened-overrides : (g : NodeGroup D) → AreLiving g → (which : ℕ) (settings : Settings) (limit first : ℕ) (opened left : D) → NodeMayMove state g (Opens which settings limit first opened left) → AllGiveWay settings.me first (members_of (after_node_move g (Opens which settings limit first opened left)))
  opened-overrides g h which settings limit first opened left may =
      let over : OfPlace (place_at (map place_of g.lives) which) (λ p. AllGiveWay settings.me first (after_move (members_of g) (Restarts which settings first))) =
      restarted-overrides (members_of g) h.kept which settings first (node-run g (Opens which settings limit first opened left) h may).0 in
      subst (λ (k : Group). AllGiveWay settings.me first k) (sym (node-moved g (Opens which settings limit first opened left) may))
      (subst (λ o. OfPlace o (λ p. AllGiveWay settings.me first (after_move (members_of g) (Restarts which settings first)))) (place-found g.lives which may.life may.found) over)
