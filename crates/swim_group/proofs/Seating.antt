-- Real nodes after a move of one of them.
use Rattle.std.proofs.Common.{◌≡◌, ℕ, ◌+◌, ◌<◌, ◌==◌, length, slice_index_or, arith, map, refl, sym, ◌∙◌, ap, subst, List, [], ◌∷◌, ◌++◌, take, zero, suc, Some, None, slice_get, slice_set, append-nil}
use Rattle.std.specs.List.{AllByRecursion, IsDistinct}
use Rattle.swim_wire.specs.Spelling.{HasText}
use Rattle.swim_member.specs.declared.answer.Out.{Out}
use Rattle.swim_member.specs.declared.event.Event.{Event}
use Rattle.swim_member.specs.declared.settings.Settings.{Settings}
use Rattle.swim_member.specs.Checks.{AreSound}
use Rattle.swim_node.specs.declared.entry.Reply.{Reply}
use Rattle.swim_node.specs.History.{fresh_base}
use Rattle.swim_node.specs.Lives.{Life, IsLived, IsLiving, MayEnd, life_of}
use Rattle.swim_node.specs.Node.{NodeView, owner_of}
use Rattle.swim_disk.specs.declared.mem.Choice.{Choice}
use Rattle.swim_group.specs.declared.failure.Failure.{Failure}
use Rattle.swim_group.specs.declared.fault.NodesFault.{NodesFault}
use Rattle.swim_group.specs.declared.fault.NodesFault.TheVariants.{Gone}
use Rattle.swim_group.specs.declared.seat.Seat.{Seat}
use Rattle.swim_group.specs.Network.{WasSent, IsNotInvented}
use Rattle.swim_group.specs.Nodes.{NodeGroup, NodeMove, Calls, Rebases, Opens, NodeMayMove, LivesAt, IsMoveOf, IsNodeRun, IsOpened, name_in, node_of, life_after, sent_in, moved_at, after_node_move, after_node_moves, members_of}
use Rattle.swim_group.specs.RealNodes.{RealNodes, NodeDisk, node_disk_state, IsLifeOf, IsLifeIn, SitsThere, AreLivesOf, HasNodeRun, HasSent, HasSoundNodeRun, HearsThere, HearsAt, OpensThere, OpensAt, LeavesThere, LeavesAt, seat_left, EraEndsThere, EraEndsAt, PlansThere, PlansAt, IsNewNode, AreNewNodes}
use Rattle.swim_group.specs.Real.{MayBegin, names_in}
use Rattle.swim_detect.proofs.Lists.{all-append, all-weaker, all-take}
use Rattle.swim_group.proofs.Telling.{told-kept}
use Rattle.swim_group.proofs.Passing.{within-kept}
use Rattle.swim_group.proofs.Holding.{AreSentIn, was-before, was-after, all-sent, come-kept, all-of, get-at}
use Rattle.swim_group.proofs.Simulating.{living-begins, living-moves}
use Rattle.swim_group.proofs.Calling.{get-set, life_with}
use Rattle.swim_group.proofs.Naming.{take-last}

-- Seats

-- who sits in a place lives the life in that place
pub record Sitting (lives : List (Life NodeDisk)) (which : ℕ) (seat : Seat) : Type 0 where
  pub life : Life NodeDisk
  pub found : slice_get lives which ≡ Some life
  pub sits : SitsThere life seat

seat-at : (lives : List (Life NodeDisk)) (seats : List Seat) (which : ℕ) (seat : Seat) → AreLivesOf lives seats → slice_get seats which ≡ Some seat → Sitting lives which seat
seat-at [] [] which seat a e = absurd (cc)
seat-at [] (s ∷ seats) which seat a e = absurd a
seat-at (l ∷ lives) [] which seat a e = absurd a
seat-at (l ∷ lives) (s ∷ seats) zero seat a e = let same : s ≡ seat = cc in record { life = l; found = refl; sits = subst (SitsThere l) same a.0 }
seat-at (l ∷ lives) (s ∷ seats) (suc which) seat a e =
    let rest : Sitting lives which seat = seat-at lives seats which seat a.1 e in
    record { life = rest.life; found = rest.found; sits = rest.sits }

seat-set : (lives : List (Life NodeDisk)) (seats : List Seat) (which : ℕ) (life : Life NodeDisk) (seat : Seat) → AreLivesOf lives seats → SitsThere life seat → AreLivesOf (slice_set lives which life) (slice_set seats which seat)
seat-set [] [] which life seat a h = a
seat-set [] (s ∷ seats) which life seat a h = absurd a
seat-set (l ∷ lives) [] which life seat a h = absurd a
seat-set (l ∷ lives) (s ∷ seats) zero life seat a h = (h, a.1)
seat-set (l ∷ lives) (s ∷ seats) (suc which) life seat a h = (a.0, seat-set lives seats which life seat a.1 h)

-- Runs

node-moves-snoc : (moves : List (NodeMove NodeDisk)) (g : NodeGroup NodeDisk) (m : NodeMove NodeDisk) → after_node_moves g (moves ++ m ∷ []) ≡ after_node_move (after_node_moves g moves) m
node-moves-snoc [] g m = refl
node-moves-snoc (n ∷ moves) g m = node-moves-snoc moves (after_node_move g n) m

node-run-snoc : (moves : List (NodeMove NodeDisk)) (g : NodeGroup NodeDisk) (m : NodeMove NodeDisk) → IsNodeRun node_disk_state g moves → NodeMayMove node_disk_state (after_node_moves g moves) m → IsNodeRun node_disk_state g (moves ++ m ∷ [])
node-run-snoc [] g m run may = (may, tt {0})
node-run-snoc (n ∷ moves) g m run may = (run.0, node-run-snoc moves (after_node_move g n) m run.1 may)

-- a node lives in the group where it sits
lives-at : (g : NodeGroup NodeDisk) (which : ℕ) (life : Life NodeDisk) (node : NodeView NodeDisk) → slice_get g.lives which ≡ Some life → IsLifeOf life node → LivesAt node_disk_state g which node
lives-at g which life node found h = record {
  settings = life.settings;
  limit = life.limit;
  opened = life.opened;
  eras = life.eras;
  found = found ∙ ap (λ (l : Life NodeDisk). Some l) h.same;
  living = subst (λ (l : Life NodeDisk). IsLiving node_disk_state node.owner l) h.same h.living;
}

-- the move of a node that sits in this place
module _ (g : NodeGroup NodeDisk) (which : ℕ) (life : Life NodeDisk) (found : slice_get g.lives which ≡ Some life) (m : NodeMove NodeDisk) (node : node_of m ≡ which) where
  moved-is : after_node_move g m ≡ moved_at g m (Some life)
  moved-is = ap (moved_at g m) (subst (λ n. slice_get g.lives n ≡ Some life) (sym node) found)

  set-is : (moved_at g m (Some life)).lives ≡ slice_set g.lives which (life_after m life)
  set-is = ap (λ n. slice_set g.lives n (life_after m life)) node

  -- and its life after it
  moved-life : (next : NodeView NodeDisk) → LivesAt node_disk_state (after_node_move g m) which next → IsLifeOf (life_after m life) next
  moved-life next at =
      let x : Life NodeDisk = life_of at.settings at.limit at.opened at.eras next in
      let there : slice_get (slice_set g.lives which (life_after m life)) which ≡ Some (life_of at.settings at.limit at.opened at.eras next) =
      subst (λ ls. slice_get ls which ≡ Some (life_of at.settings at.limit at.opened at.eras next)) (ap (λ (k : NodeGroup NodeDisk). k.lives) moved-is ∙ set-is) at.found in
      let both : Some (life_after m life) ≡ Some (life_of at.settings at.limit at.opened at.eras next) = sym (get-set node_disk_state g.lives which life (life_after m life) found) ∙ there in
      let same : life_after m life ≡ life_of at.settings at.limit at.opened at.eras next = cc in
      let is : IsLifeOf (life_of at.settings at.limit at.opened at.eras next) next = record { same = refl; living = at.living } in
      subst (λ l. IsLifeOf l next) (sym same) is

-- the nodes of a run live so after one more move, by which this was sent
pub record GoesOn (seats : List Seat) (kept : List Out) (h : HasNodeRun seats kept) (later : List Seat) (after more : List Out) : Type 0 where
  pub next : HasNodeRun later after
  pub sent : (after_node_moves next.group next.moves).sent ≡ (after_node_moves h.group h.moves).sent ++ more

-- the run goes on with a move of a node that sits in a place
went-on : (seats : List Seat) (kept more : List Out) (which : ℕ) (seat next : Seat) (before after : NodeView NodeDisk) (if_so : List Out → Type 0) (move : ℕ → NodeMove NodeDisk)
    → slice_get seats which ≡ Some seat → seat.node ≡ Some before → next.settings ≡ seat.settings → next.node ≡ Some after
    → IsMoveOf node_disk_state before after if_so move → node_of (move which) ≡ which
    → ((life : Life NodeDisk) → SitsThere life seat → owner_of seat.settings ≡ owner_of (life_after (move which) life).settings)
    → ((life : Life NodeDisk) (sent : List Out) → SitsThere life seat → IsLifeOf life before → AreSentIn sent kept → if_so sent)
    → ((sent : List Out) → AreSentIn sent kept → AreSentIn (sent ++ sent_in (move which)) more)
    → AllByRecursion (λ (out : Out). HasText out.datagram) more
    → (h : HasNodeRun seats kept) → GoesOn seats kept h (slice_set seats which next) more (sent_in (move which))
went-on seats kept more which seat next before after if_so move there was same is goes node owned so keeps fit h =
    let end : NodeGroup NodeDisk = after_node_moves h.group h.moves in
    let m : NodeMove NodeDisk = move which in
    let at : Sitting (after_node_moves h.group h.moves).lives which seat = seat-at (after_node_moves h.group h.moves).lives seats which seat h.lives there in
    let alive : IsLifeOf at.life before = subst (IsLifeIn at.life) was at.sits.alive in
    let moved : NodeMayMove node_disk_state (after_node_moves h.group h.moves) (move which) × LivesAt node_disk_state (after_node_move (after_node_moves h.group h.moves) (move which)) which after =
    goes (after_node_moves h.group h.moves) which (lives-at (after_node_moves h.group h.moves) which at.life before at.found alive) (so at.life (after_node_moves h.group h.moves).sent at.sits alive h.sent) in
    let sits : SitsThere (life_after (move which) at.life) next = record {
      owner = ap owner_of same ∙ owned at.life at.sits;
      sound = subst AreSound (sym same) at.sits.sound;
      alive = subst (IsLifeIn (life_after (move which) at.life)) (sym is) (moved-life (after_node_moves h.group h.moves) which at.life at.found (move which) node after moved.1);
    } in
    let lives : AreLivesOf (slice_set (after_node_moves h.group h.moves).lives which (life_after (move which) at.life)) (slice_set seats which next) =
    seat-set (after_node_moves h.group h.moves).lives seats which (life_after (move which) at.life) next h.lives sits in
    let now : after_node_moves h.group (h.moves ++ move which ∷ []) ≡ moved_at (after_node_moves h.group h.moves) (move which) (Some at.life) =
    node-moves-snoc h.moves h.group (move which) ∙ moved-is (after_node_moves h.group h.moves) which at.life at.found (move which) node in
    record {
      next = record {
        group = h.group;
        moves = h.moves ++ move which ∷ [];
        begins = h.begins;
        run = node-run-snoc h.moves h.group (move which) h.run moved.0;
        lives = subst (λ (k : NodeGroup NodeDisk). AreLivesOf k.lives (slice_set seats which next)) (sym now)
            (subst (λ ls. AreLivesOf ls (slice_set seats which next)) (sym (set-is (after_node_moves h.group h.moves) which at.life at.found (move which) node)) lives);
        sent = subst (λ (k : NodeGroup NodeDisk). AreSentIn k.sent more) (sym now) (keeps (after_node_moves h.group h.moves).sent h.sent);
        fit = fit;
      };
      sent = ap (λ (k : NodeGroup NodeDisk). k.sent) now;
    }

-- after a call
pub heard-on : (seats : List Seat) (kept : List Out) (room which : ℕ) (seat next : Seat) (event : Event) (reply : Reply) → slice_get seats which ≡ Some seat → (hears : HearsThere seat next event reply) → IsNotInvented kept event
    → (h : HasNodeRun seats kept) → GoesOn seats kept h (slice_set seats which next) (take room (kept ++ hears.e.outs.items)) hears.e.outs.items
heard-on seats kept room which seat next event reply there hears comes h =
    went-on seats kept (take room (kept ++ hears.e.outs.items)) which seat next hears.before hears.after (λ sent. IsNotInvented sent event) (λ k. Calls k hears.e hears.after.disk) there hears.was (ap (λ (s : Seat). s.settings) hears.is) (ap (λ (s : Seat). s.node) hears.is) hears.moves refl
    (λ life sits. sits.owner) (λ life sent sits alive a. come-kept sent kept a event comes)
    (λ sent a. all-take (λ (out : Out). WasSent (sent ++ hears.e.outs.items) out.datagram) room (kept ++ hears.e.outs.items)
    (all-append (λ (out : Out). WasSent (sent ++ hears.e.outs.items) out.datagram) kept hears.e.outs.items
    (all-weaker (λ (out : Out). WasSent sent out.datagram) (λ (out : Out). WasSent (sent ++ hears.e.outs.items) out.datagram) (λ out w. was-before sent hears.e.outs.items out.datagram w) kept a)
    (all-sent hears.e.outs.items (sent ++ hears.e.outs.items) (was-after sent hears.e.outs.items))))
    (all-take (λ (out : Out). HasText out.datagram) room (kept ++ hears.e.outs.items) (all-append (λ (out : Out). HasText out.datagram) kept hears.e.outs.items h.fit (all-of (λ (out : Out). HasText out.datagram) hears.e.outs.items hears.texts)))
    h

-- after a crash and an opening
pub opened-on : {choice : Choice} (seats : List Seat) (kept : List Out) (limit which : ℕ) (seat next : Seat) → slice_get seats which ≡ Some seat → OpensThere seat next limit choice → (h : HasNodeRun seats kept) → GoesOn seats kept h (slice_set seats which next) kept []
opened-on seats kept limit which seat next there opens h =
    went-on seats kept kept which seat next opens.before opens.after (λ sent. owner_of seat.settings ≡ opens.before.owner) (λ k. Opens k seat.settings limit opens.after.first opens.opened opens.after.disk) there opens.was (ap (λ (s : Seat). s.settings) opens.is) (ap (λ (s : Seat). s.node) opens.is) opens.moves refl
    (λ life sits. refl) (λ life sent sits alive a. sits.owner ∙ sym alive.living.same_owner)
    (λ sent a. all-weaker (λ (out : Out). WasSent sent out.datagram) (λ (out : Out). WasSent (sent ++ []) out.datagram) (λ out w. was-before sent [] out.datagram w) kept a)
    h.fit h

-- a seat in which the same life goes on
reseated : (seats : List Seat) (kept : List Out) (which : ℕ) (seat next : Seat) → slice_get seats which ≡ Some seat → ((life : Life NodeDisk) → SitsThere life seat → SitsThere life next) → (h : HasNodeRun seats kept) → GoesOn seats kept h (slice_set seats which next) kept []
reseated seats kept which seat next there keeps h =
    record {
      next = record {
        group = h.group;
        moves = h.moves;
        begins = h.begins;
        run = h.run;
        lives = alone (after_node_moves h.group h.moves).lives seats which h.lives there;
        sent = h.sent;
        fit = h.fit;
      };
      sent = sym (append-nil (after_node_moves h.group h.moves).sent);
    }
  where
    alone : (lives : List (Life NodeDisk)) (ss : List Seat) (k : ℕ) → AreLivesOf lives ss → slice_get ss k ≡ Some seat → AreLivesOf lives (slice_set ss k next)
    alone [] [] k a e = absurd (cc)
    alone [] (t ∷ ss) k a e = absurd a
    alone (l ∷ lives) [] k a e = absurd a
    alone (l ∷ lives) (t ∷ ss) zero a e =
        let same : t ≡ seat = cc in
        (keeps l (subst (SitsThere l) same a.0), a.1)
    alone (l ∷ lives) (t ∷ ss) (suc k) a e = (a.0, alone lives ss k a.1 e)

-- a node that is gone
pub gone-on : (seats : List Seat) (kept : List Out) (which : ℕ) (seat : Seat) → slice_get seats which ≡ Some seat → (h : HasNodeRun seats kept) → GoesOn seats kept h (slice_set seats which (seat_left seat)) kept []
gone-on seats kept which seat there h =
    reseated seats kept which seat (seat_left seat) there (λ life sits. record { owner = sits.owner; sound = sits.sound; alive = tt {0} }) h

-- a node of whose disk a failure is planned
pub planned-on : (seats : List Seat) (kept : List Out) (which : ℕ) (seat next : Seat) (failure : Failure) → slice_get seats which ≡ Some seat → PlansThere seat next failure → (h : HasNodeRun seats kept) → GoesOn seats kept h (slice_set seats which next) kept []
planned-on seats kept which seat next failure there plans h =
    reseated seats kept which seat next there
    (λ life sits. subst (SitsThere life) (sym plans.is) (record { owner = sits.owner; sound = sits.sound; alive = sits.alive })) h

-- after an era
pub ended-on : (seats : List Seat) (kept : List Out) (which : ℕ) (seat next : Seat) → slice_get seats which ≡ Some seat → EraEndsThere seat next → (h : HasNodeRun seats kept) → GoesOn seats kept h (slice_set seats which next) kept []
ended-on seats kept which seat next there ends h =
    went-on seats kept kept which seat next ends.before ends.after (λ sent. Unit {0}) (λ k. Rebases k) there ends.was (ap (λ (s : Seat). s.settings) ends.is) (ap (λ (s : Seat). s.node) ends.is) ends.moves refl
    (λ life sits. sits.owner) (λ life sent sits alive a. tt {0})
    (λ sent a. all-weaker (λ (out : Out). WasSent sent out.datagram) (λ (out : Out). WasSent (sent ++ []) out.datagram) (λ out w. was-before sent [] out.datagram w) kept a)
    h.fit h

-- whose settings are sound
pub seat-sound : (seats : List Seat) (kept : List Out) (which : ℕ) (seat : Seat) → slice_get seats which ≡ Some seat → HasNodeRun seats kept → AreSound seat.settings
seat-sound seats kept which seat there h =
    let at : Sitting (after_node_moves h.group h.moves).lives which seat = seat-at (after_node_moves h.group h.moves).lives seats which seat h.lives there in
    at.sits.sound

-- of the owner of its node
pub seat-owner : (seats : List Seat) (kept : List Out) (which : ℕ) (seat : Seat) (node : NodeView NodeDisk) → slice_get seats which ≡ Some seat → seat.node ≡ Some node → HasNodeRun seats kept → owner_of seat.settings ≡ node.owner
seat-owner seats kept which seat node there is h =
    let at : Sitting (after_node_moves h.group h.moves).lives which seat = seat-at (after_node_moves h.group h.moves).lives seats which seat h.lives there in
    let alive : IsLifeOf at.life node = subst (IsLifeIn at.life) is at.sits.alive in
    at.sits.owner ∙ sym alive.living.same_owner

-- Calls

abbrev pub real : List Seat → List Out → ℕ → ℕ → RealNodes
real seats kept room limit = record { seats = seats; kept = kept; room = room; limit = limit }

pub set-back : (seats : List Seat) (k : ℕ) (s : Seat) → k < length seats → s ≡ slice_index_or seats k s → slice_set seats k s ≡ seats
set-back [] k s l e = absurd (omega arith)
set-back (t ∷ seats) zero s l e = ap (λ r. r ∷ seats) e
set-back (t ∷ seats) (suc k) s l e = ap (λ ss. t ∷ ss) (set-back seats k s (omega arith) e)

pub index-set : (seats : List Seat) (k : ℕ) (s d : Seat) → k < length seats → slice_index_or (slice_set seats k s) k d ≡ s
index-set [] k s d l = absurd (omega arith)
index-set (t ∷ seats) zero s d l = refl
index-set (t ∷ seats) (suc k) s d l = index-set seats k s d (omega arith)

pub heard-at : (seats : List Seat) (kept after : List Out) (room limit which : ℕ) (old new : Seat) (event : Event) (reply : Reply) → which < length seats → old ≡ slice_index_or seats which old → (hears : HearsThere old new event reply) → after ≡ take room (kept ++ hears.e.outs.items)
    → HearsAt (real seats kept room limit) (real (slice_set seats which new) after room limit) which event reply
heard-at seats kept after room limit which old new event reply l at hears keeps =
    record { seat = old; next = new; found = get-at seats which old l at; hears = hears; is = ap (λ ks. real (slice_set seats which new) ks room limit) keeps }

pub heard-run : (seats : List Seat) (kept after : List Out) (room which : ℕ) (old new : Seat) (event : Event) (reply : Reply) → which < length seats → old ≡ slice_index_or seats which old → (hears : HearsThere old new event reply) → after ≡ take room (kept ++ hears.e.outs.items) → IsNotInvented kept event
    → HasNodeRun seats kept → HasNodeRun (slice_set seats which new) after
heard-run seats kept after room which old new event reply l at hears keeps comes h =
    subst (HasNodeRun (slice_set seats which new)) (sym keeps) (heard-on seats kept room which old new event reply (get-at seats which old l at) hears comes h).next

pub left-on : (seats : List Seat) (kept : List Out) (which : ℕ) (old new : Seat) (fault : NodesFault) → which < length seats → old ≡ slice_index_or seats which old → LeavesThere old new fault → (h : HasNodeRun seats kept) → GoesOn seats kept h (slice_set seats which new) kept []
left-on seats kept which old new Gone l at is h =
    subst (λ (ss : List Seat). GoesOn seats kept h ss kept []) (sym (ap (slice_set seats which) is ∙ set-back seats which old l at))
    (record { next = h; sent = sym (append-nil (after_node_moves h.group h.moves).sent) })
left-on seats kept which old new _ l at is h =
    subst (λ (s : Seat). GoesOn seats kept h (slice_set seats which s) kept []) (sym is) (gone-on seats kept which old (get-at seats which old l at) h)

pub opened-at : {choice : Choice} (seats : List Seat) (kept : List Out) (room limit which : ℕ) (old new : Seat) → which < length seats → old ≡ slice_index_or seats which old → OpensThere old new limit choice
    → OpensAt (real seats kept room limit) (real (slice_set seats which new) kept room limit) which choice
opened-at seats kept room limit which old new l at opens = record { seat = old; next = new; found = get-at seats which old l at; opens = opens; is = refl }

pub ended-at : (seats : List Seat) (kept : List Out) (room limit which : ℕ) (old new : Seat) → which < length seats → old ≡ slice_index_or seats which old → EraEndsThere old new
    → EraEndsAt (real seats kept room limit) (real (slice_set seats which new) kept room limit) which
ended-at seats kept room limit which old new l at ends = record { seat = old; next = new; found = get-at seats which old l at; ends = ends; is = refl }

pub planned-at : (seats : List Seat) (kept : List Out) (room limit which : ℕ) (old new : Seat) (failure : Failure) → which < length seats → old ≡ slice_index_or seats which old → PlansThere old new failure
    → PlansAt (real seats kept room limit) (real (slice_set seats which new) kept room limit) which failure
planned-at seats kept room limit which old new failure l at plans = record { seat = old; next = new; found = get-at seats which old l at; plans = plans; is = refl }

pub left-at : (seats : List Seat) (kept : List Out) (room limit which : ℕ) (old new : Seat) → which < length seats → old ≡ slice_index_or seats which old → new ≡ seat_left old
    → LeavesAt (real seats kept room limit) (real (slice_set seats which new) kept room limit) which
left-at seats kept room limit which old new l at gone =
    record { seat = old; found = get-at seats which old l at; is = ap (λ s. real (slice_set seats which s) kept room limit) gone }

-- and in it the laws hold
pub sound-node-run : (view : RealNodes) → HasNodeRun view.seats view.kept → HasSoundNodeRun view
sound-node-run view h = record {
  ran = h;
  told = told-kept (members_of (after_node_moves h.group h.moves)) (living-moves node_disk_state h.moves h.group (living-begins node_disk_state h.group h.begins) h.run).kept;
  within = within-kept (members_of (after_node_moves h.group h.moves)) (living-moves node_disk_state h.moves h.group (living-begins node_disk_state h.group h.begins) h.run).kept;
}

-- Beginning

-- a life that a node began
pub began : (settings : Settings) (limit : ℕ) (opened : NodeDisk) (node : NodeView NodeDisk) → node.base ≡ fresh_base settings node.first limit → node.entries ≡ [] → IsLiving node_disk_state node.owner (life_of settings limit opened [] node) → MayEnd node_disk_state node
    → (seat : Seat) → seat ≡ record seat { settings = settings; node = Some node; planned = None } → IsNewNode settings limit seat
began settings limit opened node base entries living ends seat is =
    let lived : IsLived node_disk_state node.owner (life_of settings limit opened [] node) = ends settings limit opened [] living in
    record {
      node = node;
      opened = opened;
      is = is;
      begins = record {
        new = ap (λ b. life_with node_disk_state settings limit opened [] node.disk node.first b node.entries) base
            ∙ ap (life_with node_disk_state settings limit opened [] node.disk node.first (fresh_base settings node.first limit)) entries;
        lived = subst (λ o. IsLived node_disk_state o (life_of settings limit opened [] node)) living.same_owner lived;
      };
      living = living;
    }

pub first-more : (limit : ℕ) (settings : List Settings) (i : ℕ) (s : Settings) (seats : List Seat) (seat : Seat) → i < length settings → s ≡ slice_index_or settings i s → IsNewNode s limit seat → AreNewNodes limit (take i settings) seats → AreNewNodes limit (take (i + 1) settings) (seats ++ seat ∷ [])
first-more limit settings i s seats seat l e h a =
    subst (λ xs. AreNewNodes limit xs (seats ++ seat ∷ [])) (sym (take-last settings i s l e)) (snoc (take i settings) seats a)
  where
    snoc : (xs : List Settings) (ss : List Seat) → AreNewNodes limit xs ss → AreNewNodes limit (xs ++ s ∷ []) (ss ++ seat ∷ [])
    snoc [] [] b = (h, tt {0})
    snoc [] (t ∷ ss) b = absurd b
    snoc (x ∷ xs) [] b = absurd b
    snoc (x ∷ xs) (t ∷ ss) b = (b.0, snoc xs ss b.1)

-- the lives of nodes that were opened
pub record HasLives (settings : List Settings) (seats : List Seat) : Type 0 where
  pub lives : List (Life NodeDisk)
  pub opened : AllByRecursion (IsOpened node_disk_state) lives
  pub names : map name_in lives ≡ names_in settings
  pub sit : AreLivesOf lives seats

first-lives : (limit : ℕ) (settings : List Settings) (seats : List Seat) → AllByRecursion AreSound settings → AreNewNodes limit settings seats → HasLives settings seats
first-lives limit [] [] sound a = record { lives = []; opened = tt {0}; names = refl; sit = tt {0} }
first-lives limit [] (seat ∷ seats) sound a = absurd a
first-lives limit (s ∷ settings) [] sound a = absurd a
first-lives limit (s ∷ settings) (seat ∷ seats) sound a =
    let rest : HasLives settings seats = first-lives limit settings seats sound.1 a.1 in
    let first : IsNewNode s limit seat = a.0 in
    let life : Life NodeDisk = life_of s limit first.opened [] first.node in
    let sits : SitsThere (life_of s limit first.opened [] first.node) (record seat { settings = s; node = Some first.node; planned = None }) = record { owner = refl; sound = sound.0; alive = record { same = refl; living = first.living } } in
    record {
      lives = life_of s limit first.opened [] first.node ∷ rest.lives;
      opened = (first.begins, rest.opened);
      names = ap (λ xs. s.me ∷ xs) rest.names;
      sit = (subst (SitsThere (life_of s limit first.opened [] first.node)) (sym first.is) sits, rest.sit);
    }

-- new nodes have run, and have sent nothing
pub nodes-begun : (limit : ℕ) (settings : List Settings) (seats : List Seat) (room most : ℕ) (P : List Out → Type 0) → MayBegin settings → AreNewNodes limit settings seats → P [] → HasSent (real seats [] room most) P
nodes-begun limit settings seats room most P may first none =
    let has : HasLives settings seats = first-lives limit settings seats (all-of AreSound settings may.sound) first in
    record {
      ran = record {
        group = record { lives = has.lives; sent = [] };
        moves = [];
        begins = record { opened = has.opened; names = subst (IsDistinct (λ x y. x == y)) (sym has.names) may.names; sent = refl };
        run = tt {0};
        lives = has.sit;
        sent = tt {0};
        fit = tt {0};
      };
      all = none;
    }

pub nodes-new : (limit : ℕ) (settings : List Settings) (seats : List Seat) → MayBegin settings → AreNewNodes limit settings seats → HasNodeRun seats []
nodes-new limit settings seats may first = (nodes-begun limit settings seats 0 0 (λ sent. Unit {0}) may first (tt {0})).ran
