-- What each change of a member keeps.
use Rattle.std.proofs.Common.{◌≡◌, ◌≢◌, ℕ, ◌<◌, ◌≤◌, ◌^◌, Bool, true, false, cond, ◌==◌, refl, sym, ◌∙◌, ap, List, [], ◌∷◌, map, length, Option, Some, None, arith}
use Rattle.std.specs.List.{find, filter, list_all}
use Rattle.std.specs.Option.{option_map}
use Rattle.std.proofs.lemmas.Bool.{and_parts, false≢true, le-leb}
use Rattle.swim_wire.specs.declared.rules.Rules.{Rules}
use Rattle.swim_wire.specs.declared.rules.Rules.TheVariants.{One, Two}
use Rattle.swim_wire.specs.declared.update.Update.{Update}
use Rattle.swim_wire.specs.declared.update.UpdateKind.{UpdateKind}
use Rattle.swim_wire.specs.declared.update.UpdateKind.TheVariants.{Alive, Suspect, Confirm}
use Rattle.swim_rules.specs.declared.table.Row.{Row}
use Rattle.swim_rules.specs.declared.table.Heard.TheVariants.{Accepted, Kept}
use Rattle.swim_rules.specs.Rules.{beats}
use Rattle.swim_rules.specs.Rows.{Members, IsTable, AreInOrder, answer_to, heard_as, rows_after, hear_rows, put_row, remove_row, row_of, is_due, is_kind, confirm_of, due_confirm, due_to_forget, heard_row, hear_option, remove_option}
use Rattle.swim_rules.proofs.Changes.{found_here, found_other, hear-found}
use Rattle.swim_gossip.specs.declared.buffer.Waiting.{Waiting}
use Rattle.swim_gossip.specs.Queue.{Gossip, offered_queue, without, raise_all}
use Rattle.swim_member.specs.declared.settings.Settings.{Settings}
use Rattle.swim_member.specs.declared.state.Relay.{Relay}
use Rattle.swim_member.specs.Checks.{rules_of}
use Rattle.swim_member.specs.State.{State}
use Rattle.swim_member.specs.Fit.{may_say, may_wait, may_stand}
use Rattle.swim_member.proofs.Lows.{all-raised, all-without, say-offered, say-spoken, stand-put, stand-remove, low-found}
use Rattle.swim_member.specs.Events.{Forget, perform}
use Rattle.swim_member.specs.Expiry.{expire_first, forget_first}
use Rattle.swim_member.specs.Machinery.Steps.{apply_all, is_live, rows_heard}
use Rattle.swim_member.specs.Machinery.Kept.{AllWait, IsKept, is_row}
use Rattle.swim_member.proofs.Waits.{wait-put, wait-own, wait-room, wait-forgotten, wait-raised}

-- another queue in which all wait
pub keep-queue : (s : Settings) (n t : ℕ) (members : Members) (b : Gossip) (p : List Waiting) (made : List Relay) → IsKept s n t members b made → AllWait s.me members.rows p → list_all (may_wait s.me n) p ≡ true → IsKept s n t members (record b { queue = p }) made
keep-queue s n t members b p made h w low = record { me = h.me; suspect = h.suspect; forget = h.forget; rules = h.rules; sound = h.sound; table = h.table; wait = w; most = h.most; number = h.number; time = h.time; stand = h.stand; say = low; live = h.live }

-- the own update begins to wait, with the own number as it then is
pub keep-own : (s : Settings) (n m t : ℕ) (members : Members) (b : Gossip) (made : List Relay) (u : Update) → u.who ≡ s.me → u.number ≡ m → m ≤ 2 ^ 62 → IsKept s n t members b made → IsKept s m t members (record b { queue = offered_queue b.queue u }) made
keep-own s n m t members b made u e same l h = record { me = h.me; suspect = h.suspect; forget = h.forget; rules = h.rules; sound = h.sound; table = h.table; wait = wait-own s.me members.rows b.queue u e h.wait; most = h.most; number = l; time = h.time; stand = h.stand; say = say-spoken s.me n m b.queue u e same l h.say; live = h.live }

pub room-own : (s : Settings) (n t : ℕ) (members : Members) (b : Gossip) (made : List Relay) (u : Update) → u.who ≡ s.me → IsKept s n t members b made → length (without u.who b.queue) < 257
room-own s n t members b made u e h = wait-room s.me members.rows b.queue u (wait-own s.me members.rows b.queue u e h.wait) h.table.most

-- sends are counted
pub keep-raised : (s : Settings) (n t : ℕ) (members : Members) (b : Gossip) (made : List Relay) (sent : List Update) → IsKept s n t members b made → IsKept s n t members (record b { queue = map (raise_all sent) b.queue }) made
keep-raised s n t members b made sent h = keep-queue s n t members b (map (raise_all sent) b.queue) made h (wait-raised s.me members.rows b.queue sent h.wait) (all-raised (may_say s.me n) sent b.queue h.say)

-- an update is accepted
pub keep-heard : (s : Settings) (n t : ℕ) (members after : Members) (b : Gossip) (made : List Relay) (u : Update) (now : ℕ) → u.who ≢ s.me → u.number ≤ 2 ^ 62 → answer_to members.rules members.rows u ≡ Accepted → after ≡ record members { rows = hear_rows members.rules members.rows u now } → IsTable after → IsKept s n t members b made → IsKept s n t after (record b { queue = offered_queue b.queue u }) made
keep-heard s n t members after b made u now other l e k table h =
    let rows : after.rows ≡ put_row members.rows (record { update = u; since = now }) =
    ap (λ (m : Members). m.rows) k ∙ ap (λ a. rows_after a members.rows (record { update = u; since = now })) e in
    let me : after.me ≡ s.me = ap (λ (m : Members). m.me) k ∙ h.me in
    let suspect : after.suspect ≡ s.suspect = ap (λ (m : Members). m.suspect) k ∙ h.suspect in
    let forget : after.forget ≡ s.forget = ap (λ (m : Members). m.forget) k ∙ h.forget in
    let by_rules : after.rules ≡ rules_of s = ap (λ (m : Members). m.rules) k ∙ h.rules in
    record {
      me = me;
      suspect = suspect;
      forget = forget;
      rules = by_rules;
      sound = h.sound;
      table = table;
      wait = rw rows (wait-put s.me members.rows b.queue u now h.table.order other h.wait);
      most = h.most;
      number = h.number;
      time = h.time;
      stand = rw rows (stand-put s.me members.rows (record { update = u; since = now }) other l h.stand);
      say = say-offered s.me n b.queue u other l h.say;
      live = h.live;
    }

pub room-heard : (s : Settings) (n t : ℕ) (members after : Members) (b : Gossip) (made : List Relay) (u : Update) (now : ℕ) → u.who ≢ s.me → u.number ≤ 2 ^ 62 → answer_to members.rules members.rows u ≡ Accepted → after ≡ record members { rows = hear_rows members.rules members.rows u now } → IsTable after → IsKept s n t members b made → length (without u.who b.queue) < 257
room-heard s n t members after b made u now other l e k table h =
    wait-room s.me after.rows b.queue u (IsKept.wait (keep-heard s n t members after b made u now other l e k table h)) table.most

-- what a search finds passes its test
pub find-passes : (test : Row → Bool) (rows : List Row) (r : Row) → find test rows ≡ Some r → test r ≡ true
find-passes test [] r e = absurd (cc)
find-passes test (x ∷ rows) r e = at (test x) refl e (λ k. find-passes test rows r k)
  where
    at : (b : Bool) → test x ≡ b → cond b (Some x) (find test rows) ≡ Some r → (find test rows ≡ Some r → test r ≡ true) → test r ≡ true
    at true t k f = let same : x ≡ r = cc in rw (sym same) t
    at false t k f = f k

-- a Suspect that is due is overridden by its Confirm
pub due-accepted : (rules : Rules) (ticks now : ℕ) (rows : List Row) (r : Row) → AreInOrder rows → find (is_due Suspect ticks now) rows ≡ Some r → answer_to rules rows (confirm_of r) ≡ Accepted
due-accepted rules ticks now rows r order e =
    ap (λ o. heard_as rules o (length rows == 256) (confirm_of r)) (found_here (is_due Suspect ticks now) rows r order e)
    ∙ ap (λ b. cond b Accepted Kept) (over rules r.update.kind (due_kind rows e))
  where
    over : (rules : Rules) (k : UpdateKind) → is_kind Suspect k ≡ true → beats rules Confirm r.update.number k r.update.number ≡ true
    over One Suspect h = refl
    over Two Suspect h = le-leb r.update.number r.update.number (omega arith)
    over rules Alive h = absurd (false≢true h)
    over rules Confirm h = absurd (false≢true h)

    passes : (rows : List Row) → find (is_due Suspect ticks now) rows ≡ Some r → is_due Suspect ticks now r ≡ true
    passes rows e = find-passes (is_due Suspect ticks now) rows r e

    due_kind : (rows : List Row) → find (is_due Suspect ticks now) rows ≡ Some r → is_kind Suspect r.update.kind ≡ true
    due_kind rows e = (and_parts (is_kind Suspect r.update.kind) _ (passes rows e)).0

-- the row that became Confirm
pub record ExpiredRow (members : Members) (now : ℕ) (u : Update) : Type 0 where
  pub row : Row
  pub found : find (is_due Suspect members.suspect now) members.rows ≡ Some row
  pub update : confirm_of row ≡ u

pub expired-row : (members : Members) (now : ℕ) (u : Update) → due_confirm members now ≡ Some u → ExpiredRow members now u
expired-row members now u e = by_row (find (is_due Suspect members.suspect now) members.rows) refl e
  where
    by_row : (o : Option Row) → find (is_due Suspect members.suspect now) members.rows ≡ o → option_map confirm_of o ≡ Some u → ExpiredRow members now u
    by_row None f k = absurd (cc)
    by_row (Some r) f k = record { row = r; found = f; update = cc }

expired-accepted : (members : Members) (now : ℕ) (u : Update) → IsTable members → due_confirm members now ≡ Some u → answer_to members.rules members.rows u ≡ Accepted
expired-accepted members now u h e =
    let x : ExpiredRow members now u = expired-row members now u e in
    ap (answer_to members.rules members.rows) (sym x.update) ∙ due-accepted members.rules members.suspect now members.rows x.row h.order x.found

expired-other : (members : Members) (now : ℕ) (u : Update) → IsTable members → due_confirm members now ≡ Some u → u.who ≢ members.me
expired-other members now u h e k =
    let x : ExpiredRow members now u = expired-row members now u e in
    found_other (is_due Suspect members.suspect now) members.me members.rows x.row x.found h.others (ap (λ (v : Update). v.who) x.update ∙ k)

-- its number is that of the row
expired-low : (me : ℕ) (members : Members) (now : ℕ) (u : Update) → list_all (may_stand me) members.rows ≡ true → due_confirm members now ≡ Some u → u.number ≤ 2 ^ 62
expired-low me members now u h e =
    let x : ExpiredRow members now u = expired-row members now u e in
    let low : x.row.update.number ≤ 2 ^ 62 = low-found me (is_due Suspect members.suspect now) members.rows x.row h x.found in
    let same : x.row.update.number ≡ u.number = ap (λ (v : Update). v.number) x.update in
    omega arith

-- a Suspect expires
pub keep-expired : (s : Settings) (n t : ℕ) (members after : Members) (b : Gossip) (made : List Relay) (u : Update) → due_confirm members t ≡ Some u → after ≡ record members { rows = hear_option members.rules members.rows (due_confirm members t) t } → IsTable after → IsKept s n t members b made → IsKept s n t after (record b { queue = offered_queue b.queue u }) made
keep-expired s n t members after b made u e k table h =
    keep-heard s n t members after b made u t (λ i. expired-other members t u h.table e (i ∙ sym h.me)) (expired-low s.me members t u h.stand e) (expired-accepted members t u h.table e)
    (k ∙ ap (λ o. record members { rows = hear_option members.rules members.rows o t }) e) table h

pub room-expired : (s : Settings) (n t : ℕ) (members after : Members) (b : Gossip) (made : List Relay) (u : Update) → due_confirm members t ≡ Some u → after ≡ record members { rows = hear_option members.rules members.rows (due_confirm members t) t } → IsTable after → IsKept s n t members b made → length (without u.who b.queue) < 257
room-expired s n t members after b made u e k table h = wait-room s.me after.rows b.queue u (IsKept.wait (keep-expired s n t members after b made u e k table h)) table.most

-- the state after a Suspect expired
pub expired-state : (s : State) (members after : Members) (queue : List Waiting) (u : Update) → members.rows ≡ s.rows → members.rules ≡ rules_of s.settings → members.suspect ≡ s.settings.suspect → IsTable members → due_confirm members s.time ≡ Some u → after.rows ≡ hear_rows members.rules members.rows u s.time → queue ≡ offered_queue s.queue u → record s { rows = after.rows; queue = queue } ≡ apply_all (expire_first (find (is_due Suspect s.settings.suspect s.time) s.rows)) s
expired-state s members after queue u same by_rules ticks h e k q =
    let x : ExpiredRow members s.time u = expired-row members s.time u e in
    let found : find (is_due Suspect s.settings.suspect s.time) s.rows ≡ Some x.row =
    ap (λ n. find (is_due Suspect n s.time) s.rows) (sym ticks) ∙ ap (λ rows. find (is_due Suspect members.suspect s.time) rows) (sym same) ∙ x.found in
    let heard : after.rows ≡ rows_heard s (confirm_of x.row) =
    k ∙ ap (λ v. hear_rows members.rules members.rows v s.time) (sym x.update)
    ∙ hear-found members.rules (is_due Suspect members.suspect s.time) members.rows x.row s.time h.order x.found
    ∙ ap (λ rows. heard_row members.rules (row_of rows x.row.update.who) rows (record { update = confirm_of x.row; since = s.time })) same
    ∙ ap (λ rules. heard_row rules (row_of s.rows x.row.update.who) s.rows (record { update = confirm_of x.row; since = s.time })) by_rules in
    ap (λ rows. record s { rows = rows; queue = queue }) heard
    ∙ ap (λ w. record s { rows = rows_heard s (confirm_of x.row); queue = w }) (q ∙ ap (offered_queue s.queue) (sym x.update))
    ∙ ap (λ o. apply_all (expire_first o) s) (sym found)

-- where no row is due, what is done with the first that is due is what is done with none
pub nothing-due : {A Done : Type 0} (f : Row → A) (done : Option Row → Done) (kind : UpdateKind) (ticks wanted now : ℕ) (rows : List Row) → ticks ≡ wanted → option_map f (find (is_due kind ticks now) rows) ≡ None → done (find (is_due kind wanted now) rows) ≡ done None
nothing-due f done kind ticks wanted now rows same e =
    ap (λ n. done (find (is_due kind n now) rows)) (sym same) ∙ ap done (none (find (is_due kind ticks now) rows) e)
  where
    none : (o : Option Row) → option_map f o ≡ None → o ≡ None
    none None k = refl
    none (Some r) k = absurd (cc)

-- the row that was forgotten
pub record ForgottenRow (members : Members) (now x : ℕ) : Type 0 where
  pub row : Row
  pub found : find (is_due Confirm members.forget now) members.rows ≡ Some row
  pub name : row.update.who ≡ x

pub forgotten-row : (members : Members) (now x : ℕ) → due_to_forget members now ≡ Some x → ForgottenRow members now x
forgotten-row members now x e = by_row (find (is_due Confirm members.forget now) members.rows) refl e
  where
    by_row : (o : Option Row) → find (is_due Confirm members.forget now) members.rows ≡ o → option_map (λ (r : Row). r.update.who) o ≡ Some x → ForgottenRow members now x
    by_row None f k = absurd (cc)
    by_row (Some r) f k = record { row = r; found = f; name = cc }

pub keep-forgotten : (s : Settings) (n t : ℕ) (members after : Members) (b : Gossip) (made : List Relay) (now x : ℕ) → due_to_forget members now ≡ Some x → after ≡ record members { rows = remove_option members.rows (due_to_forget members now) } → IsTable after → IsKept s n t members b made → IsKept s n t after (record b { queue = without x b.queue }) made
keep-forgotten s n t members after b made now x e k table h =
    let f : ForgottenRow members now x = forgotten-row members now x e in
    let rows : after.rows ≡ remove_row members.rows x = ap (λ (m : Members). m.rows) k ∙ ap (remove_option members.rows) e in
    let there : row_of members.rows x ≡ Some f.row = ap (row_of members.rows) (sym f.name) ∙ found_here (is_due Confirm members.forget now) members.rows f.row h.table.order f.found in
    let me : after.me ≡ s.me = ap (λ (m : Members). m.me) k ∙ h.me in
    let suspect : after.suspect ≡ s.suspect = ap (λ (m : Members). m.suspect) k ∙ h.suspect in
    let forget : after.forget ≡ s.forget = ap (λ (m : Members). m.forget) k ∙ h.forget in
    let by_rules : after.rules ≡ rules_of s = ap (λ (m : Members). m.rules) k ∙ h.rules in
    record {
      me = me;
      suspect = suspect;
      forget = forget;
      rules = by_rules;
      sound = h.sound;
      table = table;
      wait = rw rows (wait-forgotten s.me members.rows b.queue x h.table.order
          (λ i. found_other (is_due Confirm members.forget now) members.me members.rows f.row f.found h.table.others (f.name ∙ i ∙ sym h.me))
          (ap is_row there) h.wait);
      most = h.most;
      number = h.number;
      time = h.time;
      stand = rw rows (stand-remove s.me members.rows x h.stand);
      say = all-without (may_say s.me n) x b.queue h.say;
      live = h.live;
    }

-- the state after it was forgotten
pub forgotten-state : (s : State) (members after : Members) (queue : List Waiting) (x : ℕ) → members.rows ≡ s.rows → members.forget ≡ s.settings.forget → due_to_forget members s.time ≡ Some x → after ≡ record members { rows = remove_option members.rows (due_to_forget members s.time) } → queue ≡ without x s.queue → record s { rows = after.rows; queue = queue } ≡ apply_all (perform s Forget) s
forgotten-state s members after queue x same ticks e k q =
    let f : ForgottenRow members s.time x = forgotten-row members s.time x e in
    let found : find (is_due Confirm s.settings.forget s.time) s.rows ≡ Some f.row =
    ap (λ n. find (is_due Confirm n s.time) s.rows) (sym ticks) ∙ ap (λ rows. find (is_due Confirm members.forget s.time) rows) (sym same) ∙ f.found in
    let rows : after.rows ≡ remove_row s.rows f.row.update.who =
    ap (λ (m : Members). m.rows) k ∙ ap (remove_option members.rows) e ∙ ap (λ rows. remove_row rows x) same ∙ ap (remove_row s.rows) (sym f.name) in
    ap (λ rows. record s { rows = rows; queue = queue }) rows
    ∙ ap (λ w. record s { rows = remove_row s.rows f.row.update.who; queue = w }) (q ∙ ap (λ y. without y s.queue) (sym f.name))
    ∙ ap (λ o. apply_all (forget_first o) s) (sym found)

-- other relays, all of them live at this time
pub keep-made : (s : Settings) (n t now : ℕ) (members : Members) (b : Gossip) (made left : List Relay) → now ≤ 2 ^ 62 → filter (is_live now s.period) left ≡ left → IsKept s n t members b made → IsKept s n now members b left
keep-made s n t now members b made left l live h = record { me = h.me; suspect = h.suspect; forget = h.forget; rules = h.rules; sound = h.sound; table = h.table; wait = h.wait; most = h.most; number = h.number; time = l; stand = h.stand; say = h.say; live = live }
