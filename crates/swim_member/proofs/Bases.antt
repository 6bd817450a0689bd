-- A state as a base reads as itself, and relays stay live.
use Rattle.std.proofs.Common.{◌≡◌, ℕ, ◌==◌, false, cond, refl, sym, ◌∙◌, ap, List, [], ◌∷◌, map}
use Rattle.std.specs.List.{filter}
use Rattle.std.proofs.lemmas.Bool.{eqb-false, eq-eqb, ne_eqb, or_parts}
use Rattle.swim_wire.specs.declared.update.Update.{Update}
use Rattle.swim_rules.specs.Rows.{AreInOrder}
use Rattle.swim_rules.proofs.Calling.{rows-begin}
use Rattle.swim_gossip.specs.declared.buffer.Waiting.{Waiting}
use Rattle.swim_gossip.specs.Queue.{AreApart, is_queued}
use Rattle.swim_member.specs.declared.state.Relay.{Relay}
use Rattle.swim_member.specs.Checks.{rules_of}
use Rattle.swim_member.specs.State.{State}
use Rattle.swim_member.specs.Readings.{queue, count_in, without_relay}
use Rattle.swim_member.specs.Events.{state_of}
use Rattle.swim_member.specs.Machinery.Steps.{is_live}
use Rattle.swim_member.proofs.Logs.{filter-twice, without-filter}

-- What waits

abbrev counted_as : (ℕ → ℕ) → List Waiting → List Waiting
counted_as f waiting = map (λ (u : Update). record { update = u; count = f u.who }) (map (λ (w : Waiting). w.update) waiting)

counted-apart_from : (x n : ℕ) (f : ℕ → ℕ) (waiting : List Waiting) → is_queued x waiting ≡ false → counted_as (λ y. cond (x == y) n (f y)) waiting ≡ counted_as f waiting
counted-apart_from x n f [] h = refl
counted-apart_from x n f (w ∷ waiting) h =
    let parts : ((w.update.who == x) ≡ false) × (is_queued x waiting ≡ false) = or_parts (w.update.who == x) (is_queued x waiting) h in
    let other : (x == w.update.who) ≡ false = ne_eqb x w.update.who (λ e. eqb-false w.update.who x parts.0 (sym e)) in
    ap (λ b. record { update = w.update; count = cond b n (f w.update.who) } ∷ counted_as (λ y. cond (x == y) n (f y)) waiting) other
    ∙ ap (λ rest. record { update = w.update; count = f w.update.who } ∷ rest) (counted-apart_from x n f waiting parts.1)

queue-base : (waiting : List Waiting) → AreApart waiting → counted_as (count_in waiting) waiting ≡ waiting
queue-base [] h = refl
queue-base (w ∷ waiting) h =
    ap (λ b. record { update = w.update; count = cond b w.count (count_in waiting w.update.who) } ∷ counted_as (count_in (w ∷ waiting)) waiting) (eq-eqb w.update.who w.update.who refl)
    ∙ ap (λ rest. w ∷ rest) (counted-apart_from w.update.who w.count (count_in waiting) waiting h.0 ∙ queue-base waiting h.1)

-- the state as a base
pub base-itself : (s : State) → AreInOrder s.rows → AreApart s.queue → filter (is_live s.time s.settings.period) s.relays ≡ s.relays → state_of s [] ≡ s
base-itself s order apart live =
    ap (λ r. record s { rows = r; queue = queue s []; relays = filter (is_live s.time s.settings.period) s.relays }) (rows-begin (rules_of s.settings) s.rows order)
    ∙ ap (λ q. record s { queue = q; relays = filter (is_live s.time s.settings.period) s.relays }) (queue-base s.queue apart)
    ∙ ap (λ r. record s { relays = r }) live

-- Relays

-- after a tick
pub live-kept : (now period : ℕ) (made kept : List Relay) → kept ≡ filter (is_live now period) made → filter (is_live now period) kept ≡ kept
live-kept now period made kept e =
    ap (filter (is_live now period)) e ∙ filter-twice (is_live now period) (is_live now period) (λ r h. h) made ∙ sym e

-- one is answered
pub live-answered : (now period : ℕ) (made left : List Relay) (r : Relay) → filter (is_live now period) made ≡ made → left ≡ without_relay r made → filter (is_live now period) left ≡ left
live-answered now period made left r h e =
    ap (filter (is_live now period)) e ∙ without-filter now period r made ∙ ap (without_relay r) h ∙ sym e
