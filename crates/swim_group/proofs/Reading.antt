-- A state that is read off a history reads as itself, so a history may go on from it. And the own number stays within the ceiling.
use Rattle.std.proofs.Common.{◌≡◌, ℕ, ◌≤◌, Bool, true, false, cond, refl, sym, ◌∙◌, ap, subst, List, [], ◌∷◌, ◌++◌, append_assoc, append-nil, map}
use Rattle.swim_node.proofs.Nodes.{number-low}
use Rattle.swim_wire.specs.declared.datagram.Datagram.{Datagram}
use Rattle.swim_gossip.specs.declared.buffer.Waiting.{Waiting}
use Rattle.swim_gossip.specs.Queue.{AreApart, raise_all}
use Rattle.swim_gossip.proofs.Apart.{apart-offered, apart-raised, apart-removed}
use Rattle.swim_member.specs.declared.settings.Settings.{Settings}
use Rattle.swim_member.specs.State.{State, Change, Forgot, Queued, Sent}
use Rattle.swim_member.specs.Readings.{state, carries_updates, open_relays, time}
use Rattle.swim_member.specs.Member.{new_state}
use Rattle.swim_member.specs.Judge.{judge, wanted}
use Rattle.swim_member.specs.Events.{Step, state_of, log_of, number_after, actions}
use Rattle.swim_member.specs.Machinery.Steps.{apply, is_live, queue_after}
use Rattle.swim_member.proofs.Actions.{after-news}
use Rattle.swim_member.proofs.Bases.{base-itself}
use Rattle.swim_member.proofs.FewRows.{order-read}
use Rattle.swim_member.proofs.Logs.{state-happening, state_of-snoc, filter-twice}
use Rattle.swim_member.proofs.Showing.{number-judged}

-- a history may begin with it
pub record IsStartState (s : State) : Type 0 where
  pub reads : state_of s [] ≡ s
  pub apart : AreApart s.queue

apart-sent : (p : Datagram) (queue : List Waiting) → AreApart queue → AreApart (queue_after p queue)
apart-sent p queue a = at (carries_updates p.kind)
  where
    at : (b : Bool) → AreApart (cond b (map (raise_all p.updates.items) queue) queue)
    at true = apart-raised p.updates.items queue a
    at false = a

apart-change : (h : Change) (s : State) → AreApart s.queue → AreApart (apply h s).queue
apart-change (Forgot x) s a = apart-removed x s.queue a
apart-change (Queued u) s a = apart-offered s.queue u a
apart-change (Sent to p) s a = apart-sent p s.queue a
apart-change h s a = a

apart-read : (base : State) (log : List Change) → IsStartState base → AreApart (state base log).queue
apart-read base [] b = subst (λ (s : State). AreApart s.queue) (sym b.reads) b.apart
apart-read base (h ∷ log) b = subst (λ (s : State). AreApart s.queue) (sym (state-happening base log h)) (apart-change h (state base log) (apart-read base log b))

-- so may any state that is read off a history
pub start-after : (base : State) (steps : List Step) → IsStartState base → IsStartState (state_of base steps)
start-after base steps b =
    let log : List Change = log_of base steps in
    let apart : AreApart (state base (log_of base steps)).queue = apart-read base (log_of base steps) b in
    record {
      reads = base-itself (state base (log_of base steps)) (order-read base (log_of base steps)) apart
          (filter-twice (is_live (time base (log_of base steps)) base.settings.period) (is_live (time base (log_of base steps)) base.settings.period) (λ r h. h) (open_relays base (log_of base steps)));
      apart = apart;
    }

pub start-new : (settings : Settings) (first : ℕ) → IsStartState (new_state settings first)
start-new settings first = record { reads = base-itself (new_state settings first) (tt {0}) (refl, tt {0}) refl; apart = (refl, tt {0}) }

-- histories that led to the same state go on alike
pub same-after : (a b : State) (xs ys zs : List Step) → state_of a xs ≡ state_of b ys → state_of a (xs ++ zs) ≡ state_of b (ys ++ zs)
same-after a b xs ys [] h = ap (state_of a) (append-nil xs) ∙ h ∙ ap (state_of b) (sym (append-nil ys))
same-after a b xs ys (e ∷ zs) h =
    ap (state_of a) (sym (append_assoc xs (e ∷ []) zs))
    ∙ same-after a b (xs ++ e ∷ []) (ys ++ e ∷ []) zs (state_of-snoc a xs e (state_of a xs) refl ∙ sym (state_of-snoc b ys e (state_of a xs) (sym h)))
    ∙ ap (state_of b) (append_assoc ys (e ∷ []) zs)

-- Numbers

-- the own number is within the ceiling after an event, if it was
pub low-after : (base : State) (steps : List Step) (e : Step) → (state_of base steps).number ≤ e.granted → (state_of base (steps ++ e ∷ [])).number ≤ e.granted
low-after base steps e l =
    let s : State = state_of base steps in
    let number : (state_of base (steps ++ e ∷ [])).number ≡ number_after (wanted (state_of base steps) e.event) e.granted (state_of base steps).number =
    ap (λ (t : State). t.number) (state_of-snoc base steps e (state_of base steps) refl ∙ after-news (state_of base steps) (actions (state_of base steps) e.event e.granted))
    ∙ number-judged (state_of base steps) (judge (state_of base steps) e.event) e.granted in
    subst (λ n. n ≤ e.granted) (sym number) (number-low (wanted (state_of base steps) e.event) e.granted (state_of base steps).number l)
