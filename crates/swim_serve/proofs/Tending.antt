-- Turns of a desk, put together.
use Rattle.std.proofs.Common.{◌≡◌, Bool, true, ℕ, ◌+◌, List, [], ◌∷◌, ◌++◌, refl, sym, subst, ◌∙◌, inl, inr, true≢false}
use Rattle.std.specs.Prelude.{Option, Some, None, IfSome, IsSome}
use Rattle.swim_shell.specs.declared.caller.Refusal.{Refusal}
use Rattle.swim_shell.specs.declared.conversation.ControlEnd.{ControlEnd}
use Rattle.swim_shell.specs.declared.conversation.ControlEnd.TheVariants as ends
use Rattle.swim_shell.specs.declared.conversation.LineEnd.{LineEnd}
use Rattle.swim_shell.specs.declared.conversation.LineEnd.TheVariants as line_end
use Rattle.swim_shell.specs.Calls.{CallerView}
use Rattle.swim_shell.specs.Control.{Converses, ConversedBy, DueAfter, HadToWrite, Heard, IsPutOff, carried}
use Rattle.swim_shell.specs.Views.{ConversationView, is_waiting}
use Rattle.swim_join.specs.Joins.{JoinerView}
use Rattle.swim_join.specs.Turns.{Turned, TurnedInVain}
use Rattle.swim_shell.specs.Work.{Goes}
use Rattle.swim_serve.specs.Desks.{DeskView, Step, Joining, Opening, Resuming, Pausing, Shutdown, OfConnection, OfMember, IsTurnIn, Steps, IsOpen, Tending, TendedBy, Opens}

module _ (limit : ℕ) where
  steps_more : (i j k : JoinerView) (x m y : Option ConversationView) (us vs ws : List ConversationView) (p q r : CallerView) (ss ts : List Step) → Steps limit i x us p ss j m vs q → Steps limit j m vs q ts k y ws r → Steps limit i x us p (ss ++ ts) k y ws r
  steps_more i j k x m y us vs ws p q r [] ts (h, e, f, g) t = subst (λ w. Steps limit w x us p ts k y ws r) h (subst (λ w. Steps limit j w us p ts k y ws r) e (subst (λ w. Steps limit j m w p ts k y ws r) f (subst (λ w. Steps limit j m vs w ts k y ws r) g t)))
  steps_more i j k x m y us vs ws p q r (Joining a ∷ ss) ts (e, then, did, rest) t = (e, then, did, steps_more a j k None m y us vs ws then q r ss ts rest t)
  steps_more i j k x m y us vs ws p q r (Opening c ∷ ss) ts (e, new, rest) t = (e, new, steps_more i j k (Some c) m y us vs ws p q r ss ts rest t)
  steps_more i j k x m y us vs ws p q r (Resuming c ∷ ss) ts (e, left, f, rest) t = (e, left, f, steps_more i j k (Some c) m y left vs ws p q r ss ts rest t)
  steps_more i j k x m y us vs ws p q r (Pausing d n ∷ ss) ts (c, then, e, did, rest) t = (c, then, e, did, steps_more i j k None m y (us ++ d ∷ []) vs ws then q r ss ts rest t)
  steps_more i j k x m y us vs ws p q r (Shutdown d end n ∷ ss) ts (c, then, e, of, did, rest) t = (c, then, e, of, did, steps_more i j k None m y us vs ws then q r ss ts rest t)

  -- what a desk did up to this joiner, this conversation and these others
  record Did (s : DeskView) (r : CallerView) (j : JoinerView) (x : Option ConversationView) (us : List ConversationView) (p : CallerView) : Type 0 where
    steps : List Step
    since : Option ConversationView
    then : CallerView
    done : Steps limit s.joiner s.conversation s.others r steps j since us then
    goes_on : IsOpen limit since then x p

  did : (s a : DeskView) (r p : CallerView) (n : ℕ) → Tending limit s r a p n → Did s r a.joiner a.conversation a.others p
  did s a r p n t = record { steps = t.steps; since = t.since; then = t.then; done = t.done; goes_on = t.goes_on }

  tending : (s b : DeskView) (r q : CallerView) (n : ℕ) (j : JoinerView) (y : Option ConversationView) (vs : List ConversationView) → b.joiner ≡ j → b.conversation ≡ y → b.others ≡ vs → Did s r j y vs q → Tending limit s r b q n
  tending s b r q n j y vs joiner conversation others d = record {
    steps = d.steps;
    since = d.since;
    then = d.then;
    done = subst (λ w. Steps limit s.joiner s.conversation s.others r d.steps w d.since b.others d.then) (sym joiner)
        (subst (λ w. Steps limit s.joiner s.conversation s.others r d.steps j d.since w d.then) (sym others) d.done);
    goes_on = subst (λ w. IsOpen limit d.since d.then w q) (sym conversation) d.goes_on;
  }

  -- no conversation has the turns
  record Rests (s : DeskView) (r : CallerView) (j : JoinerView) (us : List ConversationView) (p : CallerView) : Type 0 where
    steps : List Step
    done : Steps limit s.joiner s.conversation s.others r steps j None us p

  rests_from : (s : DeskView) (r : CallerView) (j : JoinerView) (x since : Option ConversationView) (us : List ConversationView) (p then : CallerView) (ss : List Step) → x ≡ None → Steps limit s.joiner s.conversation s.others r ss j since us then → IsOpen limit since then x p → Rests s r j us p
  rests_from s r j x None us p then ss e done (h, g) = record { steps = ss; done = subst (λ w. Steps limit s.joiner s.conversation s.others r ss j None us w) (sym g) done }
  rests_from s r j x (Some c) us p then ss e done (b, i, f, g) = absurd (cc (sym e ∙ f))

  rests : (s a : DeskView) (r p : CallerView) (n : ℕ) → a.conversation ≡ None → Tending limit s r a p n → Rests s r a.joiner a.others p
  rests s a r p n e t = rests_from s r a.joiner a.conversation t.since a.others p t.then t.steps e t.done t.goes_on

  -- no turn yet
  pub tending_none : (a b : DeskView) (p : CallerView) → a.conversation ≡ None → b.joiner ≡ a.joiner → b.conversation ≡ None → b.others ≡ a.others → Tending limit a p b p 0
  tending_none a b p e joiner none others = record { steps = []; since = None; then = p; done = (joiner, sym e, others, refl); goes_on = (none, refl) }

  pub tending_begun : (a b : DeskView) (c d : ConversationView) (p : CallerView) → a.conversation ≡ Some c → b.joiner ≡ a.joiner → b.conversation ≡ Some d → b.others ≡ a.others → ((p : CallerView) → Converses limit c p d p 0) → Tending limit a p b p 0
  tending_begun a b c d p e joiner is others start = record { steps = []; since = Some c; then = p; done = (joiner, sym e, others, refl); goes_on = (d, 0, is, start p) }

  joined : (s : DeskView) (r : CallerView) (j k : JoinerView) (y : Option ConversationView) (us vs : List ConversationView) (p q : CallerView) → Turned j p k q → Opens limit q us y vs → Rests s r j us p → Did s r k y vs q
  joined s r j k None us vs p q turned o t = record { steps = t.steps ++ Joining k ∷ []; since = None; then = q; done = steps_more s.joiner j k s.conversation None None s.others us vs r p q t.steps (Joining k ∷ []) t.done (refl, q, turned, (refl, refl, o, refl)); goes_on = (refl, refl) }
  joined s r j k (Some c) us vs p q turned (first, inl (new, same), w) t = record { steps = t.steps ++ Joining k ∷ Opening first ∷ []; since = Some first; then = q; done = steps_more s.joiner j k s.conversation None (Some first) s.others us vs r p q t.steps (Joining k ∷ Opening first ∷ []) t.done (refl, q, turned, (refl, new, (refl, refl, same, refl))); goes_on = (c, 0, refl, w) }
  joined s r j k (Some c) us vs p q turned (first, inr is, w) t = record { steps = t.steps ++ Joining k ∷ Resuming first ∷ []; since = Some first; then = q; done = steps_more s.joiner j k s.conversation None (Some first) s.others us vs r p q t.steps (Joining k ∷ Resuming first ∷ []) t.done (refl, q, turned, (refl, vs, is, (refl, refl, refl, refl))); goes_on = (c, 0, refl, w) }

  -- the joiner had a turn, and the next conversation got the turns if there was one
  pub tending_joined : (s a b : DeskView) (r p q : CallerView) (n : ℕ) → a.conversation ≡ None → Turned a.joiner p b.joiner q → Opens limit q a.others b.conversation b.others → Tending limit s r a p n → Tending limit s r b q (n + 1)
  tending_joined s a b r p q n e turned opens t = tending s b r q (n + 1) b.joiner b.conversation b.others refl refl refl (joined s r a.joiner b.joiner b.conversation a.others b.others p q turned opens (rests s a r p n e t))

  -- a call of the joiner was refused
  pub tending_refused : (s a b : DeskView) (r p q : CallerView) (n : ℕ) (why : Refusal) → a.conversation ≡ None → b.conversation ≡ None → b.others ≡ a.others → TurnedInVain limit why a.joiner p b.joiner q → Tending limit s r a p n → TendedBy limit (ends.Refused why) s r b q (n + 1)
  tending_refused s a b r p q n why e f same turned t =
      let o = rests s a r p n e t in
      record { steps = o.steps; joiner = a.joiner; since = None; then = p; done = subst (λ w. Steps limit s.joiner s.conversation s.others r o.steps a.joiner None w p) (sym same) o.done; ends_by = (f, inl (why, refl, turned)) }

  -- what is seen to beside the connections asked for the end of the era
  pub tending_asked : (s a b : DeskView) (r p : CallerView) (n : ℕ) → a.conversation ≡ None → b.joiner ≡ a.joiner → b.conversation ≡ None → b.others ≡ a.others → Tending limit s r a p n → TendedBy limit ends.EraAsked s r b p (n + 1)
  tending_asked s a b r p n e joiner f same t =
      let o = rests s a r p n e t in
      record { steps = o.steps; joiner = a.joiner; since = None; then = p; done = subst (λ w. Steps limit s.joiner s.conversation s.others r o.steps a.joiner None w p) (sym same) o.done; ends_by = (f, inr (refl, joiner, refl)) }

  -- the conversation that has the turns has had so many since it got them
  record Talked (s : DeskView) (r : CallerView) (j : JoinerView) (c : ConversationView) (us : List ConversationView) (p : CallerView) : Type 0 where
    steps : List Step
    first : ConversationView
    then : CallerView
    turns : ℕ
    done : Steps limit s.joiner s.conversation s.others r steps j (Some first) us then
    goes_on : Converses limit first then c p turns

  talked_from : (s : DeskView) (r : CallerView) (j : JoinerView) (x since : Option ConversationView) (c : ConversationView) (us : List ConversationView) (p then : CallerView) (ss : List Step) → x ≡ Some c → Steps limit s.joiner s.conversation s.others r ss j since us then → IsOpen limit since then x p → Talked s r j c us p
  talked_from s r j x None c us p then ss e done (h, g) = absurd (cc (sym h ∙ e))
  talked_from s r j x (Some first) c us p then ss e done (d, turns, f, w) =
      let is : d ≡ c = cc (sym f ∙ e) in
      record { steps = ss; first = first; then = then; turns = turns; done = done; goes_on = subst (λ v. Converses limit first then v p turns) is w }

  talked : (s a : DeskView) (c : ConversationView) (r p : CallerView) (n : ℕ) → a.conversation ≡ Some c → Tending limit s r a p n → Talked s r a.joiner c a.others p
  talked s a c r p n e t = talked_from s r a.joiner a.conversation t.since c a.others p t.then t.steps e t.done t.goes_on

  -- one turn more, and it keeps the turns
  pub tending_kept : (s a b : DeskView) (c d : ConversationView) (r p q : CallerView) (n : ℕ) → a.conversation ≡ Some c → b.joiner ≡ a.joiner → b.conversation ≡ Some d → b.others ≡ a.others → Goes (Converses limit) (Converses limit) c p d q → Tending limit s r a p n → Tending limit s r b q (n + 1)
  tending_kept s a b c d r p q n e joiner is others f t =
      let o = talked s a c r p n e t in
      tending s b r q (n + 1) a.joiner (Some d) a.others joiner is others (record { steps = o.steps; since = Some o.first; then = o.then; done = o.done; goes_on = (d, o.turns + 1, refl, f o.first o.then o.turns o.goes_on) })

  -- or that turn was its last for now
  left : (s : DeskView) (r : CallerView) (j : JoinerView) (c : ConversationView) (us vs : List ConversationView) (p q : CallerView) (step : ConversationView → ℕ → Step) → ((first : ConversationView) (then : CallerView) (i : ℕ) → Converses limit first then c p i → Steps limit j (Some first) us then (step first i ∷ []) j None vs q) → Talked s r j c us p → Did s r j None vs q
  left s r j c us vs p q step next o =
      record { steps = o.steps ++ step o.first o.turns ∷ []; since = None; then = q; done = steps_more s.joiner j j s.conversation (Some o.first) None s.others us vs r o.then q o.steps (step o.first o.turns ∷ []) o.done (next o.first o.then o.turns o.goes_on); goes_on = (refl, refl) }

  -- since it stands aside
  pub tending_aside : (s a b : DeskView) (c d : ConversationView) (r p q : CallerView) (n : ℕ) → a.conversation ≡ Some c → b.joiner ≡ a.joiner → b.conversation ≡ None → b.others ≡ a.others ++ d ∷ [] → Goes (Converses limit) (Converses limit) c p d q → Tending limit s r a p n → Tending limit s r b q (n + 1)
  tending_aside s a b c d r p q n e joiner none last f t =
      tending s b r q (n + 1) a.joiner None (a.others ++ d ∷ []) joiner none last (left s r a.joiner c a.others (a.others ++ d ∷ []) p q (λ first i. Pausing d (i + 1)) (λ first then i w. (first, q, refl, f first then i w, (refl, refl, refl, refl))) (talked s a c r p n e t))

  -- or since its connection has ended
  pub tending_closed : (s a b : DeskView) (c d : ConversationView) (end : ControlEnd) (r p q : CallerView) (n : ℕ) → a.conversation ≡ Some c → b.joiner ≡ a.joiner → b.conversation ≡ None → b.others ≡ a.others → OfConnection end → Goes (Converses limit) (ConversedBy end limit) c p d q → Tending limit s r a p n → Tending limit s r b q (n + 1)
  tending_closed s a b c d end r p q n e joiner none others of f t =
      tending s b r q (n + 1) a.joiner None a.others joiner none others (left s r a.joiner c a.others a.others p q (λ first i. Shutdown d end (i + 1)) (λ first then i w. (first, q, refl, of, f first then i w, (refl, refl, refl, refl))) (talked s a c r p n e t))

  -- or that turn ended the worker
  pub tending_ended : (s a b : DeskView) (c d : ConversationView) (end : ControlEnd) (r p q : CallerView) (n : ℕ) → a.conversation ≡ Some c → b.joiner ≡ a.joiner → b.conversation ≡ Some d → b.others ≡ a.others → OfMember end → Goes (Converses limit) (ConversedBy end limit) c p d q → Tending limit s r a p n → TendedBy limit end s r b q (n + 1)
  tending_ended s a b c d end r p q n e joiner is others of f t =
      let o = talked s a c r p n e t in
      record { steps = o.steps; joiner = a.joiner; since = Some o.first; then = o.then; done = subst (λ w. Steps limit s.joiner s.conversation s.others r o.steps a.joiner (Some o.first) w o.then) (sym others) o.done; ends_by = (joiner, d, o.turns + 1, is, of, f o.first o.then o.turns o.goes_on) }

-- a conversation got the turns
pub opened : (limit : ℕ) (p : CallerView) (os us : List ConversationView) (y : Option ConversationView) (first : ConversationView) → IsTurnIn first os us → IfSome y (λ begun. (p : CallerView) → Converses limit first p begun p 0) → IsSome y → Opens limit p os y us
opened limit p os us None first turn begun some = absurd (true≢false (sym some))
opened limit p os us (Some c) first turn begun some = (first, turn, begun p)

due_waits : (due : Option LineEnd) (out : Bool) → Some line_end.Reloading ≡ carried due → is_waiting due out ≡ true
due_waits (Some d) out is = refl
due_waits None out is = absurd cc

had_to_write : (c : ConversationView) (heard : List Heard) → DueAfter (carried c.due) heard (Some line_end.Reloading) → HadToWrite c heard
had_to_write c [] is = inl (due_waits c.due c.out is)
had_to_write c (h ∷ hs) is = inr (λ none. absurd cc)

-- a conversation that ended by the line `reload` and is held has gone on
held_goes : (limit : ℕ) (c d e : ConversationView) (is_prepared : Bool) (p q : CallerView) (n : ℕ) → ConversedBy ends.Reloading limit c p d q n → IsPutOff is_prepared d e → Converses limit c p e q n
held_goes limit c d e is_prepared p q n t is = subst (λ w. Converses limit c p w q n) (sym is) (record {
  heard = t.heard;
  each = t.each;
  talks = record { lines = t.talks.lines; took = t.talks.took; wrote = t.talks.wrote; ends = t.talks.ends };
  waits = λ _. had_to_write c t.heard t.talks.ends;
})

-- a turn that ended so, after which the conversation is held
pub held_from : (limit : ℕ) (turn : Option ControlEnd) (is_prepared : Bool) (a d e : ConversationView) (p q : CallerView) → turn ≡ Some ends.Reloading → IfSome turn (λ end. Goes (Converses limit) (ConversedBy end limit) a p d q) → IsPutOff is_prepared d e → Goes (Converses limit) (Converses limit) a p e q
held_from limit None is_prepared a d e p q is goes same = absurd cc
held_from limit (Some end) is_prepared a d e p q is goes same =
    let reloading : end ≡ ends.Reloading = cc in
    λ s r n w. held_goes limit s d e is_prepared r q (n + 1) (subst (λ x. ConversedBy x limit s r d q (n + 1)) reloading (goes s r n w)) same
