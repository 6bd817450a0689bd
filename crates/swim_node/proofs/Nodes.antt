-- One entry more, and a base.
use Rattle.std.proofs.Common.{◌≡◌, ℕ, ◌+◌, ◌≤◌, ◌<◌, nat_le, List, [], ◌∷◌, ◌++◌, length, refl, ap, sym, ◌∙◌, arith, append_assoc, append-nil, length-append, Option, Some, None, subst, inl, inr}
use Rattle.std.specs.Option.{option_to_list}
use Rattle.std.proofs.lemmas.Bool.{cases_Bool, leb-true}
use Rattle.std.proofs.lemmas.List.Elements.{All-append, All-cons, All-nil}
use Rattle.swim_member.specs.declared.settings.Settings.{Settings}
use Rattle.swim_member.specs.declared.event.Event.{Event}
use Rattle.swim_member.specs.State.{State}
use Rattle.swim_member.specs.Resuming.{resume_fault}
use Rattle.swim_member.specs.Events.{Step, state_of, number_after}
use Rattle.swim_member.specs.Judge.{wanted, HasDeal}
use Rattle.swim_member.specs.Fit.{AreAll, own_numbers_in}
use Rattle.swim_node.specs.declared.entry.Entry.{Entry}
use Rattle.swim_node.specs.declared.entry.Save.{Save}
use Rattle.swim_node.specs.declared.opening.TheConstants.{LIMIT_MAX}
use Rattle.swim_node.specs.declared.entry.Save.TheVariants.{Kept, Done, Failed}
use Rattle.swim_node.specs.History.{Base, IsLegal, IsNext, AreNext, Saves, steps, granted_of, state_after, status_at, answer_in, taken_in, lost_in}
use Rattle.swim_node.specs.Machinery.Entering.{Steps}
use Rattle.swim_node.specs.Sending.{HasTexts}
use Rattle.swim_node.specs.Owns.{owns, owns_in, AreAtMost, AreAtLeast, greatest_of, greatest_with, greater_of}
use Rattle.swim_node.specs.Node.{HasCaller, IsNode, IsTurn, next_base}
use Rattle.swim_node.specs.Probing.{IsStart}
use Rattle.swim_node.specs.Replaying.{begin_fault}
use Rattle.swim_node.proofs.Begins.{begins-bounds, begun-bounds, at_most-past}
use Rattle.swim_node.proofs.Probing.{start-after}
use Rattle.swim_node.proofs.Lists.{steps-append, granted_from-append, owns_in-append, at_most-append, at_most-more, at_least-append, all-at_most, all-at_least, greatest_with-append}

next-snoc : (base : Base) (before xs : List Entry) (e : Entry) → AreNext base before xs → IsNext base (before ++ xs) e → AreNext base before (xs ++ e ∷ [])
next-snoc base before [] e h k = (rw (append-nil before) at k, tt {0})
next-snoc base before (x ∷ xs) e h k = (h.0, next-snoc base (before ++ x ∷ []) xs e h.1 (rw (append_assoc before (x ∷ []) xs) k))

-- one more entry keeps a history legal
pub legal-snoc : (base : Base) (xs : List Entry) (e : Entry) → IsLegal base xs → IsNext base xs e → length xs < base.limit → IsLegal base (xs ++ e ∷ [])
legal-snoc base xs e h k room = record { each = next-snoc base [] xs e h.each k; within = omega (arith, room, length-append xs (e ∷ [])) }

-- the own number stays within the ceiling
pub number-low : (o : Option ℕ) (g n : ℕ) → n ≤ g → number_after o g n ≤ g
number-low None g n h = h
number-low (Some w) g n h = elim (cases_Bool (nat_le w g)) [ inl t ↦ rw t (leb-true w g t) | inr f ↦ rw f h ]

-- a save leaves a ceiling that is at least the one before
pub granted-grows : (o : Option ℕ) (g : ℕ) (save : Save) (granted : ℕ) → Saves o g save granted → g ≤ granted
granted-grows None g Kept granted h = omega (arith, h)
granted-grows None g _ granted h = absurd h
granted-grows (Some w) g Kept granted h = let same = h.1 in omega arith
granted-grows (Some w) g Done granted h = omega (arith, h.0, h.1)
granted-grows (Some w) g Failed granted h = h.1

-- a failed save leaves the own number
pub number-failed : (o : Option ℕ) (low g n : ℕ) → Saves o low Failed g → number_after o g n ≡ n
number-failed None low g n h = absurd h
number-failed (Some w) low g n h =
    let under : g < w = h.2 in
    elim (cases_Bool (nat_le w g)) [ inl t ↦ absurd (let over : w ≤ g = leb-true w g t in omega arith) | inr f ↦ rw f refl ]

saves-at : (s t : State) (event : Event) (g h : ℕ) (save : Save) (granted : ℕ) → s ≡ t → g ≡ h → Saves (wanted t event) h save granted → Saves (wanted s event) g save granted
saves-at s t event g h save granted e f k = rw (e, f) k

-- what an entry is made of, after a history that left this state and this ceiling
pub record Enters (xs : List Entry) (old new : State) (low high : ℕ) (e : Entry) : Type 0 where
  pub saved : Saves (wanted old e.event) low e.save e.granted
  pub granted : e.granted ≡ high
  pub grows : low ≤ high
  pub steps : Steps old new e.event e.granted (answer_in e)
  pub outcomes : length e.outcomes.items ≡ length e.outs.items
  pub status : e.reply.status ≡ status_at new (length xs + 1)
  pub sent : e.reply.sent ≡ taken_in e.outcomes.items
  pub lost : e.reply.lost ≡ lost_in e.outcomes.items
  pub turn : IsTurn xs e.tag
  pub deal : HasDeal e.event
  pub texts : HasTexts e
  pub caller : HasCaller e

module _ (base : Base) (xs : List Entry) (e : Entry) (first : ℕ) (old new : State) (low high : ℕ) (top : Option ℕ) where
  pub state-snoc : IsNode base xs first old low top → Enters xs old new low high e → state_after base (xs ++ e ∷ []) ≡ new
  state-snoc n h = ap (λ (s : List Step). state_of base.state s) (steps-append xs (e ∷ [])) ∙ h.steps.state base.state (steps xs) n.member

  pub next-entered : IsNode base xs first old low top → Enters xs old new low high e → IsNext base xs e
  next-entered n h =
      let saved = saves-at (state_after base xs) old e.event (granted_of base xs) low e.save e.granted n.member n.granted h.saved in
      let status = h.status ∙ ap (λ (k : ℕ). status_at new k) (sym (length-append xs (e ∷ []))) ∙ ap (λ (s : State). status_at s (length (xs ++ e ∷ []))) (sym (state-snoc n h)) in
      assumption (saved, status, h.steps.answered base.state (steps xs) n.member)

  owns-snoc : owns base (xs ++ e ∷ []) ≡ owns base xs ++ own_numbers_in base.state.settings.me e.outs.items
  owns-snoc =
      ap (λ (w : List ℕ). option_to_list base.past ++ w) (owns_in-append base.state.settings.me xs (e ∷ []) ∙ ap (λ (w : List ℕ). owns_in base.state.settings.me xs ++ w) (append-nil (own_numbers_in base.state.settings.me e.outs.items)))
      ∙ sym (append_assoc (option_to_list base.past) (owns_in base.state.settings.me xs) (own_numbers_in base.state.settings.me e.outs.items))

  -- each own number in the entry's datagrams is the new one
  pub said-new : IsNode base xs first old low top → Enters xs old new low high e → AreAll new.number (own_numbers_in base.state.settings.me e.outs.items)
  said-new n h = subst (λ (m : ℕ). AreAll new.number (own_numbers_in m e.outs.items)) (ap (λ (s : Settings). s.me) (h.steps.settings ∙ n.settings)) h.steps.own

  -- and the old one where the save failed
  pub said-old : IsNode base xs first old low top → Enters xs old new low high e → e.save ≡ Failed → AreAll old.number (own_numbers_in base.state.settings.me e.outs.items)
  said-old n h failed =
      let same : new.number ≡ old.number = h.steps.number ∙ number-failed (wanted old e.event) low e.granted old.number (subst (λ (s : Save). Saves (wanted old e.event) low s e.granted) failed h.saved) in
      subst (λ (m : ℕ). AreAll m (own_numbers_in base.state.settings.me e.outs.items)) same (said-new n h)

  -- the node after one more entry
  pub node-snoc : IsNode base xs first old low top → Enters xs old new low high e → length xs < base.limit → IsNode base (xs ++ e ∷ []) first new high (greatest_with top (own_numbers_in new.settings.me e.outs.items))
  node-snoc n h room =
      let you : new.settings.me ≡ base.state.settings.me = ap (λ (s : Settings). s.me) (h.steps.settings ∙ n.settings) in
      let under : new.number ≤ high = rw (h.steps.number, ← h.granted) (number-low (wanted old e.event) e.granted old.number (omega (arith, n.low, h.grows, h.granted))) in
      let over : first ≤ new.number = let grown : old.number ≤ new.number = h.steps.grows in omega (arith, grown, n.high) in
      let said : AreAll new.number (own_numbers_in base.state.settings.me e.outs.items) = said-new n h in
      record {
        legal = legal-snoc base xs e n.legal (next-entered n h) room;
        start = n.start;
        reads = n.reads;
        begins = n.begins;
        member = state-snoc n h;
        settings = h.steps.settings ∙ n.settings;
        granted = granted_from-append base.granted xs (e ∷ []) ∙ h.granted;
        low = under;
        high = over;
        covers = rw owns-snoc (at_most-append high (owns base xs) _ (at_most-more low high (owns base xs) h.grows n.covers) (all-at_most new.number high _ under said));
        begun = rw owns-snoc (at_least-append first (owns base xs) _ n.begun (all-at_least new.number first _ over said));
        most = ap greatest_of owns-snoc ∙ greatest_with-append None (owns base xs) (own_numbers_in base.state.settings.me e.outs.items) ∙ rw (n.most, you) refl;
        texts = All-append HasTexts xs (e ∷ []) n.texts (All-cons HasTexts e [] h.texts (All-nil HasTexts));
        callers = All-append HasCaller xs (e ∷ []) n.callers (All-cons HasCaller e [] h.caller (All-nil HasCaller));
        short = n.short;
      }

more-at_most : (g : ℕ) (o : Option ℕ) (n : ℕ) → AreAtMost g (option_to_list o) → n ≤ g → AreAtMost g (option_to_list (greater_of o n))
more-at_most g None n h k = (k, tt {0})
more-at_most g (Some m) n h k = let low = h.0 in (omega arith, tt {0})

greatest-at_most : (g : ℕ) (o : Option ℕ) (ns : List ℕ) → AreAtMost g (option_to_list o) → AreAtMost g ns → AreAtMost g (option_to_list (greatest_with o ns))
greatest-at_most g o [] h k = h
greatest-at_most g o (n ∷ ns) h k = greatest-at_most g (greater_of o n) ns (more-at_most g o n h k.0) k.1

more-at_least : (f : ℕ) (o : Option ℕ) (n : ℕ) → f ≤ n → AreAtLeast f (option_to_list (greater_of o n))
more-at_least f None n k = (k, tt {0})
more-at_least f (Some m) n k = (omega arith, tt {0})

greatest-at_least : (f : ℕ) (o : Option ℕ) (ns : List ℕ) → AreAtLeast f (option_to_list o) → AreAtLeast f ns → AreAtLeast f (option_to_list (greatest_with o ns))
greatest-at_least f o [] h k = h
greatest-at_least f o (n ∷ ns) h k = greatest-at_least f (greater_of o n) ns (more-at_least f o n k.0) k.1

pub greatest-one : (o : Option ℕ) → greatest_of (option_to_list o ++ []) ≡ o
greatest-one None = refl
greatest-one (Some n) = refl

-- a base that reads as itself is where its era begins, as plain data
pub next-itself : (base : Base) → state_after base [] ≡ base.state → next_base base [] ≡ base
next-itself base reads = rw (reads, greatest-one base.past) refl

-- where an era would begin now
pub begins-next : (base : Base) (xs : List Entry) (first : ℕ) (s : State) (ceiling : ℕ) (top : Option ℕ) → IsNode base xs first s ceiling top → resume_fault s ≡ None → begin_fault (record { state = s; granted = ceiling; past = top; limit = base.limit }) ≡ None
begins-next base xs first s ceiling top n resumes =
    begins-bounds (record { state = s; granted = ceiling; past = top; limit = base.limit }) (record {
      some = (begun-bounds base n.begins).some;
      short = n.short;
      low = n.low;
      past = at_most-past ceiling top (rw n.most at (greatest-at_most ceiling None (owns base xs) (tt {0}) n.covers));
      resumes = resumes;
    })

pub begins-now : (base : Base) (xs : List Entry) (first : ℕ) (s : State) (ceiling : ℕ) (top : Option ℕ) → IsNode base xs first s ceiling top → resume_fault s ≡ None → begin_fault (next_base base xs) ≡ None
begins-now base xs first s ceiling top n resumes =
    let same : next_base base xs ≡ record { state = s; granted = ceiling; past = top; limit = base.limit } = rw (n.member, n.granted, n.most) refl in
    ap begin_fault same ∙ begins-next base xs first s ceiling top n resumes

-- a node whose era begins with this state
pub node-new : (s : State) (granted : ℕ) (past : Option ℕ) (limit first : ℕ) → state_of s [] ≡ s → begin_fault (record { state = s; granted = granted; past = past; limit = limit }) ≡ None → IsStart s → s.number ≤ granted → first ≤ s.number → AreAtMost granted (option_to_list past) → AreAtLeast first (option_to_list past) → limit ≤ LIMIT_MAX → IsNode (record { state = s; granted = granted; past = past; limit = limit }) [] first s granted past
node-new s granted past limit first reads begins start low high most least short = record {
  legal = record { each = tt {0}; within = omega arith };
  start = subst IsStart (sym reads) start;
  reads = reads;
  begins = begins;
  member = reads;
  settings = refl;
  granted = refl;
  low = low;
  high = high;
  covers = at_most-append granted (option_to_list past) [] most (tt {0});
  begun = at_least-append first (option_to_list past) [] least (tt {0});
  most = greatest-one past;
  texts = All-nil HasTexts;
  callers = All-nil HasCaller;
  short = short;
}

-- and with what is now
pub node-rebased : (base : Base) (xs : List Entry) (first : ℕ) (s : State) (ceiling : ℕ) (top : Option ℕ) → IsNode base xs first s ceiling top → state_of s [] ≡ s → resume_fault s ≡ None → IsNode (record { state = s; granted = ceiling; past = top; limit = base.limit }) [] first s ceiling top
node-rebased base xs first s ceiling top n reads resumes =
    node-new s ceiling top base.limit first reads (begins-next base xs first s ceiling top n resumes) (subst IsStart n.member (start-after base xs n.legal n.start)) n.low n.high
    (rw n.most at (greatest-at_most ceiling None (owns base xs) (tt {0}) n.covers)) (rw n.most at (greatest-at_least first None (owns base xs) (tt {0}) n.begun)) n.short
