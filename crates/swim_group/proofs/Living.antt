-- A life that was lived is one of a member: its state, its answers and its own number.
use Rattle.std.proofs.Common.{◌≡◌, ◌≤◌, refl, sym, ◌∙◌, ap, subst, List, [], ◌∷◌, ◌++◌, append_assoc, append-nil, arith}
use Rattle.swim_node.proofs.Nodes.{granted-grows}
use Rattle.swim_disk.specs.Disk.{DiskState}
use Rattle.swim_member.specs.declared.answer.Answer.{Answer}
use Rattle.swim_member.specs.State.{State}
use Rattle.swim_member.specs.Member.{new_state}
use Rattle.swim_member.specs.Judge.{wanted}
use Rattle.swim_member.specs.Events.{Step, state_of, answer}
use Rattle.swim_member.specs.Events as events
use Rattle.swim_member.specs.Machinery.Steps.{step_news}
use Rattle.swim_member.proofs.Logs.{answer-step}
use Rattle.swim_node.specs.declared.entry.Entry.{Entry}
use Rattle.swim_node.specs.History.{Base, IsLegal, IsNext, AreNext, steps, step_of, granted_of, state_after, fresh_base}
use Rattle.swim_node.specs.Lives.{Era, Life, AreJoined, ceiling_of}
use Rattle.swim_node.specs.Node.{next_base}
use Rattle.swim_node.proofs.Lists.{steps-append, granted_from-append}
use Rattle.swim_group.specs.Group.{begun, state_at}
use Rattle.swim_group.specs.Nodes.{WasLived, steps_in, place_of}
use Rattle.swim_group.proofs.Reading.{IsStartState, start-after, start-new, same-after, low-after}

-- States

-- eras, one after another, are one history
pub record IsReadSo (start : State) (before : List Step) (s : State) : Type 0 where
  pub same : state_of start before ≡ s
  pub starts : IsStartState s

read-eras : (z : State) (before : List Step) (start : Base) (eras : List Era) (base : Base) → AreJoined start eras base → IsReadSo z before start.state → IsReadSo z (before ++ steps_in eras) base.state
read-eras z before start [] base joined h =
    let same : base.state ≡ start.state = ap (λ (b : Base). b.state) joined.same in
    record { same = ap (state_of z) (append-nil before) ∙ h.same ∙ sym same; starts = subst IsStartState (sym same) h.starts }
read-eras z before start (era ∷ eras) base joined h =
    let same : era.base.state ≡ start.state = ap (λ (b : Base). b.state) joined.0.same in
    let here : state_of z before ≡ era.base.state = h.same ∙ sym same in
    let starts : IsStartState era.base.state = subst IsStartState (sym same) h.starts in
    let next : IsReadSo z (before ++ steps era.entries) (state_of era.base.state (steps era.entries)) = record {
      same = same-after z era.base.state before [] (steps era.entries) (here ∙ sym starts.reads);
      starts = start-after era.base.state (steps era.entries) starts;
    } in
    let rest : IsReadSo z ((before ++ steps era.entries) ++ steps_in eras) base.state = read-eras z (before ++ steps era.entries) (next_base era.base era.entries) eras base joined.2 next in
    subst (λ (xs : List Step). IsReadSo z xs base.state) (append_assoc before (steps era.entries) (steps_in eras)) rest

module _ {D : Type 0} (state : D → DiskState) (life : Life D) (lived : WasLived state life) where
  read-last : IsReadSo (new_state life.settings life.first) (steps_in life.eras) life.base.state
  read-last =
      read-eras (new_state life.settings life.first) [] (fresh_base life.settings life.first life.limit) life.eras life.base lived.joined
      (record { same = (start-new life.settings life.first).reads; starts = start-new life.settings life.first })

  -- the member's state is that of the node
  pub life-state : (entries : List Entry) → state_of (new_state life.settings life.first) (steps_in life.eras ++ steps entries) ≡ state_after life.base entries
  life-state entries =
      same-after (new_state life.settings life.first) life.base.state (steps_in life.eras) [] (steps entries) (read-last.same ∙ sym read-last.starts.reads)

-- Numbers

low-entries : (base : Base) (before history : List Entry) → AreNext base before history → (state_after base before).number ≤ granted_of base before → (state_after base (before ++ history)).number ≤ granted_of base (before ++ history)
low-entries base before [] h l = subst (λ (xs : List Entry). (state_after base xs).number ≤ granted_of base xs) (sym (append-nil before)) l
low-entries base before (e ∷ history) h l =
    let grows : granted_of base before ≤ e.granted = granted-grows (wanted (state_after base before) e.event) (granted_of base before) e.save e.granted h.0.fits.saved in
    let low : (state_of base.state (steps before ++ step_of e ∷ [])).number ≤ e.granted = low-after base.state (steps before) (step_of e) (omega (arith, l, grows)) in
    let here : (state_after base (before ++ e ∷ [])).number ≤ e.granted = subst (λ (xs : List Step). (state_of base.state xs).number ≤ e.granted) (sym (steps-append before (e ∷ []))) low in
    let next : (state_after base (before ++ e ∷ [])).number ≤ granted_of base (before ++ e ∷ []) =
    subst (λ n. (state_after base (before ++ e ∷ [])).number ≤ n) (sym (granted_from-append base.granted before (e ∷ []))) here in
    subst (λ (xs : List Entry). (state_after base xs).number ≤ granted_of base xs) (append_assoc before (e ∷ []) history) (low-entries base (before ++ e ∷ []) history h.1 next)

-- of a history from its beginning
low-legal : (base : Base) (entries : List Entry) → state_of base.state [] ≡ base.state → base.state.number ≤ base.granted → IsLegal base entries → (state_after base entries).number ≤ granted_of base entries
low-legal base entries reads l legal = low-entries base [] entries legal.each (subst (λ (s : State). s.number ≤ base.granted) (sym reads) l)

low-eras : (start : Base) (eras : List Era) (base : Base) → AreJoined start eras base → IsStartState start.state → start.state.number ≤ start.granted → base.state.number ≤ base.granted
low-eras start [] base joined s l =
    let same : base.state ≡ start.state = ap (λ (b : Base). b.state) joined.same in
    let number : base.state.number ≡ start.state.number = ap (λ (t : State). t.number) same in
    omega (arith, number, joined.grows, l)
low-eras start (era ∷ eras) base joined s l =
    let same : era.base.state ≡ start.state = ap (λ (b : Base). b.state) joined.0.same in
    let number : era.base.state.number ≡ start.state.number = ap (λ (t : State). t.number) same in
    let starts : IsStartState era.base.state = subst IsStartState (sym same) s in
    let low : era.base.state.number ≤ era.base.granted = omega (arith, number, joined.0.grows, l) in
    low-eras (next_base era.base era.entries) eras base joined.2 (start-after era.base.state (steps era.entries) starts)
    (low-legal era.base era.entries starts.reads low joined.1)

-- the own number is within the ceiling
pub life-low : {D : Type 0} (state : D → DiskState) (life : Life D) → WasLived state life → (state_at (place_of life)).number ≤ ceiling_of life
life-low state life lived =
    let start : IsReadSo (new_state life.settings life.first) (steps_in life.eras) life.base.state = read-last state life lived in
    let base : life.base.state.number ≤ life.base.granted = low-eras (fresh_base life.settings life.first life.limit) life.eras life.base lived.joined (start-new life.settings life.first) (omega arith) in
    subst (λ (s : State). s.number ≤ ceiling_of life) (sym (life-state state life lived life.entries)) (low-legal life.base life.entries start.starts.reads base lived.legal)

-- Answers

-- the last entry is next after those before it
next-last : (base : Base) (before xs : List Entry) (e : Entry) → AreNext base before (xs ++ e ∷ []) → IsNext base (before ++ xs) e
next-last base before [] e h = subst (λ (ys : List Entry). IsNext base ys e) (sym (append-nil before)) h.0
next-last base before (x ∷ xs) e h = subst (λ (ys : List Entry). IsNext base ys e) (append_assoc before (x ∷ []) xs) (next-last base (before ++ x ∷ []) xs e h.1)

-- what the member sends at an entry are the datagrams of the entry
pub entry-sent : {D : Type 0} (state : D → DiskState) (life : Life D) (e : Entry) (left : D) → WasLived state (record life { entries = life.entries ++ e ∷ []; left = left })
    → (answer (begun (place_of life)) (place_of life).steps e.event e.granted).outs.items ≡ e.outs.items
entry-sent state life e left lived =
    let next : IsNext life.base life.entries e = next-last life.base [] life.entries e lived.legal.each in
    let s : State = state_after life.base life.entries in
    let one : answer (begun (place_of life)) (place_of life).steps e.event e.granted ≡ events.answer_in (step_news (state_after life.base life.entries) e.event e.granted) =
    answer-step (begun (place_of life)) (place_of life).steps e.event e.granted (state_after life.base life.entries)
    (life-state state (record life { entries = life.entries ++ e ∷ []; left = left }) lived life.entries) in
    let two : answer life.base.state (steps life.entries) e.event e.granted ≡ events.answer_in (step_news (state_after life.base life.entries) e.event e.granted) =
    answer-step life.base.state (steps life.entries) e.event e.granted (state_after life.base life.entries) refl in
    ap (λ (a : Answer). a.outs.items) (one ∙ sym two ∙ next.answered)

-- Steps

pub steps-entry : (eras : List Era) (entries : List Entry) (e : Entry) → steps_in eras ++ steps (entries ++ e ∷ []) ≡ (steps_in eras ++ steps entries) ++ step_of e ∷ []
steps-entry eras entries e = ap (λ (xs : List Step). steps_in eras ++ xs) (steps-append entries (e ∷ [])) ∙ sym (append_assoc (steps_in eras) (steps entries) (step_of e ∷ []))

pub steps-era : (eras : List Era) (base : Base) (entries : List Entry) → steps_in (eras ++ record { base = base; entries = entries } ∷ []) ++ [] ≡ steps_in eras ++ steps entries
steps-era [] base entries = append-nil (steps entries ++ []) ∙ append-nil (steps entries)
steps-era (era ∷ eras) base entries =
    append_assoc (steps era.entries) (steps_in (eras ++ record { base = base; entries = entries } ∷ [])) []
    ∙ ap (λ (xs : List Step). steps era.entries ++ xs) (steps-era eras base entries)
    ∙ sym (append_assoc (steps era.entries) (steps_in eras) (steps entries))
