-- An era that begins anew, and one entry for one cause.
use Rattle.std.proofs.Common.{◌≡◌, ℕ, ◌+◌, ◌≤◌, ◌==◌, false, List, [], ◌∷◌, ◌++◌, length, drop, take, refl, ap, sym, ◌∙◌, arith, subst, Option, Some, None, zero, suc, length-append, map}
use Rattle.std.specs.List.{IsDistinct}
use Rattle.std.specs.Option.{option_to_list}
use Rattle.std.proofs.lemmas.Bool.{ltb-false}
use Rattle.std.proofs.Math.Seq.{take-append_seam}
use Rattle.std.proofs.lemmas.Map.Keys.{IsDistinct-tail}
use Rattle.swim_node.proofs.Nodes.{node-new}
use Rattle.swim_rules.specs.declared.table.TheConstants.{ROWS_MAX}
use Rattle.swim_member.specs.declared.answer.Answer.{Answer}
use Rattle.swim_member.specs.State.{State}
use Rattle.swim_member.specs.Events.{Step, answer, state_of}
use Rattle.swim_member.specs.Judge.{wanted}
use Rattle.swim_node.specs.declared.entry.Entry.{Entry}
use Rattle.swim_node.specs.declared.entry.Outcome.{Outcome}
use Rattle.swim_node.specs.declared.entry.Save.{Save}
use Rattle.swim_node.specs.declared.entry.Save.TheVariants.{Kept, Done, Failed}
use Rattle.swim_node.specs.declared.opening.TheConstants.{LIMIT_MAX}
use Rattle.swim_node.specs.declared.replay.Cause.{Cause}
use Rattle.swim_node.specs.History.{Base, AreNext, IsLegal, IsNext, Saves, answer_in, granted_of, lost_in, state_after, status_at, steps, taken_in}
use Rattle.swim_node.specs.Node.{IsNode}
use Rattle.swim_node.specs.Owns.{AreAtLeast, AreAtMost}
use Rattle.swim_node.specs.Replaying.{IsTold, begin_fault, cause_of, is_above}
use Rattle.swim_node.proofs.Lists.{steps-append}

-- The beginning

distinct-drop : (n : ℕ) (names : List ℕ) → IsDistinct (λ x y. x == y) names → IsDistinct (λ x y. x == y) (drop n names)
distinct-drop zero names h = h
distinct-drop (suc n) [] h = h
distinct-drop (suc n) (x ∷ names) h = distinct-drop n names (IsDistinct-tail (λ x y. x == y) x names h)

most-tested : (granted : ℕ) (past : Option ℕ) → is_above granted past ≡ false → AreAtMost granted (option_to_list past)
most-tested granted None h = tt {0}
most-tested granted (Some n) h = (ltb-false granted n h, tt {0})

least-any : (past : Option ℕ) → AreAtLeast 0 (option_to_list past)
least-any None = tt {0}
least-any (Some n) = (omega arith, tt {0})

-- a node whose era begins with this state, of a life of which nothing is asked
pub node-begun : (s : State) (granted : ℕ) (past : Option ℕ) (limit : ℕ) → state_of s [] ≡ s → begin_fault (record { state = s; granted = granted; past = past; limit = limit }) ≡ None → IsDistinct (λ x y. x == y) s.listed → length s.rows ≤ ROWS_MAX → s.number ≤ granted → is_above granted past ≡ false → limit ≤ LIMIT_MAX → IsNode (record { state = s; granted = granted; past = past; limit = limit }) [] 0 s granted past
node-begun s granted past limit reads begins once few low above short =
    node-new s granted past limit 0 reads begins (record { once = distinct-drop s.place s.listed once; few = few }) low (omega arith) (most-tested granted past above) (least-any past) short

-- One entry for one cause

-- what was granted says what became of the ceiling
saves-one : (o : Option ℕ) (g granted : ℕ) (save other : Save) → Saves o g save granted → Saves o g other granted → save ≡ other
saves-one None g granted Kept Kept h k = refl
saves-one None g granted Kept other h k = absurd k
saves-one None g granted save other h k = absurd h
saves-one (Some w) g granted Kept Kept h k = refl
saves-one (Some w) g granted Done Done h k = refl
saves-one (Some w) g granted Failed Failed h k = refl
saves-one (Some w) g granted save other h k = absurd (omega (arith, h, k))

module _ (base : Base) (xs : List Entry) where
  -- the entry of a cause, with what became of the ceiling
  entry_by : Cause → Save → Entry
  entry_by c save =
      let said : Answer = answer base.state (steps xs) c.event c.granted in
      record {
        tag = c.tag;
        event = c.event;
        granted = c.granted;
        save = save;
        outs = said.outs;
        outcomes = c.outcomes;
        reply = record {
          status = status_at (state_of base.state (steps xs ++ record { event = c.event; granted = c.granted } ∷ [])) (length xs + 1);
          notes = said.notes;
          page = said.page;
          sent = taken_in c.outcomes.items;
          lost = lost_in c.outcomes.items;
        };
      }

  next-by : (e : Entry) → IsNext base xs e → e ≡ entry_by (cause_of e) e.save
  unfolding entry_by
  next-by e h =
      let said : answer_in e ≡ answer base.state (steps xs) e.event e.granted = sym h.answered in
      let status : e.reply.status ≡ status_at (state_of base.state (steps xs ++ record { event = e.event; granted = e.granted } ∷ [])) (length xs + 1) =
      h.status
      ∙ ap (λ (l : List Step). status_at (state_of base.state l) (length (xs ++ e ∷ []))) (steps-append xs (e ∷ []))
      ∙ ap (λ (k : ℕ). status_at (state_of base.state (steps xs ++ record { event = e.event; granted = e.granted } ∷ [])) k) (length-append xs (e ∷ [])) in
      λ i. record {
        tag = e.tag;
        event = e.event;
        granted = e.granted;
        save = e.save;
        outs = (said i).outs;
        outcomes = e.outcomes;
        reply = record { status = status i; notes = (said i).notes; page = (said i).page; sent = h.sent i; lost = h.lost i };
      }

  same-next : (e f : Entry) → IsNext base xs e → IsNext base xs f → cause_of e ≡ cause_of f → e ≡ f
  same-next e f h k same =
      let save : e.save ≡ f.save = saves-one (wanted (state_after base xs) e.event) (granted_of base xs) e.granted e.save f.save h.fits.saved (subst (λ (c : Cause). Saves (wanted (state_after base xs) c.event) (granted_of base xs) f.save c.granted) (sym same) k.fits.saved) in
      next-by e h ∙ ap (λ (c : Cause). entry_by c e.save) same ∙ ap (λ (s : Save). entry_by (cause_of f) s) save ∙ sym (next-by f k)

  -- an entry that takes over what it is told is whatever entry could stand there of which that was told
  pub next-again : (cause : Cause) (f : Entry) → IsNext base xs f → f.tag ≡ cause.tag → f.event ≡ cause.event → ((save : Save) → Saves (wanted (state_after base xs) cause.event) (granted_of base xs) save cause.granted → (f.save ≡ save) × (f.granted ≡ cause.granted)) → (length f.outs.items ≤ length cause.outcomes.items → f.outcomes.items ≡ take (length f.outs.items) cause.outcomes.items) → (e : Entry) → IsNext base xs e → IsTold cause e → f ≡ e
  next-again cause f k tag event granted outcomes e h told =
      let saved = rw (told.event, told.granted) at h.fits.saved in
      let same_event : f.event ≡ e.event = event ∙ sym told.event in
      let same_granted : f.granted ≡ e.granted = (granted e.save saved).1 ∙ sym told.granted in
      let said : answer_in f ≡ answer_in e = sym k.answered ∙ rw (same_event, same_granted) h.answered in
      let as_many : length f.outs.items ≡ length e.outcomes.items = ap (λ (a : Answer). length a.outs.items) said ∙ sym h.fits.outcomes in
      let enough : length f.outs.items ≤ length cause.outcomes.items = omega (arith, as_many, ap length told.outcomes, length-append e.outcomes.items told.more) in
      let front : take (length f.outs.items) cause.outcomes.items ≡ e.outcomes.items =
      ap (λ (n : ℕ). take n cause.outcomes.items) as_many
      ∙ ap (λ (l : List Outcome). take (length e.outcomes.items) l) told.outcomes
      ∙ take-append_seam e.outcomes.items told.more in
      let became : f.outcomes ≡ e.outcomes = ap (λ (l : List Outcome). record { items = l }) (outcomes enough ∙ front) in
      let caused : cause_of f ≡ cause_of e = λ i. record { tag = (tag ∙ sym told.tag) i; event = same_event i; granted = same_granted i; outcomes = became i } in
      same-next f e k h caused

-- Histories

same-entries : (base : Base) (before xs ys : List Entry) → AreNext base before xs → AreNext base before ys → map cause_of xs ≡ map cause_of ys → xs ≡ ys
same-entries base before [] [] h k is = refl
same-entries base before [] (y ∷ ys) h k is = absurd (cc)
same-entries base before (x ∷ xs) [] h k is = absurd (cc)
same-entries base before (x ∷ xs) (y ∷ ys) h k is =
    let first : cause_of x ≡ cause_of y = cc in
    let others : map cause_of xs ≡ map cause_of ys = cc in
    let same : x ≡ y = same-next base before x y h.0 k.0 first in
    let next : AreNext base (before ++ x ∷ []) ys = subst (λ (e : Entry). AreNext base (before ++ e ∷ []) ys) (sym same) k.1 in
    ap (λ (e : Entry). e ∷ xs) same ∙ ap (λ (rest : List Entry). y ∷ rest) (same-entries base (before ++ x ∷ []) xs ys h.1 next others)

pub same-legal : (base : Base) (history other : List Entry) → IsLegal base history → IsLegal base other → map cause_of history ≡ map cause_of other → history ≡ other
same-legal base history other h k is = same-entries base [] history other h.each k.each is
