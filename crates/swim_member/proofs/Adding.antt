-- What is added to an answer: one datagram, one part after another, and all of a step.
use Rattle.std.proofs.Common.{◌≡◌, ℕ, refl, ◌+◌, ◌≤◌, true, ap, sym, append_assoc, ◌∙◌, List, [], ◌∷◌, ◌++◌, length, length-append, append-nil, arith}
use Rattle.std.specs.List.{list_all}
use Rattle.swim_member.specs.declared.answer.Answer.{Answer}
use Rattle.swim_member.specs.declared.answer.Out.{Out}
use Rattle.swim_member.specs.declared.settings.Settings.{Settings}
use Rattle.swim_member.specs.State.{State}
use Rattle.swim_member.specs.Fit.{is_fit}
use Rattle.swim_member.specs.declared.note.Note.{Note}
use Rattle.swim_member.specs.Events.{Action, page, no_answer}
use Rattle.swim_member.specs.Machinery.Adding.{Adds}
use Rattle.swim_member.specs.Machinery.Steps.{changes_from, outs_by, notes_by, answer_by}
use Rattle.swim_member.proofs.Showing.{answer-parts}
use Rattle.swim_member.proofs.Lows.{all-append, and-both}

pub adds-one : (s t : State) (before now : Answer) (out : Out)
    → now.outs.items ≡ before.outs.items ++ out ∷ [] → now.notes ≡ before.notes → now.page ≡ before.page
    → t.settings ≡ s.settings → t.number ≡ s.number → is_fit t.settings.me t.number out ≡ true
    → Adds s t before now (out ∷ []) 1 []
adds-one s t before now out outs notes page settings number fit = record {
  outs = outs;
  notes = ap (λ n. n.items) notes ∙ sym (append-nil before.notes.items);
  page = page;
  few = let grown : length now.outs.items ≡ length before.outs.items + 1 = ap length outs ∙ length-append before.outs.items (out ∷ []) in omega arith;
  fit = λ h. ap (list_all (is_fit t.settings.me t.number)) outs
      ∙ all-append (is_fit t.settings.me t.number) before.outs.items (out ∷ [])
      (ap (λ (x : Settings). list_all (is_fit x.me t.number) before.outs.items) settings ∙ ap (λ n. list_all (is_fit s.settings.me n) before.outs.items) number ∙ h)
      (and-both (is_fit t.settings.me t.number out) true fit refl);
}

-- one part after another
pub adds-then : (s t u : State) (a b c : Answer) (os ps : List Out) (m n : ℕ) (ns ms : List Note)
    → Adds s t a b os m ns → Adds t u b c ps n ms → Adds s u a c (os ++ ps) (m + n) (ns ++ ms)
adds-then s t u a b c os ps m n ns ms h k = record {
  outs = k.outs ∙ ap (λ l. l ++ ps) h.outs ∙ append_assoc a.outs.items os ps;
  notes = k.notes ∙ ap (λ l. l ++ ms) h.notes ∙ append_assoc a.notes.items ns ms;
  page = k.page ∙ h.page;
  few = let one : length b.outs.items ≤ length a.outs.items + m = h.few in
      let two : length c.outs.items ≤ length b.outs.items + n = k.few in
      omega arith;
  fit = λ f. k.fit (h.fit f);
}

-- the member was another before, with the same settings and the same number
pub adds-from : (s t u : State) (a b : Answer) (os ps : List Out) (m : ℕ) (ns : List Note)
    → t.settings ≡ s.settings → t.number ≡ s.number → os ≡ ps → Adds t u a b os m ns → Adds s u a b ps m ns
adds-from s t u a b os ps m ns settings number e k = record {
  outs = k.outs ∙ ap (λ x. a.outs.items ++ x) e;
  notes = k.notes;
  page = k.page;
  few = k.few;
  fit = λ f. k.fit (ap (λ (x : Settings). list_all (is_fit x.me t.number) a.outs.items) settings ∙ ap (λ n. list_all (is_fit s.settings.me n) a.outs.items) number ∙ f);
}

-- before anything was sent, the member may change as it likes
pub adds-start : (s t u : State) (a b : Answer) (os : List Out) (m : ℕ) (ns : List Note)
    → a.outs.items ≡ [] → Adds t u a b os m ns → Adds s u a b os m ns
adds-start s t u a b os m ns e k = record {
  outs = k.outs;
  notes = k.notes;
  page = k.page;
  few = k.few;
  fit = λ f. k.fit (ap (list_all (is_fit t.settings.me t.number)) e);
}

-- the same, said otherwise
pub adds-as : (s t : State) (a b : Answer) (os ps : List Out) (m n : ℕ) (ns ms : List Note)
    → os ≡ ps → m ≤ n → ns ≡ ms → Adds s t a b os m ns → Adds s t a b ps n ms
adds-as s t a b os ps m n ns ms e l f k = record {
  outs = k.outs ∙ ap (λ x. a.outs.items ++ x) e;
  notes = k.notes ∙ ap (λ x. a.notes.items ++ x) f;
  page = k.page;
  few = let low : length b.outs.items ≤ length a.outs.items + m = k.few in omega arith;
  fit = k.fit;
}

-- all that a step adds to an answer that had nothing to say
pub adds-all : (s t : State) (a b : Answer) (ms : List Action) (most : ℕ)
    → a ≡ no_answer → page (changes_from s ms) ≡ [] → Adds s t a b (outs_by s ms) most (notes_by s ms)
    → b ≡ answer_by s ms
adds-all s t a b ms most e z k =
    answer-parts b s ms
    (k.outs ∙ ap (λ (x : Answer). x.outs.items ++ outs_by s ms) e)
    (k.notes ∙ ap (λ (x : Answer). x.notes.items ++ notes_by s ms) e)
    (ap (λ p. p.items) k.page ∙ ap (λ (x : Answer). x.page.items) e ∙ sym z)
