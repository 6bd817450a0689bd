-- Two lists of rows, merged member by member.
use Rattle.std.proofs.Common.{◌≡◌, ℕ, ◌+◌, ◌≤◌, List, [], ◌∷◌, ◌++◌, Option, Some, None, length, refl, ap, sym, subst, ◌∙◌, arith, append_assoc, true, false}
use Rattle.std.specs.Ordering.{is_lt, nat_cmp}
use Rattle.std.proofs.lemmas.List.{append-nil}
use Rattle.std.proofs.lemmas.Map.Keys.{ge_from_not_lt}
use Rattle.swim_news.proofs.Order.{lt_from_is_lt}
use Rattle.swim_wire.specs.declared.update.Update.{Update}
use Rattle.swim_news.specs.declared.change.Change.{Change}
use Rattle.swim_news.specs.declared.change.Change.TheVariants.{New, Changed, Gone}
use Rattle.swim_news.specs.News.{Became, Stays, Turns, old_of, new_of, change_of, who_of, IsOneMember, old_rows, new_rows, changes_in, AreFrom, AreInTurn, AreNews}
use Rattle.swim_news.specs.Machinery.Merging.{listed, Takes}

pub takes_last : (old new : List Update) (r : Update) (older : List Update) → old ≡ r ∷ older → length new ≡ 0 → Takes old new (Some (Gone r)) older new
takes_last old [] r older o n = record { fate = Turns (Gone r); one = tt; old_is = o; new_is = refl; change_is = refl; order = rw o (λ x p q. (p.0, p.1, tt)) }
takes_last old (s ∷ news) r older o n = absurd cc

pub takes_first_new : (old new : List Update) (s : Update) (newer : List Update) → length old ≡ 0 → new ≡ s ∷ newer → Takes old new (Some (New s)) old newer
takes_first_new [] new s newer o n = record { fate = Turns (New s); one = tt; old_is = refl; new_is = n; change_is = refl; order = rw n (λ x p q. (q.0, tt, q.1)) }
takes_first_new (r ∷ olds) new s newer o n = absurd cc

pub takes_gone : (old new : List Update) (r s : Update) (older newer : List Update) → old ≡ r ∷ older → new ≡ s ∷ newer → is_lt (nat_cmp r.who s.who) ≡ true → Takes old new (Some (Gone r)) older new
takes_gone old new r s older newer o n less = record { fate = Turns (Gone r); one = tt; old_is = o; new_is = refl; change_is = refl; order = rw (o, n) (λ x p q. (p.0, p.1, (omega (arith, lt_from_is_lt r.who s.who less), q.1))) }

pub takes_new : (old new : List Update) (r s : Update) (older newer : List Update) → old ≡ r ∷ older → new ≡ s ∷ newer → is_lt (nat_cmp s.who r.who) ≡ true → Takes old new (Some (New s)) old newer
takes_new old new r s older newer o n less = record { fate = Turns (New s); one = tt; old_is = refl; new_is = n; change_is = refl; order = rw (o, n) (λ x p q. (q.0, (omega (arith, lt_from_is_lt s.who r.who less), p.1), q.1)) }

pub takes_same : (old new : List Update) (r s : Update) (older newer : List Update) → old ≡ r ∷ older → new ≡ s ∷ newer → r ≡ s → Takes old new None older newer
takes_same old new r s older newer o n same = record { fate = Stays r; one = tt; old_is = o; new_is = n ∙ ap (λ w. w ∷ newer) (sym same); change_is = refl; order = rw (o, n, sym same) (λ x p q. (p.0, p.1, q.1)) }

pub takes_changed : (old new : List Update) (r s : Update) (older newer : List Update) → old ≡ r ∷ older → new ≡ s ∷ newer → is_lt (nat_cmp r.who s.who) ≡ false → is_lt (nat_cmp s.who r.who) ≡ false → (r ≡ s → ⊥) → Takes old new (Some (Changed r s)) older newer
takes_changed old new r s older newer o n le ge other =
    let same : r.who ≡ s.who = omega (arith, ge_from_not_lt r.who s.who le, ge_from_not_lt s.who r.who ge) in
    record { fate = Turns (Changed r s); one = (same, other); old_is = o; new_is = n; change_is = refl; order = rw (o, n) (λ x p q. (p.0, p.1, subst (λ w. AreFrom (w + 1) newer) (sym same) q.1)) }

-- the least that the member after these may be
abbrev pub after : ℕ → List Became → ℕ
after x [] = x
after x (f ∷ fates) = after (who_of f + 1) fates

-- so far, with these rows and changes left
pub record Merging (old new : List Update) (changes : List Change) (older newer : List Update)
    : Type 0 where
  pub fates : List Became
  pub order : AreInTurn 0 fates
  pub old_are : old ≡ old_rows fates ++ older
  pub new_are : new ≡ new_rows fates ++ newer
  pub changes_are : changes ≡ changes_in fates
  pub old_order : AreFrom (after 0 fates) older
  pub new_order : AreFrom (after 0 fates) newer

pub merged_none : (old new : List Update) → AreFrom 0 old → AreFrom 0 new → Merging old new [] old new
merged_none old new o n = record { fates = []; order = tt; old_are = refl; new_are = refl; changes_are = refl; old_order = o; new_order = n }

turn-append : (x : ℕ) (fates : List Became) (f : Became) → AreInTurn x fates → after x fates ≤ who_of f → IsOneMember f → AreInTurn x (fates ++ f ∷ [])
turn-append x [] f all le one = (le, one, tt)
turn-append x (g ∷ fates) f all le one = (all.0, all.1, turn-append (who_of g + 1) fates f all.2 le one)

after-append : (x : ℕ) (fates : List Became) (f : Became) → after x (fates ++ f ∷ []) ≡ who_of f + 1
after-append x [] f = refl
after-append x (g ∷ fates) f = after-append (who_of g + 1) fates f

old_rows-append : (fates : List Became) (f : Became) → old_rows (fates ++ f ∷ []) ≡ old_rows fates ++ old_of f
old_rows-append [] f = append-nil (old_of f)
old_rows-append (g ∷ fates) f = ap (λ w. old_of g ++ w) (old_rows-append fates f) ∙ sym (append_assoc (old_of g) (old_rows fates) (old_of f))

new_rows-append : (fates : List Became) (f : Became) → new_rows (fates ++ f ∷ []) ≡ new_rows fates ++ new_of f
new_rows-append [] f = append-nil (new_of f)
new_rows-append (g ∷ fates) f = ap (λ w. new_of g ++ w) (new_rows-append fates f) ∙ sym (append_assoc (new_of g) (new_rows fates) (new_of f))

changes_in-append : (fates : List Became) (f : Became) → changes_in (fates ++ f ∷ []) ≡ changes_in fates ++ change_of f
changes_in-append [] f = append-nil (change_of f)
changes_in-append (g ∷ fates) f = ap (λ w. change_of g ++ w) (changes_in-append fates f) ∙ sym (append_assoc (change_of g) (changes_in fates) (change_of f))

pub merged_more : (old new : List Update) (changes : List Change) (olds news : List Update) (change : Option Change) (older newer : List Update) → Merging old new changes olds news → Takes olds news change older newer → Merging old new (changes ++ listed change) older newer
merged_more old new changes olds news change older newer m t =
    let fates = m.fates ++ t.fate ∷ [] in
    let order = t.order (after 0 m.fates) m.old_order m.new_order in
    record {
      fates = fates;
      order = turn-append 0 m.fates t.fate m.order order.0 t.one;
      old_are = m.old_are ∙ (ap (λ w. old_rows m.fates ++ w) t.old_is ∙ (sym (append_assoc (old_rows m.fates) (old_of t.fate) older) ∙ ap (λ w. w ++ older) (sym (old_rows-append m.fates t.fate))));
      new_are = m.new_are ∙ (ap (λ w. new_rows m.fates ++ w) t.new_is ∙ (sym (append_assoc (new_rows m.fates) (new_of t.fate) newer) ∙ ap (λ w. w ++ newer) (sym (new_rows-append m.fates t.fate))));
      changes_are = ap (λ w. w ++ listed change) m.changes_are ∙ (ap (λ w. changes_in m.fates ++ w) t.change_is ∙ sym (changes_in-append m.fates t.fate));
      old_order = subst (λ w. AreFrom w older) (sym (after-append 0 m.fates t.fate)) order.1;
      new_order = subst (λ w. AreFrom w newer) (sym (after-append 0 m.fates t.fate)) order.2;
    }

-- the first member's row is as it was
pub merged_same : (old new : List Update) (changes : List Change) (olds news older newer : List Update) → Merging old new changes olds news → Takes olds news None older newer → Merging old new changes older newer
merged_same old new changes olds news older newer m t = subst (λ w. Merging old new w older newer) (append-nil changes) (merged_more old new changes olds news None older newer m t)

pub merged_all : (old new : List Update) (changes : List Change) → Merging old new changes [] [] → AreNews old new changes
merged_all old new changes m = record {
  fates = m.fates;
  order = m.order;
  old_are = sym (m.old_are ∙ append-nil (old_rows m.fates));
  new_are = sym (m.new_are ∙ append-nil (new_rows m.fates));
  changes_are = sym m.changes_are;
}
