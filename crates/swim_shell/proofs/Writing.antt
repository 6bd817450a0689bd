-- Answers that are written.
use Rattle.std.proofs.Common.{◌≡◌, Bool, false, ℕ, ◌+◌, ◌-◌, List, [], ◌∷◌, ◌++◌, length, take, drop, refl, subst, ap, sym, ◌∙◌}
use Rattle.std.specs.Prelude.{Option, Some, None, Result, Ok, Err}
use Rattle.std.specs.Io.KnownBytes.{Appends, Keeps}
use Rattle.std.specs.IoError.{error_kind}
use Rattle.std.specs.declared.io.Error.{Error}
use Rattle.std.specs.declared.io.ErrorKind.{ErrorKind}
use Rattle.std.proofs.lemmas.List.{append-nil, drop-drop, take-append-drop, take_rest}
use Rattle.swim_wire.specs.declared.update.Update.{Update}
use Rattle.swim_shell.specs.Answers.{Gives, row_text, rows_text}
use Rattle.swim_shell.specs.declared.answer_writer.WriteOutcome.{WriteOutcome}
use Rattle.swim_shell.specs.Writes.{sent_by, WritesOn}
use Rattle.std.proofs.lemmas.List.{append_assoc}

appends_none : (u v : Option (List ℕ)) → Keeps u v → Appends u v []
appends_none None v k = tt
appends_none (Some x) None k = absurd k
appends_none (Some x) (Some y) k = k ∙ sym (append-nil x)

appends_more : (u v w : Option (List ℕ)) (xs ys : List ℕ) → Appends u v xs → Appends v w ys → Appends u w (xs ++ ys)
appends_more None v w xs ys h k = tt
appends_more (Some x) None w xs ys h k = absurd h
appends_more (Some x) (Some y) None xs ys h k = absurd k
appends_more (Some x) (Some y) (Some z) xs ys h k = k ∙ (ap (λ t. t ++ ys) h ∙ append_assoc x xs ys)

pub gives_none : (u v : Option (List ℕ)) (left : List ℕ) → Keeps u v → Gives u v left left []
gives_none u v left k = record { went = []; wrote = appends_none u v k; whole = append-nil left }

pub keeps_same : (u : Option (List ℕ)) → Keeps u u
keeps_same None = tt
keeps_same (Some x) = refl

pub appends_nothing : (u : Option (List ℕ)) → Appends u u []
appends_nothing u = appends_none u u (keeps_same u)

pub gives_nothing : (u : Option (List ℕ)) (left : List ℕ) → Gives u u left left []
gives_nothing u left = gives_none u u left (keeps_same u)

pub gives_some : (u v : Option (List ℕ)) (xs bytes : List ℕ) (w n : ℕ) → bytes ≡ xs → Appends u v (take n (take (length bytes - w) (drop w bytes))) → Gives u v (drop w xs) (drop (w + n) xs) []
gives_some u v xs bytes w n is a = record {
  went = take n (drop w xs);
  wrote = subst (λ r. Appends u v (take n r)) (take_rest bytes w ∙ ap (λ r. drop w r) is) a;
  whole = append-nil (drop w xs) ∙ (sym (take-append-drop n (drop w xs)) ∙ ap (λ r. take n (drop w xs) ++ r) (drop-drop n w xs));
}

pub gives_more : (u v w : Option (List ℕ)) (k l m xs ys : List ℕ) → Gives u v k l xs → Gives v w l m ys → Gives u w k m (xs ++ ys)
gives_more u v w k l m xs ys s t = record {
  went = s.went ++ t.went;
  wrote = appends_more u v w s.went t.went s.wrote t.wrote;
  whole = sym (append_assoc k xs ys) ∙ (ap (λ r. r ++ ys) s.whole ∙ (append_assoc s.went l ys ∙ (ap (λ r. s.went ++ r) t.whole ∙ sym (append_assoc s.went t.went m))));
}

pub gives_on : (u v w : Option (List ℕ)) (k l m : List ℕ) → Gives u v k l [] → Gives v w l m [] → Gives u w k m []
gives_on u v w k l m s t = gives_more u v w k l m [] [] s t

rows_text-append : (rows : List Update) (row : Update) → rows_text (rows ++ row ∷ []) ≡ rows_text rows ++ row_text row
rows_text-append [] row = append-nil (row_text row)
rows_text-append (r ∷ rows) row = ap (λ w. row_text r ++ w) (rows_text-append rows row) ∙ sym (append_assoc (row_text r) (rows_text rows) (row_text row))

-- the line of one row more
pub row_written : (old text new : List ℕ) (rows more : List Update) (row : Update) → text ≡ old ++ rows_text rows → new ≡ text ++ row_text row → more ≡ rows ++ row ∷ [] → new ≡ old ++ rows_text more
row_written old text new rows more row so_far is next = is ∙ (ap (λ w. w ++ row_text row) so_far ∙ (append_assoc old (rows_text rows) (row_text row) ∙ (ap (λ w. old ++ w) (sym (rows_text-append rows row)) ∙ ap (λ w. old ++ rows_text w) (sym next))))

-- steps after which there are more

pub on_more : (step : Result Bool Error) → step ≡ Ok false → WritesOn step
on_more step is = subst WritesOn (sym is) tt

pub on_fault : (step : Result Bool Error) (e : Error) (kind : ErrorKind) (found : Option WriteOutcome) → step ≡ Err e → found ≡ sent_by kind → kind ≡ error_kind e → found ≡ None → WritesOn step
on_fault step e kind found failed is k none = subst WritesOn (sym failed) (sym (is ∙ ap sent_by k) ∙ none)
