-- Bytes and lines that are read.
use Rattle.std.proofs.Common.{◌≡◌, ◌≢◌, ℕ, List, [], ◌∷◌, ◌++◌, refl, ap, sym, ◌∙◌, subst}
use Rattle.std.specs.Prelude.{Option, Some, None, Ok, Err}
use Rattle.std.specs.Io.KnownBytes.{Consumes, Keeps, IsAtEnd}
use Rattle.std.proofs.lemmas.List.{append-nil}
use Rattle.std.specs.declared.io.Error.{Error}
use Rattle.std.specs.declared.io.ErrorKind.{ErrorKind}
use Rattle.std.specs.declared.io.ErrorKind.TheVariants.{Interrupted, WouldBlock}
use Rattle.std.specs.IoError.{error_kind}
use Rattle.swim_words.specs.Words.{Lacks}
use Rattle.swim_shell.specs.declared.lines.LineText.{LineText}
use Rattle.swim_shell.specs.declared.lines.NoLine.{NoLine}
use Rattle.swim_shell.specs.declared.lines.NoLine.TheVariants.{NotYet, Ended}
use Rattle.swim_shell.specs.Lines.{Takes, ReadsByte, IsLine, TakesLine, TakesNoLine, fault_at, ReadsOn, EndsFor}
use Rattle.std.proofs.lemmas.List.{append_assoc}

consumes_more : (a b c : Option (List ℕ)) (xs ys : List ℕ) → Consumes a b xs → Consumes b c ys → Consumes a c (xs ++ ys)
consumes_more None b c xs ys h k = tt
consumes_more (Some x) None c xs ys h k = absurd h
consumes_more (Some x) (Some y) None xs ys h k = absurd k
consumes_more (Some x) (Some y) (Some z) xs ys h k = h ∙ (ap (λ w. xs ++ w) k ∙ sym (append_assoc xs ys z))

consumes_none : (a : Option (List ℕ)) → Consumes a a []
consumes_none None = tt
consumes_none (Some x) = refl

keeps_consumes : (a b : Option (List ℕ)) → Keeps a b → Consumes a b []
keeps_consumes None b h = tt
keeps_consumes (Some x) None h = absurd h
keeps_consumes (Some x) (Some y) h = sym h

-- ---- bytes

-- nothing was read
pub takes_kept : (a : Option (List ℕ)) (kept rest bytes : List ℕ) → kept ≡ bytes ++ rest → Takes a a kept rest bytes
takes_kept a kept rest bytes e = record { came = []; took = consumes_none a; whole = append-nil kept ∙ e }

pub takes_nothing : (a : Option (List ℕ)) (kept : List ℕ) → Takes a a kept kept []
takes_nothing a kept = takes_kept a kept kept [] refl

pub takes_more : (a b c : Option (List ℕ)) (k l m xs ys : List ℕ) → Takes a b k l xs → Takes b c l m ys → Takes a c k m (xs ++ ys)
takes_more a b c k l m xs ys s t = record {
  came = s.came ++ t.came;
  took = consumes_more a b c s.came t.came s.took t.took;
  whole = sym (append_assoc k s.came t.came) ∙ (ap (λ w. w ++ t.came) s.whole ∙ (append_assoc xs l t.came ∙ (ap (λ w. xs ++ w) t.whole ∙ sym (append_assoc xs ys m))));
}

-- ---- lines

-- a byte goes from what is kept ahead to the part of a line
pub part_more : (a b c : Option (List ℕ)) (x q next k l : List ℕ) (read : Option ℕ) (byte : ℕ) → Takes a b x (q ++ k) [] → ReadsByte {E = Error} b c k l (Ok read) → read ≡ Some byte → next ≡ q ++ byte ∷ [] → Takes a c x (next ++ l) []
part_more a b c x q next k l read byte s r one is = let t : Takes b c k l (byte ∷ []) = subst (λ y. ReadsByte {E = Error} b c k l (Ok y)) one r in takes_more a b c x (q ++ k) (next ++ l) [] [] s (record {
  came = t.came;
  took = t.took;
  whole = append_assoc q k t.came ∙ (ap (λ w. q ++ w) t.whole ∙ (sym (append_assoc q (byte ∷ []) l) ∙ ap (λ w. w ++ l) (sym is)));
})

-- a part stays as it is
pub part_same : (a b c : Option (List ℕ)) (x q k l : List ℕ) → Takes a b x (q ++ k) [] → Takes b c k l [] → Takes a c x (q ++ l) []
part_same a b c x q k l s t = takes_more a b c x (q ++ k) (q ++ l) [] [] s (record {
  came = t.came;
  took = t.took;
  whole = append_assoc q k t.came ∙ ap (λ w. q ++ w) t.whole;
})

-- a part and its end are a line
pub part_whole : (a b c : Option (List ℕ)) (x q next k l : List ℕ) (read : Option ℕ) (byte : ℕ) (line : LineText) → Takes a b x (q ++ k) [] → ReadsByte {E = Error} b c k l (Ok read) → read ≡ Some byte → byte ≡ 10 → Lacks 10 q → IsLine q line → next ≡ [] → TakesLine a c x (next ++ l) line
part_whole a b c x q next k l read byte line s r one ends lacks is empty = let t : Takes b c k l (10 ∷ []) = subst (λ y. ReadsByte {E = Error} b c k l (Ok y)) (one ∙ ap Some ends) r in record {
  text = q;
  took = takes_more a b c x (q ++ k) (next ++ l) [] (q ++ 10 ∷ []) s (record {
    came = t.came;
    took = t.took;
    whole = append_assoc q k t.came ∙ (ap (λ w. q ++ w) t.whole ∙ (sym (append_assoc q (10 ∷ []) l) ∙ ap (λ w. (q ++ 10 ∷ []) ++ (w ++ l)) (sym empty)));
  });
  lacks = lacks;
  is = is;
}

pub not_yet : (a b : Option (List ℕ)) (x y : List ℕ) → Takes a b x y [] → TakesNoLine a b x y NotYet
not_yet a b x y s = record { took = s; ended = λ e. absurd cc; lacks = λ e. absurd (e refl) }

-- nothing but the part is kept
pub part_alone : (a b c : Option (List ℕ)) (x q k l : List ℕ) (why : NoLine) → Takes a b x (q ++ k) [] → Takes b c k l [] → l ≡ [] → Lacks 10 q → (why ≡ Ended → IsAtEnd c) → TakesNoLine a c x (q ++ l) why
part_alone a b c x q k l why s t none lacks at = record {
  took = part_same a b c x q k l s t;
  ended = at;
  lacks = λ _. subst (Lacks 10) (sym (append-nil q) ∙ ap (λ w. q ++ w) (sym none)) lacks;
}

-- ---- answers of reads

pub on_byte : (read : Option ℕ) (byte : ℕ) → read ≡ Some byte → byte ≢ 10 → ReadsOn (Ok read)
on_byte read byte is other = subst (λ v. ReadsOn (Ok v)) (sym is) other

pub on_fault : (e : Error) (kind : ErrorKind) (found : Option NoLine) → found ≡ fault_at kind → kind ≡ error_kind e → found ≡ None → ReadsOn (Err e)
on_fault e kind found is k none = sym (is ∙ ap fault_at k) ∙ none

pub ends_input : (read : Option ℕ) → read ≡ None → EndsFor Ended (Ok read)
ends_input read is = subst (λ v. EndsFor Ended (Ok v)) (sym is) refl

-- what a read at the end of input tells
pub at_end : (a b : Option (List ℕ)) (kept rest : List ℕ) (read : Option ℕ) → read ≡ None → ReadsByte {E = Error} a b kept rest (Ok read) → Takes a b kept rest [] × IsAtEnd b × (rest ≡ [])
at_end a b kept rest read is r = subst (λ v. ReadsByte {E = Error} a b kept rest (Ok v)) is r

pub ends_fault : (e : Error) (kind : ErrorKind) (found : Option NoLine) (why : NoLine) → found ≡ fault_at kind → kind ≡ error_kind e → found ≡ Some why → EndsFor why (Err e)
ends_fault e kind found why is k some = sym (is ∙ ap fault_at k) ∙ some

no_end : (kind : ErrorKind) → fault_at kind ≡ Some Ended → ⊥
no_end Interrupted e = cc
no_end WouldBlock e = cc
no_end _ e = cc

-- a failed read is no end of the input
pub fault_no_end : (kind : ErrorKind) (found : Option NoLine) (why : NoLine) → found ≡ fault_at kind → found ≡ Some why → why ≡ Ended → ⊥
fault_no_end kind found why is some ended = no_end kind (sym is ∙ (some ∙ ap Some ended))
