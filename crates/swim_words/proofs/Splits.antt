-- A text that is cut at the first byte of a sort has one cut.
use Rattle.std.proofs.Common.{◌≡◌, ℕ, Bool, true, List, [], ◌∷◌, refl, sym, ◌∙◌}
use Rattle.std.specs.Prelude.{◌≢◌, ◌==◌, All, not}
use Rattle.std.specs.List.{list_all}
use Rattle.std.proofs.lemmas.List.Elements.{All-append, All-cons, All-head, All-tail, All-weaker}
use Rattle.std.proofs.lemmas.List.Sums.{AllPass-from_list_all}
use Rattle.std.proofs.lemmas.Bool.{eq-eqb}
use Rattle.swim_words.specs.Words.{Lacks, split_by}

abbrev pub differs : ℕ → ℕ → Type 0
differs byte found = found ≢ byte

first_apart : (byte x : ℕ) (xs : List ℕ) → Lacks byte (x ∷ xs) → x ≢ byte
first_apart byte x xs lacks = All-head (differs byte) x xs lacks

rest_apart : (byte x : ℕ) (xs : List ℕ) → Lacks byte (x ∷ xs) → Lacks byte xs
rest_apart byte x xs lacks = All-tail (differs byte) x xs lacks

-- a text without the byte isn't cut by it
pub no_split : (byte : ℕ) (before after text : List ℕ) → Lacks byte text → text ≢ split_by byte before after
no_split byte [] after [] lacks e = absurd (cc)
no_split byte [] after (x ∷ xs) lacks e = first_apart byte x xs lacks (cc)
no_split byte (b ∷ before) after [] lacks e = absurd (cc)
no_split byte (b ∷ before) after (x ∷ xs) lacks e = no_split byte before after xs (rest_apart byte x xs lacks) (cc)

same_cut : (byte : ℕ) (a b c d : List ℕ) → Lacks byte a → Lacks byte c → split_by byte a b ≡ split_by byte c d → (a ≡ c) × (b ≡ d)
same_cut byte [] b [] d one other e = (refl, cc)
same_cut byte [] b (y ∷ c) d one other e = absurd (first_apart byte y c other (cc))
same_cut byte (x ∷ a) b [] d one other e = absurd (first_apart byte x a one (cc))
same_cut byte (x ∷ a) b (y ∷ c) d one other e =
    let rest : split_by byte a b ≡ split_by byte c d = cc in
    let same = same_cut byte a b c d (rest_apart byte x a one) (rest_apart byte y c other) rest in
    (let head : x ≡ y = cc in let tail = same.0 in cc, same.1)

-- two cuts of a text at the first such byte are one
pub same_split : (byte : ℕ) (text a b c d : List ℕ) → Lacks byte a → text ≡ split_by byte a b → Lacks byte c → text ≡ split_by byte c d → (a ≡ c) × (b ≡ d)
same_split byte text a b c d one is other same = same_cut byte a b c d one other (sym is ∙ same)

-- whether the byte isn't in the text
abbrev pub lacks : ℕ → List ℕ → Bool
lacks byte text = list_all (λ found. not (found == byte)) text

-- what is tested of a text that is written out
pub lacks_byte : (byte : ℕ) (text : List ℕ) → lacks byte text ≡ true → Lacks byte text
lacks_byte byte text test =
    let passes : All (λ found. not (found == byte) ≡ true) text = AllPass-from_list_all (λ found. not (found == byte)) text test in
    All-weaker (λ found. not (found == byte) ≡ true) (differs byte) (λ found other same. let is = eq-eqb found byte same in absurd (cc)) text passes

-- nor is it in a text that is cut by another byte, if it isn't in the parts
pub lacks_split : (byte cut : ℕ) (before after : List ℕ) → cut ≢ byte → Lacks byte before → Lacks byte after → Lacks byte (split_by cut before after)
lacks_split byte cut before after other one rest =
    All-append (differs byte) before (cut ∷ after) one (All-cons (differs byte) cut after other rest)
