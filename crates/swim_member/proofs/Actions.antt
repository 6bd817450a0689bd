-- Actions one after another.
use Rattle.std.proofs.Common.{◌≡◌, ℕ, ◌+◌, ◌-◌, refl, sym, ◌∙◌, ap, List, [], ◌∷◌, ◌++◌, append_assoc, append-nil, replicate, zero, suc, ◌<◌, arith}
use Rattle.swim_member.specs.State.{State, Change, Heard, Sent, Noted}
use Rattle.swim_member.specs.Events.{Action, perform, each_from, outs, notes}
use Rattle.swim_member.specs.Machinery.Steps.{apply, apply_all, changes_from, after, notes_by, outs_by}

pub after-append : (s : State) (fs gs : List Action) → after s (fs ++ gs) ≡ after (after s fs) gs
after-append s [] gs = refl
after-append s (m ∷ fs) gs = after-append (apply_all (perform s m) s) fs gs

pub notes_by-append : (s : State) (fs gs : List Action) → notes_by s (fs ++ gs) ≡ notes_by s fs ++ notes_by (after s fs) gs
notes_by-append s [] gs = refl
notes_by-append s (m ∷ fs) gs =
    ap (λ n. notes (perform s m) ++ n) (notes_by-append (apply_all (perform s m) s) fs gs) ∙ sym (append_assoc (notes (perform s m)) (notes_by (apply_all (perform s m) s) fs) (notes_by (after (apply_all (perform s m) s) fs) gs))

pub outs_by-append : (s : State) (fs gs : List Action) → outs_by s (fs ++ gs) ≡ outs_by s fs ++ outs_by (after s fs) gs
outs_by-append s [] gs = refl
outs_by-append s (m ∷ fs) gs =
    ap (λ n. outs (perform s m) ++ n) (outs_by-append (apply_all (perform s m) s) fs gs) ∙ sym (append_assoc (outs (perform s m)) (outs_by (apply_all (perform s m) s) fs) (outs_by (after (apply_all (perform s m) s) fs) gs))

pub apply_all-append : (fs gs : List Change) (s : State) → apply_all (fs ++ gs) s ≡ apply_all fs (apply_all gs s)
apply_all-append [] gs s = refl
apply_all-append (h ∷ fs) gs s = ap (apply h) (apply_all-append fs gs s)

notes-append : (fs gs : List Change) → notes (fs ++ gs) ≡ notes gs ++ notes fs
notes-append [] gs = sym (append-nil (notes gs))
notes-append (Noted n ∷ fs) gs = ap (λ ns. ns ++ n ∷ []) (notes-append fs gs) ∙ append_assoc (notes gs) (notes fs) (n ∷ [])
notes-append (_ ∷ fs) gs = notes-append fs gs

pub outs-append : (fs gs : List Change) → outs (fs ++ gs) ≡ outs gs ++ outs fs
outs-append [] gs = sym (append-nil (outs gs))
outs-append (Sent to p ∷ fs) gs = ap (λ ns. ns ++ record { to = to; datagram = p } ∷ []) (outs-append fs gs) ∙ append_assoc (outs gs) (outs fs) (record { to = to; datagram = p } ∷ [])
outs-append (_ ∷ fs) gs = outs-append fs gs

-- what happens by actions one after another, the newest first
pub news-append : (s : State) (ms ns : List Action) → changes_from s (ms ++ ns) ≡ changes_from (after s ms) ns ++ changes_from s ms
news-append s [] ns = sym (append-nil (changes_from s ns))
news-append s (m ∷ ms) ns =
    let t : State = apply_all (perform s m) s in
    ap (λ happened. happened ++ perform s m) (news-append t ms ns)
    ∙ append_assoc (changes_from (after t ms) ns) (changes_from t ms) (perform s m)

pub after-news : (s : State) (ms : List Action) → apply_all (changes_from s ms) s ≡ after s ms
after-news s [] = refl
after-news s (m ∷ ms) =
    apply_all-append (changes_from (apply_all (perform s m) s) ms) (perform s m) s ∙ after-news (apply_all (perform s m) s) ms

pub notes-news : (s : State) (ms : List Action) → notes (changes_from s ms) ≡ notes_by s ms
notes-news s [] = refl
notes-news s (m ∷ ms) =
    notes-append (changes_from (apply_all (perform s m) s) ms) (perform s m) ∙ ap (λ n. notes (perform s m) ++ n) (notes-news (apply_all (perform s m) s) ms)

pub outs-news : (s : State) (ms : List Action) → outs (changes_from s ms) ≡ outs_by s ms
outs-news s [] = refl
outs-news s (m ∷ ms) =
    outs-append (changes_from (apply_all (perform s m) s) ms) (perform s m) ∙ ap (λ n. outs (perform s m) ++ n) (outs-news (apply_all (perform s m) s) ms)

-- one more of the moves that are left
pub after-next : (n k : ℕ) (s : State) (m : Action) → k < n → after s (replicate (n - k) m) ≡ after (apply_all (perform s m) s) (replicate (n - (k + 1)) m)
after-next n k s m l =
    let one : n - k ≡ suc (n - (k + 1)) = omega arith in
    ap (λ i. after s (replicate i m)) one

pub each-next : (n k : ℕ) (f : ℕ → Action) → k < n → each_from k (n - k) f ≡ f k ∷ each_from (k + 1) (n - (k + 1)) f
each-next n k f l =
    let one : n - k ≡ suc (n - (k + 1)) = omega arith in
    ap (λ i. each_from k i f) one

-- nothing happens by a move any more
pub after-idle : (n : ℕ) (s : State) (m : Action) → perform s m ≡ [] → after s (replicate n m) ≡ s
after-idle zero s m h = refl
after-idle (suc n) s m h = ap (λ p. after (apply_all p s) (replicate n m)) h ∙ after-idle n s m h

apply-settings : (h : Change) (s : State) → (apply h s).settings ≡ s.settings
apply-settings (Heard u) s = refl
apply-settings _ s = refl

-- settings stay
pub settings-apply_all : (happened : List Change) (s : State) → (apply_all happened s).settings ≡ s.settings
settings-apply_all [] s = refl
settings-apply_all (h ∷ happened) s = apply-settings h (apply_all happened s) ∙ settings-apply_all happened s

pub settings-after : (s : State) (ms : List Action) → (after s ms).settings ≡ s.settings
settings-after s [] = refl
settings-after s (m ∷ ms) = settings-after (apply_all (perform s m) s) ms ∙ settings-apply_all (perform s m) s
