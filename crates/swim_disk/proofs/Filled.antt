-- What a crash leaves that fills all that was written since the last sync with one byte.
use Rattle.std.proofs.Common.{suc, ◌⊎◌, Bool, true, false, inl, inr, ◌≡◌, ⊎_elim, ℕ, ◌+◌, ◌-◌, ◌<◌, ◌≤◌, List, [], ◌∷◌, ◌++◌, length, take, drop, get_or, replicate, slice_index, refl, sym, ◌∙◌, ap, subst, arith, length-append, length-drop}
use Rattle.std.proofs.lemmas.Bool.{cases_lt, false≢true}
use Rattle.std.proofs.lemmas.List.{length-take, get_or-take, get_or-drop, take-append-drop, ext_get_or, get_or-replicate, length-replicate, get_or_append_left, get_or-append_right}
use Rattle.swim_disk.specs.Disk.{Torn, padded, overlaid}
use Rattle.swim_disk.specs.Machinery.Torn.{overlaid_torn, length-front}
use Rattle.swim_disk.specs.Replay.{Disk, fresh, step, written, replay, Leaves, Reaches, fill_all}
use Rattle.swim_disk.specs.Choice.{left_by}
use Rattle.swim_disk.specs.Machinery.Made.{AreFilled, AreWrites, IsFilled, made, kept_by}
use Rattle.swim_disk.specs.Machinery.Reached.{content_reached, synced_reached}
use Rattle.swim_disk.specs.declared.mem.Choice.{Choice}
use Rattle.swim_disk.specs.declared.mem.Choice.TheVariants.{Keep, Drop, Fill}
use Rattle.swim_disk.proofs.Patched.{length-overlaid, inside, outside, IsOver, same-over, is-over}
use Rattle.swim_disk.proofs.Making.{beside_over, beside_once, made_append, content_kept, synced_same, writes_drop}
use Rattle.swim_disk.specs.declared.past.Call.{Call}
use Rattle.swim_disk.specs.declared.past.Call.TheVariants.{Write, Sync}

pub torn_filled : (b at n : ℕ) (c : List ℕ) → Torn at n c (overlaid c at (replicate n b))
torn_filled b at n c = subst (λ k. Torn at k c (overlaid c at (replicate n b))) (length-replicate n b) (overlaid_torn c at (replicate n b))

pub length_filled : (b at n : ℕ) (c : List ℕ) → at + n ≤ length c → length (overlaid c at (replicate n b)) ≡ length c
length_filled b at n c within =
    let torn = torn_filled b at n c in
    omega (arith, within, torn.no_shorter, torn.no_longer)

pub filled_inside : (b at n : ℕ) (c : List ℕ) (i : ℕ) → at ≤ i → i < at + n → slice_index (overlaid c at (replicate n b)) i ≡ b
filled_inside b at n c i low high =
    let front = length-front c at in
    let size : length (take at (padded c at) ++ replicate n b) ≡ at + n = omega (arith, length-append (take at (padded c at)) (replicate n b), front, length-replicate {A = ℕ} n b) in
    get_or_append_left (take at (padded c at) ++ replicate n b) (drop (at + length (replicate n b)) c) 0 i (omega (arith, size, high))
    ∙ get_or-append_right (take at (padded c at)) (replicate n b) at i 0 front low
    ∙ get_or-replicate n (i - at) b 0 (omega (arith, low, high))

-- a torn write stays one where the same range is filled before and after it
torn_fill : (b at n p k : ℕ) (c x : List ℕ) → p + k ≤ length c → Torn at n c x → Torn at n (overlaid c p (replicate k b)) (overlaid x p (replicate k b))
torn_fill b at n p k c x within torn =
    let size_c = length_filled b p k c within in
    let size_x = length_filled b p k x (omega (arith, within, torn.no_shorter)) in
    record {
      no_shorter = omega (arith, size_c, size_x, torn.no_shorter);
      no_longer = omega (arith, size_c, size_x, torn.no_longer);
      before = λ i less low. same i (omega (arith, less, size_c)) (torn.before i (omega (arith, less, size_c)) low);
      after = λ i less high. same i (omega (arith, less, size_c)) (torn.after i (omega (arith, less, size_c)) high);
    }
  where
    same : (i : ℕ) → i < length c → slice_index x i ≡ slice_index c i → slice_index (overlaid x p (replicate k b)) i ≡ slice_index (overlaid c p (replicate k b)) i
    same i less is = ⊎_elim
        (λ (low : i < p). (torn_filled b p k x).before i (omega (arith, less, torn.no_shorter)) low ∙ is ∙ sym ((torn_filled b p k c).before i less low))
        (λ (low : p ≤ i). ⊎_elim
        (λ (inside : i < p + k). filled_inside b p k x i low inside ∙ sym (filled_inside b p k c i low inside))
        (λ (high : p + k ≤ i). (torn_filled b p k x).after i (omega (arith, less, torn.no_shorter)) high ∙ is ∙ sym ((torn_filled b p k c).after i less high))
        (cases_lt i (p + k)))
        (cases_lt i p)

-- each range ends within so many bytes
abbrev pub EndsBy : ℕ → List (ℕ × ℕ) → Type 0
EndsBy n [] = Unit {0}
EndsBy n (write ∷ earlier) = (write.0 + write.1 ≤ n) × EndsBy n earlier

pub ends_later : (m n : ℕ) (writes : List (ℕ × ℕ)) → m ≤ n → EndsBy m writes → EndsBy n writes
ends_later m n [] le ends = tt
ends_later m n (write ∷ earlier) le ends = (omega (arith, le, ends.0), ends_later m n earlier le ends.1)

torn_fill_all : (b at n : ℕ) (writes : List (ℕ × ℕ)) (c x : List ℕ) → EndsBy (length c) writes → Torn at n c x → Torn at n (fill_all b writes c) (fill_all b writes x)
torn_fill_all b at n [] c x ends torn = torn
torn_fill_all b at n (write ∷ earlier) c x ends torn =
    torn_fill_all b at n earlier _ _ (ends_later (length c) _ earlier (omega (arith, length_filled b write.0 write.1 c ends.0)) ends.1) (torn_fill b at n write.0 write.1 c x ends.0 torn)

-- a written range lies within what it makes
pub length_reaches : (c : List ℕ) (at : ℕ) (bytes : List ℕ) → at + length bytes ≤ length (overlaid c at bytes)
length_reaches c at bytes = omega (arith, length-append (take at (padded c at) ++ bytes) (drop (at + length bytes) c), length-append (take at (padded c at)) bytes, length-front c at)

torn_again : (at n : ℕ) (c x y : List ℕ) → Torn at n c x → Torn at n x y → Torn at n c y
torn_again at n c x y first second = record {
  no_shorter = omega (arith, first.no_shorter, second.no_shorter);
  no_longer = omega (arith, first.no_longer, second.no_longer);
  before = λ i less low. second.before i (omega (arith, less, first.no_shorter)) low ∙ first.before i less low;
  after = λ i less high. second.after i (omega (arith, less, first.no_shorter)) high ∙ first.after i less high;
}

pub record IsReady (b : ℕ) (d : Disk) : Type 0 where
  pub ends : EndsBy (length d.content) d.writes
  pub filled : Reaches d.synced d.writes (fill_all b d.writes d.content)

step_ready : (b : ℕ) (call : Call) (d : Disk) → IsReady b d → IsReady b (step call d)
step_ready b (Write at bytes) d ready =
    let torn = overlaid_torn d.content at bytes.items in
    record {
      ends = (length_reaches d.content at bytes.items, ends_later (length d.content) _ d.writes torn.no_shorter ready.ends);
      filled = (fill_all b d.writes d.content, ready.filled, torn_fill_all b at (length bytes.items) d.writes d.content _ ready.ends (torn_again at (length bytes.items) d.content _ _ torn (torn_filled b at (length bytes.items) (overlaid d.content at bytes.items))));
    }
step_ready b Sync d ready = record { ends = tt; filled = refl }

pub all_ready : (b : ℕ) (d : Disk) (calls : List Call) → IsReady b d → IsReady b (replay d calls)
all_ready b d [] ready = ready
all_ready b d (call ∷ calls) ready = all_ready b (step call d) calls (step_ready b call d ready)

-- a reached content is no shorter than what was synced
reached_longer : (synced : List ℕ) (writes : List (ℕ × ℕ)) (c : List ℕ) → Reaches synced writes c → length synced ≤ length c
reached_longer synced [] c reached = omega (arith, ap (λ (l : List ℕ). length l) reached)
reached_longer synced (write ∷ earlier) c reached = omega (arith, reached_longer synced earlier reached.0 reached.1, reached.2.no_shorter)

pub synced_shorter : (d : Disk) → Leaves d d.content → length d.synced ≤ length d.content
synced_shorter d reached = reached_longer d.synced d.writes d.content reached

-- a disk is no longer after what was written is filled
length_fill_all : (b : ℕ) (writes : List (ℕ × ℕ)) (c : List ℕ) → EndsBy (length c) writes → length (fill_all b writes c) ≡ length c
length_fill_all b [] c ends = refl
length_fill_all b (write ∷ earlier) c ends =
    let same = length_filled b write.0 write.1 c ends.0 in
    length_fill_all b earlier (overlaid c write.0 (replicate write.1 b)) (ends_later (length c) _ earlier (omega (arith, same)) ends.1) ∙ same

fresh_ready : (b : ℕ) (start : List ℕ) (calls : List Call) → IsReady b (replay (fresh start) calls)
fresh_ready b start calls = all_ready b (fresh start) calls (record { ends = tt; filled = refl })

-- ---- what is chosen

pub left_reached : (choice : Choice) (start : List ℕ) (calls : List Call) → Leaves (replay (fresh start) calls) (left_by choice (replay (fresh start) calls))
left_reached Keep start calls = content_reached start calls
left_reached Drop start calls = synced_reached (replay (fresh start) calls)
left_reached (Fill b) start calls = (fresh_ready b start calls).filled

pub left_shorter : (choice : Choice) (start : List ℕ) (calls : List Call) → length (left_by choice (replay (fresh start) calls)) ≤ length (replay (fresh start) calls).content
left_shorter Keep start calls = omega arith
left_shorter Drop start calls = synced_shorter (replay (fresh start) calls) (content_reached start calls)
left_shorter (Fill b) start calls =
    let d = replay (fresh start) calls in
    omega (arith, length_fill_all b d.writes d.content (fresh_ready b start calls).ends)

-- ---- writes of one byte

same_byte : (b n i : ℕ) → i < n → get_or (replicate n b) i 0 ≡ b
same_byte b n i less = get_or-replicate n i b 0 less

-- two of them, in either order
same_swap : (b at n p k : ℕ) (c : List ℕ) → p + k ≤ length c → overlaid (overlaid c at (replicate n b)) p (replicate k b) ≡ overlaid (overlaid c p (replicate k b)) at (replicate n b)
same_swap b at n p k c within = same-over c p (replicate k b) at (replicate n b) _ _ over (is-over c p (replicate k b) at (replicate n b))
  where
    x : List ℕ
    x = overlaid c at (replicate n b)

    len_n : length (replicate n b) ≡ n
    len_n = length-replicate {A = ℕ} n b

    len_k : length (replicate k b) ≡ k
    len_k = length-replicate {A = ℕ} k b

    here : (i : ℕ) → at ≤ i → i < at + length (replicate n b) → get_or (overlaid x p (replicate k b)) i 0 ≡ get_or (replicate n b) (i - at) 0
    here i low high =
        let own : get_or (replicate n b) (i - at) 0 ≡ b = same_byte b n (i - at) (omega (arith, low, high, len_n)) in
        ⊎_elim
        (λ (before : i < p). outside x p (replicate k b) i (inl before) ∙ inside c at (replicate n b) i low high)
        (λ (past : p ≤ i). ⊎_elim
        (λ (both : i < p + length (replicate k b)). inside x p (replicate k b) i past both ∙ same_byte b k (i - p) (omega (arith, past, both, len_k)) ∙ sym own)
        (λ (after : p + length (replicate k b) ≤ i). outside x p (replicate k b) i (inr after) ∙ inside c at (replicate n b) i low high)
        (cases_lt i (p + length (replicate k b))))
        (cases_lt i p)

    over : IsOver c p (replicate k b) at (replicate n b) (overlaid x p (replicate k b))
    over = record {
      size = let one = length-overlaid c at (replicate n b) in let two = length-overlaid x p (replicate k b) in omega (arith, one, two);
      patch = λ i low high. here i low high;
      wrote = λ i out low high. inside x p (replicate k b) i low high;
      rest = λ i out apart. outside x p (replicate k b) i apart ∙ outside c at (replicate n b) i out;
    }

fill_swap : (b at n : ℕ) (writes : List (ℕ × ℕ)) (c : List ℕ) → EndsBy (length c) writes → fill_all b writes (overlaid c at (replicate n b)) ≡ overlaid (fill_all b writes c) at (replicate n b)
fill_swap b at n [] c ends = refl
fill_swap b at n (write ∷ earlier) c ends =
    let next = overlaid c write.0 (replicate write.1 b) in
    ap (λ (l : List ℕ). fill_all b earlier l) (same_swap b at n write.0 write.1 c ends.0)
    ∙ fill_swap b at n earlier next (ends_later (length c) (length next) earlier (omega (arith, length_filled b write.0 write.1 c ends.0)) ends.1)

-- a range that is written again
written_again : (at : ℕ) (v r c : List ℕ) → length r ≡ length v → overlaid (overlaid c at v) at r ≡ overlaid c at r
written_again at v r c same = beside_over at (at + length v) at r (overlaid c at v) c (beside_once at v c) (omega arith) (omega (arith, same))

-- what is left where all writes are filled is what the filled writes make
fill_made : (b : ℕ) (d : Disk) (old new : List Call) → AreWrites old → length new ≡ length old → ((i : ℕ) → IsFilled b (get_or old i Sync) (get_or new i Sync)) → EndsBy (length d.content) d.writes
    → made (fill_all b d.writes d.content) new ≡ fill_all b (replay d old).writes (replay d old).content
fill_made b d [] [] are size each ends = refl
fill_made b d [] (n ∷ new) are size each ends = absurd (omega (arith, size))
fill_made b d (o ∷ old) [] are size each ends = absurd (omega (arith, size))
fill_made b d (Sync ∷ old) (n ∷ new) are size each ends = absurd (false≢true are)
fill_made b d (Write at v ∷ old) (Sync ∷ new) are size each ends = absurd (each 0)
fill_made b d (Write at v ∷ old) (Write from w ∷ new) are size each ends =
    let here : (from ≡ at) × (w.items ≡ replicate (length v.items) b) = each 0 in
    let r = replicate (length v.items) b in
    let torn = overlaid_torn d.content at v.items in
    ap (λ n. made (overlaid (fill_all b d.writes d.content) n w.items) new) here.0
    ∙ ap (λ (l : List ℕ). made (overlaid (fill_all b d.writes d.content) at l) new) here.1
    ∙ ap (λ (l : List ℕ). made l new) (sym (fill_swap b at (length v.items) d.writes d.content ends))
    ∙ ap (λ (l : List ℕ). made (fill_all b d.writes l) new) (sym (written_again at v.items r d.content (length-replicate {A = ℕ} (length v.items) b)))
    ∙ fill_made b (written at v.items d) old new are (omega (arith, size)) (λ i. each (suc i)) (length_reaches d.content at v.items, ends_later (length d.content) _ d.writes torn.no_shorter ends)

-- ---- what becomes of the writes

pub kept_keep : (start : List ℕ) (writes : List Call) (n : ℕ) → made start writes ≡ left_by Keep (kept_by start writes n)
kept_keep start writes n = sym (content_kept start writes n)

pub kept_drop : (start : List ℕ) (writes : List Call) (n : ℕ) → AreWrites writes → made start (take n writes) ≡ left_by Drop (kept_by start writes n)
kept_drop start writes n are = sym (synced_same (fresh (made start (take n writes))) (drop n writes) (writes_drop n writes are))

pub kept_fill : (b : ℕ) (start : List ℕ) (old new : List Call) (n : ℕ) → AreWrites old → AreFilled b n old new → made start new ≡ left_by (Fill b) (kept_by start old n)
kept_fill b start old new n are filled =
    ap (λ (l : List Call). made start l) (sym (take-append-drop n new))
    ∙ made_append start (take n new) (drop n new)
    ∙ ap (λ (l : List Call). made (made start l) (drop n new)) same
    ∙ fill_made b (fresh (made start (take n old))) (drop n old) (drop n new) (writes_drop n old are)
    (omega (arith, length-drop n old, length-drop n new, filled.size)) each tt
  where
    same : take n new ≡ take n old
    same = ext_get_or Sync (take n new) (take n old) (omega (arith, length-take n new, length-take n old, filled.size)) (λ i less.
        let low : i < n = omega (arith, less, length-take n new) in
        get_or-take n new i Sync low ∙ filled.before i (omega (arith, low)) ∙ sym (get_or-take n old i Sync low))

    each : (i : ℕ) → IsFilled b (get_or (drop n old) i Sync) (get_or (drop n new) i Sync)
    each i = subst (λ (c : Call). IsFilled b c (get_or (drop n new) i Sync)) (sym (get_or-drop n old i Sync))
        (subst (λ (c : Call). IsFilled b (get_or old (n + i) Sync) c) (sym (get_or-drop n new i Sync)) (filled.filled (n + i) (omega arith)))

abbrev is_write : Call → Bool
is_write (Write at bytes) = true
is_write Sync = false

-- filled writes are writes
writes_each : (b : ℕ) (old new : List Call) → AreWrites old → length new ≡ length old → ((i : ℕ) → (get_or new i Sync ≡ get_or old i Sync) ⊎ IsFilled b (get_or old i Sync) (get_or new i Sync)) → AreWrites new
writes_each b [] [] are size each = refl
writes_each b [] (n ∷ new) are size each = absurd (omega (arith, size))
writes_each b (o ∷ old) [] are size each = absurd (omega (arith, size))
writes_each b (Sync ∷ old) (n ∷ new) are size each = absurd (false≢true are)
writes_each b (Write at v ∷ old) (Write from w ∷ new) are size each = writes_each b old new are (omega (arith, size)) (λ i. each (suc i))
writes_each b (Write at v ∷ old) (Sync ∷ new) are size each = absurd (⊎_elim (λ (same : Sync ≡ Write at v). false≢true (ap is_write same)) (λ other. other) (each 0))

pub writes_filled : (b : ℕ) (old new : List Call) (n : ℕ) → AreWrites old → AreFilled b n old new → AreWrites new
writes_filled b old new n are filled = writes_each b old new are filled.size (λ i. ⊎_elim
    (λ (low : i < n). inl (filled.before i (omega (arith, low))))
    (λ (high : n ≤ i). inr (filled.filled i high))
    (cases_lt i n))
