-- The figures of the bound.
use Rattle.std.proofs.Common.{◌≡◌, ℕ, suc, ◌+◌, ◌-◌, ◌*◌, ◌%◌, ◌<◌, ◌≤◌, Bool, true, false, cond, sym, ◌∙◌, ap, length, arith}
use Rattle.std.proofs.lemmas.Bool.{false≢true}
use Rattle.std.proofs.Math.Nat.{mul-le-mul_right, suc-mul}
use Rattle.swim_detect.proofs.Looking.{looks-lacks}
use Rattle.swim_rules.specs.Rows.{row_of}
use Rattle.swim_member.specs.State.{State}
use Rattle.swim_member.specs.Turn.{still_listed}
use Rattle.swim_detect.specs.Finding.{is_waited_for, looks_to, periods_to, ticks_alive, ticks_to_suspect, ticks_left}
use Rattle.swim_detect.specs.Bounds.{suspected_within, KeepsBound, TakesBound}
use Rattle.swim_detect.proofs.Found.{alive-left}
use Rattle.swim_detect.proofs.Staying.{looks-most}

-- the periods of two turns, one of them apart
two-turns : (n p : ℕ) → 1 ≤ n → (n + n - 1) * p + p ≡ 2 * n * p
two-turns n p l = sym (suc-mul (n + n - 1) p) ∙ ap (λ k. k * p) (count n l)
  where
    count : (n : ℕ) → 1 ≤ n → suc (n + n - 1) ≡ 2 * n
    count n l = omega arith

pub is-within : (others x : ℕ) (s : State) → KeepsBound others x s
is-within others x s h = (early, late)
  where
    p : ℕ
    p = s.settings.period

    few : periods_to others x s ≤ others + others - 1
    few = at (is_waited_for x s.probe) (looks_to others x (still_listed s)) (length (still_listed s)) h.left (looks-most others x (still_listed s))
      where
        at : (b : Bool) (k l : ℕ) → l < others → k ≤ l + others → cond b 0 k ≤ others + others - 1
        at true k l i j = omega arith
        at false k l i j = omega arith

    some : (l n : ℕ) → l < n → 1 ≤ n
    some l n h = omega arith

    early : ticks_to_suspect others x s ≤ suspected_within s.settings.period others
    early = plain (s.time % p) p (periods_to others x s * p) ((others + others - 1) * p) (2 * others * p) (mul-le-mul_right p few) (two-turns others p (some (length (still_listed s)) others h.left))
      where
        plain : (m p a b c : ℕ) → a ≤ b → b + p ≡ c → p - m + a ≤ c
        plain m p a b c h e = omega arith

    late : ticks_left others x s ≤ suspected_within s.settings.period others + s.settings.suspect
    late = plain (ticks_left others x s) (ticks_to_suspect others x s) s.settings.suspect (suspected_within s.settings.period others) (alive-left (ticks_alive others x s) s.settings.suspect s.time (row_of s.rows x) h.alive) early
      where
        plain : (a b c d : ℕ) → a ≡ b + c → b ≤ d → a ≤ d + c
        plain a b c d e h = omega arith

pub is-reached : (others x : ℕ) (s : State) → TakesBound others x s
is-reached others x s h = (early, late)
  where
    p : ℕ
    p = s.settings.period

    many : periods_to others x s ≡ others + others - 1
    many = at (is_waited_for x s.probe) h.answered (looks_to others x (still_listed s)) (length (still_listed s)) h.left (looks-lacks others x (still_listed s) h.absent)
      where
        at : (b : Bool) → b ≡ false → (k l : ℕ) → l + 1 ≡ others → k ≡ l + others → cond b 0 k ≡ others + others - 1
        at true f k l i j = absurd (false≢true (sym f))
        at false f k l i j = omega arith

    some : (l n : ℕ) → l + 1 ≡ n → 1 ≤ n
    some l n h = omega arith

    early : ticks_to_suspect others x s ≡ suspected_within s.settings.period others
    early = plain (s.time % p) p (periods_to others x s * p) ((others + others - 1) * p) (2 * others * p) h.begins (ap (λ k. k * p) many) (two-turns others p (some (length (still_listed s)) others h.left))
      where
        plain : (m p a b c : ℕ) → m ≡ 0 → a ≡ b → b + p ≡ c → p - m + a ≡ c
        plain m p a b c z h e = omega arith

    late : ticks_left others x s ≡ suspected_within s.settings.period others + s.settings.suspect
    late = alive-left (ticks_alive others x s) s.settings.suspect s.time (row_of s.rows x) h.alive ∙ ap (λ k. k + s.settings.suspect) early
