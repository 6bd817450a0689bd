-- Turns of a ticker, put together.
use Rattle.std.proofs.Common.{◌≡◌, ℕ, ◌+◌, List, [], ◌∷◌, ◌++◌, length, refl, ap, sym, arith, subst, length-append}
use Rattle.rand_core.specs.Stream.{Stream}
use Rattle.rand_chacha.specs.ChaCha.{ChaCha}
use Rattle.swim_member.specs.declared.event.Event.TheVariants.{Tick}
use Rattle.swim_node.specs.declared.entry.Reply.{Reply}
use Rattle.swim_shell.specs.declared.caller.Refusal.{Refusal}
use Rattle.swim_shell.specs.Calls.{CallerView, NewCall, NewCalls, Refuses}
use Rattle.swim_shell.specs.Ticks.{answers, next_deal, Draws, ticks_of, Ticking, TicksInVain}
use Rattle.swim_shell.proofs.News.{no_calls, more_calls, one_call}

pub draws_more : (g : Stream) (ds : List (List ℕ)) (h : Stream) → Draws g ds h → Draws g (ds ++ (next_deal h).0 ∷ []) (next_deal h).1
draws_more g [] h d = (ap (λ x. (next_deal x).0) d, ap (λ x. (next_deal x).1) d)
draws_more g (e ∷ ds) h d = (d.0, draws_more (next_deal g).1 ds h d.1)

pub ticks_of-append : (xs ys : List (List ℕ)) → ticks_of (xs ++ ys) ≡ ticks_of xs ++ ticks_of ys
ticks_of-append [] ys = refl
ticks_of-append (x ∷ xs) ys = ap (λ w. Tick x ∷ w) (ticks_of-append xs ys)

drawn_more : (g h k : Stream) (ds : List (List ℕ)) (deal : List ℕ) → Draws g ds h → (deal, k) ≡ next_deal h → Draws g (ds ++ deal ∷ []) k
drawn_more g h k ds deal d drawn = subst (λ (x : List ℕ × Stream). Draws g (ds ++ x.0 ∷ []) x.1) (sym drawn) (draws_more g ds h d)

longer : (xs : List (List ℕ)) (x : List ℕ) (n : ℕ) → length xs ≡ n → length (xs ++ x ∷ []) ≡ n + 1
longer xs x n e = omega (arith, length-append xs (x ∷ []))

pub ticking_start : (g : ChaCha) (p : CallerView) → Ticking g p g p 0
ticking_start g p = record { deals = []; draws = refl; each = refl; calls = no_calls p }

pub ticking_more : (g h k : ChaCha) (p q r : CallerView) (n : ℕ) (deal : List ℕ) (reply : Reply) → Ticking g p h q n → (deal, answers k) ≡ next_deal (answers h) → NewCall q r (Tick deal) reply → Ticking g p k r (n + 1)
ticking_more g h k p q r n deal reply w drawn call = record {
  deals = w.deals ++ deal ∷ [];
  draws = drawn_more (answers g) (answers h) (answers k) w.deals deal w.draws drawn;
  each = longer w.deals deal n w.each;
  calls = subst (NewCalls p r) (sym (ticks_of-append w.deals (deal ∷ []))) (more_calls p q r (ticks_of w.deals) (Tick deal ∷ []) w.calls (one_call q r (Tick deal) reply call));
}

pub ticks_in_vain : (limit : ℕ) (why : Refusal) (h k : ChaCha) (q r : CallerView) (deal : List ℕ) → (deal, answers k) ≡ next_deal (answers h) → Refuses limit why q r (Tick deal) → TicksInVain limit why h q k r
ticks_in_vain limit why h k q r deal drawn refused = record { deal = deal; drawn = drawn; refused = refused }
