-- What a joiner asks of the member that it is for.
use Rattle.std.proofs.Common.{◌≡◌, ◌+◌, ℕ, false, List, [], ◌∷◌, ◌++◌, length, length-append, refl, ap, sym, ◌∙◌, None, arith}
use Rattle.std.proofs.lemmas.List.Sums.{fold-append}
use Rattle.swim_member.specs.declared.event.Event.{Event}
use Rattle.swim_node.specs.declared.entry.Entry.{Entry}
use Rattle.swim_node.specs.History.{calls_by}
use Rattle.swim_node.proofs.Lists.{calls_by-append}
use Rattle.swim_shell.specs.Calls.{CallerView, NewCall, calls_of, events_of}
use Rattle.swim_join.specs.Joins.{AsksInVain, JoinerView}
use Rattle.swim_shell.specs.declared.caller.Refusal.{Refusal}
use Rattle.swim_simulate.specs.Joining.{joined_after, last_joined}

own_call : (e : Entry) → e.tag.caller ≡ 0 → calls_by 0 (e ∷ []) ≡ e ∷ []
own_call e is = rw is refl

-- an entry of the caller's own is its new call
pub told : (seen next : List Entry) (asked more : List Event) (e : Entry) → e.tag.caller ≡ 0 → next ≡ seen ++ e ∷ [] → more ≡ asked ++ e.event ∷ [] → NewCall (record { caller = 0; seen = seen; spent = false; asked = asked }) (record { caller = 0; seen = next; spent = false; asked = more }) e.event e.reply
told seen next asked more e own grown entered = record {
  entry = e;
  event_is = refl;
  reply_is = refl;
  gains = record {
    own = ap (calls_by 0) grown ∙ (calls_by-append 0 seen (e ∷ []) ∙ ap (λ w. calls_by 0 seen ++ w) (own_call e own));
    caller = refl;
    seen = (e ∷ [], sym grown);
  };
  asked = entered;
}

-- whom the member is to join once it is asked one thing more
pub joined_more : (asked : List Event) (e : Event) → last_joined (asked ++ e ∷ []) ≡ joined_after (last_joined asked) e
joined_more asked e = fold-append joined_after None asked (e ∷ [])

one_more : {X : Type 0} (xs : List X) (x : X) → length (xs ++ x ∷ []) ≡ length xs + 1
one_more xs x = length-append xs (x ∷ [])

-- one thing more is asked, and answered
pub answered_more : (seen next : List Entry) (asked more : List Event) (e : Entry) → e.tag.caller ≡ 0 → next ≡ seen ++ e ∷ [] → more ≡ asked ++ e.event ∷ [] → length (calls_by 0 seen) ≡ length asked → length (calls_by 0 next) ≡ length more
answered_more seen next asked more e own grown entered so_far =
    let calls : calls_by 0 next ≡ calls_by 0 seen ++ e ∷ [] = ap (calls_by 0) grown ∙ (calls_by-append 0 seen (e ∷ []) ∙ ap (λ w. calls_by 0 seen ++ w) (own_call e own)) in
    omega (arith, so_far, ap length calls, one_more (calls_by 0 seen) e, ap length entered, one_more asked e.event)

length-events_of : (entries : List Entry) → length (events_of entries) ≡ length entries
length-events_of [] = refl
length-events_of (e ∷ es) = omega (arith, length-events_of es)

-- a joiner whose every question was answered was refused nothing
pub no_refusal : (limit : ℕ) (why : Refusal) (j : JoinerView) (p q : CallerView) → AsksInVain limit why j p q → length (calls_of p) ≡ length p.asked → length (calls_by p.caller q.seen) ≡ length q.asked → ⊥
no_refusal limit why j p q vain before after =
    let b : CallerView = vain.between in
    let own : calls_by p.caller q.seen ≡ calls_by p.caller b.seen ++ [] = ap (λ c. calls_by c q.seen) (sym vain.asks.gains.caller) ∙ vain.refused.gains.own ∙ ap (λ c. calls_by c b.seen ++ []) vain.asks.gains.caller in
    omega (
      arith,
      before,
      after,
      length-events_of vain.asks.entries,
      ap length vain.asks.gains.own,
      length-append (calls_by p.caller p.seen) vain.asks.entries,
      ap length vain.asks.asked,
      length-append p.asked (events_of vain.asks.entries),
      ap length own,
      length-append (calls_by p.caller b.seen) [],
      ap length vain.refused.asked,
      one_more b.asked vain.last,
    )
