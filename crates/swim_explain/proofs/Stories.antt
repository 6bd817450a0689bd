-- One more of the entries of an era.
use Rattle.std.proofs.Common.{◌≡◌, ℕ, ◌+◌, ◌<◌, List, [], ◌∷◌, ◌++◌, length, drop, take, get_or, refl, sym, ap, ◌∙◌, arith, append_assoc}
use Rattle.std.proofs.lemmas.List.{drop_more, take_more, map-append, length-take-le, length-map}
use Rattle.swim_member.specs.State.{State}
use Rattle.swim_member.specs.Events.{Step, state_of}
use Rattle.swim_node.specs.declared.entry.Entry.{Entry}
use Rattle.swim_node.specs.History.{step_of, steps}
use Rattle.swim_explain.specs.declared.fact.Happening.{Happening}
use Rattle.swim_explain.specs.Story.{story_after, told_at}

pub steps_more : (entries : List Entry) (i : ℕ) (e : Entry) → i < length entries → e ≡ get_or entries i e → steps (take (i + 1) entries) ≡ steps (take i entries) ++ step_of e ∷ []
steps_more entries i e less is =
    ap steps (take_more entries i e less ∙ ap (λ (f : Entry). take i entries ++ f ∷ []) (sym is))
    ∙ map-append step_of (take i entries) (e ∷ [])

pub entries_left : (entries : List Entry) (i : ℕ) (e : Entry) → i < length entries → e ≡ get_or entries i e → drop i entries ≡ e ∷ drop (i + 1) entries
entries_left entries i e less is =
    drop_more entries i e less ∙ ap (λ (f : Entry). f ∷ drop (i + 1) entries) (sym is)

-- what is told of the next entry comes first of what is left
first_told : (base : State) (x : ℕ) (before after : List Step) (e : Entry) (rest : List Entry) (s t : State) (call : ℕ) → state_of base before ≡ s → state_of base (before ++ step_of e ∷ []) ≡ t → length before + 1 ≡ call → after ≡ before ++ step_of e ∷ [] → story_after base before x (e ∷ rest) ≡ told_at s t call x e ++ story_after base after x rest
first_told base x before after e rest s t call is_s is_t is_call is_after = rw (← is_s, ← is_t, ← is_call, is_after) refl

-- what was told and what is left stay the story
pub told_more : (base : State) (x : ℕ) (entries : List Entry) (i : ℕ) (e : Entry) (s t : State) (old new all : List Happening) → i < length entries → e ≡ get_or entries i e → state_of base (steps (take i entries)) ≡ s → state_of base (steps (take i entries) ++ step_of e ∷ []) ≡ t → new ≡ old ++ told_at s t (i + 1) x e → old ++ story_after base (steps (take i entries)) x (drop i entries) ≡ all → new ++ story_after base (steps (take (i + 1) entries)) x (drop (i + 1) entries) ≡ all
told_more base x entries i e s t old new all less is is_s is_t is_new so_far =
    let before = steps (take i entries) in
    let after = steps (take (i + 1) entries) in
    let rest = drop (i + 1) entries in
    let few : length (take i entries) ≡ i = length-take-le i entries (omega (arith, less)) in
    let count : length before + 1 ≡ i + 1 = ap (λ n. n + 1) (length-map (take i entries) step_of ∙ few) in
    let first = first_told base x before after e rest s t (i + 1) is_s is_t count (steps_more entries i e less is) in
    ap (λ (told : List Happening). told ++ story_after base after x rest) is_new
    ∙ append_assoc old (told_at s t (i + 1) x e) (story_after base after x rest)
    ∙ ap (λ (told : List Happening). old ++ told) (sym first)
    ∙ ap (λ (left : List Entry). old ++ story_after base before x left) (sym (entries_left entries i e less is))
    ∙ so_far
