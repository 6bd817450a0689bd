use Rattle.std.proofs.Common.{arith, ◌≡◌, ℕ, ◌+◌, ◌<◌, ◌≤◌, ◌++◌, ◌∷◌, [], length, List, ap, ◌==◌, cond, Bool, true, false, slice_set, slice_index, take, subst, sym, ◌∙◌, append-nil, length-append, refl}
use Rattle.std.proofs.lemmas.Bool.{eqb-true, eqb-false}
use Rattle.std.proofs.lemmas.List.{get_or-set_other, length-set, length-take-le, take_more_set}
use Rattle.std.proofs.lemmas.Grind.{get_or-set_at}
use Rattle.swim_node.specs.declared.entry.Entry.{Entry}
use Rattle.swim_node.specs.History.{calls_by}
use Rattle.swim_node.specs.Node.{entry_with}
use Rattle.swim_node.specs.Machinery.Turns.{JournalView, AreTurns}
use Rattle.swim_node.proofs.Lists.{few_calls_by, calls_by-append}
use Rattle.swim_node.proofs.journal.Journal.add.Goals as goal

turn_at : (turns : List ℕ) (xs : List Entry) (e : Entry) (caller : ℕ) (b : Bool) → (e.tag.caller == caller) ≡ b → e.tag.caller < length turns → slice_index turns caller ≡ length (calls_by caller xs) → slice_index (slice_set turns e.tag.caller (slice_index turns e.tag.caller + 1)) caller ≡ length (calls_by caller xs ++ cond b (e ∷ []) [])
turn_at turns xs e caller true is fits h =
    let same : e.tag.caller ≡ caller = eqb-true e.tag.caller caller is in
    get_or-set_at turns e.tag.caller caller (slice_index turns e.tag.caller + 1) 0 (sym same) fits
    ∙ ap (λ (k : ℕ). slice_index turns k + 1) same
    ∙ ap (λ (k : ℕ). k + 1) h
    ∙ sym (length-append (calls_by caller xs) (e ∷ []))
turn_at turns xs e caller false is fits h =
    get_or-set_other turns e.tag.caller caller (slice_index turns e.tag.caller + 1) 0 (λ k. eqb-false e.tag.caller caller is (sym k))
    ∙ h ∙ ap (λ (l : List Entry). length l) (sym (append-nil (calls_by caller xs)))

turns-snoc : (turns : List ℕ) (xs : List Entry) (e : Entry) → e.tag.caller < length turns → AreTurns turns xs → AreTurns (slice_set turns e.tag.caller (slice_index turns e.tag.caller + 1)) (xs ++ e ∷ [])
turns-snoc turns xs e fits h = record {
  counted = λ caller below. turn_at turns xs e caller (e.tag.caller == caller) refl fits (h.counted caller below) ∙ ap (λ (l : List Entry). length l) (sym (calls_by-append caller xs (e ∷ [])));
}

pub overflow_add-self : goal.overflow_add-self
overflow_add-self c =
    let xs : List Entry = take c.self.inside.len c.self.inside.places.items in
    let same = c.self.invariant.1.counted c.args.tag.caller c.requires.caller in
    let few : length (calls_by c.args.tag.caller xs) ≤ length xs = few_calls_by c.args.tag.caller xs in
    let entries : length xs ≡ length c.args.self.now.entries = ap (λ (v : JournalView). length v.entries) c.self.view_is in
    omega (arith, same, few, entries, c.requires.few)

stands : (c : goal.After-self-3-1) → c.self.inside.len < length c.self.inside.places.items
stands c =
    let entries : length (take c.self.inside.len c.self.inside.places.items) ≡ length c.args.self.now.entries = ap (λ (v : JournalView). length v.entries) c.self.view_is in
    let places : length c.self.inside.places.items ≡ c.args.self.now.room = ap (λ (v : JournalView). v.room) c.self.view_is in
    let filled : length (take c.self.inside.len c.self.inside.places.items) ≡ c.self.inside.len = length-take-le c.self.inside.len c.self.inside.places.items c.self.invariant.0 in
    omega (arith, c.requires.room)

filled : (c : goal.After-self-3-1) → take (c.self.inside.len + 1) (slice_set c.self.inside.places.items c.self.inside.len c.fill.new.entry) ≡ take c.self.inside.len c.self.inside.places.items ++ entry_with c.args.tag c.args.event.now c.args.done c.args.answer.now c.args.status ∷ []
filled c =
    take_more_set c.self.inside.places.items c.self.inside.len c.fill.new.entry (stands c)
    ∙ ap (λ (e : Entry). take c.self.inside.len c.self.inside.places.items ++ e ∷ []) c.fill.ensures

pub invariant_of-self : goal.invariant_of-self
invariant_of-self c =
    let xs : List Entry = take c.self.inside.len c.self.inside.places.items in
    let same : length (slice_set c.self.inside.places.items c.self.inside.len c.fill.new.entry) ≡ length c.self.inside.places.items = length-set c.self.inside.places.items c.self.inside.len c.fill.new.entry in
    let more = turns-snoc c.self.inside.turns xs (entry_with c.args.tag c.args.event.now c.args.done c.args.answer.now c.args.status) (omega (arith, c.self.told, c.requires.caller)) c.self.invariant.1 in (
      omega (arith, same, stands c),
      subst (λ (es : List Entry). AreTurns (slice_set c.self.inside.turns c.args.tag.caller (slice_index c.self.inside.turns c.args.tag.caller + 1)) es) (sym (filled c)) more,
    )

pub returns : goal.returns
returns c = filled c ∙ ap (λ (v : JournalView). v.entries ++ entry_with c.args.tag c.args.event.now c.args.done c.args.answer.now c.args.status ∷ []) c.self.view_is
