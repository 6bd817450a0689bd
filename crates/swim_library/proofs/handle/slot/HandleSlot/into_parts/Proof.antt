-- A slot that leads to a member owns what a box does, and the parts take it over.
use mathlib.Core.Path.{refl, sym, subst}
use mathlib.Core.List.{List, [], ◌∷◌, ◌++◌}
use mir.Val.{Val}
use base.Logic.{ent, id⊢}
use base.Fml.{ftrue, fsep}
use contract.Running.{tables, tables_of}
use prog.Wp.{WpFn, Tables}
use types.Kit.{Item, ‵, raw, ◌⊛◌, ◌$◌, ◌∵◌, !, qed, by, move, drop, use1, join, split, fsplit, fjoin, suffices, done, rewrite}
use types.Part.{whole, sub, agg}
use types.Run.{stop, fld, no_more, and_then, of_opd, returns, enter}
use types.ByLocal.{alloc_all, pass_all, free_all, look_at, get, get_in, sets}
use denote.Exit.{yes}
use denote.Signature.{type_at}
use denote.Steps.{nothing, heard}
use denote.Triple.Spec.{triple_of}
use denote.Triple.Table.{entered}
use denote.Triple.Walked.{says, Stays, stay_dropped, walk_of, ends_at, Goes-dropped, walk_Meets}
use sound.WpLaws.{WpFn-mono}
use Rattle.std_alloc.proofs.BoxSteps.Form.{D, B, word, box_typed}
use Rattle.std_alloc.proofs.BoxSteps.Steps.{box_out, box_in}
use Rattle.swim_library.proofs.Owned.{E, SlotType, something}
use Rattle.swim_library.specs.contracts.handle.slot.HandleSlot.into_parts as f
use Rattle.swim_library.specs.contracts.handle.slot.HandleSlot.into_parts.Key.{name as this}
use Rattle.swim_library.proofs.handle.slot.HandleSlot.into_parts.Statement.{statement}
use Rattle.swim_library.proofs.handle.slot.HandleSlot.into_parts.Code as code
use Rattle.std.proofs.Common.{Option, None, ◌≡◌}
use Rattle.swim_library.specs.declared.running.Running.{Running}
use contract.Monad.{fact}

abbrev stayed : Stays f.ended.signature.params f.ended.kept
stayed = (stay_dropped SlotType yes, tt)

pub into_parts_spec : {M : Type 1} → statement M
unfolding tables_of
into_parts_spec 𝓤 𝓛 𝓜 𝓡 wired =
    let c = f.clauses 𝓛 𝓜.mem 𝓡.returns in
    let W = walk_of 𝓛 f.ended stayed c in
    let 𝓣 : Tables 𝓤 𝓛.H = tables_of 𝓤 𝓛.H 𝓜 (tables 𝓤 𝓛.H 𝓜 𝓡 𝓡.env) in
    let From = type_at SlotType tt in
    let To = type_at f.signature.result tt in
    entered 𝓤 𝓛.H (triple_of 𝓛 f.signature (f.spec 𝓛 𝓜.mem 𝓡.returns)) 𝓣.C 𝓣.Λ this code.function (code.unfolded 𝓤 𝓛.H 𝓜 𝓡 wired)
    (walk_Meets 𝓛 f.ended stayed (Goes-dropped 𝓛 0 SlotType yes (λ κs x f. refl), tt) c (WpFn 𝓤 𝓛.H 𝓣.C 𝓣.Λ code.function) (WpFn-mono 𝓤 𝓛.H 𝓛.laws 𝓣 code.function)
    (λ y.
    let slot = y.0.3.0 in
    qed 𝓛 ((‵ ftrue ⊛ ‵ (fsep (From.own_val slot y.0.4.0) ftrue)) ∷ raw (fact 𝓤 (slot.kept ≡ None → ⊥)) ∷ []) ∵
    move ! (1 ∷ []) $ heard ! _ (λ some.
    let held = something slot.kept some in
    let box : D E = record { ptr = slot.at; alloc = slot.alloc; value = held.0 } in
    let made : To.Denot = record { at = slot.at; alloc = slot.alloc; value = held.0 } in
    split ! $ drop ! $ fsplit ! $
    rewrite ! 0 (λ (kept : Option Running). ‵ (From.own_val (record { at = slot.at; alloc = slot.alloc; kept = kept }) y.0.4.0)) held.1 refl $
    use1 𝓛 (‵ ((B E).own_val box y.0.4.0)) (id⊢ 𝓤 _) $
    box_out E ! box y.0.4.0 (λ b o alloc at_block vals fits.
    box_in E ! box b o box.value at_block refl $
    use1 𝓛 (‵ (To.own_val made (word E alloc b o ∷ []))) (id⊢ 𝓤 _) $ move ! (1 ∷ []) $ drop ! $
    let bits = word E alloc b o in
    let Γ : List (Item 𝓤) = ‵ (To.own_val made (bits ∷ [])) ∷ [] in
    by ! (subst (λ (vs : List Val). ent 𝓤 (types.Kit.⋆ 𝓛 Γ) (WpFn 𝓤 𝓛.H 𝓣.C 𝓣.Λ code.function (vs ++ []) (W.post y))) (sym vals)
    (qed 𝓛 Γ ∵ enter ! 𝓣.C 𝓣.Λ code.function (bits ∷ []) _ $ alloc_all ! (λ l. pass_all ! refl (box_typed E alloc b o fits, tt) $
    sets ! (of_opd ! (get_in ! (fld ! refl (stop !)) (sub ! 0 refl (whole !)))) refl (tt, tt) $
    sets ! (of_opd ! (get_in ! (fld ! refl (stop !)) (sub ! 1 refl (whole !)))) refl fits $
    sets ! (of_opd ! (get ! refl)) refl (tt, tt) $
    sets ! (agg ! (and_then ! (get ! refl) (and_then ! (get ! refl) (no_more !)))) refl (box_typed E alloc b o fits) $
    returns ! (look_at ! 0 refl) $ free_all ! refl $
    suffices ! _ (ends_at 𝓛 f.ended stayed c y bits made (tt, tt) (tt, tt)) $ says ! held.1 $
    nothing ! $ nothing ! $ fjoin ! $ join ! $ nothing ! $ join ! $ done !)))))))
