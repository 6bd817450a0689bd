-- `into_raw_with_allocator` takes the box apart, and the parts own what it gives.
use mathlib.Core.Path.{◌≡◌, refl, sym, subst, ap, ◌∙◌}
use mathlib.Core.List.{List, [], ◌∷◌, ◌++◌}
use seplogic.Ra.Ura.{Ura}
use mir.MapTy.{inst_fn}
use mir.Raw.{raw as bare}
use mir.Syntax.{Fn, Args, Dict, a_type, dcons, dnil}
use mir.Val.{Val, vstruct, of_list}
use base.Fml.{ftrue, fsep, flft}
use base.Logic.{SProp, ent, id⊢, never, fst∗}
use contract.BorrowLft.{◌⊑◌}
use contract.Monad.{Fun, fact}
use contract.Running.{tables, tables_of}
use prog.Memory.{Memory}
use prog.Routine.{Routine}
use prog.Wp.{WpFn, Tables}
use sound.WpLaws.{fm_of, WpFn-mono}
use types.ByLocal.{alloc_all, pass_all, free_all, look_at, get, get_in, sets, lands_as}
use types.Kit.{Item, ‵, raw, ◌⊛◌, some, later, ◌$◌, ◌∵◌, !, qed, by, move, drop, use1, join, split, split3, pick, rewrite, fsplit, fjoin, fpick, feq_l, suffices, await, done}
use types.Logic.{Logic, sem}
use types.Part.{whole, sub, agg}
use types.Run.{stop, fld, no_more, and_then, of_opd, returns, enter}
use denote.Exit.{no}
use denote.Param.{bounded}
use denote.RattleType.{RattleType}
use denote.RawPtr.{Ptr, RawPtr, block_ptr, null_ptr, ptr_val, in_a_block}
use denote.Signature.{plain}
use denote.Steps.{heard, nothing, only}
use denote.Struct.Tuple.{Tuple}
use denote.Triple.Call.{calls_at}
use denote.Triple.Clauses.{Ended, Clauses}
use denote.Triple.Spec.{triple_of}
use denote.Triple.Statement.{Triple, Contract}
use denote.Triple.Table.{entered}
use denote.Triple.Walked.{says, Stays, stay_dropped, walk_of, ends_at, walk_Meets}
use Rattle.core.proofs.alloc.Calls.{token, handle_tells, Goes-blank}
use Rattle.std_alloc.proofs.BoxSteps.Form.{Bx, D, τ, R, P, B, word, box_typed}
use Rattle.std_alloc.proofs.BoxSteps.Steps.{box_out, box_in}
use Rattle.std_alloc.proofs.boxed.Box.into_raw_with_allocator.Met as raw_met
use Rattle.std_alloc.proofs.boxed.Box.into_raw_with_allocator.Symbol as raw_symbol
use Rattle.std_alloc.specs.Box.Ownership.{box_owns}
use Rattle.std_alloc.specs.contracts.boxed.Box.into_raw_with_allocator as into_raw
use Rattle.swim_library.proofs.handle.parts.Parts.of.Code as code
use Rattle.swim_library.proofs.handle.parts.Parts.of.Statement.{statement}
use Rattle.swim_library.specs.contracts.handle.parts.Parts as parts
use Rattle.swim_library.specs.contracts.handle.parts.Parts.of as f
use Rattle.swim_library.specs.contracts.handle.parts.Parts.of.Key.{name as this}

module _ (E : Bx) (drops : Dict) where
  -- the types and the bounds of the call
  abbrev given : Args
  given = bounded (a_type ∷ a_type ∷ []) (E.row, (E.al.row, tt)) (dcons E.al.d (dcons E.al.drops (dcons drops dnil)))

  abbrev program : Fn
  program = inst_fn given code.function

  abbrev ended : Ended
  ended = f.ended E.row E.al.row E.al.g E.al.d E.al.drops drops

  abbrev stayed : Stays ended.signature.params ended.kept
  stayed = (stay_dropped (plain (λ _. B E)) no, tt)

  abbrev To : RattleType
  To = parts.the_row (R E) (P E) E.al.g

  module _ {M : Type 1} {𝓤 : Ura M} (𝓛 : Logic 𝓤) (memory : Memory → SProp 𝓤) (runs : Routine → Fun 𝓤) (𝓣 : Tables 𝓤 𝓛.H) where
    abbrev clauses : Clauses 𝓤 ended
    clauses = f.clauses E.row E.al.row E.al.g E.al.d E.al.drops drops 𝓛 memory runs

    abbrev W : Contract 𝓤
    W = walk_of 𝓛 ended stayed clauses

    abbrev IntoRaw : Contract 𝓤
    IntoRaw = triple_of 𝓛 (into_raw.signature E.row E.al.row E.al.g E.al.d E.al.drops drops) (into_raw.spec E.row E.al.row E.al.g E.al.d E.al.drops drops 𝓛 memory runs)

    walk : Triple 𝓤 (𝓣.C (raw_symbol.name given)) IntoRaw → (y : W.Ghost) → ent 𝓤 (W.pre y) (WpFn 𝓤 𝓛.H 𝓣.C 𝓣.Λ program (y.0.4.0 ++ []) (W.post y))
    walk known y =
        let κs = y.0.0 in let qs = y.0.1 in let box = y.0.3.0 in
        let tokens : Item 𝓤 = ‵ (flft κs.0 qs.0) ⊛ ‵ (flft κs.1.0 qs.1.0) ⊛ ‵ ftrue in
        let lives : Item 𝓤 = raw (fact 𝓤 (κs.0 ⊑ E.row.lives)) ⊛ raw (fact 𝓤 (κs.1.0 ⊑ E.al.row.lives)) ⊛ ‵ ftrue in
        qed 𝓛 ((tokens ⊛ ‵ (fsep ((B E).own_val box y.0.4.0) ftrue)) ∷ lives ∷ []) ∵ split ! $ move ! (1 ∷ []) $ fsplit ! $
        box_out E ! box y.0.4.0 (λ b o alloc at_block vals fits. box_in E ! box b o box.value at_block refl $
        let bits = word E alloc b o in
        let z : IntoRaw.Ghost = ((κs, qs, tt, (box, tt), (bits ∷ [], tt)), tt) in
        let Γ : List (Item 𝓤) = ‵ ((B E).own_val box (bits ∷ [])) ∷ ‵ ftrue ∷ tokens ∷ lives ∷ [] in
        by ! (subst (λ (vs : List Val). ent 𝓤 (types.Kit.⋆ 𝓛 Γ) (WpFn 𝓤 𝓛.H 𝓣.C 𝓣.Λ program (vs ++ []) (W.post y))) (sym vals)
        (qed 𝓛 Γ ∵ enter ! 𝓣.C 𝓣.Λ program (bits ∷ []) _ $ alloc_all ! (λ l. pass_all ! refl (box_typed E alloc b o fits, tt) $
        sets ! (of_opd ! (get ! refl)) refl (box_typed E alloc b o fits) $
        fjoin ! $ move ! (1 ∷ 0 ∷ []) $ join ! $ join ! $ use1 𝓛 (raw (IntoRaw.pre z)) (id⊢ 𝓤 _) $
        calls_at ! (fm_of 𝓤 𝓛.H 𝓛.laws 𝓣) IntoRaw known z (and_then ! (get ! refl) (no_more !)) (λ v.
        -- it gives a pointer and the allocator, with what the box owned
        use1 𝓛 (later (some (λ (r : Ptr × E.al.row.Denot). (tokens ⊛ ‵ ((Tuple (RawPtr ∷ P E ∷ [])).own_val r (v ∷ []))) ⊛ some (λ (_ : (Unit {0} × (Unit {0} × Unit {0})) × Unit {0}). ‵ (fsep (fsep ftrue (fsep ftrue ftrue)) ftrue) ⊛ (raw (fact 𝓤 (r.1 ≡ box.alloc)) ⊛ ‵ (box_owns (token E.al box.alloc) (R E) r.0 box.value)))))) (id⊢ 𝓤 _) $
        await ! tt $ pick ! (λ r. split ! $ move ! (1 ∷ []) $ pick ! (λ _. split3 ! $ drop ! $ heard ! (r.1 ≡ box.alloc) (λ same.
        in_a_block ! r.0 (λ p. box_owns (token E.al box.alloc) (R E) p box.value) (fst∗ 𝓤 (never 𝓤) (sem 𝓛 (token E.al box.alloc (bare (τ E)) null_ptr))) (λ b' o' at_block'.
        move ! (1 ∷ []) $ split ! $ move ! (1 ∷ []) $ fpick ! (λ fields. fsplit ! $ feq_l ! (λ is_pair. fsplit ! $ feq_l ! (λ is_ptr. fsplit ! $
        rewrite ! 0 (λ (a : E.al.row.Denot). ‵ (E.al.row.own_val a fields.1.0)) same refl $
        handle_tells E.al ! box.alloc fields.1.0 (λ alloc' is_alloc fits'.
        let moved : D E = record { ptr = block_ptr b' o'; alloc = box.alloc; value = box.value } in
        let made : To.Denot = record { at = block_ptr b' o'; alloc = box.alloc; value = box.value } in
        lands_as ! (ap only (is_pair ∙ (λ j. vstruct (of_list ((is_ptr ∙ ap (λ (p : Ptr). ptr_val p ∷ []) at_block') j ++ (is_alloc j ++ []))) ∷ []))) refl (box_typed E alloc' b' o' fits') $
        sets ! (of_opd ! (get_in ! (fld ! refl (stop !)) (sub ! 0 refl (whole !)))) refl (tt, tt) $
        sets ! (of_opd ! (get_in ! (fld ! refl (stop !)) (sub ! 1 refl (whole !)))) refl fits' $
        sets ! (of_opd ! (get ! refl)) refl fits' $
        sets ! (agg ! (and_then ! (get ! refl) (and_then ! (get ! refl) (no_more !)))) refl (box_typed E alloc' b' o' fits') $
        returns ! (look_at ! 0 refl) $ free_all ! refl $
        move ! (3 ∷ []) $ fsplit ! $ box_in E ! moved b' o' box.value refl refl $
        use1 𝓛 (‵ (To.own_val made (word E alloc' b' o' ∷ []))) (id⊢ 𝓤 _) $ move ! (1 ∷ []) $ drop ! $
        suffices ! _ (ends_at 𝓛 ended stayed clauses y (word E alloc' b' o') made ((tt, (tt, tt)), tt) (tt, tt)) $ says ! refl $
        nothing ! $ nothing ! $ fjoin ! $ join ! $ move ! (1 ∷ 0 ∷ []) $ join ! $ done !)))))))))))))

pub of_spec : {M : Type 1} → statement M
unfolding tables_of
of_spec 𝓤 𝓛 𝓜 𝓡 wired X Z LX LZ g d dd drops allocator md glue =
    let E : Bx = record { row = X; laws = LX; al = record { row = Z; laws = LZ; g = g; d = d; drops = dd } } in
    let 𝓣 : Tables 𝓤 𝓛.H = tables_of 𝓤 𝓛.H 𝓜 (tables 𝓤 𝓛.H 𝓜 𝓡 𝓡.env) in
    entered 𝓤 𝓛.H (triple_of 𝓛 (ended E drops).signature (f.spec X Z g d dd drops 𝓛 𝓜.mem 𝓡.returns)) 𝓣.C 𝓣.Λ (this (given E drops)) (program E drops) (code.unfolded 𝓤 𝓛.H 𝓜 𝓡 wired (X, (Z, tt)) d dd drops)
    (walk_Meets 𝓛 (ended E drops) (stayed E drops) (Goes-blank 𝓛 2 (plain (λ _. B E)) no (λ κs x a. tt), tt) (clauses E drops 𝓛 𝓜.mem 𝓡.returns 𝓣) (WpFn 𝓤 𝓛.H 𝓣.C 𝓣.Λ (program E drops)) (WpFn-mono 𝓤 𝓛.H 𝓛.laws 𝓣 (program E drops))
    (walk E drops 𝓛 𝓜.mem 𝓡.returns 𝓣 (raw_met.met 𝓤 𝓛 𝓜 𝓡 (code.calls-std_alloc::boxed::Box::into_raw_with_allocator 𝓡.env wired) X Z LX LZ g d dd drops allocator md glue)))
