-- What the parts own is what `from_raw` asks for, and it makes a box of it.
use mathlib.Core.Path.{◌≡◌, refl, sym, subst, ap}
use mathlib.Core.List.{List, [], ◌∷◌, ◌++◌}
use lib.Dec.{T}
use seplogic.Ra.Ura.{Ura}
use mir.MapTy.{inst_fn}
use mir.Syntax.{Fn, Body, place, copy, assign, rv_opd, seq, return}
use mir.Val.{Val, vptr, has_ty, WT}
use base.Fml.{ftrue, fsep, flft}
use base.Logic.{SProp, ent, id⊢}
use contract.BorrowLft.{◌⊑◌}
use contract.Monad.{Fun, fact}
use contract.Running.{tables, tables_of}
use prog.Memory.{Memory}
use prog.Routine.{Routine}
use prog.Wp.{WpFn, Tables}
use sound.WpLaws.{fm_of, WpFn-mono}
use types.ByLocal.{alloc_all, pass_all, free_all, look_at, get, get_in, sets, lands_last, env}
use types.Kit.{Item, at_ret, ‵, raw, ◌⊛◌, some, later, ◌$◌, ◌∵◌, !, qed, by, move, drop, use1, join, split, split3, pick, rewrite, fsplit, fjoin, feq_i, suffices, await, done}
use types.Logic.{Logic}
use types.Part.{whole, sub}
use types.Run.{stop, fld, no_more, and_then, of_opd, returns, enter, first, blocks, exec}
use denote.Exit.{no}
use denote.RattleType.{RattleType}
use denote.RawPtr.{block_ptr}
use denote.Signature.{plain}
use denote.Steps.{heard, nothing, only}
use denote.Triple.Call.{calls_at_last}
use denote.Triple.Clauses.{Ended, Clauses}
use denote.Triple.Spec.{triple_of}
use denote.Triple.Statement.{Triple, Contract}
use denote.Triple.Table.{entered}
use denote.Triple.Walked.{says, Stays, stay_dropped, walk_of, ends_at, walk_Meets}
use Rattle.core.proofs.alloc.Calls.{token, Goes-blank}
use Rattle.std_alloc.proofs.BoxSteps.Form.{Bx, D, R, P, B, args, box_ty, word, box_typed}
use Rattle.std_alloc.proofs.BoxSteps.Steps.{box_out, box_in}
use Rattle.std_alloc.proofs.boxed.Box.from_raw.Met as raw_met
use Rattle.std_alloc.proofs.boxed.Box.from_raw.Symbol as raw_symbol
use Rattle.std_alloc.specs.Box.Ownership.{box_owns}
use Rattle.std_alloc.specs.contracts.boxed.Box.from_raw as from_raw
use Rattle.swim_library.proofs.handle.parts.Parts.into_box.Code as code
use Rattle.swim_library.proofs.handle.parts.Parts.into_box.Statement.{statement}
use Rattle.swim_library.specs.contracts.handle.parts.Parts as parts
use Rattle.swim_library.specs.contracts.handle.parts.Parts.into_box as f
use Rattle.swim_library.specs.contracts.handle.parts.Parts.into_box.Key.{name as this}

-- what runs after the block
abbrev after_block : Body
after_block = seq (assign (place 0 []) (rv_opd (copy (place 4 [])))) return

module _ (E : Bx) where
  abbrev program : Fn
  program = inst_fn (args E) code.function

  abbrev ended : Ended
  ended = f.ended E.row E.al.row E.al.g E.al.d E.al.drops

  abbrev From : RattleType
  From = parts.the_row (R E) (P E) E.al.g

  abbrev stayed : Stays ended.signature.params ended.kept
  stayed = (stay_dropped (plain (λ _. From)) no, tt)

  module _ {M : Type 1} {𝓤 : Ura M} (𝓛 : Logic 𝓤) (memory : Memory → SProp 𝓤) (runs : Routine → Fun 𝓤) (𝓣 : Tables 𝓤 𝓛.H) where
    abbrev clauses : Clauses 𝓤 ended
    clauses = f.clauses E.row E.al.row E.al.g E.al.d E.al.drops 𝓛 memory runs

    abbrev W : Contract 𝓤
    W = walk_of 𝓛 ended stayed clauses

    abbrev FromRaw : Contract 𝓤
    FromRaw = triple_of 𝓛 (from_raw.signature E.row E.al.row E.al.g E.al.d E.al.drops) (from_raw.spec E.row E.al.row E.al.g E.al.d E.al.drops 𝓛 memory runs)

    walk : Triple 𝓤 (𝓣.C (raw_symbol.name (args E))) FromRaw → (y : W.Ghost) → ent 𝓤 (W.pre y) (WpFn 𝓤 𝓛.H 𝓣.C 𝓣.Λ program (y.0.4.0 ++ []) (W.post y))
    walk known y =
        let κs = y.0.0 in let qs = y.0.1 in let given = y.0.3.0 in
        let box : D E = record { ptr = given.at; alloc = given.alloc; value = given.value } in
        let tokens : Item 𝓤 = ‵ (flft κs.0 qs.0) ⊛ ‵ (flft κs.1.0 qs.1.0) ⊛ ‵ ftrue in
        let row_lives : Item 𝓤 = raw (fact 𝓤 (κs.0 ⊑ E.row.lives)) in
        let alloc_lives : Item 𝓤 = raw (fact 𝓤 (κs.1.0 ⊑ E.al.row.lives)) in
        qed 𝓛 ((tokens ⊛ ‵ (fsep ((B E).own_val box y.0.4.0) ftrue)) ∷ (row_lives ⊛ alloc_lives ⊛ ‵ ftrue) ∷ []) ∵ split ! $ move ! (1 ∷ []) $ fsplit ! $
        box_out E ! box y.0.4.0 (λ b o alloc at_block vals fits. fjoin ! $
        let bits = word E alloc b o in
        let z : FromRaw.Ghost = ((κs, qs, tt, (given.alloc, (block_ptr b o, tt)), (alloc ∷ [], (vptr b o ∷ [], tt))), given.value) in
        let Γ : List (Item 𝓤) = ‵ (box_owns (token E.al given.alloc) (R E) (block_ptr b o) given.value) ∷ ‵ ((P E).own_val given.alloc (alloc ∷ [])) ∷ ‵ ftrue ∷ tokens ∷ (row_lives ⊛ alloc_lives ⊛ ‵ ftrue) ∷ [] in
        by ! (subst (λ (vs : List Val). ent 𝓤 (types.Kit.⋆ 𝓛 Γ) (WpFn 𝓤 𝓛.H 𝓣.C 𝓣.Λ program (vs ++ []) (W.post y))) (sym vals)
        (qed 𝓛 Γ ∵ enter ! 𝓣.C 𝓣.Λ program (bits ∷ []) _ $ alloc_all ! (λ l. pass_all ! refl (box_typed E alloc b o fits, tt) $
        sets ! (of_opd ! (get_in ! (fld ! refl (stop !)) (sub ! 0 refl (whole !)))) refl (tt, tt) $
        sets ! (of_opd ! (get_in ! (fld ! refl (stop !)) (sub ! 1 refl (whole !)))) refl fits $
        first ! $ blocks ! $ sets ! (of_opd ! (get ! refl)) refl fits $
        -- what `from_raw` requires: the allocator and the pointer, and the block with the value
        move ! (4 ∷ []) $ split3 ! $ move ! (2 ∷ []) $ drop ! $ move ! (1 ∷ 2 ∷ []) $ join ! $ move ! (1 ∷ 0 ∷ []) $ join ! $
        move ! (2 ∷ []) $ feq_i ! (List Val) (vptr b o ∷ []) (vptr b o ∷ []) refl $ fjoin ! $ move ! (2 ∷ 0 ∷ []) $ fjoin ! $ move ! (2 ∷ 0 ∷ []) $ join ! $ join ! $ use1 𝓛 (raw (FromRaw.pre z)) (id⊢ 𝓤 _) $
        calls_at_last ! (fm_of 𝓤 𝓛.H 𝓛.laws 𝓣) FromRaw known z (and_then ! (get ! refl) (and_then ! (get ! refl) (no_more !))) (λ v.
        use1 𝓛 (later (some (λ (r : D E). (tokens ⊛ ‵ ((B E).own_val r (v ∷ []))) ⊛ some (λ (_ : Unit {0} × (Unit {0} × Unit {0})). ‵ (fsep ftrue (fsep ftrue ftrue)) ⊛ (raw (fact 𝓤 (r.value ≡ given.value)) ⊛ raw (fact 𝓤 (r.alloc ≡ given.alloc))))))) (id⊢ 𝓤 _) $
        await ! tt $ pick ! (λ r. split ! $ move ! (1 ∷ []) $ pick ! (λ _. split3 ! $ drop ! $ heard ! (r.value ≡ given.value) (λ same. drop ! $ split ! $ move ! (1 ∷ []) $
        -- the box that came, and its bits
        box_out E ! r (v ∷ []) (λ b' o' alloc' at_block' vals' fits'. box_in E ! r b' o' r.value at_block' refl $ rewrite ! 0 (λ (us : List Val). ‵ ((B E).own_val r us)) (sym vals') refl $
        let typed : T (has_ty (box_ty E) v) × WT v = subst (λ (s : Val). T (has_ty (box_ty E) s) × WT s) (sym (ap only vals')) (box_typed E alloc' b' o' fits') in
        lands_last ! refl typed $ exec ! 𝓣.C 𝓣.Λ (env program.locals l) after_block (at_ret (env program.locals l) (W.post y)) $
        sets ! (of_opd ! (get ! refl)) refl typed $ returns ! (look_at ! 0 refl) $ free_all ! refl $
        suffices ! _ (ends_at 𝓛 ended stayed clauses y v r ((tt, (tt, tt)), tt) (tt, tt)) $ says ! same $
        nothing ! $ nothing ! $ fjoin ! $ join ! $ move ! (1 ∷ 0 ∷ []) $ join ! $ done !)))))))))

pub into_box_spec : {M : Type 1} → statement M
unfolding tables_of
into_box_spec 𝓤 𝓛 𝓜 𝓡 wired X Z LX LZ g d dd allocator md =
    let E : Bx = record { row = X; laws = LX; al = record { row = Z; laws = LZ; g = g; d = d; drops = dd } } in
    let 𝓣 : Tables 𝓤 𝓛.H = tables_of 𝓤 𝓛.H 𝓜 (tables 𝓤 𝓛.H 𝓜 𝓡 𝓡.env) in
    entered 𝓤 𝓛.H (triple_of 𝓛 (ended E).signature (f.spec X Z g d dd 𝓛 𝓜.mem 𝓡.returns)) 𝓣.C 𝓣.Λ (this (args E)) (program E) (code.unfolded 𝓤 𝓛.H 𝓜 𝓡 wired (X, (Z, tt)) d dd)
    (walk_Meets 𝓛 (ended E) (stayed E) (Goes-blank 𝓛 2 (plain (λ _. From E)) no (λ κs x a. tt), tt) (clauses E 𝓛 𝓜.mem 𝓡.returns 𝓣) (WpFn 𝓤 𝓛.H 𝓣.C 𝓣.Λ (program E)) (WpFn-mono 𝓤 𝓛.H 𝓛.laws 𝓣 (program E))
    (walk E 𝓛 𝓜.mem 𝓡.returns 𝓣 (raw_met.met 𝓤 𝓛 𝓜 𝓡 (code.calls-std_alloc::boxed::Box::from_raw 𝓡.env wired) X Z LX LZ g d dd allocator md)))
