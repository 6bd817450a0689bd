-- The lines of a call say what it met.
use Rattle.std.proofs.Common.{◌≡◌, ℕ, ◌+◌, ◌-◌, ◌^◌, ◌<◌, ◌≤◌, ◌==◌, Bool, true, false, List, [], ◌∷◌, ◌++◌, length, replicate, set, zero, suc, refl, sym, ap, ◌∙◌, arith, append_assoc, length-append, eqb-true}
use Rattle.std.specs.Prelude.{All, cond}
use Rattle.std.proofs.lemmas.List.{set_at}
use Rattle.std.proofs.lemmas.List.Elements.{All-append, All-cons, All-nil}
use Rattle.swim_member.specs.declared.answer.TheConstants.{OUTS_MAX}
use Rattle.swim_node.specs.declared.entry.Entry.{Entry}
use Rattle.swim_node.specs.declared.entry.Outcome.{Outcome}
use Rattle.swim_node.specs.declared.entry.Outcome.TheVariants.{Taken, Lost}
use Rattle.swim_record.specs.Blocks.{AreFit, IsFit}
use Rattle.swim_record.specs.declared.argument.Argument.TheVariants.{Number}
use Rattle.swim_record.specs.Recording.{lost_lines, met_lines}
use Rattle.swim_record.specs.Text.{IsArgument}
use Rattle.swim_record.specs.declared.line.Line.{Line}
use Rattle.swim_record.specs.declared.line.Line.TheVariants as line
use Rattle.swim_replay.specs.declared.met.Met.{Met}
use Rattle.swim_replay.specs.Machinery.Calls.{IsMet, MayMeet, all_met, met_with}
use Rattle.swim_replay.specs.Recorded.{IsRecordedCall}

-- Lines with one number

one-fit : (n : ℕ) → n < 2 ^ 64 → All IsArgument (Number n ∷ [])
one-fit n small = All-cons IsArgument (Number n) [] small (All-nil IsArgument)

lost-fit : (place : ℕ) (outs : List Outcome) → place + length outs ≤ 2 ^ 32 → AreFit (lost_lines place outs)
lost-fit place [] few = All-nil IsFit
lost-fit place (Taken ∷ outs) few = lost-fit (place + 1) outs (omega arith)
lost-fit place (Lost ∷ outs) few = All-cons IsFit (line.Lost place) (lost_lines (place + 1) outs) (one-fit place (omega arith)) (lost-fit (place + 1) outs (omega arith))

caller-fit : (b : Bool) (caller : ℕ) → caller < 16 → AreFit (cond b [] (line.Caller caller ∷ []))
caller-fit true caller low = All-nil IsFit
caller-fit false caller low = All-cons IsFit (line.Caller caller) [] (one-fit caller (omega arith)) (All-nil IsFit)

granted-fit : (b : Bool) (granted : ℕ) → granted < 2 ^ 64 → AreFit (cond b [] (line.Granted granted ∷ []))
granted-fit true granted low = All-nil IsFit
granted-fit false granted low = All-cons IsFit (line.Granted granted) [] (one-fit granted low) (All-nil IsFit)

pub met-fit : (granted : ℕ) (e : Entry) → IsRecordedCall e → AreFit (met_lines granted e)
met-fit granted e is =
    All-append IsFit (cond (e.tag.caller == 0) [] (line.Caller e.tag.caller ∷ []) ++ cond (e.granted == granted) [] (line.Granted e.granted ∷ [])) (lost_lines 1 e.outcomes.items)
    (All-append IsFit (cond (e.tag.caller == 0) [] (line.Caller e.tag.caller ∷ [])) (cond (e.granted == granted) [] (line.Granted e.granted ∷ [])) (caller-fit (e.tag.caller == 0) e.tag.caller is.caller) (granted-fit (e.granted == granted) e.granted is.granted))
    (lost-fit 1 e.outcomes.items (let few = is.outcomes in omega arith))

-- What they say

pub all_met-append : (m : Met) (lines others : List Line) → all_met m (lines ++ others) ≡ all_met (all_met m lines) others
all_met-append m [] others = refl
all_met-append m (l ∷ lines) others = all_met-append (met_with m l) lines others

lost-may : (place : ℕ) (outs : List Outcome) → 0 < place → place + length outs ≤ OUTS_MAX + 1 → All MayMeet (lost_lines place outs)
lost-may place [] some few = All-nil MayMeet
lost-may place (Taken ∷ outs) some few = lost-may (place + 1) outs (omega arith) (omega arith)
lost-may place (Lost ∷ outs) some few = All-cons MayMeet (line.Lost place) (lost_lines (place + 1) outs) (some, omega arith) (lost-may (place + 1) outs (omega arith) (omega arith))

-- after these outcomes come so many more, and none of them is lost yet
lost-met : (m : Met) (place k d : ℕ) (before outs : List Outcome) → m.outcomes ≡ before ++ replicate k Taken → place ≡ length before + 1 → k ≡ length outs + d → all_met m (lost_lines place outs) ≡ record m { outcomes = before ++ (outs ++ replicate d Taken) }
lost-met m place k d before [] is at enough = ap (λ (o : List Outcome). record m { outcomes = o }) (is ∙ ap (λ (n : ℕ). before ++ replicate n Taken) (let e : k ≡ d = omega arith in e))
lost-met m place zero d before (o ∷ outs) is at enough = absurd (omega arith)
lost-met m place (suc k) d before (Taken ∷ outs) is at enough =
    lost-met m (place + 1) k d (before ++ Taken ∷ []) outs (is ∙ sym (append_assoc before (Taken ∷ []) (replicate k Taken))) (omega (arith, length-append before (Taken ∷ []))) (omega arith)
    ∙ ap (λ (o : List Outcome). record m { outcomes = o }) (append_assoc before (Taken ∷ []) (outs ++ replicate d Taken))
lost-met m place (suc k) d before (Lost ∷ outs) is at enough =
    let marked : (met_with m (line.Lost place)).outcomes ≡ before ++ Lost ∷ replicate k Taken = ap (λ (o : List Outcome). set o (place - 1) Lost) is ∙ set_at before Taken (replicate k Taken) Lost (place - 1) (omega arith) in
    lost-met (met_with m (line.Lost place)) (place + 1) k d (before ++ Lost ∷ []) outs (marked ∙ sym (append_assoc before (Lost ∷ []) (replicate k Taken))) (omega (arith, length-append before (Lost ∷ []))) (omega arith)
    ∙ ap (λ (o : List Outcome). record m { outcomes = o }) (append_assoc before (Lost ∷ []) (outs ++ replicate d Taken))

caller-met : (m : Met) (b : Bool) (caller : ℕ) → (caller == 0) ≡ b → m.caller ≡ 0 → all_met m (cond b [] (line.Caller caller ∷ [])) ≡ record m { caller = caller }
caller-met m true caller is none = ap (λ (n : ℕ). record m { caller = n }) (none ∙ sym (eqb-true caller 0 is))
caller-met m false caller is none = refl

granted-met : (m : Met) (b : Bool) (granted : ℕ) → (granted == m.granted) ≡ b → all_met m (cond b [] (line.Granted granted ∷ [])) ≡ record m { granted = granted }
granted-met m true granted is = ap (λ (n : ℕ). record m { granted = n }) (sym (eqb-true granted m.granted is))
granted-met m false granted is = refl

-- what a call met, of which nothing is said
abbrev pub nothing_met : ℕ → Met
nothing_met granted = record { caller = 0; granted = granted; outcomes = replicate OUTS_MAX Taken }

pub met-all : (granted : ℕ) (e : Entry) → IsRecordedCall e → IsMet e (all_met (nothing_met granted) (met_lines granted e))
met-all granted e is =
    let callers = cond (e.tag.caller == 0) [] (line.Caller e.tag.caller ∷ []) in
    let ceilings = cond (e.granted == granted) [] (line.Granted e.granted ∷ []) in
    let zero = nothing_met granted in
    let one : Met = record zero { caller = e.tag.caller } in
    let two : Met = record one { granted = e.granted } in
    let few : length e.outcomes.items ≤ OUTS_MAX = is.outcomes in
    let more : List Outcome = replicate (OUTS_MAX - length e.outcomes.items) Taken in
    let first : all_met zero callers ≡ one = caller-met zero (e.tag.caller == 0) e.tag.caller refl refl in
    let second : all_met one ceilings ≡ two = granted-met one (e.granted == granted) e.granted refl in
    let third : all_met two (lost_lines 1 e.outcomes.items) ≡ record two { outcomes = e.outcomes.items ++ more } = lost-met two 1 OUTS_MAX (OUTS_MAX - length e.outcomes.items) [] e.outcomes.items refl refl (omega arith) in
    let whole : all_met zero (met_lines granted e) ≡ record two { outcomes = e.outcomes.items ++ more } =
    all_met-append zero (callers ++ ceilings) (lost_lines 1 e.outcomes.items)
    ∙ ap (λ (m : Met). all_met m (lost_lines 1 e.outcomes.items)) (all_met-append zero callers ceilings ∙ ap (λ (m : Met). all_met m ceilings) first ∙ second)
    ∙ third in
    record {
      caller = ap (λ (m : Met). m.caller) whole;
      granted = ap (λ (m : Met). m.granted) whole;
      more = more;
      outcomes = ap (λ (m : Met). m.outcomes) whole;
    }

caller-may : (b : Bool) (caller : ℕ) → caller < 16 → All MayMeet (cond b [] (line.Caller caller ∷ []))
caller-may true caller low = All-nil MayMeet
caller-may false caller low = All-cons MayMeet (line.Caller caller) [] low (All-nil MayMeet)

granted-may : (b : Bool) (granted : ℕ) → All MayMeet (cond b [] (line.Granted granted ∷ []))
granted-may true granted = All-nil MayMeet
granted-may false granted = All-cons MayMeet (line.Granted granted) [] tt (All-nil MayMeet)

pub met-may : (granted : ℕ) (e : Entry) → IsRecordedCall e → All MayMeet (met_lines granted e)
met-may granted e is =
    All-append MayMeet (cond (e.tag.caller == 0) [] (line.Caller e.tag.caller ∷ []) ++ cond (e.granted == granted) [] (line.Granted e.granted ∷ [])) (lost_lines 1 e.outcomes.items)
    (All-append MayMeet (cond (e.tag.caller == 0) [] (line.Caller e.tag.caller ∷ [])) (cond (e.granted == granted) [] (line.Granted e.granted ∷ [])) (caller-may (e.tag.caller == 0) e.tag.caller is.caller) (granted-may (e.granted == granted) e.granted))
    (lost-may 1 e.outcomes.items (omega arith) (let few = is.outcomes in omega arith))
