-- What holds of steps holds of a journal, whose ticks have deals.
use Rattle.std.proofs.Common.{◌≡◌, ◌∙◌, ℕ, ◌≤◌, ap, sym, subst, List, [], ◌∷◌, ◌++◌, append_assoc}
use Rattle.std.specs.List.{AllByRecursion}
use Rattle.std.proofs.lemmas.List.{append-nil, map-append}
use Rattle.swim_member.specs.declared.answer.Answer.{Answer}
use Rattle.swim_member.specs.declared.answer.Out.{Out}
use Rattle.swim_member.specs.Checks.{AreSound}
use Rattle.swim_member.specs.Events.{Step, state_of}
use Rattle.swim_member.specs.Judge.{HasDeal}
use Rattle.swim_node.specs.History.{Base, AreNext, IsLegal, IsNext, step_of, steps}
use Rattle.swim_node.specs.declared.entry.Entry.{Entry}
use Rattle.swim_detect.specs.Causes.{IsAccounted}
use Rattle.swim_detect.specs.Finding.{deadline}
use Rattle.swim_detect.proofs.Accounted.{says-accounted}
use Rattle.swim_detect.proofs.Lists.{all-back}
use Rattle.swim_detect.proofs.Staying.{lists-short}
use Rattle.swim_detect.proofs.Silent.{silent-found}
use Rattle.swim_detect_group.specs.Journals.{NodeFindsSilent, EntriesAreAccounted}

abbrev pub HaveDeals : List Step → Type 0
HaveDeals all = AllByRecursion (λ (e : Step). HasDeal e.event) all

pub deals-in : (base : Base) (before history : List Entry) → AreNext base before history → HaveDeals (steps history)
deals-in base before [] h = tt
deals-in base before (e ∷ history) h = (h.0.deal, deals-in base (before ++ e ∷ []) history h.1)

pub node-finds : (x n : ℕ) (base : Base) (before stretch : List Entry) → NodeFindsSilent x n base before stretch
node-finds x n base before stretch f late =
    let parted : steps (before ++ stretch) ≡ steps before ++ steps stretch = map-append step_of before stretch in
    let all : HaveDeals (steps before ++ steps stretch) = subst HaveDeals parted (deals-in base [] (before ++ stretch) f.legal.each) in
    let deals : HaveDeals (steps stretch) = all-back (λ (e : Step). HasDeal e.event) (steps before) (steps stretch) all in
    silent-found 256 x n base.state (steps before) (steps stretch)
    (record { sound = f.sound; few = f.few })
    (record { deals = deals; silent = f.silent; lists = lists-short base.state (steps before) (steps stretch) deals; known = f.known })
    (subst (λ l. deadline 256 x base.state (steps before) ≤ (state_of base.state l).time) parted late)

-- an entry of a legal history is next after those before it
next-at : (base : Base) (first before : List Entry) (e : Entry) (after : List Entry) → AreNext base first (before ++ e ∷ after) → IsNext base (first ++ before) e
next-at base first [] e after h = subst (λ l. IsNext base l e) (sym (append-nil first)) h.0
next-at base first (d ∷ before) e after h = subst (λ l. IsNext base l e) (append_assoc first (d ∷ []) before) (next-at base (first ++ d ∷ []) before e after h.1)

pub entries-accounted : (base : Base) (history : List Entry) → IsLegal base history → AreSound base.state.settings → EntriesAreAccounted base history
entries-accounted base history legal sound before e after parts =
    let next : IsNext base before e = next-at base [] before e after (subst (AreNext base []) parts legal.each) in
    let parted : steps history ≡ steps before ++ step_of e ∷ steps after = ap steps parts ∙ map-append step_of before (e ∷ after) in
    subst (λ (a : Answer). AllByRecursion (λ (o : Out). AllByRecursion (IsAccounted base.state (steps before ++ step_of e ∷ [])) o.datagram.updates.items) a.outs.items)
    next.answered (says-accounted base.state (steps history) sound (steps before) (step_of e) (steps after) parted)
