-- What a socket has answered is what it gives.
use Rattle.std.proofs.Common.{◌≡◌, ℕ, List, [], ◌∷◌, ◌++◌, refl, ap, subst, sym, ◌∙◌, append-nil}
use Rattle.std.specs.Prelude.{Option, Result, ⊤}
use Rattle.std.proofs.lemmas.List.Elements.{All-nil, All-push}
use Rattle.arrayvec.specs.ArrayVec.{ArrayVec}
use Rattle.swim_shell.specs.Inbounds.{Came, came_of, failures_in, Took}
use Rattle.swim_shell.specs.declared.inbound.ReceiveFault.{ReceiveFault}
use Rattle.swim_net.specs.declared.udp.ReceiveAnswer.{ReceiveAnswer}
use Rattle.swim_net.specs.Datagrams.{came_by, came_in}
use Rattle.swim_net.specs.Udp.{Receive, BringsLast, BringsOne, HadNothing}
use Rattle.swim_shell.proofs.Receiving.{failures_in-append}

-- one more answer is one more that came
came_in-snoc : (xs : List ReceiveAnswer) (a : ReceiveAnswer) → came_in (xs ++ a ∷ []) ≡ came_in xs ++ came_by a.from a.bytes ∷ []
came_in-snoc [] a = refl
came_in-snoc (x ∷ xs) a = ap (λ cs. came_by x.from x.bytes ∷ cs) (came_in-snoc xs a)

pub answers_more : (old new : List ReceiveAnswer) (none from : List (Result (Option ℕ) ReceiveFault)) (empty bytes : List (ArrayVec ℕ)) (r : Result (Option ℕ) ReceiveFault) (v : ArrayVec ℕ) → none ≡ [] → from ≡ none ++ r ∷ [] → empty ≡ [] → bytes ≡ empty ++ v ∷ [] → new ≡ old ++ record { from = from; bytes = bytes } ∷ [] → came_in new ≡ came_in old ++ came_of r v.items ∷ []
answers_more old new none from empty bytes r v n f e b a = ap came_in a ∙ (came_in-snoc old _ ∙ ap (λ c. came_in old ++ c ∷ []) (ap (λ w. came_by w bytes) (f ∙ ap (λ w. w ++ r ∷ []) n) ∙ ap (λ w. came_by (r ∷ []) w) (b ∙ ap (λ w. w ++ v ∷ []) e)))

-- an inbound that tells gave this one
pub took_one : (old new : List Came) (c : Came) → new ≡ old ++ c ∷ [] → Took ⊤ old new (failures_in old) (failures_in new) (c ∷ [])
took_one old new c e = record { told = λ _. e; failed = ap failures_in e ∙ failures_in-append old (c ∷ []) }

-- what the first receive brought
pub brings_first : (old new : List Receive) (came : Came) → BringsOne old new came → BringsLast old new came
brings_first old new came one = record { before = []; none = All-nil HadNothing; last = subst (λ (l : List Receive). BringsOne l new came) (sym (append-nil old)) one }

-- what the second receive brought, where the first found nothing
pub brings_second : (old mid new : List Receive) (first : Receive) (came : Came) → mid ≡ old ++ first ∷ [] → HadNothing first → BringsOne mid new came → BringsLast old new came
brings_second old mid new first came is none one = record { before = first ∷ []; none = All-push HadNothing [] first (All-nil HadNothing) none; last = subst (λ (l : List Receive). BringsOne l new came) is one }
