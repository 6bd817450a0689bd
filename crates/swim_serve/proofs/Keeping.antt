-- Peers that are kept where an era ends.
use Rattle.std.proofs.Common.{List, ℕ, ◌≡◌, ◌⊎◌, ◌∙◌, [], ap, inl, inr, sym, true, false, refl}
use Rattle.std.specs.Prelude.{Option, Some, None, IfSome, IfNone, is_some, Result, Ok, Err}
use Rattle.swim_disk.specs.Disk.{DiskState}
use Rattle.swim_state.specs.declared.fault.SaveFault.{SaveFault}
use Rattle.swim_state.specs.declared.fault.SaveFault.TheVariants.{Device, Changed, Exhausted}
use Rattle.swim_node.specs.History.{Base, state_after}
use Rattle.swim_node.specs.Keeping.{KeepsGiven}
use Rattle.swim_node.specs.Node.{NodeView, granted_base, store_of}
use Rattle.swim_node.specs.Peers.{known_peers}
use Rattle.swim_serve.specs.Peers.{FailedBy, HasSaved, CouldNotSave, KeepsPeers, BeginsKept}

-- who is known does not depend on the ceiling of a base
known-same : {D : Type 0} (a b : NodeView D) → a.entries ≡ [] → b.entries ≡ [] → b.base ≡ granted_base a.base b.base.granted → known_peers (state_after a.base a.entries) ≡ known_peers (state_after b.base b.entries)
known-same a b none empty base =
    ap (λ (es : _). known_peers (state_after a.base es)) none
    ∙ ap (λ (s : Base). known_peers (state_after s [])) (sym base)
    ∙ ap (λ (es : _). known_peers (state_after b.base es)) (sym empty)

is_broken : {P : Type 0} (saved : Result (Unit {0}) SaveFault) (why : SaveFault) → saved ≡ Err why → (why ≡ Exhausted → ⊥) → (saved ≡ Err Exhausted) ⊎ P → P
is_broken saved why is other (inl e) = absurd (other (cc (sym is ∙ e)))
is_broken saved why is other (inr p) = p

-- where it failed, the old ones stand if no save had failed before
stood : {D : Type 0} (keeps : Type 0) (state : D → DiskState) (a b : NodeView D) (why : SaveFault) (known : List ℕ) → KeepsGiven keeps state known (Err why) (store_of a) (store_of b) → a.broken ≡ false → (b.base.granted ≡ a.base.granted) × (b.peers ≡ a.peers)
stood keeps state a b why known kept whole = let same = kept.tries.steady whole in (same.ceiling_is, same.peers_are)

-- why it failed
failed : {D : Type 0} (keeps : Type 0) (state : D → DiskState) (a b : NodeView D) (why : SaveFault) (known : List ℕ) → KeepsGiven keeps state known (Err why) (store_of a) (store_of b) → FailedBy state a b why
failed keeps state a b Device known kept = (is_broken (Err Device) Device refl (λ e. cc) kept.ready, kept.tries.counts.device refl)
failed keeps state a b Changed known kept = (kept.tries.reread refl, is_broken (Err Changed) Changed refl (λ e. cc) kept.ready)
failed keeps state a b Exhausted known kept = kept.full refl

-- where it was done
pub has_saved : {D : Type 0} (keeps : Type 0) (state : D → DiskState) (a b : NodeView D) (u : Unit {0}) (saved : Result (Unit {0}) SaveFault) → saved ≡ Ok u → a.entries ≡ [] → b.entries ≡ [] → b.base ≡ granted_base a.base b.base.granted → KeepsGiven keeps state (known_peers (state_after a.base a.entries)) saved (store_of a) (store_of b) → HasSaved keeps state a b
has_saved keeps state a b u (Ok v) is none empty base kept = record { known = kept.ok.1 ∙ known-same a b none empty base; raised = kept.ok.0; whole = kept.ok.2; lasts = λ model. (kept.tries.guards model).named }
has_saved keeps state a b u (Err why) is none empty base kept = absurd cc

-- where it could not be
pub could_not : {D : Type 0} (keeps : Type 0) (state : D → DiskState) (a b : NodeView D) (why : SaveFault) (saved : Result (Unit {0}) SaveFault) → saved ≡ Err why → KeepsGiven keeps state (known_peers (state_after a.base a.entries)) saved (store_of a) (store_of b) → (why : SaveFault) × CouldNotSave state a b why
could_not keeps state a b why (Ok v) is kept = absurd cc
could_not keeps state a b why (Err fault) is kept = (fault, record { failed = failed keeps state a b fault _ kept; stood = stood keeps state a b fault _ kept })

-- what a call that keeps them says
pub keeps_peers : {D : Type 0} (keeps : Type 0) (state : D → DiskState) (a b : NodeView D) (saved : Result (Unit {0}) SaveFault) → a.entries ≡ [] → b.entries ≡ [] → b.base ≡ granted_base a.base b.base.granted → KeepsGiven keeps state (known_peers (state_after a.base a.entries)) saved (store_of a) (store_of b) → KeepsPeers keeps state a b
keeps_peers keeps state a b (Ok u) none empty base kept = inl (has_saved keeps state a b u (Ok u) refl none empty base kept)
keeps_peers keeps state a b (Err why) none empty base kept = inr (could_not keeps state a b why (Err why) refl kept)

begins : {D : Type 0} (state : D → DiskState) (a b : NodeView D) (why : SaveFault) → FailedBy state a b why → BeginsKept b
begins state a b Device f = inr (inl f.0)
begins state a b Changed f = inr (inl f.1)
begins state a b Exhausted f = inr (inr f)

-- and so the next era begins
pub begins_kept : {D : Type 0} (keeps : Type 0) (state : D → DiskState) (a b : NodeView D) → KeepsPeers keeps state a b → BeginsKept b
begins_kept keeps state a b (inl saved) = inl saved.known
begins_kept keeps state a b (inr (why, could_not)) = begins state a b why could_not.failed

-- what holds where there is a value, and where there is none
pub some_gives : {A : Type 0} (o : Option A) (P : Type 0) → IfSome o (λ _. P) → is_some o ≡ true → P
some_gives (Some x) P all is = all
some_gives None P all is = cc

pub none_gives : {A : Type 0} (o : Option A) (P : Type 0) → IfNone o P → is_some o ≡ false → P
none_gives (Some x) P all is = cc
none_gives None P all is = all
