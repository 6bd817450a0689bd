use Rattle.std.proofs.Common.{◌≡◌, ◌∙◌, ◌+◌, ℕ, ap, sym, subst, List, [], refl, Err}
use Rattle.swim_disk.specs.File.{FileView, file_state}
use Rattle.swim_state.specs.Held.{Covers, Through}
use Rattle.swim_state.specs.declared.owner.Owner.{Owner}
use Rattle.swim_node.specs.History.{Base, granted_of, state_after}
use Rattle.swim_node.specs.Lives.{MayEnd}
use Rattle.swim_node.specs.Node.{NodeView}
use Rattle.swim_node.specs.Peers.{known_peers}
use Rattle.swim_node.specs.declared.entry.Entry.{Entry}
use Rattle.swim_node.specs.Keeping.{KeepsGiven}
use Rattle.swim_node.specs.Lives.{GoesOn}
use Rattle.swim_node.specs.Node.{store_of}
use Rattle.swim_state.specs.declared.fault.SaveFault.{SaveFault}
use Rattle.swim_state.specs.declared.fault.SaveFault.TheVariants.{Changed, Device, Exhausted}
use Rattle.swim_library.specs.Running.{GoesOnOpen, KeepsHeld, MayEndEra, RefusesPeers}
use Rattle.swim_library.specs.declared.refusal.Refusal.TheVariants as why
use Rattle.swim_library.specs.declared.running.Running.{Running}
use Rattle.swim_library.proofs.Living.{lives_on}
use Rattle.swim_library.proofs.running.Running.keep_peers.Goals as goal

-- the save of an era that just began, said of the one before
holds : (old begun now : NodeView FileView) → begun.entries ≡ [] → begun.owner ≡ old.owner → begun.disk ≡ old.disk → granted_of begun.base begun.entries ≡ granted_of old.base old.entries → Through (Covers begun.owner begun.base.granted) (file_state begun.disk) (file_state now.disk) → MayEnd file_state now → KeepsHeld old now
holds old begun now none owner disk granted through ends =
    let same : begun.base.granted ≡ granted_of old.base old.entries = sym (ap (λ (h : List Entry). granted_of begun.base h) none) ∙ granted in
    record {
      moments = subst (λ (d : FileView). Through (Covers old.owner (granted_of old.base old.entries)) (file_state d) (file_state now.disk)) disk
          (subst (λ (o : Owner). Through (Covers o (granted_of old.base old.entries)) (file_state begun.disk) (file_state now.disk)) owner
          (subst (λ g. Through (Covers begun.owner g) (file_state begun.disk) (file_state now.disk)) same through));
      ends = ends;
    }

-- whom a member knows at the begin of an era, it knows after a save
known : (begun now : NodeView FileView) → begun.entries ≡ [] → now.entries ≡ [] → known_peers (state_after now.base []) ≡ known_peers (state_after begun.base []) → known_peers (state_after begun.base begun.entries) ≡ known_peers (state_after now.base now.entries)
known begun now none still base =
    ap (λ (h : List Entry). known_peers (state_after begun.base h)) none
    ∙ (sym base ∙ sym (ap (λ (h : List Entry). known_peers (state_after now.base h)) still))

-- why they were not saved, said of the one before
refuses : (old begun now : NodeView FileView) (peers : List ℕ) (fault : SaveFault) → begun.disk ≡ old.disk → KeepsGiven (Unit {0}) file_state peers (Err fault) (store_of begun) (store_of now) → RefusesPeers old now (why.Keeping fault)
refuses old begun now peers Device disk keeps =
    subst (λ (d : FileView). (file_state now.disk).failures ≡ (file_state d).failures + 1) disk (keeps.tries.counts.device refl)
refuses old begun now peers Exhausted disk keeps = (
  subst (λ (d : FileView). (file_state now.disk).failures ≡ (file_state d).failures) disk (keeps.tries.counts.calm (λ is. absurd cc)),
  keeps.full refl,
)
refuses old begun now peers Changed disk keeps = (keeps.tries.guards tt).changed refl

-- the member goes on, whether its peers were saved or not
goes_on : (old new : Running) (begun : NodeView FileView) → new.outbox ≡ old.outbox → new.notes ≡ old.notes → new.told ≡ old.told → new.due ≡ old.due → new.seeking ≡ old.seeking → new.node.owner ≡ begun.owner → begun.owner ≡ old.node.owner → new.node.first ≡ begun.first → begun.first ≡ old.node.first → MayEndEra old.node begun → GoesOn file_state begun new.node → KeepsHeld old.node new.node → GoesOnOpen old new
goes_on old new begun outbox notes told due seeking owner begun_owner first begun_first ended living held = record {
  outbox = outbox;
  notes = notes;
  told = told;
  due = due;
  seeking = seeking;
  owner = owner ∙ begun_owner;
  first = first ∙ begun_first;
  lives = lives_on old.node begun new.node ended living;
  held = held;
}

pub returns-in-Ok-clause-kept : goal.returns-in-Ok-clause-kept
returns-in-Ok-clause-kept c =
    let begun = c.end_era_of.new.node in
    let now = c.keep_peers-kept.new.self in
    record {
      peers = c.in-Ok.ensures.keeps.ok.1
          ∙ known begun now (c.end_era_of.ensures.empty refl) c.keep_peers-kept.ensures.entries
          (ap (λ (b : Base). known_peers (state_after b [])) c.keep_peers-kept.ensures.base);
      named = (c.in-Ok.ensures.keeps.tries.guards tt).named;
    }

pub returns-in-Ok-clause-goes_on : goal.returns-in-Ok-clause-goes_on
returns-in-Ok-clause-goes_on c =
    let keeps = c.keep_peers-kept.ensures.keeps in
    let ended = c.end_era_of.ensures in
    goes_on _ _ c.end_era_of.new.node refl refl refl refl refl keeps.tries.owner ended.owner c.keep_peers-kept.ensures.first ended.first ended.era c.keep_peers-kept.ensures.living
    (holds c.args.self.now.node c.end_era_of.new.node c.keep_peers-kept.new.self (ended.empty refl) ended.owner ended.disk ended.granted (keeps.tries.guards tt).moments (c.life_may_end.ensures tt))

pub returns-in-Err-clause-goes_on : goal.returns-in-Err-clause-goes_on
returns-in-Err-clause-goes_on c =
    let keeps = c.keep_peers-kept.ensures.keeps in
    let ended = c.end_era_of.ensures in
    goes_on _ _ c.end_era_of.new.node refl refl refl refl refl keeps.tries.owner ended.owner c.keep_peers-kept.ensures.first ended.first ended.era c.keep_peers-kept.ensures.living
    (holds c.args.self.now.node c.end_era_of.new.node c.keep_peers-kept.new.self (ended.empty refl) ended.owner ended.disk ended.granted (keeps.tries.guards tt).moments (c.life_may_end.ensures tt))

pub returns-in-Err-clause-refused : goal.returns-in-Err-clause-refused
returns-in-Err-clause-refused c =
    refuses c.args.self.now.node c.end_era_of.new.node c.keep_peers-kept.new.self _ c.in-Err.fault c.end_era_of.ensures.disk c.in-Err.ensures.keeps
