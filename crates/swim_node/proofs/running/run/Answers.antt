use Rattle.std.proofs.Common.{arith, ℕ, ◌≤◌, ◌≡◌, ◌∙◌, take, sym, ap, ◌++◌, ◌∷◌, [], List, ◌+◌, append_assoc}
use Rattle.std.proofs.lemmas.List.{take_more}
use Rattle.swim_disk.specs.Disk.{DiskState}
use Rattle.swim_state.specs.Held.{Covers, Through}
use Rattle.swim_state.specs.declared.owner.Owner.{Owner}
use Rattle.swim_state.specs.Alone.{IsEarlier}
use Rattle.swim_state.proofs.Alone.{alone_less, alone_on, earlier_beside}
use Rattle.swim_state.proofs.Moments.{weaker, goes_on, since_from}
use Rattle.swim_member.specs.declared.event.Event.{Event}
use Rattle.swim_node.specs.declared.entry.Tag.{Tag}
use Rattle.swim_node.specs.declared.entry.Entry.{Entry}
use Rattle.swim_node.specs.Node.{Ran, AreCalls, NodeView}
use Rattle.swim_node.proofs.Lists.{sends_all-snoc}
use Rattle.swim_node.proofs.running.run.Goals as goal

are-snoc : (cs : List (Tag × Event)) (es : List Entry) (c : Tag × Event) (e : Entry) → AreCalls cs es → e.tag ≡ c.0 → e.event ≡ c.1 → AreCalls (cs ++ c ∷ []) (es ++ e ∷ [])
are-snoc [] [] c e h t v = (t, v, tt {0})
are-snoc [] (f ∷ es) c e h t v = absurd h
are-snoc (d ∷ cs) [] c e h t v = absurd h
are-snoc (d ∷ cs) (f ∷ es) c e h t v = (h.0, h.1, are-snoc cs es c e h.2 t v)

ran-snoc : {D : Type 0} (old mid new : NodeView D) (cs : List (Tag × Event)) (c : Tag × Event) (e : Entry) → Ran old mid cs → new.entries ≡ mid.entries ++ e ∷ [] → e.tag ≡ c.0 → e.event ≡ c.1 → new.base ≡ mid.base → new.owner ≡ mid.owner → new.first ≡ mid.first → Ran old new (cs ++ c ∷ [])
ran-snoc old mid new cs c e r entries t v base owner first = record {
  added = r.added ++ e ∷ [];
  entries = entries ∙ ap (λ (l : List Entry). l ++ e ∷ []) r.entries ∙ append_assoc old.entries r.added (e ∷ []);
  are = are-snoc cs r.added c e r.are t v;
  base = base ∙ r.base;
  owner = owner ∙ r.owner;
  first = first ∙ r.first;
}

-- what covers more covers less
through_more : (mine yours : Owner) (a b : ℕ) (old new : DiskState) → yours ≡ mine → a ≤ b → Through (Covers yours b) old new → Through (Covers mine a) old new
through_more mine yours a b old new same le h = weaker (Covers yours b) (Covers mine a) old new (λ image covers. rw (← same) (record { sound = covers.sound; covered = omega (arith, le, covers.covered) })) h

pub loop-i-preserved : goal.loop-i-preserved
loop-i-preserved g c =
    let more : take (c.loop-i.i + 1) c.args.calls.now ≡ take c.loop-i.i c.args.calls.now ++ c.index-calls-i.result ∷ [] =
    take_more c.args.calls.now c.loop-i.i c.index-calls-i.result c.loop-i-test.true ∙ ap (λ (d : Tag × Event). take c.loop-i.i c.args.calls.now ++ d ∷ []) (sym c.index-calls-i.is) in
    let ok = c.in_default.ensures.ok in
    record {
      ran = rw more (ran-snoc c.args.node.now c.loop-i.node c.apply_in_place.new.self (take c.loop-i.i c.args.calls.now) c.index-calls-i.result ok.0 c.loop-i.invariant.ran ok.1.entries ok.1.tag_is ok.1.event_is c.in_default.ensures.base c.in_default.ensures.owner c.in_default.ensures.first);
      name = c.in_default.ensures.link ∙ c.loop-i.invariant.name;
      disk = c.in_default.ensures.disk ∙ c.loop-i.invariant.disk;
      sends = (
        c.loop-i.invariant.sends.0 ++ ok.0 ∷ [],
        ok.1.entries ∙ ap (λ (l : List Entry). l ++ ok.0 ∷ []) c.loop-i.invariant.sends.1 ∙ append_assoc c.args.node.now.entries c.loop-i.invariant.sends.0 (ok.0 ∷ []),
        sends_all-snoc g.L.Link.tells _ _ _ _ _ _ c.loop-i.invariant.sends.0 ok.0 c.loop-i.invariant.sends.2 ok.2,
      );
      grows = omega (arith, c.loop-i.invariant.grows, c.in_default.ensures.grows);
      moments = λ keeps.
          goes_on _ _ _ _ (c.loop-i.invariant.moments keeps)
          (through_more c.args.node.now.owner c.loop-i.node.owner _ _ _ _ c.loop-i.invariant.ran.owner c.loop-i.invariant.grows (c.in_default.ensures.moments keeps));
      earlier = λ keeps. alone_on _ _ _ _ (c.loop-i.invariant.earlier keeps) (alone_less _ IsEarlier _ _ (earlier_beside _) (c.in_default.ensures.beside keeps));
    }

pub returns-in-Err-clause-moments : goal.returns-in-Err-clause-moments
returns-in-Err-clause-moments g c keeps = rw c.in-Err.ensures.err.0 (c.loop-i.invariant.moments keeps)

pub returns-in-Err-clause-since : goal.returns-in-Err-clause-since
returns-in-Err-clause-since g c keeps = since_from _ _ _ (returns-in-Err-clause-moments g c keeps) (c.numbers_are_covered.ensures.held keeps)

pub returns-clause-since : goal.returns-clause-since
returns-clause-since g c keeps = since_from _ _ _ (c.loop-i.invariant.moments keeps) (c.numbers_are_covered.ensures.held keeps)
