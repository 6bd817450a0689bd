use Rattle.std.proofs.Common.{arith, ◌≡◌, ℕ, ◌+◌, ◌∷◌, ◌++◌, [], List, length, ap, sym, ◌∙◌, subst, refl}
use Rattle.swim_state.specs.Held.{Held}
use Rattle.swim_member.specs.State.{State}
use Rattle.swim_member.specs.Judge.{wanted}
use Rattle.swim_member.specs.Fit.{AreAll, own_numbers_in}
use Rattle.swim_node.specs.Peers.{NamesPeers, known_peers}
use Rattle.swim_node.specs.Saving.{Grants, ceiling_asked}
use denote.Param.{param}
use Rattle.swim_node.specs.contracts.node.Node.{the_view}
use Rattle.swim_node.specs.declared.entry.Entry.{Entry}
use Rattle.swim_node.specs.History.{state_after, granted_of, status_at}
use Rattle.swim_node.specs.Node.{base_of, entry_with}
use Rattle.swim_node.proofs.Lists.{granted_from-append}
use Rattle.swim_node.proofs.Living.{goes_on}
use Rattle.swim_node.proofs.Nodes.{Enters, node-snoc, state-snoc, said-new, said-old}
use Rattle.swim_node.proofs.node.Node.apply_in_place.Given.{Over}
use Rattle.swim_node.proofs.node.Node.apply_in_place.Goals as goal

module _ (g : Over) (c : goal.After-add g) where
  abbrev entry : Entry
  entry = entry_with c.args.tag c.args.event.now c.enter-done.result c.enter-done.new.answer c.status_now-status.result

  snoc : c.add.new.self.entries ≡ c.self.inside.journal.entries ++ entry ∷ []
  snoc = c.add.ensures ∙ ap (λ (l : List Entry). l ++ entry ∷ []) c.reserve.ensures.entries

  enters : Enters c.self.inside.journal.entries c.self.inside.member c.enter-done.new.member c.self.inside.store.ceiling c.enter-done.new.store.ceiling entry
  enters =
      let saved = rw (← c.enter-done.ensures.granted) at c.enter-done.ensures.saved.saves in
      let status : entry.reply.status ≡ status_at c.enter-done.new.member (length c.self.inside.journal.entries + 1) = rw (c.status_now-status.ensures, c.entries.ensures, c.reserve.ensures.entries) refl in
      let turn = rw (← c.self.view_is) at c.in_ok-admit.ensures.ok.0 in
      assumption (saved, status, turn, c.enter-done.ensures, c.requires.caller)

  granted_now : granted_of (base_of c.self.inside.base) c.add.new.self.entries ≡ c.enter-done.result.granted
  granted_now = ap (granted_of (base_of c.self.inside.base)) snoc ∙ granted_from-append c.self.inside.base.granted c.self.inside.journal.entries (entry ∷ [])

pub returns-clause-grows : goal.returns-clause-grows
returns-clause-grows g c = rw (← c.self.view_is) (omega (arith, granted_now g c, c.enter-done.ensures.granted, c.enter-done.ensures.saved.grows, c.self.invariant.0.granted))

pub returns-clause-living : goal.returns-clause-living
returns-clause-living g c =
    let new = record c.self.inside { journal = c.add.new.self; member = c.enter-done.new.member; store = c.enter-done.new.store; most = c.greatest_own-self-inside.result } in
    rw (← c.self.view_is) (goes_on g.D.Disk.state (the_view (param 0 g.row.D) g.D.Disk c.self.inside) (the_view (param 0 g.row.D) g.D.Disk new) refl c.enter-done.ensures.saved.owner refl)

pub invariant_of-self-2 : goal.invariant_of-self-2
invariant_of-self-2 g c =
    let room = rw (← c.self.view_is) at c.in_ok-admit.ensures.ok.1 in (
      rw (c.greatest_own-self-inside.ensures, c.settings.ensures, c.as_slice.ensures.value, c.add.ensures, c.reserve.ensures.entries)
          (node-snoc (base_of c.self.inside.base) c.self.inside.journal.entries (entry g c) c.self.inside.first c.self.inside.member c.enter-done.new.member c.self.inside.store.ceiling c.enter-done.new.store.ceiling c.self.inside.most c.self.invariant.0 (enters g c) room),
      c.enter-done.ensures.saved.covered,
    )

-- what the file covers, said of what a caller sees
pub returns-in_err-admit-clause-since : goal.returns-in_err-admit-clause-since
returns-in_err-admit-clause-since g c keeps image left =
    let covered = subst (λ (n : ℕ). Held c.self.inside.store.owner (g.D.Disk.state c.self.inside.store.disk) n) (sym c.self.invariant.0.granted) (c.self.invariant.1 keeps) in
    subst (λ v. Held v.owner (g.D.Disk.state v.disk) (granted_of v.base v.entries)) c.self.view_is covered image ((g.D.Disk.state c.args.self.now.disk).only_now image left)

pub returns-then-is_err-clause-since : goal.returns-then-is_err-clause-since
returns-then-is_err-clause-since g c keeps image left =
    let covered = subst (λ (n : ℕ). Held c.self.inside.store.owner (g.D.Disk.state c.self.inside.store.disk) n) (sym c.self.invariant.0.granted) (c.self.invariant.1 keeps) in
    let same = ap (λ v. v.disk) c.self.view_is in
    subst (λ v. Held v.owner (g.D.Disk.state v.disk) (granted_of v.base v.entries)) c.self.view_is covered image ((g.D.Disk.state c.args.self.now.disk).only_now image (rw same at left))

pub returns-clause-ok : goal.returns-clause-ok
returns-clause-ok g c =
    let base = base_of c.self.inside.base in
    let stands : state_after base c.add.new.self.entries ≡ c.enter-done.new.member =
    ap (state_after base) (snoc g c)
    ∙ state-snoc base c.self.inside.journal.entries (entry g c) c.self.inside.first c.self.inside.member c.enter-done.new.member c.self.inside.store.ceiling c.enter-done.new.store.ceiling c.self.inside.most c.self.invariant.0 (enters g c) in
    let stood : state_after base c.self.inside.journal.entries ≡ c.self.inside.member = c.self.invariant.0.member in (
      entry g c,
      record {
        entries = rw (← c.self.view_is) (snoc g c);
        tag_is = refl;
        event_is = refl;
        reply_is = refl;
        texts = c.enter-done.ensures.texts;
        kept = λ kept. rw (← c.self.view_is) (c.enter-done.ensures.saved.kept kept);
        broken = rw (← c.self.view_is) c.enter-done.ensures.saved.broken;
        grants = rw (← c.self.view_is)
            (subst (λ (s : State). Grants g.D.Disk.keeps_model (ceiling_asked base.state.settings.block (wanted s c.args.event.now)) c.enter-done.result.save c.self.inside.store.broken (g.D.Disk.state c.self.inside.store.disk) (g.D.Disk.state c.enter-done.new.store.disk) (granted_of base c.self.inside.journal.entries) c.enter-done.result.granted) (sym stood)
            (rw (← c.self.invariant.0.settings, c.self.invariant.0.granted, c.enter-done.ensures.granted) c.enter-done.ensures.saved.grants));
        names = subst (λ v. NamesPeers g.D.Disk.keeps_model (known_peers (state_after v.base v.entries)) c.enter-done.result.save v.broken (g.D.Disk.state v.disk) (g.D.Disk.state c.enter-done.new.store.disk) v.peers c.enter-done.new.store.peers) c.self.view_is
            (subst (λ (s : State). NamesPeers g.D.Disk.keeps_model (known_peers s) c.enter-done.result.save c.self.inside.store.broken (g.D.Disk.state c.self.inside.store.disk) (g.D.Disk.state c.enter-done.new.store.disk) c.self.inside.store.peers c.enter-done.new.store.peers) (sym stood) c.enter-done.ensures.saved.names);
        fails = rw (← c.self.view_is) c.enter-done.ensures.saved.fails;
        said = subst (λ (s : State). AreAll s.number (own_numbers_in base.state.settings.me c.enter-done.new.answer.outs.items)) (sym stands)
            (said-new base c.self.inside.journal.entries (entry g c) c.self.inside.first c.self.inside.member c.enter-done.new.member c.self.inside.store.ceiling c.enter-done.new.store.ceiling c.self.inside.most c.self.invariant.0 (enters g c));
        unsaved = λ failed. rw (← c.self.view_is)
            (subst (λ (s : State). AreAll s.number (own_numbers_in base.state.settings.me c.enter-done.new.answer.outs.items)) (sym stood)
            (said-old base c.self.inside.journal.entries (entry g c) c.self.inside.first c.self.inside.member c.enter-done.new.member c.self.inside.store.ceiling c.enter-done.new.store.ceiling c.self.inside.most c.self.invariant.0 (enters g c) failed));
      },
      c.enter-done.ensures.sends,
    )
