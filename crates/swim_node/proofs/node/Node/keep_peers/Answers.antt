use Rattle.std.proofs.Common.{◌≡◌, ◌∙◌, ℕ, ap, sym, subst, refl, arith}
use Rattle.swim_state.specs.Store.{StoreView}
use Rattle.swim_node.specs.History.{granted_of, state_after}
use Rattle.swim_node.specs.Keeping.{KeepsGiven}
use Rattle.swim_node.specs.Lives.{IsRaised}
use Rattle.swim_node.specs.Node.{base_of, store_of}
use Rattle.swim_node.specs.Peers.{known_peers}
use denote.Param.{param}
use Rattle.swim_node.specs.contracts.node.Node.{the_view}
use Rattle.swim_node.proofs.Living.{goes_raised}
use Rattle.swim_node.proofs.node.Node.keep_peers.Given.{Over}
use Rattle.swim_node.proofs.node.Node.keep_peers.Goals as goal

module _ (g : Over) (c : goal.After-self-1 g) where
  -- with no entry the ceiling is the base's, and the state too
  stood : c.self.inside.store.ceiling ≡ (base_of c.self.inside.base).granted
  stood = sym c.self.invariant.0.granted ∙ ap (granted_of (base_of c.self.inside.base)) (ap (λ v. v.entries) c.self.view_is ∙ c.requires.empty)

  known : c.known_peers-peers.result ≡ known_peers (state_after (base_of c.self.inside.base) c.self.inside.journal.entries)
  known = c.known_peers-peers.ensures.value ∙ ap known_peers (sym c.self.invariant.0.member)

-- the store's ceiling is the base's before the save, and after it
pub returns-clause-keeps : goal.returns-clause-keeps
returns-clause-keeps g c =
    let model = g.D.Disk.keeps_model in
    let state = g.D.Disk.state in
    let result = c.keep-kept.result in
    let old = c.self.inside.store in
    let new = c.keep-kept.new.store in
    subst (λ v. KeepsGiven model state (known_peers (state_after v.base v.entries)) result (store_of v) (record new { ceiling = c.ceiling-self-inside.result })) c.self.view_is
    (subst (λ n. KeepsGiven model state (known_peers (state_after (base_of c.self.inside.base) c.self.inside.journal.entries)) result (record old { ceiling = n }) (record new { ceiling = c.ceiling-self-inside.result })) (stood g c)
    (subst (λ n. KeepsGiven model state (known_peers (state_after (base_of c.self.inside.base) c.self.inside.journal.entries)) result old (record new { ceiling = n })) (sym c.ceiling-self-inside.ensures.value)
    (subst (λ peers. KeepsGiven model state peers result old new) (known g c) c.keep-kept.ensures)))

-- where the ceiling is the greatest number, the save leaves the store as it is
pub returns-clause-untouched : goal.returns-clause-untouched
returns-clause-untouched g c most =
    let inside = c.self.inside in
    let with = λ (n : ℕ) (store : StoreView g.row.D.Denot). the_view (param 0 g.row.D) g.D.Disk (record inside { base = record inside.base { granted = n }; store = store }) in
    let same = c.keep-kept.ensures.untouched (stood g c ∙ ap (λ v. v.base.granted) c.self.view_is ∙ most) in
    ap (λ n. with n c.keep-kept.new.store) c.ceiling-self-inside.ensures.value
    ∙ ap (λ store. with store.ceiling store) same
    ∙ ap (λ n. with n inside.store) (stood g c)
    ∙ c.self.view_is

pub returns-clause-living : goal.returns-clause-living
returns-clause-living g c =
    let new = record c.self.inside { base = record c.self.inside.base { granted = c.ceiling-self-inside.result }; store = c.keep-kept.new.store } in
    let raised : IsRaised (base_of c.self.inside.base) (base_of new.base) = record { same = refl; grows = omega (arith, stood g c, c.keep-kept.ensures.tries.grows, c.ceiling-self-inside.ensures.value) } in
    rw (← c.self.view_is) (goes_raised g.D.Disk.state (the_view (param 0 g.row.D) g.D.Disk c.self.inside) (the_view (param 0 g.row.D) g.D.Disk new) raised c.keep-kept.ensures.tries.owner refl)
