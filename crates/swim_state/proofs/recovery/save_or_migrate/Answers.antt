use Rattle.std.proofs.Common.{◌≡◌, ◌∙◌, [], subst, sym}
use Rattle.std.proofs.lemmas.Result.{IfOk-weaker}
use Rattle.swim_state.specs.Alone.{IsEarlier}
use Rattle.swim_state.specs.File.{AreOf, layout_of, peers_in}
use Rattle.swim_state.proofs.Alone.{alone_at, alone_less, earlier_beside, target_read}
use Rattle.swim_state.proofs.Whole.{one_peers, peers_read}
use Rattle.swim_state.proofs.recovery.save_or_migrate.Goals as goal

pub returns-in-One-clause-peers : goal.returns-in-One-clause-peers
returns-in-One-clause-peers g c = λ keeps.
    let content = (g.D.Disk.state c.args.disk.now).content in
    let found = (c.requires.found keeps).1 in
    let none = peers_read content c.args.found.slots found.same ∙ one_peers content (sym found.version ∙ c.in-One.is) in
    IfOk-weaker c.migrate.result (λ s. peers_in s ≡ []) (λ s. peers_in s ≡ peers_in c.args.found.slots) (λ s is. is ∙ sym none) c.migrate.ensures.peers

pub returns-in_err-save-in-Two-clause-earlier : goal.returns-in_err-save-in-Two-clause-earlier
returns-in_err-save-in-Two-clause-earlier g c = λ keeps. alone_less _ IsEarlier _ _ (earlier_beside _) (c.save.ensures.alone keeps)

pub returns-in_ok-save-in-Two-clause-earlier : goal.returns-in_ok-save-in-Two-clause-earlier
returns-in_ok-save-in-Two-clause-earlier g c = λ keeps. alone_less _ IsEarlier _ _ (earlier_beside _) (c.save.ensures.alone keeps)

pub returns-in_err-save-in-Two-clause-beside : goal.returns-in_err-save-in-Two-clause-beside
returns-in_err-save-in-Two-clause-beside g c = λ keeps two.
    let are = subst (λ v. AreOf (layout_of v) (g.D.Disk.state c.args.disk.now).content c.args.found.slots) two (c.requires.found keeps).1.same in
    alone_at (target_read _ _ are) (c.save.ensures.alone keeps)

pub returns-in_ok-save-in-Two-clause-beside : goal.returns-in_ok-save-in-Two-clause-beside
returns-in_ok-save-in-Two-clause-beside g c = λ keeps two.
    let are = subst (λ v. AreOf (layout_of v) (g.D.Disk.state c.args.disk.now).content c.args.found.slots) two (c.requires.found keeps).1.same in
    alone_at (target_read _ _ are) (c.save.ensures.alone keeps)
