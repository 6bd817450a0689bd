use Rattle.std.proofs.Common.{◌≡◌, Bool, true, false, not, refl, sym, ◌∙◌}
use Rattle.std.specs.Prelude.{◌==◌}
use Rattle.swim_start.proofs.Once.{has, once_more, once_there, once_without}
use Rattle.swim_start.proofs.joining.add_peer.Goals.{else-ne-via-then-ne+else-not-contains, else-ne-via-else-ne}
use Rattle.swim_start.proofs.joining.add_peer.Goals as goal

is_false : (b : Bool) → not b ≡ true → b ≡ false
is_false true is = cc
is_false false is = refl

is_true : (b : Bool) → not b ≡ false → b ≡ true
is_true true is = refl
is_true false is = cc

pub returns-then-not-contains-clause-added : goal.returns-then-not-contains-clause-added
returns-then-not-contains-clause-added c = λ told kept.
    let differs : (c.args.peer == c.args.me) ≡ false = is_false _ (sym c.ne.ensures ∙ c.if-ne.true) in
    let is : has c.args.peer c.args.peers.now.items ≡ false =
    rw (← c.deref.ensures.0) (sym c.contains.ensures.value ∙ c.if-not-contains.true) in
    rw c.push.ensures.items (once_more c.args.me c.args.peer told c.args.peers.now.items differs is kept)

pub returns-else-ne-clause-added : goal.returns-else-ne-clause-added
returns-else-ne-clause-added c = λ told kept. elim c.else-ne.branch [
  | else-ne-via-then-ne+else-not-contains w ↦
      let differs : (c.args.peer == c.args.me) ≡ false = is_false _ (sym c.ne.ensures ∙ w.if-ne.true) in
      let is : has c.args.peer c.args.peers.now.items ≡ true =
      rw (← w.deref.ensures.0) (sym w.contains.ensures.value ∙ w.if-not-contains.false) in
      once_there c.args.me c.args.peer told c.args.peers.now.items differs is kept
  | else-ne-via-else-ne w ↦
      let is : (c.args.peer == c.args.me) ≡ true = is_true _ (sym c.ne.ensures ∙ w.if-ne.false) in
      once_without c.args.me c.args.peer told c.args.peers.now.items is kept
]
