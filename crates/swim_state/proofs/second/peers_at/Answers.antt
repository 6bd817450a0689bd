use Rattle.std.proofs.Common.{◌∙◌, ◌++◌, ◌∷◌, ◌+◌, ◌-◌, ◌*◌, [], ap, sym, length, drop, arith, length-append, append_assoc, Some, None, if◌then◌else◌, List, ℕ}
use Rattle.byteorder.specs.Endian.{big_number}
use Rattle.swim_state.specs.Second.{ascend, endpoints}
use Rattle.swim_state.proofs.Bodies.{rest_next, some_if, step_on, step_off}
use Rattle.swim_state.proofs.second.peers_at.Goals as goal

pub returns-in-None : goal.returns-in-None
returns-in-None c =
    let bytes = c.args.body.now in
    let i = c.loop-i.i in
    let x = big_number 6 (drop (9 + 6 * i) bytes) in
    let rest = endpoints (c.args.count - (i + 1)) (drop (9 + 6 * (i + 1)) bytes) in
    let all = endpoints c.args.count (drop 9 bytes) in
    let off = c.loop-i.invariant.up ∙ ap (λ (l : List ℕ). ascend c.loop-i.before l) (rest_next c.args.count i bytes c.loop-i-test.true) ∙ step_off c.loop-i.before x rest c.in-None.ensures in
    sym (ap (λ t. if t then Some all else None) off)

pub loop-i-preserved : goal.loop-i-preserved
loop-i-preserved c =
    let bytes = c.args.body.now in
    let i = c.loop-i.i in
    let x = big_number 6 (drop (9 + 6 * i) bytes) in
    let rest = endpoints (c.args.count - (i + 1)) (drop (9 + 6 * (i + 1)) bytes) in
    let next = rest_next c.args.count i bytes c.loop-i-test.true in
    let peer = c.in-Some.peer in
    let is = (some_if _ x peer c.in-Some.ensures).1 in
    record {
      count = omega (arith, ap length c.push.ensures, length-append c.loop-i.peers (peer ∷ []), c.loop-i.invariant.count);
      all = c.loop-i.invariant.all ∙ ap (λ (l : List ℕ). c.loop-i.peers ++ l) next
          ∙ sym (append_assoc c.loop-i.peers (x ∷ []) rest)
          ∙ ap (λ n. (c.loop-i.peers ++ n ∷ []) ++ rest) (sym is) ∙ ap (λ (l : List ℕ). l ++ rest) (sym c.push.ensures);
      up = c.loop-i.invariant.up ∙ ap (λ (l : List ℕ). ascend c.loop-i.before l) next ∙ step_on c.loop-i.before x peer rest c.in-Some.ensures
          ∙ ap (λ n. ascend n rest) (sym c.number-before.ensures.value);
    }
