use Rattle.std.proofs.Common.{◌≡◌, ◌∙◌, ap, sym, length, drop, arith, rules, true, false, Some, slice_index, List, ℕ}
use Rattle.swim_state.specs.Second.{ascend, body, endpoints, may_be_saved, saved_in}
use Rattle.swim_state.proofs.Bodies.{count_in, good_from, length-endpoints, none_if, not_said, said_good, saved_is, some_if, stand_from}
use Rattle.std.proofs.lemmas.Slice.Eq.{bytes_eq-Decides}
use Rattle.std.proofs.lemmas.Bool.{not-false}
use Rattle.swim_state.proofs.second.decode.Goals as goal

pub returns-then-ceiling-gt-NUMBER_MAX-clause-said : goal.returns-then-ceiling-gt-NUMBER_MAX-clause-said
unfolding saved_in
returns-then-ceiling-gt-NUMBER_MAX-clause-said c = not_said c.args.body.now (λ low few up same. omega (arith, low, c.read_u64-ceiling.ensures, c.if-ceiling-gt-NUMBER_MAX.true))

pub returns-then-count-gt-PEERS_MAX-clause-said : goal.returns-then-count-gt-PEERS_MAX-clause-said
returns-then-count-gt-PEERS_MAX-clause-said c = not_said c.args.body.now (λ low few up same. omega (arith, few, count_in c.args.body.now, c.if-count-gt-PEERS_MAX.true))

pub returns-in-None-clause-said : goal.returns-in-None-clause-said
unfolding saved_in
returns-in-None-clause-said c =
    let those = endpoints (slice_index c.args.body.now 8) (drop 9 c.args.body.now) in
    not_said c.args.body.now (λ low few up same. let e : true ≡ false = sym up ∙ none_if (ascend 0 those) those c.in-None.ensures in cc)

pub returns-then-ne-clause-said : goal.returns-then-ne-clause-said
returns-then-ne-clause-said c =
    let bytes = c.args.body.now in
    let those = endpoints (slice_index bytes 8) (drop 9 bytes) in
    let both = some_if (ascend 0 those) those c.in-Some.peers c.in-Some.ensures in
    let is = saved_is bytes c.read_u64-ceiling.result c.in-Some.peers c.read_u64-ceiling.ensures both.1 in
    let wrote : c.as_slice.result.now ≡ body (saved_in bytes) = c.as_slice.ensures.value ∙ c.encode.ensures.bytes ∙ ap body is in
    let differs : c.as_slice.result.now ≡ bytes → ⊥ = search (rules, c.if-ne.ensures) in
    not_said bytes (λ low few up same. differs (wrote ∙ sym same))

pub returns-clause-said : goal.returns-clause-said
returns-clause-said c =
    let bytes = c.args.body.now in
    let those = endpoints (slice_index bytes 8) (drop 9 bytes) in
    let both = some_if (ascend 0 those) those c.in-Some.peers c.in-Some.ensures in
    let is = saved_is bytes c.read_u64-ceiling.result c.in-Some.peers c.read_u64-ceiling.ensures both.1 in
    let wrote : c.as_slice.result.now ≡ body (saved_in bytes) = c.as_slice.ensures.value ∙ c.encode.ensures.bytes ∙ ap body is in
    let same : c.as_slice.result.now ≡ bytes = (bytes_eq-Decides c.as_slice.result.now bytes).0 (not-false _ (sym c.ne.ensures ∙ c.if-ne.false)) in
    let stands = stand_from (record { ceiling = c.read_u64-ceiling.result; peers = c.in-Some.peers }) (omega (arith, c.if-ceiling-gt-NUMBER_MAX.false))
    (omega (arith, ap (λ (l : List ℕ). length l) both.1, length-endpoints (slice_index bytes 8) (drop 9 bytes), c.if-count-gt-PEERS_MAX.false))
    (ap (ascend 0) both.1 ∙ both.0) in
    ap Some is ∙ sym (said_good bytes (good_from bytes (ap may_be_saved (sym is) ∙ stands) (sym same ∙ wrote)))

pub returns-clause-stands : goal.returns-clause-stands
returns-clause-stands c =
    let bytes = c.args.body.now in
    let those = endpoints (slice_index bytes 8) (drop 9 bytes) in
    let both = some_if (ascend 0 those) those c.in-Some.peers c.in-Some.ensures in (
      omega (arith, c.if-ceiling-gt-NUMBER_MAX.false),
      (omega (arith, ap (λ (l : List ℕ). length l) both.1, length-endpoints (slice_index bytes 8) (drop 9 bytes), c.if-count-gt-PEERS_MAX.false), ap (ascend 0) both.1 ∙ both.0),
    )
