use Rattle.std.proofs.Common.{rules, ◌≡◌, ℕ, ◌+◌, ◌<◌, ◌≤◌, refl, arith, ◌++◌, ◌∷◌, ◌∙◌, [], List, length, slice_index_or, ap, subst, sym, take}
use Rattle.swim_member.specs.declared.settings.Settings.{Settings}
use Rattle.swim_group.specs.declared.seat.Seat.{Seat as Seats}
use Rattle.swim_group.specs.RealNodes.{AreNewNodes}
use Rattle.swim_group.proofs.Seating.{first-more}
use Rattle.swim_group.proofs.seat.first_seats.Goals as goal

pub loop-i-preserved : goal.loop-i-preserved
loop-i-preserved c =
    let there : c.loop-i.i < length c.args.settings.now = search rules in
    let at : c.index-settings-i.result ≡ slice_index_or c.args.settings.now c.loop-i.i c.index-settings-i.result = search rules in
    let items : c.push_reserved.new.self.items ≡ c.loop-i.seats.items ++ c.in_ok-seat.seat ∷ [] =
    c.push_reserved.ensures.items ∙ ap (λ (ss : List Seats). ss ++ c.in_ok-seat.seat ∷ []) c.reserve.ensures.items in
    record {
      seats = subst (AreNewNodes c.args.limit (take (c.loop-i.i + 1) c.args.settings.now)) (sym items)
          (first-more c.args.limit c.args.settings.now c.loop-i.i c.index-settings-i.result c.loop-i.seats.items c.in_ok-seat.seat there at c.in_ok-seat.ensures.ok c.loop-i.invariant.seats);
      limit = λ bad. absurd (c.in_ok-seat.ensures.limit bad);
    }

pub returns-clause-limit : goal.returns-clause-limit
returns-clause-limit c bad = none-there c.args.settings.now c.loop-i.i (c.loop-i.invariant.limit bad) c.loop-i-test.false
  where
    none-there : (settings : List Settings) (i : ℕ) → i ≡ 0 → length settings ≤ i → settings ≡ []
    none-there [] i zero l = refl
    none-there (s ∷ settings) i zero l = absurd (omega arith)
