-- How often others are looked for.
use Rattle.std.proofs.Common.{◌≡◌, ◌≤◌, ◌-◌, ℕ, Bool, true, false, refl, rules, tests, subst, ◌∙◌}
use Rattle.std.specs.Prelude.{Option, Some, if◌then◌else◌, nat_le}
use Rattle.std.specs.Time.{instant_nanos}
use Rattle.std.specs.declared.time.Instant.{Instant}
use Rattle.std.specs.Duration.{as_nanos}
use Rattle.std.specs.Option.{option_map}
use Rattle.swim_join.specs.declared.intervals.Moment.{Moment}
use Rattle.swim_join.specs.Joins.{JoinerView, introduction_rest, search_rest}
use Rattle.swim_join.specs.Turns.{draw_rest, is_draw_due, is_introducing, is_one_back, is_searching}

rest_by : (introduces searches : Bool) (soon : ℕ) (later else_rest : Option ℕ) → introduces ≡ false → searches ≡ true → (if introduces then Some soon else (if searches then later else else_rest)) ≡ later
rest_by false true soon later else_rest off on = refl
rest_by true searches soon later else_rest off on = absurd (cc)
rest_by false false soon later else_rest off on = absurd (cc)

so_long : (rest passed : ℕ) → nat_le rest passed ≡ true → rest ≤ passed
so_long rest passed is = search (rules, tests)

-- whoever looks for others, and introduces itself to nobody, draws one only once so long has passed
-- since its last join: two periods, or the time of an answer where one is back, or `rejoin` where that
-- is shorter
pub search_rests : (j : JoinerView) (at : Moment) (since now : Instant) (rest : ℕ) → is_introducing j at ≡ false → is_searching j at ≡ true → search_rest j.intervals (is_one_back j at) ≡ Some rest → is_draw_due (draw_rest j at) (Some since) (Some now) ≡ true → rest ≤ instant_nanos now - instant_nanos since
search_rests j at since now rest off on is due =
    let same : draw_rest j at ≡ Some rest = rest_by (is_introducing j at) (is_searching j at) (introduction_rest j.intervals) (search_rest j.intervals (is_one_back j at)) (option_map as_nanos j.intervals.rejoin) off on ∙ is in
    so_long rest (instant_nanos now - instant_nanos since) (subst (λ w. is_draw_due w (Some since) (Some now) ≡ true) same due)
