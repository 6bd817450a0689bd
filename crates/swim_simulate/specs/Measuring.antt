-- When a kill was noticed.
use Rattle.std.specs.Prelude.{ℕ, ◌||◌, nat_lt, Bool, true, false}
use Rattle.std.specs.Prelude.{Option, Some, None, if◌then◌else◌}
use Rattle.std.specs.Option.{is_none}
use Rattle.swim_charts.specs.declared.views.Tally.{Tally}
use Rattle.swim_simulate.specs.declared.measures.Kill.{Kill}
use Rattle.swim_simulate.specs.declared.views.View.{View}
use Rattle.swim_simulate.specs.declared.views.View.TheVariants.{Suspect, Confirm}

-- when something was first, if it is so now
abbrev pub first_time : Option ℕ → Bool → ℕ → Option ℕ
first_time None true now = Some now
first_time before _ now = before

-- who is held for failed is suspected too
abbrev pub suspects : View → Bool
suspects Suspect = true
suspects Confirm = true
suspects _ = false

abbrev pub confirms : View → Bool
confirms Confirm = true
confirms _ = false

-- a member is killed: who suspects it already does so from the kill on
abbrev pub killed : ℕ → ℕ → Tally → Kill
killed who now held = record {
  who = who;
  tick = now;
  suspected = first_time None (nat_lt 0 held.failed || nat_lt 0 held.suspected) now;
  confirmed = first_time None (nat_lt 0 held.failed) now;
  known = None;
  back = None;
  alive = None;
}

-- a member that runs holds this of it from now on. Once it is
-- opened again, that is not of the kill
abbrev pub seen : View → ℕ → Kill → Kill
seen view now k =
    if is_none k.back
    then record k {
      suspected = first_time k.suspected (suspects view) now;
      confirmed = first_time k.confirmed (confirms view) now;
    }
    else k
