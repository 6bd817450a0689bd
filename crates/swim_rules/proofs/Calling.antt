-- Any list of calls leaves the tops of what was told.
use Rattle.std.proofs.Common.{◌≡◌, ℕ, ◌≤◌, ◌==◌, Bool, true, false, cond, refl, sym, ◌∙◌, ap, List, [], ◌∷◌, Option, Some, None, arith}
use Rattle.std.specs.List.{find, filter}
use Rattle.std.specs.Option.{option_map}
use Rattle.std.proofs.lemmas.Bool.{ne_eqb, eqb-true}
use Rattle.swim_wire.specs.declared.rules.Rules.{Rules}
use Rattle.swim_wire.specs.declared.update.UpdateKind.TheVariants.{Suspect, Confirm}
use Rattle.swim_rules.specs.declared.table.Row.{Row}
use Rattle.swim_rules.specs.Rules.{top, Told, is_about, row, rows}
use Rattle.swim_rules.specs.Rows.{Members, AreAbove, AreInOrder, row_of, answer_to, hear_rows, hear_option, remove_option, confirm_of, is_due, told_option, untold_option}
use Rattle.swim_rules.specs.Calls.{Call, Hears, Expires, Forgets, table_after, told_after, table_after_all, told_after_all}
use Rattle.swim_rules.proofs.Top.{top_by-best}
use Rattle.swim_rules.proofs.Tables.{order-above, order-remove, same_rows}
use Rattle.swim_rules.proofs.Told.{over, over_laws, order-rows, row_of-rows}
use Rattle.swim_rules.proofs.Changes.{order-hear, tops-hear, tops-found, tops-forgotten}

filter-above : (x z : ℕ) (base : List Row) → z ≤ x → AreAbove x base → filter (is_about z) base ≡ []
filter-above x z [] l h = refl
filter-above x z (r ∷ base) l h = rw (ne_eqb r.update.who z (λ e. omega arith)) (filter-above r.update.who z base (omega arith) h.1)

-- with nothing told, the top is the row itself
top-alone : (rules : Rules) (base : List Row) (z : ℕ) → AreInOrder base → top rules (filter (is_about z) base) ≡ row_of base z
top-alone rules [] z h = refl
top-alone rules (r ∷ base) z h = split (r.update.who == z) refl (top-alone rules base z (order-above r.update.who base h))
  where
    split : (b : Bool) → (r.update.who == z) ≡ b → top rules (filter (is_about z) base) ≡ row_of base z → top rules (cond b (r ∷ filter (is_about z) base) (filter (is_about z) base)) ≡ cond b (Some r) (row_of base z)
    split true t rest =
        ap (λ (others : List Row). top rules (r ∷ others)) (filter-above r.update.who z base (omega (arith, eqb-true r.update.who z t)) h)
        ∙ top_by-best (over rules) (over_laws rules) r []
    split false f rest = rest

-- a table begins as it is
pub rows-begin : (rules : Rules) (base : List Row) → AreInOrder base → rows rules base [] ≡ base
rows-begin rules base h =
    same_rows (rows rules base []) base (order-rows rules base []) h (λ z. row_of-rows rules base [] z ∙ top-alone rules base z h)

order-heard : (rules : Rules) (table : List Row) (o : Option Row) (now : ℕ) → AreInOrder table → AreInOrder (hear_option rules table (option_map confirm_of o) now)
order-heard rules table None now h = h
order-heard rules table (Some r) now h = order-hear rules table (confirm_of r) now h

order-removed : (table : List Row) (o : Option Row) → AreInOrder table → AreInOrder (remove_option table (option_map (λ r. r.update.who) o))
order-removed table None h = h
order-removed table (Some r) h = order-remove table r.update.who h

order-call : (table : Members) (call : Call) → AreInOrder table.rows → AreInOrder (table_after table call).rows
order-call table (Hears u now) h = order-hear table.rules table.rows u now h
order-call table (Expires now) h = order-heard table.rules table.rows (find (is_due Suspect table.suspect now) table.rows) now h
order-call table (Forgets now) h = order-removed table.rows (find (is_due Confirm table.forget now) table.rows) h

tops-expired : (rules : Rules) (test : Row → Bool) (old : List Row) (now : ℕ) → AreInOrder old → (o : Option Row) → find test old ≡ o → (base : List Row) (told : List Told) → rows rules base told ≡ old → rows rules base (told_option told (option_map confirm_of o) now) ≡ hear_option rules old (option_map confirm_of o) now
tops-expired rules test old now h None e base told k = k
tops-expired rules test old now h (Some r) e base told k = tops-found rules test old r now h e base told k

tops-removed : (rules : Rules) (old : List Row) (o : Option Row) (base : List Row) (told : List Told) → rows rules base told ≡ old → rows rules base (untold_option told (option_map (λ r. r.update.who) o)) ≡ remove_option old (option_map (λ r. r.update.who) o)
tops-removed rules old None base told k = k
tops-removed rules old (Some r) base told k = tops-forgotten rules old r.update.who base told k

tops-call : (table : Members) (call : Call) → AreInOrder table.rows → (base : List Row) (told : List Told) → rows table.rules base told ≡ table.rows → rows table.rules base (told_after table told call) ≡ (table_after table call).rows
tops-call table (Hears u now) h base told k =
    tops-hear table.rules table.rows (hear_rows table.rules table.rows u now) u now (answer_to table.rules table.rows u) refl refl base told k
tops-call table (Expires now) h base told k =
    tops-expired table.rules (is_due Suspect table.suspect now) table.rows now h (find (is_due Suspect table.suspect now) table.rows) refl base told k
tops-call table (Forgets now) h base told k =
    tops-removed table.rules table.rows (find (is_due Confirm table.forget now) table.rows) base told k

-- no call changes the rules
rules-after : (table : Members) (call : Call) → (table_after table call).rules ≡ table.rules
rules-after table (Hears u now) = refl
rules-after table (Expires now) = refl
rules-after table (Forgets now) = refl

tops-calls : (table : Members) (calls : List Call) → AreInOrder table.rows → (base : List Row) (told : List Told) → rows table.rules base told ≡ table.rows → rows table.rules base (told_after_all table told calls) ≡ (table_after_all table calls).rows
tops-calls table [] h base told k = k
tops-calls table (call ∷ calls) h base told k =
    let same : (table_after table call).rules ≡ table.rules = rules-after table call in
    ap (λ r. rows r base (told_after_all table told (call ∷ calls))) (sym same)
    ∙ tops-calls (table_after table call) calls (order-call table call h) base (told_after table told call)
    (ap (λ r. rows r base (told_after table told call)) same ∙ tops-call table call h base told k)

pub rows-calls : (table : Members) → AreInOrder table.rows → (calls : List Call) → (table_after_all table calls).rows ≡ rows table.rules table.rows (told_after_all table [] calls)
rows-calls table h calls = sym (tops-calls table calls h table.rows [] (rows-begin table.rules table.rows h))

pub row_of-calls : (table : Members) → AreInOrder table.rows → (calls : List Call) (x : ℕ) → row_of (table_after_all table calls).rows x ≡ row table.rules table.rows (told_after_all table [] calls) x
row_of-calls table h calls x =
    ap (λ (rs : List Row). row_of rs x) (rows-calls table h calls) ∙ row_of-rows table.rules table.rows (told_after_all table [] calls) x
