use Rattle.std.proofs.Common.{◌≡◌, nat_lt, true, false, ap, sym, ◌∙◌, Some, None, rules}
use Rattle.std.specs.List.{find}
use Rattle.swim_rules.specs.Rows.{is_after}
use Rattle.swim_member.specs.Machinery.Steps.{earlier_update}
use Rattle.swim_member.proofs.Pages.{find-put, first_of}
use Rattle.swim_member.proofs.join.first_after.Goals as goal

pub returns-in-Some : goal.returns-in-Some
returns-in-Some c =
    let found : find (is_after c.args.cursor) c.args.table.now.rows ≡ Some c.in-Some.row = sym c.row_after.ensures ∙ c.in-Some.is in
    let first : c.earlier.result ≡ earlier_update c.args.own.now (nat_lt c.args.cursor c.args.own.now.who) c.in-Some.row = search rules in
    ap (λ u. Some u) first
    ∙ sym (find-put c.args.table.now.rows (record { update = c.args.own.now; since = 0 }) c.args.cursor c.requires.order c.requires.other
    ∙ ap (first_of c.args.own.now (nat_lt c.args.cursor c.args.own.now.who)) found)

pub returns-in-None : goal.returns-in-None
returns-in-None c =
    let found : find (is_after c.args.cursor) c.args.table.now.rows ≡ None = sym c.row_after.ensures ∙ c.in-None.is in
    let comes : nat_lt c.args.cursor c.args.own.now.who ≡ true = search rules in
    sym (find-put c.args.table.now.rows (record { update = c.args.own.now; since = 0 }) c.args.cursor c.requires.order c.requires.other
    ∙ ap (first_of c.args.own.now (nat_lt c.args.cursor c.args.own.now.who)) found ∙ ap (λ b. first_of c.args.own.now b None) comes)

pub returns-in-None-2 : goal.returns-in-None-2
returns-in-None-2 c =
    let found : find (is_after c.args.cursor) c.args.table.now.rows ≡ None = sym c.row_after.ensures ∙ c.in-None.is in
    let comes : nat_lt c.args.cursor c.args.own.now.who ≡ false = search rules in
    sym (find-put c.args.table.now.rows (record { update = c.args.own.now; since = 0 }) c.args.cursor c.requires.order c.requires.other
    ∙ ap (first_of c.args.own.now (nat_lt c.args.cursor c.args.own.now.who)) found ∙ ap (λ b. first_of c.args.own.now b None) comes)
