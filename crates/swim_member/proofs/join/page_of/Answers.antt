use Rattle.std.proofs.Common.{◌≡◌, ◌<◌, ◌+◌, ◌-◌, ◌++◌, ◌∷◌, [], List, take, ap, sym, ◌∙◌, Some, None, arith, rules}
use Rattle.std.specs.List.{find, filter}
use Rattle.swim_rules.specs.declared.table.Row.{Row}
use Rattle.swim_rules.specs.Rows.{put_row}
use Rattle.swim_rules.proofs.Tables.{order-put}
use Rattle.swim_member.specs.Join.{updates_with, is_update_after}
use Rattle.swim_member.proofs.Pages.{page-none, page-more}
use Rattle.swim_member.proofs.join.page_of.Goals as goal

pub returns-in-None : goal.returns-in-None
returns-in-None c =
    let none : find (is_update_after c.loop.last) (updates_with c.args.table.now.rows c.args.own.now) ≡ None = sym c.first_after.ensures ∙ c.in-None.is in
    sym (page-none (put_row c.args.table.now.rows (record { update = c.args.own.now; since = 0 })) c.loop.counter c.loop.last c.loop.page.items none) ∙ c.loop.invariant.page

pub loop-preserved : goal.loop-preserved
loop-preserved c =
    let rows : List Row = put_row c.args.table.now.rows (record { update = c.args.own.now; since = 0 }) in
    let found : find (is_update_after c.loop.last) (updates_with c.args.table.now.rows c.args.own.now) ≡ Some c.in-Some.update = sym c.first_after.ensures ∙ c.in-Some.is in
    let below : c.loop.counter < 30 = search (arith, rules) in
    record {
      page =
          ap (λ us. us ++ take (30 - (c.loop.counter + 1)) (filter (is_update_after c.cursor_of-last.result) (updates_with c.args.table.now.rows c.args.own.now))) c.push.ensures.items
          ∙ ap (λ n. (c.loop.page.items ++ c.in-Some.update ∷ []) ++ take (30 - (c.loop.counter + 1)) (filter (is_update_after n) (updates_with c.args.table.now.rows c.args.own.now))) c.cursor_of-last.ensures
          ∙ page-more rows c.loop.counter c.loop.last c.in-Some.update c.loop.page.items below (order-put c.args.table.now.rows (record { update = c.args.own.now; since = 0 }) c.requires.order) found
          ∙ c.loop.invariant.page;
      count = search (arith, rules);
    }
