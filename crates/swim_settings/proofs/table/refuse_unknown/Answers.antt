use Rattle.std.proofs.Common.{[], sym, ap, ◌∙◌, rules, map}
use Rattle.std.specs.Prelude.{string_bytes}
use Rattle.std.proofs.lemmas.List.Elements.{All-nil}
use Rattle.toml.specs.View.{table_view}
use Rattle.swim_settings.specs.Unknown.{IsNamed}
use Rattle.swim_settings.proofs.Naming.{all_known, first_unknown, is_named, is_unnamed, names_are, one_known}
use Rattle.swim_settings.proofs.table.refuse_unknown.Goals as goal

pub loop-name-init : goal.loop-name-init
loop-name-init g c =
    let left = c.into_iter-name-iterator.ensures.into_iter_gives ∙ c.keys-name-items.ensures.rest in
    ([], names_are c.args.table.now.entries ∙ ap (map string_bytes) (sym left), All-nil (IsNamed g.K.Word.text_of c.args.keys.now))

pub loop-name-preserved : goal.loop-name-preserved
loop-name-preserved g c =
    let P = IsNamed g.K.Word.text_of c.args.keys.now in
    let steps = rw c.in-Some.is at c.next.ensures.steps in
    let bytes = c.as_bytes.ensures.value ∙ c.as_str.ensures.value in
    let known : P (string_bytes c.in-Some.name.now) = is_named g.K.Word.text_of c.args.keys.now (string_bytes c.in-Some.name.now) c.named.result c.named.ensures.among (rw (← bytes) c.named.ensures.some) (search rules) in
    one_known P (table_view c.args.table.now) c.loop-name.name-iterator c.next.new.self c.in-Some.name.now steps known c.loop-name.invariant

pub returns-clause-named : goal.returns-clause-named
returns-clause-named g c =
    let steps = rw c.in-None.is at c.next.ensures.steps in
    all_known (IsNamed g.K.Word.text_of c.args.keys.now) (table_view c.args.table.now) c.loop-name.name-iterator steps.0 c.loop-name.invariant

pub returns-then-is_none-clause-unknown : goal.returns-then-is_none-clause-unknown
returns-then-is_none-clause-unknown g c =
    let steps = rw c.in-Some.is at c.next.ensures.steps in
    let bytes = c.as_bytes.ensures.value ∙ c.as_str.ensures.value in
    let unknown = is_unnamed g.K.Word.text_of c.args.keys.now (string_bytes c.in-Some.name.now) c.named.result (rw (← bytes) c.named.ensures.none) (search rules) in
    first_unknown g.K.Word.text_of c.args.keys.now (table_view c.args.table.now) c.loop-name.name-iterator c.next.new.self c.in-Some.name.now _ steps (c.in_ok-from_str.ensures.ok ∙ c.as_str-then-is_none.ensures.value) unknown c.loop-name.invariant
