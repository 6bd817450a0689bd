use Rattle.std.proofs.Common.{◌≡◌, rules, inl, inr}
use Rattle.std.specs.Prelude.{codes}
use Rattle.swim_shell.proofs.Hearing.{no_address, unknown_split}
use Rattle.swim_shell.proofs.request.with_word.Goals as goal

pub returns-in-None-read_endpoint : goal.returns-in-None-read_endpoint
returns-in-None-read_endpoint c =
    let same : c.in-Some.first.now ≡ codes "join" = search rules in
    no_address c.args.text.now c.in-Some.first.now c.in-Some.word.now c.in-Some.ensures.parts (inr same) c.in-None-read_endpoint.ensures.none

pub returns-in-None-read_endpoint-2 : goal.returns-in-None-read_endpoint-2
returns-in-None-read_endpoint-2 c =
    let same : c.in-Some.first.now ≡ codes "members" = search rules in
    no_address c.args.text.now c.in-Some.first.now c.in-Some.word.now c.in-Some.ensures.parts (inl same) c.in-None-read_endpoint-2.ensures.none

pub returns-else-eq-2 : goal.returns-else-eq-2
returns-else-eq-2 c = unknown_split c.args.text.now c.in-Some.first.now c.in-Some.word.now c.requires.status c.requires.members c.requires.leave c.requires.stop c.requires.renew c.requires.counters c.requires.reload c.requires.about c.in-Some.ensures.parts c.in-Some.ensures.first (search rules) (search rules)
