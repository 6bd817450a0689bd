use Rattle.swim_ask.proofs.Rows.{kind_in, no_rest, no_words, who_in}
use Rattle.swim_ask.proofs.paging.read_row.Goals as goal

pub returns-in_err-kind-clause-none : goal.returns-in_err-kind-clause-none
returns-in_err-kind-clause-none c = rw c.from_residual.ensures (no_words c.args.line.now c.in_err-kind.ensures.none)

pub returns-in_err-who-clause-none : goal.returns-in_err-who-clause-none
returns-in_err-who-clause-none c =
    rw c.from_residual-in_err-who.ensures
    (λ row says.
    let words = kind_in c.args.line.now c.in_ok-kind.kind.now c.in_ok-kind.rest.now row c.in_ok-kind.ensures.first c.in_ok-kind.ensures.parts says in
    no_rest c.in_ok-kind.rest.now row c.in_err-who.ensures.none words.1)

pub returns-in_err-read_kind-clause-none : goal.returns-in_err-read_kind-clause-none
returns-in_err-read_kind-clause-none c =
    rw c.from_residual-in_err-read_kind.ensures
    (λ row says.
    let words = kind_in c.args.line.now c.in_ok-kind.kind.now c.in_ok-kind.rest.now row c.in_ok-kind.ensures.first c.in_ok-kind.ensures.parts says in
    c.in_err-read_kind.ensures.none row.kind words.0)

pub returns-in_err-read_endpoint-clause-none : goal.returns-in_err-read_endpoint-clause-none
returns-in_err-read_endpoint-clause-none c =
    rw c.from_residual-in_err-read_endpoint.ensures
    (λ row says.
    let words = kind_in c.args.line.now c.in_ok-kind.kind.now c.in_ok-kind.rest.now row c.in_ok-kind.ensures.first c.in_ok-kind.ensures.parts says in
    let others = who_in c.in_ok-kind.rest.now c.in_ok-who.who.now c.in_ok-who.number.now row c.in_ok-who.ensures.first c.in_ok-who.ensures.parts words.1 says.is in
    c.in_err-read_endpoint.ensures.none row.who (record { says = others.0; endpoint = says.is.endpoint }))

pub returns-in_err-read_number-clause-none : goal.returns-in_err-read_number-clause-none
returns-in_err-read_number-clause-none c =
    rw c.from_residual-in_err-read_number.ensures
    (λ row says.
    let words = kind_in c.args.line.now c.in_ok-kind.kind.now c.in_ok-kind.rest.now row c.in_ok-kind.ensures.first c.in_ok-kind.ensures.parts says in
    let others = who_in c.in_ok-kind.rest.now c.in_ok-who.who.now c.in_ok-who.number.now row c.in_ok-who.ensures.first c.in_ok-who.ensures.parts words.1 says.is in
    c.in_err-read_number.ensures.none row.number says.is.number others.1)
