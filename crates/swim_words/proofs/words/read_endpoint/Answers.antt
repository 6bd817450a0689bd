use Rattle.std.proofs.Common.{◌%◌, arith}
use Rattle.swim_words.proofs.Endpoints.{from_second, from_third, from_fourth, port_text, second_in, third_in, fourth_in, port_in}
use Rattle.swim_words.proofs.words.read_endpoint.Goals as goal

pub returns-in_err-first-clause-none : goal.returns-in_err-first-clause-none
returns-in_err-first-clause-none c =
    rw c.from_residual.ensures
    (λ e says.
    let bound = says.endpoint.six_bytes in
    c.in_err-first.ensures.none _ (from_second e) (omega arith) says.says)

pub returns-in_err-second-clause-none : goal.returns-in_err-second-clause-none
returns-in_err-second-clause-none c =
    rw c.from_residual-in_err-second.ensures
    (λ e says.
    let second = second_in _ _ c.in_ok-first.first e c.in_ok-first.ensures.parts says in
    c.in_err-second.ensures.none _ (from_third e) (omega arith) second)

pub returns-in_err-third-clause-none : goal.returns-in_err-third-clause-none
returns-in_err-third-clause-none c =
    rw c.from_residual-in_err-third.ensures
    (λ e says.
    let second = second_in _ _ c.in_ok-first.first e c.in_ok-first.ensures.parts says in
    let third = third_in _ _ c.in_ok-second.second e c.in_ok-second.ensures.parts second in
    c.in_err-third.ensures.none _ (from_fourth e) (omega arith) third)

pub returns-in_err-fourth-clause-none : goal.returns-in_err-fourth-clause-none
returns-in_err-fourth-clause-none c =
    rw c.from_residual-in_err-fourth.ensures
    (λ e says.
    let second = second_in _ _ c.in_ok-first.first e c.in_ok-first.ensures.parts says in
    let third = third_in _ _ c.in_ok-second.second e c.in_ok-second.ensures.parts second in
    let fourth = fourth_in _ _ c.in_ok-third.third e c.in_ok-third.ensures.parts third in
    c.in_err-fourth.ensures.none _ (port_text e) (omega arith) fourth)

pub returns-in_err-port-clause-none : goal.returns-in_err-port-clause-none
returns-in_err-port-clause-none c =
    rw c.from_residual-in_err-port.ensures
    (λ e says.
    let second = second_in _ _ c.in_ok-first.first e c.in_ok-first.ensures.parts says in
    let third = third_in _ _ c.in_ok-second.second e c.in_ok-second.ensures.parts second in
    let fourth = fourth_in _ _ c.in_ok-third.third e c.in_ok-third.ensures.parts third in
    let port = port_in _ _ c.in_ok-fourth.fourth e c.in_ok-fourth.ensures.parts fourth in
    let some = says.endpoint.has_port in
    c.in_err-port.ensures.none (e % 65536) (record { says = port; at_least = omega arith; at_most = omega arith }))
