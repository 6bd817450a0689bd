use Rattle.std.specs.Fmt.{decimal}
use Rattle.swim_words.specs.Hosts.{IsHostName}
use Rattle.swim_words.proofs.Naming.{host_parts}
use Rattle.swim_words.proofs.Splits.{no_split}
use Rattle.swim_words.proofs.hosts.read_host.Goals as goal

pub returns-in_err-name-clause-none : goal.returns-in_err-name-clause-none
returns-in_err-name-clause-none c =
    rw c.from_residual.ensures
    (λ name port says. no_split 58 name (decimal port) c.args.text.now c.in_err-name.ensures.none says.says)

pub returns-in_err-port-clause-none : goal.returns-in_err-port-clause-none
returns-in_err-port-clause-none c =
    let split = c.in_ok-name.ensures in
    rw c.from_residual-in_err-port.ensures
    (λ name port says.
    let same = host_parts c.args.text.now c.in_ok-name.name.now c.in_ok-name.port.now name port split.first split.parts says in
    c.in_err-port.ensures.none port (record { says = same.1; at_least = says.at_least; at_most = says.at_most }))

pub returns-then-not-is_host_name-clause-none : goal.returns-then-not-is_host_name-clause-none
returns-then-not-is_host_name-clause-none c name port says =
    let split = c.in_ok-name.ensures in
    let same = host_parts c.args.text.now c.in_ok-name.name.now c.in_ok-name.port.now name port split.first split.parts says in
    let host : IsHostName c.in_ok-name.name.now = rw same.0 says.host in
    let is = c.is_host_name.ensures.1 host in
    absurd (cc)
