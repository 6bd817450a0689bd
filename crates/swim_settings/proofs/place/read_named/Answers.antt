use Rattle.std.proofs.Common.{rules}
use Rattle.swim_settings.proofs.Naming.{host_is_text, is_no_text}
use Rattle.swim_settings.proofs.place.read_named.Goals as goal

-- the name of a host is a text
pub returns-in_err-name-2-clause-none : goal.returns-in_err-name-2-clause-none
returns-in_err-name-2-clause-none c =
    let text = host_is_text c.in_ok-name.name.now c.in_ok-name.ensures.host.host in
    absurd (is_no_text _ _ c.from_utf8.result c.in_ok-name.name.now c.from_utf8.ensures.cases (search rules) text)
