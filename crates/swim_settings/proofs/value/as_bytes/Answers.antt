use Rattle.std.proofs.Common.{sym, ap, ◌∙◌}
use Rattle.std.specs.Prelude.{option_copied}
use Rattle.toml.specs.Data.{as_str}
use Rattle.toml.specs.View.{view}
use Rattle.swim_settings.proofs.Naming.{no_bytes}
use Rattle.swim_settings.proofs.value.as_bytes.Goals as goal

pub returns-in-Some-clause-none : goal.returns-in-Some-clause-none
returns-in-Some-clause-none c =
    let at = sym c.as_str.ensures ∙ ap option_copied c.in-Some.is in
    no_bytes (as_str (view c.args.value.now)) c.in-Some.text.now c.from_hex.result c.ok.result at c.from_hex.ensures c.ok.ensures.variant
