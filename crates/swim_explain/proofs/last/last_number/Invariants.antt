use Rattle.std.proofs.Common.{◌≡◌, drop}
use Rattle.std.specs.Option.{option_or}
use Rattle.swim_explain.specs.Lasting.{last_number}
use Rattle.swim_explain.proofs.last.last_number.Given as goal

-- the last number so far, unless what is left says one
abbrev pub invariant-loop-account : goal.invariant-loop-account
invariant-loop-account l = option_or (last_number (drop l.account-index l.accounts)) l.last ≡ last_number l.accounts
