use Rattle.std.proofs.Common.{ap, ◌∙◌, arith}
use Rattle.swim_script.specs.declared.keyword.Keyword.TheVariants as keyword
use Rattle.swim_script.specs.Commands.{line_of}
use Rattle.swim_script.proofs.Arguments.{deal-around, tick_none}
use Rattle.swim_script.proofs.line.read_tick.Goals as goal

pub returns-clause-command : goal.returns-clause-command
returns-clause-command c =
    let said = c.in_ok-number.ensures.number in
    let most = said.at_most in
    record {
      number = c.in_ok-number.number;
      small = omega arith;
      dealt = c.from_first-deal.ensures ∙ deal-around c.in_ok-number.number;
      says = ap (line_of keyword.Tick) said.says;
    }

pub returns-in_err-number-clause-none : goal.returns-in_err-number-clause-none
returns-in_err-number-clause-none c = rw c.from_residual.ensures (tick_none c.args.arguments.now c.in_err-number.ensures.none)
