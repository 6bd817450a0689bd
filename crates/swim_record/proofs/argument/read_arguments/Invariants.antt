use Rattle.std.proofs.Common.{◌≡◌, List, ◌++◌, length}
use Rattle.std.specs.Prelude.{All}
use Rattle.swim_record.specs.declared.argument.Argument.{Argument}
use Rattle.swim_record.specs.Text.{IsArgument, SaysArguments, arguments_text}
use Rattle.swim_record.proofs.argument.read_arguments.Given as goal

-- what was read so far, and whatever the text says goes on with what the rest says
abbrev pub invariant-loop-space : goal.invariant-loop-space
invariant-loop-space l =
    record {
      read : l.text ≡ arguments_text l.arguments.items ++ l.rest;
      fit : All IsArgument l.arguments.items;
      all : (args : List Argument) → SaysArguments l.text args → (others : List Argument) × (args ≡ l.arguments.items ++ others) × SaysArguments l.rest others;
    }

abbrev pub decreases-loop-space : goal.decreases-loop-space
decreases-loop-space l = length l.rest
