use Rattle.std.proofs.Common.{List, [], ◌++◌, ◌∷◌, ap, ◌∙◌}
use Rattle.swim_disk.specs.declared.past.Call.{Call}
use Rattle.swim_disk.specs.declared.past.Call.TheVariants.{Write, Sync}
use Rattle.swim_disk.proofs.file.FileDisk.load_numbered.Goals as goal

pub returns-clause-found : goal.returns-clause-found
returns-clause-found c =
    let measured = c.in_ok-file.ensures.measured in (
      measured.0,
      measured.1,
      c.in_ok-file.found,
      measured.2,
      c.and.ensures ∙ ap (λ (l : List Call). l ++ Sync ∷ []) (c.with_write-calls.ensures.calls ∙ ap (λ (l : List Call). l ++ Write 0 c.in_ok-file.found ∷ []) c.new-2.ensures),
    )
