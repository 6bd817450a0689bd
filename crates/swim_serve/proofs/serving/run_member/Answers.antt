use Rattle.swim_serve.proofs.serving.run_member.Goals as goal

-- whatever its keeper was given
pub returns : goal.returns
returns g c = (_, _, _, c.run_kept.ensures)
