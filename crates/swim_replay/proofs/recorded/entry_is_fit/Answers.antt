use Rattle.swim_replay.proofs.recorded.entry_is_fit.Goals as goal

pub returns : goal.returns
returns c caller = record { caller = caller; event = c.event_is_fit.ensures; granted = c.number_is_fit.ensures; outcomes = c.outcomes_are_few.ensures }
