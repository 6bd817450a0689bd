use Rattle.swim_serve.proofs.serving.end_era.Goals as goal

-- the life goes on with this era ended, and then with its peers saved
pub returns-clause-living : goal.returns-clause-living
returns-clause-living g c settings limit opened eras living = c.keep_peers-peers.ensures.living settings limit opened _ (c.hand_over.ensures.living settings limit opened eras living)
