use Rattle.swim_join.proofs.Asking.{asks_same, in_vain_same}
use Rattle.swim_join.proofs.joiner.Joiner.turn_at.Goals as goal

pub returns-in-Look-clause-asks : goal.returns-in-Look-clause-asks
returns-in-Look-clause-asks g c = let begun = c.begin_turn.ensures in asks_same c.look_round.result c.args.self.now c.begin_turn.new.self _ _ (record { me = begun.me; list = begun.list; looked = begun.looked.0; drawn = begun.looked.1 }) c.look_round.ensures.asks

pub returns-in-Look-clause-in_vain : goal.returns-in-Look-clause-in_vain
returns-in-Look-clause-in_vain g c = let begun = c.begin_turn.ensures in in_vain_same c.look_round.result _ c.args.self.now c.begin_turn.new.self _ _ (record { me = begun.me; list = begun.list; looked = begun.looked.0; drawn = begun.looked.1 }) c.look_round.ensures.in_vain

pub returns-in-Drawn-clause-in_vain : goal.returns-in-Drawn-clause-in_vain
returns-in-Drawn-clause-in_vain g c = let begun = c.begin_turn.ensures in in_vain_same c.join_drawn.result _ c.args.self.now c.begin_turn.new.self _ _ (record { me = begun.me; list = begun.list; looked = begun.looked.0; drawn = begun.looked.1 }) c.join_drawn.ensures.in_vain
