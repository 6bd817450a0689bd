use Rattle.swim_detect.proofs.Bounded.{is-within, is-reached}
use Rattle.swim_detect.proofs.bound.DetectionBound.of.Goals as goal

pub returns-clause-within : goal.returns-clause-within
returns-clause-within c x s = is-within c.args.others x s

pub returns-clause-reached : goal.returns-clause-reached
returns-clause-reached c x s = is-reached c.args.others x s
