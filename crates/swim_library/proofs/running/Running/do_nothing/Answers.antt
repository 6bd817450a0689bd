use Rattle.std.proofs.Common.{refl}
use Rattle.swim_library.proofs.Turning.{only_same, stays}
use Rattle.swim_library.proofs.running.Running.do_nothing.Goals as goal

pub returns : goal.returns
returns c = λ j was. record {
  between = c.args.self.now;
  joiner = j;
  does = (refl, refl);
  ends = record { is = stays c.args.self.now.seeking j was; same = only_same c.args.self.now };
}
