use Rattle.swim_group.proofs.Agreeing.{told-alike, now-alike, later-alike, heard-stays}
use Rattle.swim_group.specs.Group.{after_moves}
use Rattle.swim_group.proofs.laws.views_agree.Goals as goal

pub returns-clause-told : goal.returns-clause-told
returns-clause-told c rules x p q pr qr same = told-alike rules x p q pr qr same

pub returns-clause-now : goal.returns-clause-now
returns-clause-now c rules x group live reached = now-alike rules x group live reached

pub returns-clause-later : goal.returns-clause-later
returns-clause-later c rules x group moves live old reached = later-alike rules x group (after_moves group moves) live old reached

pub returns-clause-stays : goal.returns-clause-stays
returns-clause-stays c group moves which x u minded h = heard-stays moves group which x u minded h
