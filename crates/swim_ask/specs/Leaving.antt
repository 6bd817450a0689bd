-- What a change says of how a member went.
use Rattle.std.specs.Prelude.{Bool, true, false}
use Rattle.swim_news.specs.declared.change.Change.{Change}
use Rattle.swim_news.specs.declared.change.Change.TheVariants.{Changed}
use Rattle.swim_wire.specs.declared.update.UpdateKind.{UpdateKind}
use Rattle.swim_wire.specs.declared.update.UpdateKind.TheVariants.{Alive, Confirm}

-- from alive to confirmed
abbrev pub went_at_once : UpdateKind → UpdateKind → Bool
went_at_once Alive Confirm = true
went_at_once _ _ = false

-- nobody was seen to suspect the member before it was confirmed
abbrev pub may_have_left : Change → Bool
may_have_left (Changed was now) = went_at_once was.kind now.kind
may_have_left _ = false
