-- Closed values, for a name that nobody has picked yet.
use Rattle.std.specs.Prelude.{[]}
use Rattle.logbook.specs.Pages.{Book}
use Rattle.swim_state.specs.declared.owner.Owner.{Owner}
use Rattle.swim_member.specs.declared.settings.Settings.{Settings}
use Rattle.swim_member.specs.declared.event.Event.TheVariants.{Leave}
use Rattle.swim_member.specs.declared.state.Phase.TheVariants.{Running}
use Rattle.swim_node.specs.declared.entry.Entry.{Entry}
use Rattle.swim_node.specs.declared.entry.Save.TheVariants.{Kept}
use Rattle.swim_node.specs.History.{Base, fresh_base}

-- the book of no history
abbrev pub no_book : Book
no_book = record { number = 0; log_name = 0; cells_name = 0 }

-- the owner of no state file
abbrev pub no_owner : Owner
no_owner = record { group = 0; me = 0 }

-- settings that no check passes
abbrev pub no_settings : Settings
no_settings = record {
  group = 0;
  me = 0;
  lambda = 0;
  period = 0;
  direct = 0;
  suspect = 0;
  forget = 0;
  helpers = 0;
  block = 0;
  rules = 0;
}

-- the base of no era
abbrev pub no_base : Base
no_base = fresh_base no_settings 0 0

-- what a step asks for that adds nothing
abbrev pub no_entry : Entry
no_entry = record {
  tag = record { caller = 0; turn = 0 };
  event = Leave;
  granted = 0;
  save = Kept;
  outs = record { items = [] };
  outcomes = record { items = [] };
  reply = record {
    status = record {
      phase = Running;
      number = 0;
      alive = 0;
      suspect = 0;
      confirmed = 0;
      length = 0;
    };
    notes = record { items = [] };
    page = record { items = [] };
    sent = 0;
    lost = 0;
  };
}
