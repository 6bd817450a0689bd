-- What an opening of a state file would do.
use Rattle.std.specs.Prelude.{ℕ, ◌+◌, ◌%◌, List, length, nat_lt, if◌then◌else◌}
use Rattle.std.specs.Prelude.{Option, Some, None, not, ◌||◌, ◌==◌}
use Rattle.std.specs.List.{starts_with}
use Rattle.swim_show.specs.declared.departing.TheConstants.{LETTERS}
use Rattle.swim_show.specs.declared.shown.TheConstants.{HEAD_SIZE}
use Rattle.swim_show.specs.declared.shown.Opening.{Opening}
use Rattle.swim_show.specs.declared.shown.Opening.TheVariants.{Begins, Refused}
use Rattle.swim_state.specs.File.{floor, floor_peers}
use Rattle.swim_state.specs.Recovery.{fault_of}
use Rattle.swim_state.specs.declared.fault.RecoverFault.{RecoverFault}
use Rattle.swim_state.specs.declared.owner.Owner.{Owner}
use Rattle.swim_wire.specs.Numbers.{number_at}

-- the endpoint that a number spells, unless its port is 0
abbrev pub endpoint_by : ℕ → Option ℕ
endpoint_by number = if nat_lt 0 (number % 65536) then Some number else None

-- the member of a group, if there is one
abbrev pub owner_by : ℕ → Option ℕ → Option Owner
owner_by group None = None
owner_by group (Some who) = Some (record { group = group; me = who })

-- the member that a head names, if it is whole and begins as that of a state file: the group at 10
-- and the endpoint at 18
abbrev pub named_by : List ℕ → Option Owner
named_by image =
    if nat_lt (length image) HEAD_SIZE || not (starts_with (λ x y. x == y) image LETTERS)
    then None
    else owner_by (number_at 10 8 image) (endpoint_by (number_at 18 6 image))

-- who tries: the member that is named, and where none is, 0.0.0.0:1 of group 0
abbrev pub opener_of : Option Owner → Owner
opener_of (Some owner) = owner
opener_of None = record { group = 0; me = 1 }

-- a life begins with one above the floor, and with its peers, unless the content shows a fault
abbrev pub opening_by : Option RecoverFault → List ℕ → Opening
opening_by None content = Begins (floor content + 1) (floor_peers content)
opening_by (Some f) content = Refused f

abbrev pub opening_of : Owner → List ℕ → Opening
opening_of owner content = opening_by (fault_of owner content) content
