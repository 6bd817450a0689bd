-- An update in 16 bytes: what spells it, what may be wrong with it, and what it is read as.
use Rattle.std.specs.Prelude.{◌≡◌, ◌≢◌, ℕ, zero, suc, ◌<◌, ◌≤◌, ◌==◌, nat_lt, Bool, not, List}
use Rattle.std.specs.Prelude.{[], ◌∷◌, ◌++◌, slice_index}
use Rattle.byteorder.specs.Endian.{big_bytes}
use Rattle.swim_wire.specs.declared.update.TheConstants.{NUMBER_MAX}
use Rattle.swim_wire.specs.declared.update.Update.{Update}
use Rattle.swim_wire.specs.declared.update.UpdateKind.{UpdateKind}
use Rattle.swim_wire.specs.declared.update.UpdateKind.TheVariants.{Alive, Suspect, Confirm}
use Rattle.swim_wire.specs.Numbers.{number_at, is_code, IsEndpoint}

-- the byte of each kind of update
abbrev pub update_code : UpdateKind → ℕ
update_code Alive = 1
update_code Suspect = 2
update_code Confirm = 3

-- kind 1, reserved 1, member 6, number 8
abbrev pub update_text : Update → List ℕ
update_text u =
    (update_code u.kind ∷ 0 ∷ [])
    ++ big_bytes 6 u.who
    ++ big_bytes 8 u.number

-- each field of an update has a number that its bytes may hold
pub record UpdateFits (u : Update) : Type 0 where
  pub who : IsEndpoint u.who
  pub number : u.number ≤ NUMBER_MAX

-- the second byte is not 0
abbrev pub HasReservedUpdate : List ℕ → Type 0
HasReservedUpdate update = slice_index update 1 ≢ 0

-- the update is about no member: its port is 0
abbrev pub HasNoMember : List ℕ → Type 0
HasNoMember update = number_at 6 2 update ≡ 0

-- an update's first byte is that of no kind
abbrev pub HasUnknownCode : List ℕ → Type 0
HasUnknownCode update = (kind : UpdateKind) → slice_index update 0 ≢ update_code kind

-- an update's number is above the greatest incarnation number
abbrev pub HasGreatNumber : List ℕ → Type 0
HasGreatNumber update = NUMBER_MAX < number_at 8 8 update

-- the same as tests that compute
abbrev pub has_reserved_update : List ℕ → Bool
has_reserved_update update = not (slice_index update 1 == 0)

abbrev pub has_no_member : List ℕ → Bool
has_no_member update = number_at 6 2 update == 0

abbrev pub has_unknown_code : List ℕ → Bool
has_unknown_code update = not (is_code 3 (slice_index update 0))

abbrev pub has_great_number : List ℕ → Bool
has_great_number update = nat_lt NUMBER_MAX (number_at 8 8 update)

-- the kind of an update, by its code; an unknown one is read as Alive
abbrev pub update_kind_of : ℕ → UpdateKind
update_kind_of (suc (suc zero)) = Suspect
update_kind_of (suc (suc (suc zero))) = Confirm
update_kind_of code = Alive

-- the update with which the text begins
abbrev pub update_of : List ℕ → Update
update_of bytes = record {
  kind = update_kind_of (slice_index bytes 0);
  who = number_at 2 6 bytes;
  number = number_at 8 8 bytes;
}
