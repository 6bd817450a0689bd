-- Hosts by their names.
use Rattle.std.specs.Prelude.{◌≡◌, ℕ, ◌≤◌, ◌==◌, ◌&&◌, ◌||◌, nat_le, Bool, true, List, length}
use Rattle.std.specs.List.{list_all, list_any}
use Rattle.std.specs.Fmt.{decimal}
use Rattle.swim_words.specs.declared.hosts.TheConstants.{HOST_MAX}
use Rattle.swim_words.specs.Words.{split_by}

-- from the first to the last
abbrev pub is_between : ℕ → ℕ → ℕ → Bool
is_between first last b = nat_le first b && nat_le b last

abbrev pub is_letter : ℕ → Bool
is_letter b = is_between 97 122 b || is_between 65 90 b

-- a letter, a digit, a dot, a hyphen or an underscore
abbrev pub is_host_byte : ℕ → Bool
is_host_byte b = is_letter b || (is_between 48 57 b || (b == 46 || (b == 45 || b == 95)))

-- the name of a host. It has a letter: numbers with dots that are no address are nobody's name
pub record IsHostName (name : List ℕ) : Type 0 where
  pub some : 1 ≤ length name
  pub most : length name ≤ HOST_MAX
  pub bytes : list_all is_host_byte name ≡ true
  pub letter : list_any is_letter name ≡ true

-- the text is this name, a colon and this port
pub record SaysHost (text name : List ℕ) (port : ℕ) : Type 0 where
  pub says : text ≡ split_by 58 name (decimal port)
  pub host : IsHostName name
  pub at_least : 1 ≤ port
  pub at_most : port ≤ 65535
