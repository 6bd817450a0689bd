-- What a member tells of itself.
use Rattle.std.specs.Prelude.{◌≡◌, ℕ}
use Rattle.swim_shell.specs.declared.about.Who.{Who}
use Rattle.swim_handle.specs.declared.identity.Identity.{Identity}

-- this is said of itself by a member that is this one, and has so many others to join
pub record Tells (is : Identity) (others : ℕ) (who : Who) : Type 0 where
  pub me : who.me ≡ is.me
  pub group : who.group ≡ is.group
  pub rules : who.rules ≡ is.rules
  pub listed : who.listed ≡ others
