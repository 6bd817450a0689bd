-- What control lines name.
use Rattle.std.specs.Prelude.{◌≡◌, ◌≢◌, ◌⊎◌, ℕ, ◌<◌, ◌≤◌, List, length, codes}
use Rattle.swim_wire.specs.Numbers.{IsEndpoint}
use Rattle.swim_words.specs.Words.{No, spaced, endpoint_text, SaysEndpoint}
use Rattle.swim_shell.specs.declared.lines.TheConstants.{LINE_MAX}
use Rattle.swim_shell.specs.declared.request.Request.{Request}
use Rattle.swim_shell.specs.declared.request.Request.TheVariants as asked

-- the text is none of the lines
pub record IsUnknown (text : List ℕ) : Type 0 where
  pub status : text ≢ codes "status"
  pub members : text ≢ codes "members"
  pub leave : text ≢ codes "leave"
  pub stop : text ≢ codes "stop"
  pub renew : text ≢ codes "record"
  pub counters : text ≢ codes "counters"
  pub reload : text ≢ codes "reload"
  pub about : text ≢ codes "about"
  pub members_after : (word : List ℕ) → text ≢ spaced (codes "members") word
  pub join : (word : List ℕ) → text ≢ spaced (codes "join") word

-- the word after `join` or `members` isn't an endpoint
pub record IsNoAddress (text : List ℕ) : Type 0 where
  pub word : List ℕ
  pub says : (text ≡ spaced (codes "members") word) ⊎ (text ≡ spaced (codes "join") word)
  pub none : No (SaysEndpoint word)

-- what a line that is not too long asks for
abbrev pub NamesShort : List ℕ → Request → Type 0
NamesShort text asked.Status = text ≡ codes "status"
NamesShort text (asked.Members after) =
    ((text ≡ codes "members") × (after ≡ 0))
    ⊎ ((text ≡ spaced (codes "members") (endpoint_text after)) × IsEndpoint after)
NamesShort text (asked.Join peer) =
    (text ≡ spaced (codes "join") (endpoint_text peer)) × IsEndpoint peer
NamesShort text asked.Leave = text ≡ codes "leave"
NamesShort text asked.Stop = text ≡ codes "stop"
NamesShort text asked.Record = text ≡ codes "record"
NamesShort text asked.Counters = text ≡ codes "counters"
NamesShort text asked.Reload = text ≡ codes "reload"
NamesShort text asked.About = text ≡ codes "about"
NamesShort text asked.Address = IsNoAddress text
NamesShort text asked.Unknown = IsUnknown text
NamesShort text asked.TooLong = ⊥

-- the line names this
abbrev pub Names : List ℕ → Request → Type 0
Names text asked.TooLong = LINE_MAX < length text
Names text a = (length text ≤ LINE_MAX) × NamesShort text a
