-- What the bytes of a connection say, by the grammar of HTTP/1.1.
use Rattle.std.specs.Prelude.{◌≡◌, ◌≢◌, ◌⊎◌, ℕ, ◌==◌, ◌<◌, ◌≤◌, List, [], ◌∷◌, length, codes}
use Rattle.std.specs.Prelude.{if◌then◌else◌, Option, Some, None, map, take, drop}
use Rattle.std.specs.Char.{to_ascii_lowercase}
use Rattle.httparse.specs.Grammar.{HasNoRequest, MayBecomeRequest, NeverHasRequest, ReadsRequest}
use Rattle.httparse.specs.Grammar.{RequestHead}
use Rattle.httparse.specs.Spans.{RequestExceeds}
use Rattle.swim_http.specs.declared.request.Method.{Method}
use Rattle.swim_http.specs.declared.request.Method.TheVariants as method
use Rattle.swim_http.specs.declared.request.Path.{Path}
use Rattle.swim_http.specs.declared.request.Path.TheVariants as path
use Rattle.swim_http.specs.declared.request.RequestReading.{RequestReading}
use Rattle.swim_http.specs.declared.request.RequestReading.TheVariants.{More, Asked, Bad, TooLong}
use Rattle.swim_http.specs.declared.request.HttpRequest.{HttpRequest}
use Rattle.swim_http.specs.declared.request.TheConstants.{FIELDS_MAX, HEAD_MAX}

-- the name is this method's
abbrev pub IsMethod : List ℕ → Method → Type 0
IsMethod name method.Get = name ≡ codes "GET"
IsMethod name method.Head = name ≡ codes "HEAD"
IsMethod name method.Other = (name ≢ codes "GET") × (name ≢ codes "HEAD")

-- where each is served
abbrev pub path_text : Path → List ℕ
path_text path.Page = codes "/"
path_text path.Metrics = codes "/metrics"
path_text path.Members = codes "/members.json"
path_text path.Health = codes "/health"

-- this is served at the path, or nothing is
abbrev pub IsPath : List ℕ → Option Path → Type 0
IsPath text (Some p) = text ≡ path_text p
IsPath text None = (p : Path) → text ≢ path_text p

-- the path of a target: what stands before its query
abbrev pub path_in : List ℕ → List ℕ
path_in [] = []
path_in (byte ∷ target) = if byte == 63 then [] else byte ∷ path_in target

-- the path begins with the scheme of an absolute target, in letters of any case
abbrev pub IsAbsolute : List ℕ → Type 0
IsAbsolute path =
    map to_ascii_lowercase (take (length (codes "http://")) path) ≡ codes "http://"

-- what a text has from its first slash on; a slash where it has none
abbrev pub from_slash : List ℕ → List ℕ
from_slash [] = codes "/"
from_slash (byte ∷ text) = if byte == 47 then byte ∷ text else from_slash text

-- the path of a target: what stands before its query, and in an absolute one behind its host
abbrev pub IsPathOf : List ℕ → List ℕ → Type 0
IsPathOf target path =
    (IsAbsolute (path_in target)
    × (path ≡ from_slash (drop (length (codes "http://")) (path_in target))))
    ⊎ (¬ IsAbsolute (path_in target) × (path ≡ path_in target))

-- what the head asks for
pub record AsksFor (h : RequestHead) (asked : HttpRequest) : Type 0 where
  pub method : IsMethod h.method asked.method
  pub text : List ℕ
  pub of_target : IsPathOf h.target text
  pub path : IsPath text asked.path

-- what the bytes that came say: the head of a request is at their front, or more of one is to come,
-- or none can come, or it is too long or has too many fields
abbrev pub IsReading : List ℕ → RequestReading → Type 0
IsReading bytes (Asked asked) =
    (h : RequestHead) × (rest : List ℕ) × ReadsRequest bytes h rest × AsksFor h asked
IsReading bytes More =
    HasNoRequest bytes × MayBecomeRequest bytes × (length bytes < HEAD_MAX)
IsReading bytes Bad = NeverHasRequest bytes
IsReading bytes TooLong =
    (HasNoRequest bytes × (HEAD_MAX ≤ length bytes)) ⊎ RequestExceeds FIELDS_MAX bytes
