-- Which answer a request gets, by what was read of the member, and how it is written.
use Rattle.std.specs.Prelude.{◌≡◌, ℕ, List, [], ◌++◌, length, codes, Option, Some, None}
use Rattle.std.specs.Prelude.{Bool, true, false, if◌then◌else◌}
use Rattle.std.specs.Fmt.{decimal}
use Rattle.swim_member.specs.Texts.{phase_word}
use Rattle.swim_member.specs.declared.state.Phase.{Phase}
use Rattle.swim_member.specs.declared.state.Phase.TheVariants.{Running}
use Rattle.swim_node.specs.declared.entry.Status.{Status}
use Rattle.swim_http.specs.declared.answer.Response.{Response}
use Rattle.swim_http.specs.declared.answer.Code.{Code}
use Rattle.swim_http.specs.declared.answer.Code.TheVariants as code
use Rattle.swim_http.specs.declared.answer.Content.{Content}
use Rattle.swim_http.specs.declared.answer.Content.TheVariants as content
use Rattle.swim_http.specs.declared.request.Method.{Method}
use Rattle.swim_http.specs.declared.request.Method.TheVariants as method
use Rattle.swim_http.specs.declared.request.Path.{Path}
use Rattle.swim_http.specs.declared.request.Path.TheVariants as path
use Rattle.swim_http.specs.declared.request.RequestReading.{RequestReading}
use Rattle.swim_http.specs.declared.request.RequestReading.TheVariants.{More, Asked, Bad, TooLong}
use Rattle.swim_http.specs.declared.request.HttpRequest.{HttpRequest}
use Rattle.swim_http.specs.declared.seen.Seen.{Seen}
use Rattle.swim_shell.specs.declared.about.About.{About}
use Rattle.swim_http.specs.Metrics.{metrics_text}

-- the phase of a member that answers
abbrev pub phase_in : Option Status → Option Phase
phase_in None = None
phase_in (Some s) = Some s.phase

-- the first line of an answer says
abbrev pub code_line : Code → List ℕ
code_line code.Fine = codes "200 OK"
code_line code.Bad = codes "400 Bad Request"
code_line code.NotFound = codes "404 Not Found"
code_line code.NotAllowed = codes "405 Method Not Allowed"
code_line code.TooLong = codes "431 Request Header Fields Too Large"
code_line code.Unavailable = codes "503 Service Unavailable"

abbrev pub answer_with : Code → Content → Response
answer_with c t = record { code = c; content = t }

-- a member is healthy exactly while it is running
abbrev pub health_code : Option Phase → Code
health_code (Some Running) = code.Fine
health_code _ = code.Unavailable

-- what is served at each path
abbrev pub served : Path → Option Phase → Response
served path.Page _ = answer_with code.Fine content.Page
served path.Metrics _ = answer_with code.Fine content.Metrics
served path.Members None = answer_with code.Unavailable content.Code
served path.Members (Some _) = answer_with code.Fine content.Members
served path.Health phase = answer_with (health_code phase) content.Phase

-- a request is judged by its method, and then by its path
abbrev pub judged : Method → Option Path → Option Phase → Response
judged method.Other _ _ = answer_with code.NotAllowed content.Code
judged _ None _ = answer_with code.NotFound content.Code
judged _ (Some p) phase = served p phase

abbrev pub answer_asked : HttpRequest → Option Phase → Response
answer_asked asked phase = judged asked.method asked.path phase

-- what came on a connection gets this answer
abbrev pub answer_for : RequestReading → Option Phase → Response
answer_for (Asked asked) phase = answer_asked asked phase
answer_for TooLong _ = answer_with code.TooLong content.Code
answer_for Bad _ = answer_with code.Bad content.Code
answer_for More _ = answer_with code.Bad content.Code

-- a member that answers tells that it is alone
abbrev pub is_alone_in : Option Status → Option About → Bool
is_alone_in (Some s) (Some about) = about.is_alone
is_alone_in _ _ = false

abbrev pub alone_words : Bool → List ℕ
alone_words true = codes ", alone"
alone_words false = []

-- what a body says in words: the phase and whether the member is alone, or that it does not answer
abbrev pub phase_line : Option Phase → Bool → List ℕ
phase_line None alone = codes "not answering\n"
phase_line (Some phase) alone = phase_word phase ++ (alone_words alone ++ codes "\n")

abbrev pub health_line : Seen → List ℕ
health_line seen = phase_line (phase_in seen.status) (is_alone_in seen.status seen.about)

-- the type of a body
abbrev pub content_type : Content → List ℕ
content_type content.Page = codes "text/html; charset=utf-8"
content_type content.Metrics = codes "text/plain; version=0.0.4; charset=utf-8"
content_type content.Members = codes "application/x-ndjson"
content_type content.Phase = codes "text/plain; charset=utf-8"
content_type content.Code = codes "text/plain; charset=utf-8"

-- the field that a refused method owes
abbrev pub allow_text : Code → List ℕ
allow_text code.NotAllowed = codes "Allow: GET, HEAD\r\n"
allow_text _ = []

-- the first line of an answer, and the methods there are where another one was refused
unfoldable pub code_head : Code → List ℕ
code_head c = codes "HTTP/1.1 " ++ code_line c ++ codes "\r\n" ++ allow_text c

-- the type of its body
unfoldable pub type_text : Content → List ℕ
type_text t = codes "Content-Type: " ++ content_type t ++ codes "\r\n"

-- how many bytes its body has
unfoldable pub size_text : ℕ → List ℕ
size_text size = codes "Content-Length: " ++ decimal size ++ codes "\r\n"

-- what a browser may do with it: keep none, guess no type, and load nothing from elsewhere
unfoldable pub safety_text : List ℕ
safety_text =
    codes "Connection: close\r\nCache-Control: no-store\r\nX-Content-Type-Options: nosniff\r\n"
    ++ codes "Content-Security-Policy: default-src 'none'; connect-src 'self'; "
    ++ codes "script-src 'unsafe-inline'; style-src 'unsafe-inline'; base-uri 'none'; "
    ++ codes "form-action 'none'; frame-ancestors 'none'\r\n\r\n"

-- the head of an answer whose body has so many bytes
abbrev pub http_head : Response → ℕ → List ℕ
http_head a size = code_head a.code ++ type_text a.content ++ size_text size ++ safety_text

-- what the body of an answer says: of a page and of the rows nothing is said here
abbrev pub IsContent : Content → Code → Seen → List ℕ → Type 0
IsContent content.Page _ seen body = Unit {0}
IsContent content.Metrics _ seen body = body ≡ metrics_text seen
IsContent content.Members _ seen body = Unit {0}
IsContent content.Phase _ seen body = body ≡ health_line seen
IsContent content.Code code seen body = body ≡ code_line code ++ codes "\n"

abbrev pub IsBody : Response → Seen → List ℕ → Type 0
IsBody a seen body = IsContent a.content a.code seen body

-- a request for the head alone
abbrev pub is_head : Method → Bool
is_head method.Head = true
is_head _ = false

abbrev pub wants_head : RequestReading → Bool
wants_head (Asked asked) = is_head asked.method
wants_head _ = false

-- what is sent where the head alone may be wanted
abbrev pub sent_text : RequestReading → Response → List ℕ → List ℕ
sent_text reading a body =
    http_head a (length body) ++ (if wants_head reading then [] else body)

-- what is sent where this came, as the member was seen: the head of the answer, and its body unless
-- the head is wanted alone
pub record IsResponse (reading : RequestReading) (seen : Seen) (text : List ℕ) : Type 0 where
  pub body : List ℕ
  pub says : IsBody (answer_for reading (phase_in seen.status)) seen body
  pub whole : text ≡ sent_text reading (answer_for reading (phase_in seen.status)) body
