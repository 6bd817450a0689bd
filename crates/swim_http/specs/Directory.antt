-- What is sent where a server shows several groups.
use Rattle.std.specs.Prelude.{◌≡◌, ℕ, List, ◌++◌, codes, flat_map}
use Rattle.std.specs.Fmt.{decimal}
use Rattle.swim_http.specs.Answers.{answer_for, code_line, health_line, sent_text}
use Rattle.swim_http.specs.Groups.{directory_text, phase_of_all}
use Rattle.swim_http.specs.declared.answer.Response.{Response}
use Rattle.swim_http.specs.declared.answer.Code.{Code}
use Rattle.swim_http.specs.declared.answer.Content.{Content}
use Rattle.swim_http.specs.declared.answer.Content.TheVariants as content
use Rattle.swim_http.specs.declared.group.SeenGroup.{SeenGroup}
use Rattle.swim_http.specs.declared.request.RequestReading.{RequestReading}

-- a group's number, and what is said of the health of its member
abbrev pub group_health : SeenGroup → List ℕ
group_health g = decimal g.number ++ (codes " " ++ health_line g.seen)

-- what the body of an answer says: of the page and of the rows nothing is said here
abbrev pub IsContentOfAll : Content → Code → List SeenGroup → List ℕ → Type 0
IsContentOfAll content.Page _ groups body = Unit {0}
IsContentOfAll content.Metrics _ groups body = body ≡ directory_text groups
IsContentOfAll content.Members _ groups body = Unit {0}
IsContentOfAll content.Phase _ groups body = body ≡ flat_map group_health groups
IsContentOfAll content.Code code groups body = body ≡ code_line code ++ codes "\n"

abbrev pub IsBodyOfAll : Response → List SeenGroup → List ℕ → Type 0
IsBodyOfAll a groups body = IsContentOfAll a.content a.code groups body

-- what is sent where this came, as the groups were seen: the answer is as of one member in the
-- phase of all
pub record IsDirectory (reading : RequestReading) (groups : List SeenGroup) (text : List ℕ)
    : Type 0 where
  pub body : List ℕ
  pub says : IsBodyOfAll (answer_for reading (phase_of_all groups)) groups body
  pub whole : text ≡ sent_text reading (answer_for reading (phase_of_all groups)) body
