-- Worked rows, by computation: what is asked, what it is answered, and the numbers of a member.
use Rattle.std.proofs.Common.{◌≡◌, refl, List, [], ◌∷◌, ◌++◌, Some, None}
use Rattle.std.specs.Prelude.{codes}
use Rattle.std.specs.Fmt.{decimal}
use Rattle.swim_member.specs.declared.state.Phase.TheVariants.{Running, Left, Expelled}
use Rattle.swim_wire.specs.declared.update.Update.{Update}
use Rattle.swim_wire.specs.declared.update.UpdateKind.{UpdateKind}
use Rattle.swim_wire.specs.declared.update.UpdateKind.TheVariants.{Alive, Suspect, Confirm}
use Rattle.swim_http.specs.Answers.{answer_for, answer_with, code_head}
use Rattle.swim_shell.specs.Counters.{counter_at}
use Rattle.swim_http.specs.Gauges.{gauge_head, sample, sample_of}
use Rattle.swim_http.specs.Members.{about_told, since_text, state_sample}
use Rattle.swim_http.specs.Metrics.{count_kind, counter_metric, told_text, kind_sample, member_text, note_sample, total_head, total_sample}
use Rattle.swim_http.specs.declared.seen.Seen.{Seen}
use Rattle.swim_wire.specs.Text.{endpoint_text}
use Rattle.swim_http.specs.Requests.{IsMethod, IsPath, path_in}
use Rattle.swim_http.specs.declared.answer.Code.TheVariants as code
use Rattle.swim_http.specs.declared.answer.Content.TheVariants as content
use Rattle.swim_http.specs.declared.request.Method.TheVariants as method
use Rattle.swim_http.specs.declared.request.Path.{Path}
use Rattle.swim_http.specs.declared.request.Path.TheVariants as path
use Rattle.swim_http.specs.declared.request.RequestReading.{RequestReading}
use Rattle.swim_http.specs.declared.request.RequestReading.TheVariants.{Asked, Bad, TooLong}

-- a query is no part of the path, and a path is served as it is written
queried : path_in (codes "/metrics?job=swim") ≡ codes "/metrics"
queried = refl

plain_path : IsPath (path_in (codes "/health")) (Some path.Health)
plain_path = refl

got : IsMethod (codes "GET") method.Get
got = refl

abbrev get : Path → RequestReading
get p = Asked (record { method = method.Get; path = Some p })

-- a running member is healthy; one that left, or was expelled, or does not answer is not
running_is_healthy : answer_for (get path.Health) (Some Running) ≡ answer_with code.Fine content.Phase
running_is_healthy = refl

left_is_not : answer_for (get path.Health) (Some Left) ≡ answer_with code.Unavailable content.Phase
left_is_not = refl

expelled_is_not : answer_for (get path.Health) (Some Expelled) ≡ answer_with code.Unavailable content.Phase
expelled_is_not = refl

silent_is_not : answer_for (get path.Health) None ≡ answer_with code.Unavailable content.Phase
silent_is_not = refl

-- the rows of a member that left are shown, and those of one that does not answer are not; its numbers are
left_has_rows : answer_for (get path.Members) (Some Left) ≡ answer_with code.Fine content.Members
left_has_rows = refl

silent_has_none : answer_for (get path.Members) None ≡ answer_with code.Unavailable content.Code
silent_has_none = refl

silent_has_numbers : answer_for (get path.Metrics) None ≡ answer_with code.Fine content.Metrics
silent_has_numbers = refl

-- another path is not there, and another method is refused wherever it points
elsewhere : answer_for (Asked (record { method = method.Head; path = None })) (Some Running) ≡ answer_with code.NotFound content.Code
elsewhere = refl

posted : answer_for (Asked (record { method = method.Other; path = None })) (Some Running) ≡ answer_with code.NotAllowed content.Code
posted = refl

posted_line : code_head code.NotAllowed ≡ codes "HTTP/1.1 405 Method Not Allowed\r\nAllow: GET, HEAD\r\n"
unfolding code_head
posted_line = refl

-- what is no request is a bad one, and one whose head is too long says so
garbage : answer_for Bad None ≡ answer_with code.Bad content.Code
garbage = refl

long : answer_for TooLong None ≡ answer_with code.TooLong content.Code
long = refl

abbrev row : UpdateKind → Update
row kind = record { kind = kind; who = 0x0A0000021B58; number = 3 }

abbrev rows : List Update
rows = row Alive ∷ row Suspect ∷ row Alive ∷ []

-- each row counts for its kind alone
counted : count_kind Alive rows ∷ count_kind Suspect rows ∷ count_kind Confirm rows ∷ [] ≡ 2 ∷ 1 ∷ 0 ∷ []
counted = refl

suspects : kind_sample (Some 7) Suspect rows ≡ codes "swim_members{group=\"" ++ (decimal 7 ++ (codes "\",state=\"suspect\"} " ++ (decimal 1 ++ codes "\n")))
unfolding sample_of
suspects = refl

-- of a member that does not answer nothing is told but that
silent : (seen : Seen) → member_text None None seen ≡ codes "# HELP swim_up Whether the member answers.\n# TYPE swim_up gauge\nswim_up{group=\"\"} " ++ (decimal 0 ++ codes "\n")
unfolding gauge_head sample
silent seen = refl

-- a counter under its name, and one of notes
entries : counter_metric (Some 7) (counter_at 4) 9 ≡ codes "# HELP swim_entries_total Answered calls of the member, each one entry.\n# TYPE swim_entries_total counter\nswim_entries_total{group=\"" ++ (decimal 7 ++ (codes "\"} " ++ (decimal 9 ++ codes "\n")))
unfolding total_head total_sample
entries = refl

leaps : note_sample (Some 7) (counter_at 16) 2 ≡ codes "swim_notes_total{group=\"" ++ (decimal 7 ++ (codes "\",note=\"Leap\"} " ++ (decimal 2 ++ codes "\n")))
unfolding sample_of
leaps = refl

-- a member that knows no such line has no counters
untold : told_text (Some 7) None ≡ []
untold = refl

-- nor does it say who it is, or since when it runs
unsaid : about_told None None ++ since_text None None ≡ []
unsaid = refl

-- the state of one member
of_one : state_sample (Some 7) (row Confirm) ≡ codes "swim_member_state{group=\"" ++ (decimal 7 ++ (codes "\",member=\"" ++ (endpoint_text 0x0A0000021B58 ++ codes "\",state=\"failed\"} 1\n")))
unfolding state_sample
of_one = refl
