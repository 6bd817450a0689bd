-- The numbers of a member, as Prometheus reads them.
use Rattle.std.specs.Prelude.{ℕ, List, [], ◌++◌, codes, count_by, take, drop}
use Rattle.std.specs.Prelude.{Option, Some, None}
use Rattle.std.specs.Prelude.{Bool, true, false}
use Rattle.std.specs.Fmt.{decimal}
use Rattle.swim_member.specs.Texts.{phase_word}
use Rattle.swim_member.specs.declared.state.Phase.{Phase}
use Rattle.swim_member.specs.declared.state.Phase.TheVariants.{Running, Left, Expelled}
use Rattle.swim_node.specs.declared.entry.Status.{Status}
use Rattle.swim_shell.specs.Counters.{counter_name, lines_from}
use Rattle.swim_shell.specs.declared.counters.Counter.{Counter}
use Rattle.swim_shell.specs.declared.counters.Counter.TheVariants as counter
use Rattle.swim_shell.specs.declared.counters.Counters.{Counters}
use Rattle.swim_shell.specs.declared.counters.TheConstants.{NOTES_FROM}
use Rattle.swim_shell.specs.declared.counts.TheConstants.{NOTE_KINDS}
use Rattle.swim_news.specs.States.{state_word}
use Rattle.swim_wire.specs.declared.update.Update.{Update}
use Rattle.swim_wire.specs.declared.update.UpdateKind.{UpdateKind}
use Rattle.swim_wire.specs.declared.update.UpdateKind.TheVariants.{Alive, Suspect, Confirm}
use Rattle.swim_http.specs.declared.seen.Seen.{Seen}
use Rattle.swim_http.specs.Gauges.{gauge, gauge_head, group_word, sample_of}
use Rattle.swim_http.specs.Members.{about_told, group_told, since_text, states_text}

-- both are the same kind
abbrev pub is_same : UpdateKind → UpdateKind → Bool
is_same Alive Alive = true
is_same Suspect Suspect = true
is_same Confirm Confirm = true
is_same _ _ = false

-- the row is of this kind
abbrev pub has_kind : UpdateKind → Update → Bool
has_kind kind r = is_same kind r.kind

-- how many rows are of this kind
abbrev pub count_kind : UpdateKind → List Update → ℕ
count_kind kind rows = count_by (has_kind kind) rows

-- 1 for the phase that it is, and 0 for the others
abbrev pub phase_flag : Phase → Phase → ℕ
phase_flag Running Running = 1
phase_flag Left Left = 1
phase_flag Expelled Expelled = 1
phase_flag _ _ = 0

-- whether the member answers
abbrev pub up_text : Option ℕ → ℕ → List ℕ
up_text group up = gauge (codes "swim_up") (codes "Whether the member answers.") group up

-- how many members are of a kind
abbrev pub kind_sample : Option ℕ → UpdateKind → List Update → List ℕ
kind_sample group kind rows =
    sample_of (codes "swim_members") group (codes "state") (state_word kind)
    (count_kind kind rows)

abbrev pub kind_samples : Option ℕ → List Update → List ℕ
kind_samples group rows =
    kind_sample group Alive rows ++ (kind_sample group Suspect rows
    ++ kind_sample group Confirm rows)

-- how many members are alive, suspected and confirmed, by its rows
abbrev pub kinds_text : Option ℕ → List Update → List ℕ
kinds_text group rows =
    gauge_head (codes "swim_members")
    (codes "Members by their state, the member itself among them.") ++ kind_samples group rows

-- whether a phase is the member's
abbrev pub phase_sample : Option ℕ → Phase → Phase → List ℕ
phase_sample group is phase =
    sample_of (codes "swim_phase") group (codes "phase") (phase_word is) (phase_flag is phase)

-- which phase it is in
abbrev pub phases_text : Option ℕ → Phase → List ℕ
phases_text group phase =
    gauge_head (codes "swim_phase") (codes "1 for the phase of the member, and 0 for the others.")
    ++ (phase_sample group Running phase ++ (phase_sample group Left phase
    ++ phase_sample group Expelled phase))

-- its own number
abbrev pub number_text : Option ℕ → ℕ → List ℕ
number_text group n =
    gauge (codes "swim_own_number") (codes "The own incarnation number of the member.") group n

-- how many entries its era has
abbrev pub entries_text : Option ℕ → ℕ → List ℕ
entries_text group n =
    gauge (codes "swim_era_entries") (codes "Entries in the present era of the member.") group n

-- for how long nothing changed
abbrev pub quiet_text : Option ℕ → ℕ → List ℕ
quiet_text group quiet =
    gauge (codes "swim_quiet_seconds")
    (codes "Seconds since this server last saw a change of the member or of its rows.") group quiet

-- what a counter of eras or of calls is; those of notes have one text together
abbrev pub counter_help : Counter → List ℕ
counter_help counter.Eras = codes "Eras that ended."
counter_help counter.NumberSaves = codes "Own numbers that were saved in eras that ended."
counter_help counter.PeerSaves = codes "Saves of the known peers at the end of an era."
counter_help counter.PeerSavesFailed =
    codes "Saves of the known peers at the end of an era that failed."
counter_help counter.Entries = codes "Answered calls of the member, each one entry."
counter_help counter.Ticks = codes "Ticks."
counter_help counter.Joins = codes "Calls that were to join a member."
counter_help counter.Received = codes "Datagrams that came."
counter_help counter.ReceiveFailures = codes "Receives that failed."
counter_help counter.Sent = codes "Datagrams that were taken for sending."
counter_help counter.Lost = codes "Datagrams that were not taken for sending, or not sent."
counter_help counter.Refutations =
    codes "Suspicions of itself that the member refuted by a greater number."
counter_help (counter.Noted note) = []

-- what stands before the number of a metric that never falls: its name in short, and what it is
unfoldable pub total_head : List ℕ → List ℕ → List ℕ
total_head name help =
    codes "# HELP swim_" ++ (name ++ (codes "_total " ++ (help ++ (codes "\n# TYPE swim_" ++ (name
    ++ codes "_total counter\n")))))

-- its number, of a group
unfoldable pub total_sample : List ℕ → Option ℕ → ℕ → List ℕ
total_sample name group n =
    codes "swim_" ++ (name ++ (codes "_total{group=\"" ++ (group_word group ++ (codes "\"} "
    ++ (decimal n ++ codes "\n")))))

-- a metric that never falls
abbrev pub total : List ℕ → List ℕ → Option ℕ → ℕ → List ℕ
total name help group n = total_head name help ++ total_sample name group n

-- the metric of a counter of eras or of calls
abbrev pub counter_metric : Option ℕ → Counter → ℕ → List ℕ
counter_metric group c n = total (counter_name c) (counter_help c) group n

-- how many notes there were of a kind
abbrev pub note_sample : Option ℕ → Counter → ℕ → List ℕ
note_sample group c n =
    sample_of (codes "swim_notes_total") group (codes "note") (counter_name c) n

-- what stands before the counts of notes
unfoldable pub notes_head : List ℕ
notes_head =
    codes "# HELP swim_notes_total Notes of the member by their kind.\n"
    ++ codes "# TYPE swim_notes_total counter\n"

-- what is said of all that a member did
abbrev pub done_text : Option ℕ → List ℕ → List ℕ
done_text group counts =
    lines_from (counter_metric group) 0 (take NOTES_FROM counts)
    ++ (notes_head ++ lines_from (note_sample group) NOTES_FROM
    (take NOTE_KINDS (drop NOTES_FROM counts)))

-- the same, where it told what it did
abbrev pub told_text : Option ℕ → Option Counters → List ℕ
told_text group None = []
told_text group (Some counters) = done_text group counters.values

-- what is said of a member that answered so
abbrev pub answering_text : Option ℕ → Status → List Update → List ℕ
answering_text group s rows =
    up_text group 1 ++ (kinds_text group rows ++ (phases_text group s.phase
    ++ (number_text group s.number ++ entries_text group s.length)))

-- what is said of a member that answered beside its status: the state of each member, what it has
-- done, who it is, and since when it runs
abbrev pub beside_text : Option ℕ → Seen → List ℕ
beside_text group seen =
    states_text group seen.rows ++ (told_text group seen.counters
    ++ (about_told group seen.about ++ since_text group seen.since))

-- what is said of a member, whether it answered or not
abbrev pub member_text : Option ℕ → Option Status → Seen → List ℕ
member_text group None seen = up_text group 0
member_text group (Some s) seen = answering_text group s seen.rows ++ beside_text group seen

-- all that is said of a member of a group
abbrev pub text_of : Option ℕ → Seen → List ℕ
text_of group seen = member_text group seen.status seen ++ quiet_text group seen.quiet

-- all its numbers
abbrev pub metrics_text : Seen → List ℕ
metrics_text seen = text_of (group_told seen.about) seen
