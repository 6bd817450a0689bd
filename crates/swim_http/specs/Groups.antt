-- What is said of several groups, of each by one of its members, where one answers.
use Rattle.std.specs.Prelude.{◌≡◌, ℕ, Bool, true, false, List, [], ◌++◌, codes, flat_map}
use Rattle.std.specs.Prelude.{if◌then◌else◌, Option, Some, None, find}
use Rattle.std.specs.List.{list_any}
use Rattle.swim_member.specs.declared.state.Phase.{Phase}
use Rattle.swim_member.specs.declared.state.Phase.TheVariants.{Running}
use Rattle.swim_node.specs.declared.entry.Status.{Status}
use Rattle.swim_shell.specs.declared.about.About.{About}
use Rattle.swim_wire.specs.declared.update.Update.{Update}
use Rattle.swim_http.specs.Answers.{phase_in}
use Rattle.swim_http.specs.Gauges.{gauge_head, sample}
use Rattle.swim_http.specs.Members.{alone_sample, info_sample, state_samples}
use Rattle.swim_http.specs.Metrics.{kind_samples}
use Rattle.swim_http.specs.declared.group_metrics.Family.{Family}
use Rattle.swim_http.specs.declared.group_metrics.Family.TheVariants as family
use Rattle.swim_http.specs.declared.group.SeenGroup.{SeenGroup}

-- no member answers
abbrev pub is_unanswered_by : Option Phase → Bool
is_unanswered_by None = true
is_unanswered_by (Some phase) = false

abbrev pub is_unanswered : SeenGroup → Bool
is_unanswered g = is_unanswered_by (phase_in g.seen.status)

-- a member answers that is in another phase than Running
abbrev pub is_other_by : Option Phase → Bool
is_other_by None = false
is_other_by (Some Running) = false
is_other_by (Some _) = true

abbrev pub is_other : SeenGroup → Bool
is_other g = is_other_by (phase_in g.seen.status)

-- the phase of the group that was found, or else Running
abbrev pub phase_found : Option SeenGroup → Option Phase
phase_found None = Some Running
phase_found (Some g) = phase_in g.seen.status

-- none where a group has no member that answers, else that of the first which is not Running
abbrev pub phase_of_all : List SeenGroup → Option Phase
phase_of_all groups =
    if list_any is_unanswered groups then None else phase_found (find is_other groups)

-- the name of a metric, and what it is
abbrev pub family_name : Family → List ℕ
family_name family.Up = codes "swim_up"
family_name family.Quiet = codes "swim_quiet_seconds"
family_name family.Kinds = codes "swim_members"
family_name family.States = codes "swim_member_state"
family_name family.Info = codes "swim_info"
family_name family.Alone = codes "swim_alone"

abbrev pub family_help : Family → List ℕ
family_help family.Up = codes "Whether a member of the group answers."
family_help family.Quiet = codes "Seconds since this server last saw a change of the group."
family_help family.Kinds = codes "Members of the group by their state."
family_help family.States = codes "1 for the state of each member that has a row."
family_help family.Info = codes "Which member of the group answers."
family_help family.Alone =
    codes "Whether that member has others to join and knows none of them."

-- 1 where a member answers, and else 0
abbrev pub is_up : Option Status → ℕ
is_up None = 0
is_up (Some s) = 1

-- what the rows say where a member answers: the state of each, or how many are of each kind
abbrev pub rows_told : Option Status → Bool → Option ℕ → List Update → List ℕ
rows_told None _ group rows = []
rows_told (Some s) true group rows = state_samples group rows
rows_told (Some s) false group rows = kind_samples group rows

abbrev pub rows_of : Bool → SeenGroup → List ℕ
rows_of states g = rows_told g.seen.status states (Some g.number) g.seen.rows

-- which member answers, where one does and tells that
abbrev pub info_told : Option Status → Option About → List ℕ
info_told (Some s) (Some about) = info_sample about.who
info_told _ _ = []

abbrev pub info_of : SeenGroup → List ℕ
info_of g = info_told g.seen.status g.seen.about

-- whether it is alone
abbrev pub alone_told : Option Status → Option About → Option ℕ → List ℕ
alone_told (Some s) (Some about) group = alone_sample group about.is_alone
alone_told _ _ group = []

abbrev pub alone_of : SeenGroup → List ℕ
alone_of g = alone_told g.seen.status g.seen.about (Some g.number)

-- what a metric says of a group
abbrev pub family_sample : Family → SeenGroup → List ℕ
family_sample family.Up g = sample (codes "swim_up") (Some g.number) (is_up g.seen.status)
family_sample family.Quiet g = sample (codes "swim_quiet_seconds") (Some g.number) g.seen.quiet
family_sample family.Kinds g = rows_of false g
family_sample family.States g = rows_of true g
family_sample family.Info g = info_of g
family_sample family.Alone g = alone_of g

-- a metric of all groups
abbrev pub family_text : Family → List SeenGroup → List ℕ
family_text f groups =
    gauge_head (family_name f) (family_help f) ++ flat_map (family_sample f) groups

-- all numbers of several groups
abbrev pub directory_text : List SeenGroup → List ℕ
directory_text groups =
    family_text family.Up groups ++ (family_text family.Quiet groups
    ++ (family_text family.Kinds groups ++ (family_text family.States groups
    ++ (family_text family.Info groups ++ family_text family.Alone groups))))
