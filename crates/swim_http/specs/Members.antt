-- Who a member is, and the state of each one that it knows, as Prometheus reads them.
use Rattle.std.specs.Prelude.{ℕ, Bool, true, false, List, [], ◌++◌, codes, flat_map}
use Rattle.std.specs.Prelude.{Option, Some, None}
use Rattle.std.specs.Fmt.{decimal}
use Rattle.swim_wire.specs.Codes.{rules_code}
use Rattle.swim_news.specs.States.{state_word}
use Rattle.swim_wire.specs.Text.{endpoint_text}
use Rattle.swim_wire.specs.declared.update.Update.{Update}
use Rattle.swim_shell.specs.declared.about.Who.{Who}
use Rattle.swim_shell.specs.declared.about.About.{About}
use Rattle.swim_http.specs.Gauges.{gauge, gauge_head, group_word, sample}

-- the state of a member of a group
unfoldable pub state_sample : Option ℕ → Update → List ℕ
state_sample group r =
    codes "swim_member_state{group=\"" ++ (group_word group ++ (codes "\",member=\""
    ++ (endpoint_text r.who ++ (codes "\",state=\"" ++ (state_word r.kind ++ codes "\"} 1\n")))))

abbrev pub state_samples : Option ℕ → List Update → List ℕ
state_samples group rows = flat_map (state_sample group) rows

-- the state of each member, by the rows
abbrev pub states_text : Option ℕ → List Update → List ℕ
states_text group rows =
    gauge_head (codes "swim_member_state")
    (codes "1 for the state of each member that has a row, itself among them.")
    ++ state_samples group rows

-- who the member is
unfoldable pub info_sample : Who → List ℕ
info_sample w =
    codes "swim_info{member=\"" ++ (endpoint_text w.me ++ (codes "\",group=\"" ++ (decimal w.group
    ++ (codes "\",rules=\"" ++ (decimal (rules_code w.rules) ++ (codes "\",version=\""
    ++ (w.version.bytes ++ codes "\"} 1\n")))))))

abbrev pub info_text : Who → List ℕ
info_text w = gauge_head (codes "swim_info") (codes "Who the member is.") ++ info_sample w

abbrev pub flag : Bool → ℕ
flag true = 1
flag false = 0

-- whether it is alone
abbrev pub alone_sample : Option ℕ → Bool → List ℕ
alone_sample group alone = sample (codes "swim_alone") group (flag alone)

abbrev pub alone_text : Option ℕ → Bool → List ℕ
alone_text group alone =
    gauge_head (codes "swim_alone")
    (codes "Whether the member has others to join and knows none of them.")
    ++ alone_sample group alone

-- since when it runs, where that is known
abbrev pub since_text : Option ℕ → Option ℕ → List ℕ
since_text group None = []
since_text group (Some since) =
    gauge (codes "swim_up_since") (codes "When the member began, in seconds since 1970.") group
    since

-- who it is, where it told that
abbrev pub about_told : Option ℕ → Option About → List ℕ
about_told group None = []
about_told group (Some about) = info_text about.who ++ alone_text group about.is_alone

-- its group, where it told that
abbrev pub group_told : Option About → Option ℕ
group_told None = None
group_told (Some about) = Some about.who.group
