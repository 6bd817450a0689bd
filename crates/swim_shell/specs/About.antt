-- Who a member is, and the text by which that is told.
use Rattle.std.specs.Prelude.{ℕ, ◌==◌, Bool, true, false, if◌then◌else◌, List, ◌++◌, codes}
use Rattle.std.specs.Prelude.{Option, None, Some}
use Rattle.std.specs.Fmt.{decimal}
use Rattle.swim_member.specs.declared.state.Phase.{Phase}
use Rattle.swim_member.specs.declared.state.Phase.TheVariants.{Running}
use Rattle.swim_node.specs.declared.entry.Status.{Status}
use Rattle.swim_wire.specs.Codes.{rules_code}
use Rattle.swim_wire.specs.Text.{endpoint_text}
use Rattle.swim_shell.specs.declared.about.Who.{Who}
use Rattle.swim_shell.specs.declared.about.About.{About}

-- the member takes part
abbrev pub is_running : Phase → Bool
is_running Running = true
is_running _ = false

-- the status shows that the member takes part, and holds nobody for alive or suspected
abbrev pub is_alone : Option Status → Bool
is_alone None = false
is_alone (Some s) =
    if is_running s.phase then (if s.alive == 0 then s.suspect == 0 else false) else false

-- what a member tells by a status: it is alone if it takes part, has others to join, and has no row
-- of another member that is alive or suspected
abbrev pub about_of : Who → Status → About
about_of who status = record {
  who = who;
  is_alone = if who.listed == 0 then false else is_alone (Some status);
}

abbrev pub yes_or_no : Bool → List ℕ
yes_or_no true = codes "yes"
yes_or_no false = codes "no"

-- the member, its group and its rules
abbrev pub about_head : Who → List ℕ
about_head w =
    codes "ok member " ++ (endpoint_text w.me ++ ((codes " group " ++ decimal w.group)
    ++ (codes " rules " ++ decimal (rules_code w.rules))))

-- the version of its program, for how many seconds it has run, and how many it has to join
abbrev pub about_run : Who → List ℕ
about_run w =
    codes " version " ++ (w.version.bytes ++ ((codes " uptime " ++ decimal w.uptime)
    ++ (codes " listed " ++ decimal w.listed)))

-- whether it is alone, which ends the line
abbrev pub about_alone : Bool → List ℕ
about_alone alone = codes " alone " ++ (yes_or_no alone ++ codes "\n")

-- the line of who a member is, and whether it is alone
abbrev pub about_text : About → List ℕ
about_text a = about_head a.who ++ (about_run a.who ++ about_alone a.is_alone)
