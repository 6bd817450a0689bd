-- What one call of an era says of one member, x.
use Rattle.std.specs.Prelude.{ℕ, ◌%◌, ◌==◌, ◌&&◌, Bool, not, List, [], ◌∷◌, ◌++◌}
use Rattle.std.specs.Prelude.{if◌then◌else◌, Option, Some, None}
use Rattle.std.specs.Option.{is_none}
use Rattle.swim_wire.specs.declared.datagram.Datagram.{Datagram}
use Rattle.swim_wire.specs.declared.datagram.Kind.{Kind}
use Rattle.swim_wire.specs.declared.datagram.Kind.TheVariants.{Ping, PingReq, Ack, Join, Page}
use Rattle.swim_wire.specs.declared.rules.Rules.{Rules}
use Rattle.swim_wire.specs.declared.update.Update.{Update}
use Rattle.swim_wire.specs.declared.update.UpdateKind.{UpdateKind}
use Rattle.swim_wire.specs.declared.update.UpdateKind.TheVariants.{Alive, Suspect, Confirm}
use Rattle.swim_rules.specs.Rows.{heard_as, row_of}
use Rattle.swim_rules.specs.declared.table.Heard.{Heard}
use Rattle.swim_rules.specs.declared.table.Heard.TheVariants.{Accepted}
use Rattle.swim_rules.specs.declared.table.Row.{Row}
use Rattle.swim_member.specs.Checks.{rules_of}
use Rattle.swim_member.specs.State.{State}
use Rattle.swim_member.specs.declared.answer.Out.{Out}
use Rattle.swim_member.specs.Judged.{Judged}
use Rattle.swim_member.specs.Judged as judged
use Rattle.swim_member.specs.declared.settings.Settings.{Settings}
use Rattle.swim_member.specs.declared.state.Phase.{Phase}
use Rattle.swim_member.specs.declared.state.Phase.TheVariants.{Running, Left, Expelled}
use Rattle.swim_member.specs.declared.state.Probe.{Probe}
use Rattle.swim_node.specs.declared.entry.Entry.{Entry}
use Rattle.swim_node.specs.declared.entry.Outcome.{Outcome}
use Rattle.swim_explain.specs.declared.fact.Fact.{Fact}
use Rattle.swim_explain.specs.declared.fact.Fact.TheVariants as fact
use Rattle.swim_explain.specs.declared.fact.Purpose.{Purpose}
use Rattle.swim_explain.specs.declared.fact.Purpose.TheVariants as purpose
use Rattle.swim_explain.specs.declared.view.View.{View}

-- what a member holds of x
abbrev pub view_of : State → ℕ → View
view_of s x = record {
  time = s.time;
  phase = s.phase;
  number = s.number;
  row = row_of s.rows x;
  probe = s.probe;
}

-- Of a datagram that was accepted

-- it came from x
abbrev pub came : ℕ → Datagram → List Fact
came x p = if p.sender == x then fact.Came p.kind p.seq ∷ [] else []

-- the row after an update with this answer
abbrev pub row_with : Heard → Option Row → Row → Option Row
row_with Accepted old r = Some r
row_with _ old r = old

-- its updates about another member, each with the row that it met and what
-- became of it. Where no row stands in the end, the table had no room for one
abbrev pub told : Rules → ℕ → ℕ → Bool → ℕ → Option Row → List Update → List Fact
told rules x by full now row [] = []
told rules x by full now row (u ∷ updates) =
    if u.who == x
    then fact.Told by u row (heard_as rules row full u)
    ∷ told rules x by full now
    (row_with (heard_as rules row full u) row (record { update = u; since = now })) updates
    else told rules x by full now row updates

-- its updates about the member itself
abbrev pub told_itself : ℕ → ℕ → List Update → List Fact
told_itself x by [] = []
told_itself x by (u ∷ updates) =
    if u.who == x then fact.ToldItself by u ∷ told_itself x by updates
    else told_itself x by updates

-- the open probe of x is answered by it
abbrev pub answered : ℕ → ℕ → Option Probe → Option Probe → List Fact
answered x by (Some q) (Some r) =
    if q.target == x && not q.answered && r.answered then fact.Answered by q.seq ∷ [] else []
answered x by _ _ = []

-- its updates about x
abbrev pub told_of : Settings → ℕ → ℕ → View → View → List Update → List Fact
told_of settings x by v w updates =
    if x == settings.me
    then told_itself x by updates
    else told (rules_of settings) x by (is_none w.row) v.time v.row updates

abbrev pub by_datagram : Settings → ℕ → View → View → Datagram → List Fact
by_datagram settings x v w p =
    came x p ++ told_of settings x p.sender v w p.updates.items
    ++ answered x p.sender v.probe w.probe

-- Of a tick

-- a row that stood too long: a Suspect is Confirm now, a Confirm is gone
abbrev pub became : Row → UpdateKind → UpdateKind → List Fact
became r Suspect Confirm = fact.Confirmed r.update.number r.since ∷ []
became r _ _ = []

abbrev pub passed : Option Row → Option Row → List Fact
passed (Some r) (Some t) = became r r.update.kind t.update.kind
passed (Some r) None = fact.Forgotten r.since ∷ []
passed None _ = []

-- an Alive is Suspect now, since nobody answered the probe with this sequence
abbrev pub blamed_as : ℕ → Row → UpdateKind → UpdateKind → List Fact
blamed_as seq t Alive Suspect = fact.Suspected t.update.number seq ∷ []
blamed_as seq t _ _ = []

abbrev pub blamed : ℕ → Option Row → Option Row → List Fact
blamed seq (Some r) (Some t) = blamed_as seq t r.update.kind t.update.kind
blamed seq _ _ = []

-- the sequence of a probe of x whose period ended, and nobody had answered it
abbrev pub over : ℕ → ℕ → ℕ → Option Probe → Option ℕ
over x period now None = None
over x period now (Some q) =
    if q.target == x && not q.answered && now % period == 0 then Some q.seq else None

-- nobody answered this probe
abbrev pub unanswered : View → View → Option ℕ → List Fact
unanswered v w None = []
unanswered v w (Some seq) = fact.Unanswered seq ∷ blamed seq v.row w.row

abbrev pub by_tick : Settings → ℕ → View → View → List Fact
by_tick settings x v w =
    passed v.row w.row ++ unanswered v w (over x settings.period w.time v.probe)

-- Of any call

-- what the call was told, and what time did
abbrev pub met : Settings → ℕ → View → View → Judged → List Fact
met settings x v w (judged.Datagram p own) = by_datagram settings x v w p
met settings x v w (judged.Tick deal) = by_tick settings x v w
met settings x v w _ = []

-- a member that took part takes part no more
abbrev pub ended : Phase → Phase → List Fact
ended Running Left = fact.Left ∷ []
ended Running Expelled = fact.Expelled ∷ []
ended _ _ = []

-- another own number
abbrev pub renumbered : ℕ → ℕ → List Fact
renumbered old new = if old == new then [] else fact.Renumbered old new ∷ []

-- what became of the member itself
abbrev pub itself : ℕ → ℕ → View → View → List Fact
itself x me v w =
    if x == me
    then renumbered v.number w.number ++ ended v.phase w.phase
    else []

-- for what a call pings
abbrev pub purpose_of : Judged → Purpose
purpose_of (judged.Datagram p own) = purpose.Relay p.sender
purpose_of judged.Leave = purpose.Leave
purpose_of _ = purpose.Probe

-- a datagram to or about x, with what became of it
abbrev pub sent_about : ℕ → Purpose → Kind → Out → Outcome → List Fact
sent_about x why Ping out o =
    if out.datagram.subject == x then fact.Pinged why out.datagram.seq o ∷ [] else []
sent_about x why PingReq out o =
    if out.datagram.subject == x then fact.Asked out.to out.datagram.seq o ∷ [] else []
sent_about x why Join out o = if out.to == x then fact.Joined out.datagram.seq o ∷ [] else []
sent_about x why Ack out o = []
sent_about x why Page out o = []

abbrev pub sent : ℕ → Purpose → List Out → List Outcome → List Fact
sent x why [] outcomes = []
sent x why (out ∷ outs) [] = []
sent x why (out ∷ outs) (o ∷ outcomes) =
    sent_about x why out.datagram.kind out o ++ sent x why outs outcomes

-- all that a call says of x, between these views
abbrev pub facts : Settings → ℕ → Judged → View → View → Entry → List Fact
facts settings x j v w e =
    met settings x v w j ++ itself x settings.me v w
    ++ sent x (purpose_of j) e.outs.items e.outcomes.items
