use Rattle.std.proofs.Common.{ℕ, ◌≤◌, List, length, map, subst}
use Rattle.std.specs.List.{All}
use Rattle.swim_rules.specs.declared.table.Row.{Row}
use Rattle.swim_rules.specs.declared.table.TheConstants.{ROWS_MAX}
use Rattle.swim_gossip.specs.declared.buffer.Waiting.{Waiting}
use Rattle.swim_gossip.specs.declared.buffer.TheConstants.{WAITING_MAX}
use Rattle.swim_member.specs.contracts.resume.MemberState.{the_view}
use Rattle.swim_member.specs.declared.member.TheConstants.{RELAYS_MAX}
use Rattle.swim_member.specs.declared.state.Relay.{Relay}
use Rattle.swim_member.specs.State.{State}
use Rattle.swim_record.specs.Blocks.{AreFit, IsFit}
use Rattle.swim_record.specs.Recording.{listed_line, member_line, relay_line, row_line, say_line, times_line}
use Rattle.swim_replay.specs.Recorded.{IsRecordedState, IsWord, told_lines}
use Rattle.swim_replay.proofs.Ranges.{told-fit}
use Rattle.swim_replay.proofs.recorded.state_is_fit.Goals as goal

pub returns-clause-member : goal.returns-clause-member
returns-clause-member c = subst (λ (s : State). IsFit (member_line s.settings)) c.state.view_is c.settings_are_fit.ensures.member

pub returns-clause-times : goal.returns-clause-times
returns-clause-times c = subst (λ (s : State). IsFit (times_line s.settings c.args.limit)) c.state.view_is c.settings_are_fit.ensures.times

pub returns-clause-lines : goal.returns-clause-lines
returns-clause-lines c =
    subst (λ (s : State). AreFit (told_lines s)) c.state.view_is
    (told-fit (the_view c.state.inside)
    (subst (λ (rows : List Row). AreFit (map row_line rows)) c.deref.ensures.0 c.rows_are_fit.ensures)
    (subst (λ (queue : List Waiting). AreFit (map say_line queue)) c.deref-2.ensures.0 c.queue_is_fit.ensures.lines)
    c.probe_is_fit.ensures.lines
    (subst (λ (relays : List Relay). AreFit (map relay_line relays)) c.deref-3.ensures.0 c.relays_are_fit.ensures.lines)
    c.joining_is_fit.ensures.lines
    (subst (λ (names : List ℕ). AreFit (map listed_line names)) c.deref-4.ensures.0 c.names_are_fit.ensures))

pub returns-clause-within : goal.returns-clause-within
returns-clause-within c =
    subst IsRecordedState c.state.view_is (record {
      lambda = c.settings_are_fit.ensures.lambda;
      rules = c.settings_are_fit.ensures.rules;
      rows = subst (λ (rows : List Row). length rows ≤ ROWS_MAX) c.deref.ensures.0 c.deref.ensures.1;
      queue = subst (λ (queue : List Waiting). length queue ≤ WAITING_MAX) c.deref-2.ensures.0 c.deref-2.ensures.1;
      counts = subst (λ (queue : List Waiting). All (λ (w : Waiting). IsWord w.count) queue) c.deref-2.ensures.0 c.queue_is_fit.ensures.counts;
      seq = c.word_is_fit.ensures;
      probe = c.probe_is_fit.ensures.word;
      relays = subst (λ (relays : List Relay). length relays ≤ RELAYS_MAX) c.deref-3.ensures.0 c.deref-3.ensures.1;
      pings = subst (λ (relays : List Relay). All (λ (r : Relay). IsWord r.seq × IsWord r.asked) relays) c.deref-3.ensures.0 c.relays_are_fit.ensures.words;
      joining = c.joining_is_fit.ensures.word;
      listed = subst (λ (names : List ℕ). length names ≤ ROWS_MAX) c.deref-4.ensures.0 c.deref-4.ensures.1;
    })
