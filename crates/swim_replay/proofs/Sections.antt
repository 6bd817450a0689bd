-- The lines of a beginning say its state.
use Rattle.std.proofs.Common.{◌≡◌, ℕ, ◌+◌, ◌≤◌, ◌==◌, Bool, true, false, List, [], ◌∷◌, ◌++◌, length, map, Some, None, refl, sym, ap, ◌∙◌, arith, append_assoc, append-nil, length-append, eqb-true}
use Rattle.std.specs.Prelude.{All, IfSome, Option, cond}
use Rattle.std.proofs.lemmas.List.Elements.{All-head, All-tail}
use Rattle.swim_rules.specs.declared.table.Row.{Row}
use Rattle.swim_rules.specs.declared.table.TheConstants.{ROWS_MAX}
use Rattle.swim_gossip.specs.declared.buffer.TheConstants.{WAITING_MAX}
use Rattle.swim_gossip.specs.declared.buffer.Waiting.{Waiting}
use Rattle.swim_member.specs.declared.member.TheConstants.{RELAYS_MAX}
use Rattle.swim_member.specs.declared.state.Joining.{Joining}
use Rattle.swim_member.specs.declared.state.Probe.{Probe}
use Rattle.swim_member.specs.declared.state.Relay.{Relay}
use Rattle.swim_member.specs.declared.settings.Settings.{Settings}
use Rattle.swim_member.specs.State.{State}
use Rattle.swim_node.specs.History.{Base}
use Rattle.swim_record.specs.declared.line.Line.{Line}
use Rattle.swim_record.specs.declared.line.Line.TheVariants as line
use Rattle.swim_record.specs.declared.line.Start.{Start}
use Rattle.swim_record.specs.Recording.{begin_line, joining_lines, listed_line, probe_line, probe_lines, relay_line, row_line, say_line}
use Rattle.swim_replay.specs.Machinery.Told.{Makes, MayNoteAll, all_noted, blank_state, noted, started}
use Rattle.swim_replay.specs.Recorded.{IsRecordedState, IsWord, told_lines}

-- Sections one after another

all_noted-append : (s : State) (lines others : List Line) → all_noted s (lines ++ others) ≡ all_noted (all_noted s lines) others
all_noted-append s [] others = refl
all_noted-append s (l ∷ lines) others = all_noted-append (noted s l) lines others

may-append : (s : State) (lines others : List Line) → MayNoteAll s lines → MayNoteAll (all_noted s lines) others → MayNoteAll s (lines ++ others)
may-append s [] others may more = more
may-append s (l ∷ lines) others may more = (may.0, may-append (noted s l) lines others may.1 more)

both : (s t u : State) (lines others : List Line) → Makes s lines t → Makes t others u → Makes s (lines ++ others) u
both s t u lines others one other = record {
  may = may-append s lines others one.may (rw one.is other.may);
  is = all_noted-append s lines others ∙ ap (λ (x : State). all_noted x others) one.is ∙ other.is;
}

-- Each section

rows-made : (s : State) (rows : List Row) → length s.rows + length rows ≤ ROWS_MAX → Makes s (map row_line rows) (record s { rows = s.rows ++ rows })
rows-made s [] few = record { may = tt; is = ap (λ (r : List Row). record s { rows = r }) (sym (append-nil s.rows)) }
rows-made s (r ∷ rows) few =
    let more = rows-made (record s { rows = s.rows ++ r ∷ [] }) rows (omega (arith, length-append s.rows (r ∷ []))) in record {
      may = (omega arith, more.may);
      is = more.is ∙ ap (λ (x : List Row). record s { rows = x }) (append_assoc s.rows (r ∷ []) rows);
    }

queue-made : (s : State) (queue : List Waiting) → length s.queue + length queue ≤ WAITING_MAX → All (λ (w : Waiting). IsWord w.count) queue → Makes s (map say_line queue) (record s { queue = s.queue ++ queue })
queue-made s [] few words = record { may = tt; is = ap (λ (q : List Waiting). record s { queue = q }) (sym (append-nil s.queue)) }
queue-made s (w ∷ queue) few words =
    let more = queue-made (record s { queue = s.queue ++ w ∷ [] }) queue (omega (arith, length-append s.queue (w ∷ []))) (All-tail (λ (x : Waiting). IsWord x.count) w queue words) in record {
      may = ((All-head (λ (x : Waiting). IsWord x.count) w queue words, omega arith), more.may);
      is = more.is ∙ ap (λ (x : List Waiting). record s { queue = x }) (append_assoc s.queue (w ∷ []) queue);
    }

relays-made : (s : State) (relays : List Relay) → length s.relays + length relays ≤ RELAYS_MAX → All (λ (r : Relay). IsWord r.seq × IsWord r.asked) relays → Makes s (map relay_line relays) (record s { relays = s.relays ++ relays })
relays-made s [] few words = record { may = tt; is = ap (λ (r : List Relay). record s { relays = r }) (sym (append-nil s.relays)) }
relays-made s (r ∷ relays) few words =
    let head = All-head (λ (x : Relay). IsWord x.seq × IsWord x.asked) r relays words in
    let more = relays-made (record s { relays = s.relays ++ r ∷ [] }) relays (omega (arith, length-append s.relays (r ∷ []))) (All-tail (λ (x : Relay). IsWord x.seq × IsWord x.asked) r relays words) in record {
      may = ((head.0, head.1, omega arith), more.may);
      is = more.is ∙ ap (λ (x : List Relay). record s { relays = x }) (append_assoc s.relays (r ∷ []) relays);
    }

listed-made : (s : State) (names : List ℕ) → length s.listed + length names ≤ ROWS_MAX → Makes s (map listed_line names) (record s { listed = s.listed ++ names })
listed-made s [] few = record { may = tt; is = ap (λ (x : List ℕ). record s { listed = x }) (sym (append-nil s.listed)) }
listed-made s (n ∷ names) few =
    let more = listed-made (record s { listed = s.listed ++ n ∷ [] }) names (omega (arith, length-append s.listed (n ∷ []))) in record {
      may = (omega arith, more.may);
      is = more.is ∙ ap (λ (x : List ℕ). record s { listed = x }) (append_assoc s.listed (n ∷ []) names);
    }

probe-one : (s : State) (target seq : ℕ) (answered : Bool) → IsWord seq → Makes s (probe_line (record { target = target; seq = seq; answered = answered }) ∷ []) (record s { probe = Some (record { target = target; seq = seq; answered = answered }) })
probe-one s target seq true word = record { may = (word, tt); is = refl }
probe-one s target seq false word = record { may = (word, tt); is = refl }

probe-made : (s : State) (p : Option Probe) → s.probe ≡ None → IfSome p (λ x. IsWord x.seq) → Makes s (probe_lines p) (record s { probe = p })
probe-made s None none word = record { may = tt; is = ap (λ (x : Option Probe). record s { probe = x }) none }
probe-made s (Some p) none word = probe-one s p.target p.seq p.answered word

joining-one : (s : State) (peer seq cursor : ℕ) (b : Bool) → (cursor == 0) ≡ b → IsWord seq → Makes s (cond b (line.Joining peer seq) (line.JoiningAfter peer seq cursor) ∷ []) (record s { joining = Some (record { peer = peer; seq = seq; cursor = cursor }) })
joining-one s peer seq cursor true is word = record {
  may = (word, tt);
  is = ap (λ (c : ℕ). record s { joining = Some (record { peer = peer; seq = seq; cursor = c }) }) (sym (eqb-true cursor 0 is));
}
joining-one s peer seq cursor false is word = record { may = (word, tt); is = refl }

joining-made : (s : State) (j : Option Joining) → s.joining ≡ None → IfSome j (λ x. IsWord x.seq) → Makes s (joining_lines j) (record s { joining = j })
joining-made s None none word = record { may = tt; is = ap (λ (x : Option Joining). record s { joining = x }) none }
joining-made s (Some j) none word = joining-one s j.peer j.seq j.cursor (j.cursor == 0) refl word

-- All of them

pub told-made : (s : State) → IsRecordedState s → Makes (blank_state s.settings) (told_lines s) (record (blank_state s.settings) {
  rows = s.rows;
  queue = s.queue;
  probe = s.probe;
  relays = s.relays;
  joining = s.joining;
  listed = s.listed;
})
told-made s is =
    let zero = blank_state s.settings in
    let one = record zero { rows = s.rows } in
    let two = record one { queue = s.queue } in
    let three = record two { probe = s.probe } in
    let four = record three { relays = s.relays } in
    let five = record four { joining = s.joining } in
    let six = record five { listed = s.listed } in
    both zero five six (map row_line s.rows ++ map say_line s.queue ++ probe_lines s.probe ++ map relay_line s.relays ++ joining_lines s.joining) (map listed_line s.listed)
    (both zero four five (map row_line s.rows ++ map say_line s.queue ++ probe_lines s.probe ++ map relay_line s.relays) (joining_lines s.joining)
    (both zero three four (map row_line s.rows ++ map say_line s.queue ++ probe_lines s.probe) (map relay_line s.relays)
    (both zero two three (map row_line s.rows ++ map say_line s.queue) (probe_lines s.probe)
    (both zero one two (map row_line s.rows) (map say_line s.queue)
    (rows-made zero s.rows (let few = is.rows in omega arith))
    (queue-made one s.queue (let few = is.queue in omega arith) is.counts))
    (probe-made two s.probe refl is.probe))
    (relays-made three s.relays (let few = is.relays in omega arith) is.pings))
    (joining-made four s.joining refl is.joining))
    (listed-made five s.listed (let few = is.listed in omega arith))

-- with what the era of a base begins
abbrev pub start_of : Base → Start
start_of b = record {
  phase = b.state.phase;
  number = b.state.number;
  time = b.state.time;
  seq = b.state.seq;
  place = b.state.place;
  granted = b.granted;
  past = b.past;
}

pub told-may : (b : Base) (s : State) → IsRecordedState b.state → s ≡ blank_state b.state.settings → MayNoteAll s (told_lines b.state)
told-may b s is blank = rw blank (told-made b.state is).may

pub told-is : (b : Base) (s t u : State) (start : Start) → IsRecordedState b.state → s ≡ blank_state b.state.settings → t ≡ all_noted s (told_lines b.state) → start ≡ start_of b → u ≡ started t start → u ≡ b.state
told-is b s t u start is blank told begun said =
    said
    ∙ ap (λ (x : Start). started t x) begun
    ∙ ap (λ (x : State). started x (start_of b)) (told ∙ ap (λ (x : State). all_noted x (told_lines b.state)) blank ∙ (told-made b.state is).is)

-- what is to be added, and that there is room for it
pub tells : (b : Base) (after rest : List Line) (s : State) (settings : Settings) → IsRecordedState b.state → settings ≡ b.state.settings → rest ≡ (told_lines b.state ++ begin_line b ∷ []) ++ after → s ≡ blank_state settings → (rest ≡ told_lines b.state ++ line.Begin (start_of b) ∷ after) × MayNoteAll s (told_lines b.state)
tells b after rest s settings is same follows blank =
    (follows ∙ append_assoc (told_lines b.state) (begin_line b ∷ []) after, told-may b s is (blank ∙ ap blank_state same))

pub same-base : (b : Base) (u : State) (start : Start) (limit : ℕ) → u ≡ b.state → start ≡ start_of b → limit ≡ b.limit → record { state = u; granted = start.granted; past = start.past; limit = limit } ≡ b
same-base b u start limit one other third =
    let P : State → Start → ℕ → Base = λ x y n. record { state = x; granted = y.granted; past = y.past; limit = n } in
    ap (λ (x : State). P x start limit) one ∙ ap (λ (y : Start). P b.state y limit) other ∙ ap (λ (n : ℕ). P b.state (start_of b) n) third
