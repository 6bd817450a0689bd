-- What a turn of a joiner does, and when.
use Rattle.std.specs.Prelude.{◌≡◌, ◌⊎◌, ℕ, ◌+◌, ◌-◌, ◌^◌, ◌%◌, ◌==◌, ◌||◌, min, nat_lt}
use Rattle.std.specs.Prelude.{Bool, true, false, not, length}
use Rattle.std.specs.Prelude.{if◌then◌else◌, List, [], ◌∷◌, slice_get, Option, Some, None}
use Rattle.std.specs.Option.{option_map, option_or}
use Rattle.std.specs.Duration.{as_nanos, max_nanos}
use Rattle.std.specs.declared.time.Instant.{Instant}
use Rattle.rand_chacha.specs.ChaCha.{ChaCha}
use Rattle.swim_wire.specs.declared.rules.Rules.{Rules}
use Rattle.swim_wire.specs.declared.rules.Rules.TheVariants.{One, Two}
use Rattle.swim_wire.specs.declared.update.Update.{Update}
use Rattle.swim_member.specs.declared.event.Event.TheVariants.{Join}
use Rattle.swim_node.specs.declared.entry.Reply.{Reply}
use Rattle.swim_shell.specs.declared.caller.Refusal.{Refusal}
use Rattle.swim_join.specs.declared.joiner.Due.{Due}
use Rattle.swim_join.specs.declared.joiner.Due.TheVariants.{Listed, Drawn, Look, Nothing}
use Rattle.swim_join.specs.declared.intervals.Moment.{Moment}
use Rattle.swim_join.specs.declared.intervals.TheConstants.{EARLY_JOINS}
use Rattle.swim_shell.specs.Calls.{CallerView, NewCall, Refuses}
use Rattle.swim_join.specs.Moments.{NewsView, TellsNews, has_passed}
use Rattle.swim_join.specs.Joins.{JoinerView, stepped, begun_again, watched, may_ask}
use Rattle.swim_join.specs.Silences.{heard_nobody, with_ask}
use Rattle.swim_join.specs.Joins.{next_draw, rest_after, introduction_rest, has_row, due_by}
use Rattle.swim_join.specs.Joins.{LooksAll, LooksInVain, missing, search_rest}
use Rattle.swim_join.specs.Introductions.{introductions_of, go_on, first_word}
use Rattle.swim_join.specs.Introductions.{next_among, with_next}
use Rattle.swim_join.specs.Searches.{drawn_back, sought_by, wanted_by, but_for}
use Rattle.swim_join.specs.declared.sought.TheConstants.{SEARCHES}

-- ---- what is due

-- the peer of the list that comes next, if it is so long since the last join
abbrev pub due_after : Option ℕ → JoinerView → Option Instant → Option ℕ
due_after None j now = None
due_after (Some rest) j now =
    if has_passed now j.joined rest then slice_get j.peers.list j.peers.next else None

-- the peer of the list that is due, if one is
abbrev pub due_peer : JoinerView → Moment → Option ℕ
due_peer j at = due_after (rest_after j.intervals j.joins j.peers.were_all at.is_alone) j at.now

-- introductions are left, and somebody is known to whom they can be made
abbrev pub is_introducing : JoinerView → Moment → Bool
is_introducing j at = if at.is_alone then false else nat_lt 0 j.introductions.left

-- one of those that were looked for is back: fewer are held for failed or not known
abbrev pub is_one_back : JoinerView → Moment → Bool
is_one_back j at = nat_lt (min (at.failed + missing j.peers) (2 ^ 64 - 1)) (length j.sought)

-- a lone member joins those of its list
abbrev pub joins_listed : JoinerView → Moment → Bool
joins_listed j at = if at.is_alone then nat_lt 0 (length j.peers.list) else false

-- others are looked for: by rules 2 alone, since by rules 1 who holds this member for failed yet
-- expels it
abbrev pub is_searching_by : Rules → JoinerView → Moment → Bool
is_searching_by One j at = false
is_searching_by Two j at =
    if joins_listed j at then false else nat_lt 0 at.failed || nat_lt 0 (length j.sought)

abbrev pub is_searching : JoinerView → Moment → Bool
is_searching j at = is_searching_by j.rules j at

-- how long after the last join a member is to be drawn: soon, while it introduces itself or one is
-- back that was sought; later, while it looks for others; and else now and then
abbrev pub draw_rest : JoinerView → Moment → Option ℕ
draw_rest j at =
    if is_introducing j at then Some (introduction_rest j.intervals)
    else (if is_searching j at then search_rest j.intervals (is_one_back j at)
    else option_map as_nanos j.intervals.rejoin)

-- one of the first joins was not answered yet, and introductions are left to be made then
abbrev pub awaits_answer : JoinerView → Bool
awaits_answer j =
    if nat_lt 0 j.introductions.left
    then (if nat_lt 0 j.unanswered then nat_lt j.unanswered EARLY_JOINS else false) else false

-- how long its thread may wait for something else at most: until the next introduction, while the
-- member makes them, and as long while it waits for the answer after which it begins to
abbrev pub idle_rest : JoinerView → ℕ
idle_rest j =
    if go_on j.introductions || awaits_answer j then introduction_rest j.intervals else max_nanos

-- it is so long since the last join or the first turn
abbrev pub is_draw_due : Option ℕ → Option Instant → Option Instant → Bool
is_draw_due None joined now = false
is_draw_due (Some time) None now = false
is_draw_due (Some time) (Some since) now = has_passed now (Some since) time

-- the rows are to be compared: a period has passed, and the log shows it
abbrev pub are_news_due : JoinerView → Moment → Bool
are_news_due j at =
    if at.is_shown then has_passed at.now j.news.compared (as_nanos j.intervals.period) else false

-- ---- draws

-- whether it is the list's turn, which the next word says by rules 2, and the generator then
abbrev pub list_turn : Rules → ChaCha → Bool × ChaCha
list_turn One rng = (false, rng)
list_turn Two rng = ((next_draw rng).0 % 2 == 1, (next_draw rng).1)

-- the word that draws, and the generator then
abbrev pub drawing : JoinerView → ℕ × ChaCha
drawing j = next_draw (list_turn j.rules j.rng).1

-- who is joined where one is to be drawn
abbrev pub drawn_for : JoinerView → List Update → Option Instant → Option ℕ
drawn_for j rows now =
    due_by j.me rows (slice_get j.peers.list j.peers.next) (drawing j).0
    (list_turn j.rules j.rng).0 (may_ask j.rules j.intervals j.peers now)

-- of whom it was said that it is not known, once it is said of this one, unless it was of another
abbrev pub told_missing : List ℕ → ℕ → List ℕ
told_missing [] peer = peer ∷ []
told_missing told peer = told

-- the peer of the list that came next had its turn; it is told if it is asked since no row shows it
abbrev pub with_turn : JoinerView → List Update → Option Instant → Option ℕ → JoinerView
with_turn j rows now None = j
with_turn j rows now (Some peer) = record j {
  peers = stepped j.peers;
  missing = if has_row rows peer then j.missing
      else (if may_ask j.rules j.intervals j.peers now then told_missing j.missing peer
      else j.missing);
}

-- after a draw
abbrev pub with_draw : JoinerView → List Update → Option Instant → JoinerView
with_draw j rows now =
    with_turn (record j { rng = (drawing j).1 }) rows now (slice_get j.peers.list j.peers.next)

-- the word that draws those to whom the member introduces itself, and the generator then
abbrev pub introducing : JoinerView → ℕ × ChaCha
introducing j = first_word j.introductions j.rng

-- the member to whom it introduces itself next
abbrev pub introduced : JoinerView → List Update → Option ℕ
introduced j rows = next_among j.me rows j.introductions.made (introducing j).0

-- after that introduction
abbrev pub with_introduction : JoinerView → List Update → JoinerView
with_introduction j rows = record j {
  rng = (introducing j).1;
  introductions = with_next (introduced j rows) (introducing j).0 j.introductions;
}

-- the word by which others are looked for, and the generator then
abbrev pub searching : JoinerView → ℕ × ChaCha
searching j = next_draw j.rng

-- one time in so many a member is drawn as always
abbrev pub is_draws_turn : JoinerView → Bool
is_draws_turn j = (searching j).0 % SEARCHES == 0

-- who is joined where others are looked for: one that is back; else one that is held for failed or
-- is missing from the rows, or whoever is drawn as always
abbrev pub drawn_sought_after : Option ℕ → Bool → JoinerView → List Update → Option Instant
    → Option ℕ
drawn_sought_after (Some back) turn j rows now = Some back
drawn_sought_after None true j rows now = drawn_for (record j { rng = (searching j).1 }) rows now
drawn_sought_after None false j rows now = wanted_by j.me rows j.peers.list (searching j).0

abbrev pub drawn_sought : JoinerView → List Update → Option Instant → Option ℕ
drawn_sought j rows now =
    drawn_sought_after (drawn_back j.me rows j.sought (searching j).0) (is_draws_turn j) j rows now

-- after that: one that is back is sought no more
abbrev pub with_search_after : Option ℕ → Bool → JoinerView → List Update → Option Instant
    → JoinerView
with_search_after (Some back) turn j rows now =
    record j { rng = (searching j).1; sought = but_for back j.sought }
with_search_after None true j rows now = with_draw (record j { rng = (searching j).1 }) rows now
with_search_after None false j rows now = record j { rng = (searching j).1 }

abbrev pub with_search : JoinerView → List Update → Option Instant → JoinerView
with_search j rows now =
    with_search_after (drawn_back j.me rows j.sought (searching j).0) (is_draws_turn j) j rows now

-- the join of the member that was drawn is due; if nobody was, the time runs to the next draw
abbrev pub with_drawn : Option ℕ → Option Instant → JoinerView → JoinerView
with_drawn None now j = record j { drawn = None; joined = now }
with_drawn (Some x) now j = record j { drawn = Some x }

-- who is drawn: one to whom the member introduces itself, one that it looks for, or one that it
-- joins now and then
abbrev pub drawn_by_turn : (introduces searches : Bool) → JoinerView → Moment → List Update
    → Option ℕ
drawn_by_turn true searches j at rows = introduced j rows
drawn_by_turn false true j at rows = drawn_sought j rows at.now
drawn_by_turn false false j at rows = drawn_for j rows at.now

abbrev pub drawn_now : JoinerView → Moment → List Update → Option ℕ
drawn_now j at rows = drawn_by_turn (is_introducing j at) (is_searching j at) j at rows

-- after that
abbrev pub with_one_by_turn : (introduces searches : Bool) → JoinerView → Moment → List Update
    → JoinerView
with_one_by_turn true searches j at rows = with_introduction j rows
with_one_by_turn false true j at rows = with_search j rows at.now
with_one_by_turn false false j at rows = with_draw j rows at.now

abbrev pub with_one : JoinerView → Moment → List Update → JoinerView
with_one j at rows = with_one_by_turn (is_introducing j at) (is_searching j at) j at rows

-- a member was drawn, if that was due
abbrev pub after_draw : JoinerView → Moment → List Update → JoinerView
after_draw j at rows =
    if is_draw_due (draw_rest j at) j.joined at.now
    then with_drawn (drawn_now j at rows) at.now (with_one j at rows) else j

-- the look that read these rows is over
abbrev pub after_look : JoinerView → Moment → List Update → JoinerView
after_look j at rows = after_draw (record j {
  looked = [];
  peers = watched rows at.now j.peers;
  sought = sought_by j.me rows j.peers.list j.sought;
}) at rows

-- the drawn member was joined, if there was one: from now on the time runs to the next draw
abbrev pub joined_drawn_by : Option ℕ → Option Instant → JoinerView → JoinerView
joined_drawn_by None now j = j
joined_drawn_by (Some x) now j = record j { drawn = None; joined = now }

abbrev pub joined_drawn : Option Instant → JoinerView → JoinerView
joined_drawn now j = joined_drawn_by j.drawn now j

-- ---- what is done

-- after a peer of the list was joined: it was asked in vain until somebody is known
abbrev pub joined_listed : Option Instant → JoinerView → JoinerView
joined_listed now j = record j {
  joined = now;
  peers = stepped j.peers;
  joins = min (j.joins + 1) (2 ^ 32 - 1);
  unanswered = min (j.unanswered + 1) (2 ^ 32 - 1);
  silence = with_ask j.peers.list now j.silence;
}

-- if somebody is known again after more than one peer was joined, an earlier one than the last may
-- have answered late, whose pages the later join ended: so the list begins again; nobody of it was
-- asked in vain then; a lone member introduces itself anew once somebody is known
abbrev pub with_answer : Moment → JoinerView → JoinerView
with_answer at j =
    if at.is_alone then record j { introductions = introductions_of j.intervals.introduce }
    else record j {
      unanswered = 0;
      silence = heard_nobody;
      peers = if nat_lt 1 j.unanswered then begun_again j.peers else j.peers;
    }

-- the time from which the first draw is due is noted
abbrev pub with_start : Option Instant → JoinerView → JoinerView
with_start now j = record j { joined = option_or j.joined now }

-- the changes to these rows are logged, if that is due
abbrev pub TellsIf : Bool → NewsView → Option Instant → List Update → NewsView → Type 0
TellsIf true n now rows m = TellsNews n now rows m
TellsIf false n now rows m = m ≡ n

-- the same, and nothing else changes
abbrev pub TellsDue : JoinerView → Moment → List Update → JoinerView → Type 0
TellsDue j at rows k =
    (k ≡ record j { news = k.news }) × TellsIf (are_news_due j at) j.news at.now rows k.news

-- the one new call joins this member
abbrev pub JoinsPeer : CallerView → CallerView → ℕ → Type 0
JoinsPeer p q x = (reply : Reply) × NewCall p q (Join x) reply

-- it does, if there is one, and else there is no new call
abbrev pub JoinsIf : CallerView → CallerView → Option ℕ → Type 0
JoinsIf p q None = q ≡ p
JoinsIf p q (Some x) = JoinsPeer p q x

-- all rows were read, those that were not read before; their news were told and a member was drawn,
-- if these were due; and then that one was joined, if there is one
pub record LooksRound (j : JoinerView) (at : Moment) (p : CallerView) (k : JoinerView)
    (q : CallerView)
    : Type 0 where
  pub rows : List Update
  pub between : CallerView
  pub looks : LooksAll j.looked p between rows
  pub telling : JoinerView
  pub told : TellsDue (after_look j at rows) at rows telling
  pub joins : JoinsIf between q telling.drawn
  pub over : k ≡ joined_drawn at.now telling

-- the same, but that the join was refused, and so is still due
pub record JoinsInVain (limit : ℕ) (why : Refusal) (j : JoinerView) (at : Moment) (p : CallerView)
    (k : JoinerView) (q : CallerView)
    : Type 0 where
  pub rows : List Update
  pub between : CallerView
  pub looks : LooksAll j.looked p between rows
  pub told : TellsDue (after_look j at rows) at rows k
  pub last : ℕ
  pub is_due : k.drawn ≡ Some last
  pub refused : Refuses limit why between q (Join last)

-- a page was refused: the next look goes on after the rows that were read
pub record CutsOff (limit : ℕ) (why : Refusal) (j : JoinerView) (p : CallerView) (k : JoinerView)
    (q : CallerView)
    : Type 0 where
  pub looks : LooksInVain limit why j.looked p q k.looked
  pub same : k ≡ record j { looked = k.looked }

-- a page was refused, or the join that was due after them
abbrev pub LooksRoundInVain : ℕ → Refusal → JoinerView → Moment → CallerView → JoinerView
    → CallerView → Type 0
LooksRoundInVain limit why j at p k q =
    CutsOff limit why j p k q ⊎ JoinsInVain limit why j at p k q

-- a draw or news are due, or a look was cut off
abbrev pub is_look_due : JoinerView → Moment → Bool
is_look_due j at =
    is_draw_due (draw_rest j at) j.joined at.now
    || (are_news_due j at || not (length j.looked == 0))

-- what a turn is to do that joins no peer of the list: to join the drawn member whose join is due;
-- else to read all rows, if that is due
abbrev pub due_rest : Option ℕ → Bool → Due
due_rest (Some peer) look = Drawn peer
due_rest None true = Look
due_rest None false = Nothing

-- what a turn is to do, and the joiner then: to join the peer of the list that is due; or else the
-- rest, once the time is noted from which the first draw is due
abbrev pub due_after_list : Option ℕ → JoinerView → Moment → Due
due_after_list (Some peer) j at = Listed peer
due_after_list None j at = let i = with_start at.now j in due_rest i.drawn (is_look_due i at)

abbrev pub turning_after_list : Option ℕ → JoinerView → Moment → JoinerView
turning_after_list (Some peer) j at = j
turning_after_list None j at = with_start at.now j

abbrev pub due_in : JoinerView → Moment → Due
due_in j at = let i = with_answer at j in due_after_list (due_peer i at) i at

abbrev pub turning : JoinerView → Moment → JoinerView
turning j at = let i = with_answer at j in turning_after_list (due_peer i at) i at

-- that is done
abbrev pub DoesDue : Due → JoinerView → Moment → CallerView → JoinerView → CallerView → Type 0
DoesDue (Listed peer) j at p k q = JoinsPeer p q peer × (k ≡ joined_listed at.now j)
DoesDue (Drawn peer) j at p k q = JoinsPeer p q peer × (k ≡ joined_drawn at.now j)
DoesDue Look j at p k q = LooksRound j at p k q
DoesDue Nothing j at p k q = (q ≡ p) × (k ≡ j)

abbrev pub DoesTurn : JoinerView → Moment → CallerView → JoinerView → CallerView → Type 0
DoesTurn j at p k q = DoesDue (due_in j at) (turning j at) at p k q

-- the join was refused, or a call of the look
abbrev pub DoesInVain : ℕ → Refusal → Due → JoinerView → Moment → CallerView → JoinerView
    → CallerView → Type 0
DoesInVain limit why (Listed peer) j at p k q = Refuses limit why p q (Join peer) × (k ≡ j)
DoesInVain limit why (Drawn peer) j at p k q = Refuses limit why p q (Join peer) × (k ≡ j)
DoesInVain limit why Look j at p k q = LooksRoundInVain limit why j at p k q
DoesInVain limit why Nothing j at p k q = ⊥

abbrev pub DoesTurnInVain : ℕ → Refusal → JoinerView → Moment → CallerView → JoinerView → CallerView
    → Type 0
DoesTurnInVain limit why j at p k q = DoesInVain limit why (due_in j at) (turning j at) at p k q

-- a turn did what was due by what was read as it began
pub record Turned (j : JoinerView) (p : CallerView) (k : JoinerView) (q : CallerView)
    : Type 0 where
  pub at : Moment
  pub does : DoesTurn j at p k q

-- the same of one that was refused
pub record TurnedInVain (limit : ℕ) (why : Refusal) (j : JoinerView) (p : CallerView)
    (k : JoinerView) (q : CallerView)
    : Type 0 where
  pub at : Moment
  pub does : DoesTurnInVain limit why j at p k q
