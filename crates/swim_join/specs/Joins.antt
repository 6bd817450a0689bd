-- What a joiner asks.
use Rattle.std.specs.Prelude.{◌≡◌, ◌≢◌, ◌⊎◌, ℕ, ◌<◌, ◌≤◌, ◌+◌, ◌-◌, ◌*◌, ◌/◌, ◌%◌, ◌==◌, min}
use Rattle.std.specs.Prelude.{◌↔◌, if◌then◌else◌, nat_le, nat_lt, unwrap_or}
use Rattle.std.specs.Prelude.{Bool, true, false, not, Option, Some, None}
use Rattle.std.specs.Prelude.{List, [], ◌∷◌, ◌++◌, length, slice_get}
use Rattle.std.specs.Option.{option_map}
use Rattle.std.specs.List.{filter, list_any}
use Rattle.swim_wire.specs.declared.rules.Rules.{Rules}
use Rattle.swim_wire.specs.declared.rules.Rules.TheVariants.{One, Two}
use Rattle.swim_wire.specs.declared.update.Update.{Update}
use Rattle.swim_wire.specs.declared.update.UpdateKind.{UpdateKind}
use Rattle.swim_wire.specs.declared.update.UpdateKind.TheVariants.{Confirm}
use Rattle.swim_member.specs.declared.event.Event.{Event}
use Rattle.swim_member.specs.declared.event.Event.TheVariants.{Join, Members}
use Rattle.swim_wire.specs.declared.datagram.TheConstants.{UPDATES_MAX}
use Rattle.swim_wire.specs.declared.update.TheConstants.{MEMBERS_MAX}
use Rattle.swim_news.specs.declared.rows.TheConstants.{PAGES_MAX}
use Rattle.swim_news.specs.News.{AreFrom, last_of}
use Rattle.swim_node.specs.declared.entry.Entry.{Entry}
use Rattle.swim_node.specs.declared.entry.Reply.{Reply}
use Rattle.swim_shell.specs.declared.caller.Refusal.{Refusal}
use Rattle.std.specs.Duration.{as_nanos, max_nanos}
use Rattle.std.specs.declared.time.Duration.{Duration}
use Rattle.rand_chacha.specs.ChaCha.{ChaCha, next_word}
use Rattle.std.specs.declared.time.Instant.{Instant}
use Rattle.swim_join.specs.declared.intervals.Intervals.{Intervals}
use Rattle.swim_join.specs.declared.intervals.TheConstants.{ALONE_PERIODS, EARLY_JOINS}
use Rattle.swim_join.specs.declared.intervals.TheConstants.{INTRODUCTIONS_AN_ANSWER, QUICK_JOINS}
use Rattle.swim_join.specs.declared.intervals.TheConstants.{SEARCH_PERIODS}
use Rattle.swim_join.specs.declared.introductions.Introductions.{Introductions}
use Rattle.swim_join.specs.declared.silence.Silence.{Silence}
use Rattle.swim_join.specs.Moments.{NewsView, has_passed}
use Rattle.swim_join.specs.Silences.{asked_anew}
use Rattle.swim_shell.specs.Calls.{CallerView, events_of, Gains, NewCall, Refuses}

-- what a contract sees of peers: the list, the place of the one that comes next, and whether each
-- was joined once; which of them the rows showed last, and when one was gone from the rows that
-- they had shown before
pub record PeersView : Type 0 where
  pub list : List ℕ
  pub next : ℕ
  pub were_all : Bool
  pub shown : List ℕ
  pub gone : Option Instant

-- after the peer that came next was joined: the first one follows the last
abbrev pub stepped : PeersView → PeersView
stepped p =
    if nat_lt (p.next + 1) (length p.list)
    then record p { next = p.next + 1 }
    else record p { next = 0; were_all = true }

-- the list begins again
abbrev pub begun_again : PeersView → PeersView
begun_again p = record p { next = 0; were_all = length p.list == 0 }

-- how many of them the rows did not show when they were read last
abbrev pub missing : PeersView → ℕ
missing p = length p.list - length p.shown

-- it is the peer that comes next
abbrev pub IsNext : PeersView → ℕ → Type 0
IsNext p x = slice_get p.list p.next ≡ Some x

-- what a contract sees of a joiner: whose it is, by which rules that one lives, and its intervals;
-- its peers, and what draws others; how many peers were joined, how many of them since somebody was
-- known last, and when the last join was; the rows of a look that was cut off, and the drawn member
-- whose join is still due; whom it looks for; of which peer it said that it is not known; its
-- introductions; how often the list was asked in vain; and its news
pub record JoinerView : Type 0 where
  pub me : ℕ
  pub rules : Rules
  pub intervals : Intervals
  pub peers : PeersView
  pub rng : ChaCha
  pub joins : ℕ
  pub unanswered : ℕ
  pub joined : Option Instant
  pub looked : List Update
  pub drawn : Option ℕ
  pub sought : List ℕ
  pub missing : List ℕ
  pub introductions : Introductions
  pub silence : Silence
  pub news : NewsView

-- these peers are joined from now on, by these intervals: the list begins anew, of which nobody was
-- asked in vain yet, no join of a drawn member is due, and all else is the same
pub record IsRelisted (peers : List ℕ) (intervals : Intervals) (j k : JoinerView) : Type 0 where
  pub list : k.peers.list ≡ peers
  pub first : k.peers.next ≡ 0
  pub all : (k.peers.were_all ≡ true) ↔ (peers ≡ [])
  pub shown : k.peers.shown ≡ j.peers.shown
  pub gone : k.peers.gone ≡ j.peers.gone
  pub rest : k ≡ record j {
    peers = k.peers;
    intervals = intervals;
    drawn = None;
    silence = asked_anew j.silence;
  }

-- how long nobody has to answer one of the first joins: 100, 200 and then 400 milliseconds
abbrev pub quick_rest : ℕ → ℕ
quick_rest joins =
    (if nat_lt joins 2 then 100 else (if nat_lt joins 3 then 200 else 400)) * 1000000

-- how long after so many joins the next peer is joined, if it is, by whether all were and whether
-- the member is alone
abbrev pub rest_after : Intervals → ℕ → Bool → Bool → Option ℕ
rest_after intervals joins false true = Some (as_nanos intervals.answer)
rest_after intervals joins false false = Some (as_nanos intervals.period)
rest_after intervals joins true true =
    if nat_le joins QUICK_JOINS then Some (min (quick_rest joins) (as_nanos intervals.period)) else
    (if nat_lt joins EARLY_JOINS then Some (as_nanos intervals.period) else
    Some (min (as_nanos intervals.period * ALONE_PERIODS) max_nanos))
rest_after intervals joins true false = None

-- how long after its last join a member joins the next one that it looks for, if it does, by
-- whether one is back
abbrev pub search_rest : Intervals → Bool → Option ℕ
search_rest intervals is_back =
    let rest = if is_back then as_nanos intervals.answer
    else min (as_nanos intervals.period * SEARCH_PERIODS) max_nanos in
    option_map (λ (rejoin : Duration). min (as_nanos rejoin) rest) intervals.rejoin

-- how long after its last join a member introduces itself to the next
abbrev pub introduction_rest : Intervals → ℕ
introduction_rest intervals = as_nanos intervals.answer / INTRODUCTIONS_AN_ANSWER

-- the next word of a generator, and the generator after it
unfoldable pub next_draw : ChaCha → ℕ × ChaCha
next_draw = next_word 10

-- the drawn one, if there is one and it may be, and else the peer of the list
abbrev pub chosen : Option ℕ → ℕ → Bool → ℕ
chosen (Some drawn) peer true = drawn
chosen _ peer _ = peer

-- the member is one of the list
abbrev pub IsPeer : List ℕ → ℕ → Type 0
IsPeer peers x = (i : ℕ) × (slice_get peers i ≡ Some x)

-- the kind is Alive or Suspect
abbrev pub is_held : UpdateKind → Bool
is_held Confirm = false
is_held _ = true

-- a row shows the member as one that is held for Alive or Suspect, or as one that is not
abbrev pub IsShownAs : (held : Bool) → List Update → ℕ → Type 0
IsShownAs held [] x = ⊥
IsShownAs held (r ∷ rows) x = ((r.who ≡ x) × (is_held r.kind ≡ held)) ⊎ IsShownAs held rows x

-- a row shows the member as Alive or Suspect
abbrev pub IsEligibleIn : List Update → ℕ → Type 0
IsEligibleIn rows x = IsShownAs true rows x

-- the row shows another member as Alive or Suspect
abbrev pub may_be_drawn : ℕ → Update → Bool
may_be_drawn me r = if is_held r.kind then not (r.who == me) else false

-- the rows that do, in order
abbrev pub eligible_in : ℕ → List Update → List Update
eligible_in me rows = filter (may_be_drawn me) rows

-- the member of the eligible row after so many others, if there is one
abbrev pub nth_eligible : ℕ → List Update → ℕ → Option ℕ
nth_eligible me rows n = option_map (λ (r : Update). r.who) (slice_get (eligible_in me rows) n)

-- the member that a word draws: of so many eligible rows the one at its remainder
abbrev pub drawn_by : ℕ → List Update → ℕ → Option ℕ
drawn_by me rows word = nth_eligible me rows (word % length (eligible_in me rows))

-- another member that the rows show as Alive or Suspect
abbrev pub IsDrawnFrom : ℕ → List Update → ℕ → Type 0
IsDrawnFrom me rows x = IsEligibleIn rows x × (x ≢ me)

-- another member that the rows show as failed
abbrev pub IsFailedFrom : ℕ → List Update → ℕ → Type 0
IsFailedFrom me rows x = IsShownAs false rows x × (x ≢ me)

-- a row shows the member
abbrev pub has_row : List Update → ℕ → Bool
has_row rows x = list_any (λ (r : Update). r.who == x) rows

-- the rows do not show one of these members any more
abbrev pub has_gone : List Update → List ℕ → Bool
has_gone rows shown = list_any (λ (x : ℕ). not (has_row rows x)) shown

-- the rows were read at this time
abbrev pub watched : List Update → Option Instant → PeersView → PeersView
watched rows now p = record p {
  shown = filter (has_row rows) p.list;
  gone = if has_gone rows p.shown then now else p.gone;
}

-- a peer that no row shows may be asked: by rules 2 at any time, and by rules 1 once those that
-- were the last to confirm one have forgotten it too, since who still holds this member for failed
-- expels it
abbrev pub may_ask : Rules → Intervals → PeersView → Option Instant → Bool
may_ask One intervals p now = has_passed now p.gone (as_nanos intervals.forget)
may_ask Two intervals p now = true

-- who is joined where a member is to be drawn: the peer of the list that comes next, if no row
-- shows it and it may be asked, or if a row shows it at the list's turn; and else the member that a
-- word draws, if there is one
abbrev pub due_by : ℕ → List Update → Option ℕ → ℕ → (turn may : Bool) → Option ℕ
due_by me rows None word turn may = drawn_by me rows word
due_by me rows (Some peer) word turn may =
    if has_row rows peer then Some (chosen (drawn_by me rows word) peer (not turn))
    else (if may then Some peer else drawn_by me rows word)

-- a member that is found in these rows or on the list: a peer of the list, or another member that
-- the rows show as eligible, or as failed
abbrev pub IsFindable : JoinerView → List Update → ℕ → Type 0
IsFindable j rows x =
    IsPeer j.peers.list x ⊎ (IsDrawnFrom j.me rows x ⊎ IsFailedFrom j.me rows x)

-- a call asks for members, or it joins one that is found in these rows or on the list, or the drawn
-- member whose join is still due
abbrev pub IsAsked : JoinerView → List Update → Event → Type 0
IsAsked j rows (Members after) = Unit {0}
IsAsked j rows (Join x) = IsFindable j rows x ⊎ (j.drawn ≡ Some x)
IsAsked j rows _ = ⊥

-- each call is such by the rows of the pages that were read before it
abbrev pub AreAsked : JoinerView → List Update → List Entry → Type 0
AreAsked j rows [] = Unit {0}
AreAsked j rows (e ∷ es) = IsAsked j rows e.event × AreAsked j (rows ++ e.reply.page.items) es

-- the rows of these pages, in order
abbrev pub pages_of : List Entry → List Update
pages_of [] = []
pages_of (e ∷ es) = e.reply.page.items ++ pages_of es

-- the new calls of a caller are such, by the rows of the look that was cut off and of their pages
pub record Asks (j : JoinerView) (p q : CallerView) : Type 0 where
  pub entries : List Entry
  pub gains : Gains p q entries
  pub asked : q.asked ≡ p.asked ++ events_of entries
  pub are_asked : AreAsked j j.looked entries

-- the same, and then one that was refused
pub record AsksInVain (limit : ℕ) (why : Refusal) (j : JoinerView) (p q : CallerView) : Type 0 where
  pub between : CallerView
  pub asks : Asks j p between
  pub last : Event
  pub is_asked : IsAsked j (j.looked ++ pages_of asks.entries) last
  pub refused : Refuses limit why between q last

-- the rows are in order, and no more than there can be
abbrev pub AreWhole : List Update → Type 0
AreWhole rows = AreFrom 0 rows × (length rows ≤ MEMBERS_MAX)

-- the place after these rows, from which the next page is asked for
abbrev pub place_after : List Update → ℕ
place_after rows = unwrap_or (last_of rows) 0

-- each call asks for members
abbrev pub AreLooks : List Entry → Type 0
AreLooks [] = Unit {0}
AreLooks (e ∷ es) = ((after : ℕ) × (e.event ≡ Members after)) × AreLooks es

-- each call asks for those after these rows and those of the pages before it
abbrev pub AreConsecutive : List Update → List Entry → Type 0
AreConsecutive rows [] = Unit {0}
AreConsecutive rows (e ∷ es) =
    (e.event ≡ Members (place_after rows)) × AreConsecutive (rows ++ e.reply.page.items) es

-- each page is full
abbrev pub AreFull : List Entry → Type 0
AreFull [] = Unit {0}
AreFull (e ∷ es) = (length e.reply.page.items ≡ UPDATES_MAX) × AreFull es

-- the pages end with the first that is not full, or after so many
abbrev pub AreAllPages : ℕ → List Entry → Type 0
AreAllPages most [] = most ≡ 0
AreAllPages most (e ∷ es) =
    (0 < most) × (((length e.reply.page.items < UPDATES_MAX) × (es ≡ []))
    ⊎ ((length e.reply.page.items ≡ UPDATES_MAX) × AreAllPages (most - 1) es))

-- a page was read, which was or was not full; its rows come after these, all of them where they are
-- in order
pub record ReadsPage (p q : CallerView) (old new : List Update) (full : Bool) : Type 0 where
  pub reply : Reply
  pub call : NewCall p q (Members (place_after old)) reply
  pub shown : (held : Bool) (x : ℕ) → IsShownAs held new x
      → IsShownAs held old x ⊎ IsShownAs held reply.page.items x
  pub all : AreWhole (old ++ reply.page.items) → new ≡ old ++ reply.page.items
  pub most : length reply.page.items ≤ UPDATES_MAX
  pub full_is : full ≡ (length reply.page.items == UPDATES_MAX)

-- the new calls ask for members, and go on after the rows that were seen; the rows show no member
-- as eligible, or as failed, that those or a page did not show so, and are those of the pages after
-- them where these are in order, each asked for after the one before
pub record Looks (seen : List Update) (p q : CallerView) (rows : List Update) : Type 0 where
  pub entries : List Entry
  pub gains : Gains p q entries
  pub asked : q.asked ≡ p.asked ++ events_of entries
  pub looks : AreLooks entries
  pub read : (held : Bool) (x : ℕ) → IsShownAs held rows x
      → IsShownAs held seen x ⊎ IsShownAs held (pages_of entries) x
  pub all : AreWhole (seen ++ pages_of entries)
      → (rows ≡ seen ++ pages_of entries) × AreConsecutive seen entries

-- the same of all pages
pub record LooksAll (seen : List Update) (p q : CallerView) (rows : List Update) : Type 0 where
  pub looks : Looks seen p q rows
  pub pages : AreAllPages PAGES_MAX looks.entries

-- the same of pages that were all full, and then a call for the next that was refused
pub record LooksInVain (limit : ℕ) (why : Refusal) (seen : List Update) (p q : CallerView)
    (rows : List Update)
    : Type 0 where
  pub between : CallerView
  pub looks : Looks seen p between rows
  pub full : AreFull looks.entries
  pub fewer : length looks.entries < PAGES_MAX
  pub refused : Refuses limit why between q (Members (place_after rows))

-- how many nanoseconds so many ticks last, of so many milliseconds each
abbrev pub lasting : ℕ → ℕ → ℕ
lasting ticks tick_ms = ticks * tick_ms * 1000000
