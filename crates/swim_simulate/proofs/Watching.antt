-- What the law has seen of all that the nodes of a run sent.
use Rattle.std.proofs.Common.{◌≡◌, ℕ, ◌+◌, ◌<◌, ◌≤◌, slice_index_or, zero, suc, List, [], ◌∷◌, ◌++◌, append_assoc, append-nil, length, take, drop, ap, subst, sym, refl, ◌∙◌, Option, Some, None, Result, Ok, Err, IfErr, OnOk, OnErr, is_err, true, false, arith}
use Rattle.std.proofs.lemmas.List.{drop_more}
use Rattle.swim_wire.specs.declared.datagram.Datagram.{Datagram}
use Rattle.swim_wire.specs.declared.update.Update.{Update}
use Rattle.swim_member.specs.declared.answer.Out.{Out}
use Rattle.swim_group.specs.Checking.{MayFollow, IsBroken}
use Rattle.swim_group.specs.declared.checker.Breach.{Breach}
use Rattle.swim_group.specs.declared.checker.CheckFault.TheVariants.{Broken, NoMemory}
use Rattle.swim_group.proofs.Keeping.{refused-lawful}
use Rattle.swim_simulate.specs.Laws.{LawView, KnowsAll, PassesNext, PassesAll, LooksAtLast, SeesAll, IsOfDetection, IsLawful, first_of}
use Rattle.swim_simulate.specs.declared.law.LawBreak.{LawBreak}
use Rattle.swim_simulate.specs.declared.watched.TheConstants.{ROOM}
use Rattle.swim_disk.specs.declared.mem.Choice.{Choice}
use Rattle.swim_member.specs.declared.event.Event.{Event}
use Rattle.swim_member.specs.declared.settings.Settings.{Settings}
use Rattle.swim_node.specs.declared.entry.Reply.{Reply}
use Rattle.swim_group.specs.declared.failure.Failure.{Failure}
use Rattle.swim_group.specs.declared.fault.NodesFault.{NodesFault}
use Rattle.swim_group.specs.declared.fault.NodesFault.TheVariants as nodes
use Rattle.swim_group.specs.Network.{IsNotInvented}
use Rattle.swim_group.specs.Real.{MayBegin}
use Rattle.swim_group.specs.RealNodes.{RealNodes, HasSent, AreNewNodes, HearsAt, DeliversAt, OpensAt, EraEndsAt, PlansAt, LosesAt}
use Rattle.swim_group.specs.Refusing.{IsNoOpening}
use Rattle.swim_group.proofs.Seating.{nodes-begun}
use Rattle.swim_group.proofs.Going.{heard-more, arrives-sent, opened-same, left-same, ended-same, planned-same, lost-same}

-- One datagram

broken-none : (u : Update) (b : Breach) → Broken u b ≡ NoMemory → ⊥
broken-none u b e = cc

-- what breaks the law is no datagram that keeps it
pub no-breach : {X : Type 0} (sent : List Out) (d : Datagram) (u : Update) (b : Breach) → MayFollow sent d → IsBroken sent d (Broken u b) → X
no-breach sent d u b may broken = absurd (broken-none u b (refused-lawful sent d (Broken u b) may broken))

pub passes-unseen : (law : LawView) (d : Datagram) → law.told ≡ None → PassesNext law law d
passes-unseen law d none sent out same knows may = (refl, subst (λ t. KnowsAll t (sent ++ out ∷ [])) (sym none) (tt {0}))

-- what a call promises if it is Ok, and if it is not
pub ok-then : {X E : Type 0} (r : Result X E) (P : Type 0) → is_err r ≡ false → OnOk r P → P
ok-then (Ok x) P is h = h
ok-then (Err e) P is h = absurd (cc)

pub err-then : {X E : Type 0} (r : Result X E) (P : Type 0) → is_err r ≡ true → OnErr r P → P
err-then (Ok x) P is h = absurd (cc)
err-then (Err e) P is h = h

-- All of them

pub passes-none : (law : LawView) → PassesAll law law []
passes-none law sent knows keeps = (refl, subst (KnowsAll law.told) (sym (append-nil sent)) knows)

pub passes-closed : (old new : LawView) (outs : List Out) → new.told ≡ None → new.stop ≡ old.stop → PassesAll old new outs
passes-closed old new outs none same sent knows keeps = (same, subst (λ t. KnowsAll t (sent ++ outs)) (sym none) (tt {0}))

pub passes-more : (old mid new : LawView) (out : Out) (outs : List Out) → PassesNext old mid out.datagram → PassesAll mid new outs → PassesAll old new (out ∷ outs)
passes-more old mid new out outs one all sent knows keeps =
    let first : (mid.stop ≡ old.stop) × KnowsAll mid.told (sent ++ out ∷ []) = one sent out refl knows keeps.0 in
    let rest : (new.stop ≡ mid.stop) × KnowsAll new.told ((sent ++ out ∷ []) ++ outs) = all (sent ++ out ∷ []) first.1 keeps.1 in
    (rest.0 ∙ first.0, subst (KnowsAll new.told) (append_assoc sent (out ∷ []) outs) rest.1)

pub drop-at : (outs : List Out) (i : ℕ) (out : Out) → i < length outs → out ≡ slice_index_or outs i out → drop i outs ≡ out ∷ drop (i + 1) outs
drop-at outs i out less is = drop_more outs i out less ∙ ap (λ (o : Out). o ∷ drop (i + 1) outs) (sym is)

pub drop-past : {X : Type 0} (xs : List X) (n : ℕ) → length xs ≤ n → drop n xs ≡ []
drop-past [] zero l = refl
drop-past [] (suc n) l = refl
drop-past (x ∷ xs) zero l = absurd (omega arith)
drop-past (x ∷ xs) (suc n) l = drop-past xs n (omega arith)

-- What was sent last

take-whole : {X : Type 0} (n : ℕ) (xs : List X) → length (take n xs) < n → take n xs ≡ xs
take-whole zero [] l = refl
take-whole (suc n) [] l = refl
take-whole zero (x ∷ xs) l = absurd (omega arith)
take-whole (suc n) (x ∷ xs) l = ap (λ ys. x ∷ ys) (take-whole n xs (omega arith))

drop-before : {X : Type 0} (xs ys : List X) → drop (length xs) (xs ++ ys) ≡ ys
drop-before [] ys = refl
drop-before (x ∷ xs) ys = drop-before xs ys

pub at-last : (old new : LawView) (kept : List Out) (count : ℕ) → length kept < ROOM → PassesAll old new (drop count kept) → LooksAtLast old new kept count
at-last old new kept count few passes before outs same is =
    let whole : take ROOM (before ++ outs) ≡ before ++ outs = take-whole ROOM (before ++ outs) (subst (λ ks. length ks < ROOM) is few) in
    let last : drop count kept ≡ outs = ap (drop count) (is ∙ whole) ∙ ap (λ n. drop n (before ++ outs)) (sym same) ∙ drop-before before outs in
    subst (PassesAll old new) last passes

pub closed-at-last : (old new : LawView) (kept : List Out) (count : ℕ) → new.told ≡ None → new.stop ≡ old.stop → LooksAtLast old new kept count
closed-at-last old new kept count none stop before outs same is = passes-closed old new outs none stop

-- Calls

-- the nodes and the law over them, as they are between calls
abbrev pub IsWatched : LawView → RealNodes → Type 0
IsWatched law nodes = SeesAll law nodes × IsLawful law.stop × (nodes.room ≡ ROOM)

module _ (law now : LawView) (old new : RealNodes) (which : ℕ) where
  heard-watched : (event : Event) (reply : Reply) → HearsAt old new which event reply → IsNotInvented old.kept event → LooksAtLast law now new.kept (length old.kept) → IsWatched law old → IsWatched now new
  heard-watched event reply hears comes looks watched =
      let kept : new.kept ≡ take ROOM (old.kept ++ hears.hears.e.outs.items) =
      ap (λ (v : RealNodes). v.kept) hears.is ∙ ap (λ n. take n (old.kept ++ hears.hears.e.outs.items)) watched.2 in
      let both : HasSent new (λ sent. (now.stop ≡ law.stop) × KnowsAll now.told sent) =
      heard-more old new which event reply hears comes (KnowsAll law.told) (λ sent. (now.stop ≡ law.stop) × KnowsAll now.told sent)
      (λ sent keeps knows. looks old.kept hears.hears.e.outs.items refl kept sent knows keeps) watched.0 in (
        record { ran = both.ran; all = both.all.1 },
        subst IsLawful (sym both.all.0) watched.1,
        ap (λ (v : RealNodes). v.room) hears.is ∙ watched.2,
      )

  -- by what was kept before and now
  pub heard-looked : (event : Event) (reply : Reply) (before kept : List Out) → before ≡ old.kept → kept ≡ new.kept → HearsAt old new which event reply → IsNotInvented old.kept event → LooksAtLast law now kept (length before) → IsWatched law old → IsWatched now new
  heard-looked event reply before kept was is hears comes looks watched =
      heard-watched event reply hears comes (subst (λ ks. LooksAtLast law now ks (length old.kept)) is (subst (λ ks. LooksAtLast law now kept (length ks)) was looks)) watched

  pub delivered-looked : (datagram : ℕ) (reply : Reply) (before kept : List Out) → before ≡ old.kept → kept ≡ new.kept → DeliversAt old new which datagram reply → LooksAtLast law now kept (length before) → IsWatched law old → IsWatched now new
  delivered-looked datagram reply before kept was is delivers looks watched =
      heard-looked delivers.event reply before kept was is delivers.heard (arrives-sent old.kept datagram delivers.out delivers.event delivers.kept delivers.arrives) looks watched

module _ (law : LawView) (old new : RealNodes) (which : ℕ) where
  pub opened-watched : (choice : Choice) → OpensAt old new which choice → IsWatched law old → IsWatched law new
  opened-watched choice opens watched = (opened-same old new which choice opens (KnowsAll law.told) watched.0, watched.1, ap (λ (v : RealNodes). v.room) opens.is ∙ watched.2)

  -- a node that is not opened again
  pub shut-watched : (fault : NodesFault) → IsNoOpening old new which fault → IsWatched law old → IsWatched law new
  shut-watched nodes.NoNode h watched = subst (IsWatched law) (sym h.1) watched
  shut-watched nodes.Gone h watched = subst (IsWatched law) (sym h.1) watched
  shut-watched (nodes.NotOpened why) h watched = (left-same old new which h.1 (KnowsAll law.told) watched.0, watched.1, ap (λ (v : RealNodes). v.room) h.1.is ∙ watched.2)
  shut-watched _ h watched = absurd h

  pub crashed-watched : {X : Type 0} (choice : Choice) (result : Result X NodesFault) → OnOk result (OpensAt old new which choice) → IfErr result (λ fault. IsNoOpening old new which fault) → IsWatched law old → IsWatched law new
  crashed-watched choice (Ok x) opens shut watched = opened-watched choice opens watched
  crashed-watched choice (Err fault) opens shut watched = shut-watched fault shut watched

  pub ended-watched : EraEndsAt old new which → IsWatched law old → IsWatched law new
  ended-watched ends watched = (ended-same old new which ends (KnowsAll law.told) watched.0, watched.1, ap (λ (v : RealNodes). v.room) ends.is ∙ watched.2)

  pub planned-watched : (failure : Failure) → PlansAt old new which failure → IsWatched law old → IsWatched law new
  planned-watched failure plans watched = (planned-same old new which failure plans (KnowsAll law.told) watched.0, watched.1, ap (λ (v : RealNodes). v.room) plans.is ∙ watched.2)

  pub lost-watched : LosesAt old new which → IsWatched law old → IsWatched law new
  lost-watched loses watched = (lost-same old new which loses (KnowsAll law.told) watched.0, watched.1, ap (λ (v : RealNodes). v.room) loses.is ∙ watched.2)

first-lawful : (first : Option LawBreak) (stop : LawBreak) → IsOfDetection stop.broken → IsLawful first → IsLawful (first_of first stop)
first-lawful None stop found lawful = found
first-lawful (Some first) stop found lawful = lawful

pub noted-watched : (law now : LawView) (nodes : RealNodes) (stop : LawBreak) → IsOfDetection stop.broken → now.told ≡ law.told → now.stop ≡ first_of law.stop stop → IsWatched law nodes → IsWatched now nodes
noted-watched law now nodes stop found told is watched = (
  subst (λ t. HasSent nodes (KnowsAll t)) (sym told) watched.0,
  subst IsLawful (sym is) (first-lawful law.stop stop found watched.1),
  watched.2,
)

-- Beginning

pub new-watched : (law : LawView) (nodes : RealNodes) (limit : ℕ) (settings : List Settings) → MayBegin settings → AreNewNodes limit settings nodes.seats → nodes.kept ≡ [] → KnowsAll law.told [] → SeesAll law nodes
new-watched law nodes limit settings may first none knows =
    subst (λ ks. HasSent (record nodes { kept = ks }) (KnowsAll law.told)) (sym none) (nodes-begun limit settings nodes.seats nodes.room nodes.limit (KnowsAll law.told) may first knows)
