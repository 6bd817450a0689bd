-- What a group sends keeps the law that a checker looks for.
use Rattle.std.proofs.Common.{◌≡◌, ℕ, ◌<◌, ◌≤◌, zero, suc, slice_get, take, inl, inr, refl, sym, ◌∙◌, ap, subst, List, [], ◌∷◌, ◌++◌, append_assoc, append-nil, Option, Some, None, arith}
use Rattle.std.specs.List.{AllByRecursion}
use Rattle.std.proofs.lemmas.List.Elements.{All-contains, All-from_recursion}
use Rattle.swim_wire.specs.declared.datagram.Datagram.{Datagram}
use Rattle.swim_wire.specs.declared.update.Update.{Update}
use Rattle.swim_member.specs.declared.answer.Out.{Out}
use Rattle.swim_member.specs.declared.event.Event.{Event}
use Rattle.swim_group.specs.Group.{Place, Group, Move, Happens, Restarts, name_at, state_at, place_at, with_event, sent_at, after_move, after_moves, AreOwns, MayCome, IsRunOf, Begins}
use Rattle.swim_group.specs.Network.{IsNotInvented}
use Rattle.swim_group.specs.Numbers.{HasTold}
use Rattle.swim_group.specs.declared.checker.Breach.{Breach}
use Rattle.swim_group.specs.declared.checker.Breach.TheVariants.{Invented, Passed, WentBack}
use Rattle.swim_group.specs.declared.checker.CheckFault.{CheckFault}
use Rattle.swim_group.specs.declared.checker.CheckFault.TheVariants.{Broken, NoMemory}
use Rattle.swim_group.specs.Checking.{MaySay, Breaks, MayFollow, KeepTheLaw, IsBroken, IsFirstBroken, as_sent, datagrams_of}
use Rattle.swim_detect.proofs.Lists.{all-weaker}
use Rattle.swim_group.proofs.Saying.{Says, IsGoodOut}
use Rattle.swim_group.proofs.Stepping.{Stepped}
use Rattle.swim_group.proofs.Telling.{IsPlaced, HasOwns, IsKept, all-at, told-before, comes-told, placed-event, owns-weaker, owns-equal, owns-said, owns-append, kept-begins, kept-move}
use Rattle.swim_group.proofs.Passing.{told-owns}

-- a member that told no number above n of itself sends datagrams with n, and with what others told
module _ (T : List Out) (me n : ℕ) where
  may-say : (sent : List Out) (sender : ℕ) → sender ≡ me → ((x m : ℕ) → HasTold T x m → HasTold sent x m) → AreOwns me (λ i. i ≤ n) sent → (u : Update) → Says (HasTold T) (λ i. i ≡ n) me u → MaySay (HasTold sent) sender u
  may-say sent sender from lift owns u (inl h) = record {
    other = λ ne. absurd (ne (h.0 ∙ sym from));
    own = λ _ m told.
        let low : m ≤ n = told-owns (λ i. i ≤ n) me m sent owns (subst (λ x. HasTold sent x m) from told) in
        let same : u.number ≡ n = h.1 in
        omega arith;
  }
  may-say sent sender from lift owns u (inr h) = record {
    other = λ _. lift u.who u.number h.1;
    own = λ e. absurd (h.0 (e ∙ from));
  }

  law-outs : (outs sent : List Out) → AllByRecursion (IsGoodOut (HasTold T) (λ i. i ≡ n) me) outs → ((x m : ℕ) → HasTold T x m → HasTold sent x m) → AreOwns me (λ i. i ≤ n) sent → KeepTheLaw sent outs
  law-outs [] sent good lift owns = tt {0}
  law-outs (out ∷ outs) sent good lift owns = (
    all-weaker (Says (HasTold T) (λ i. i ≡ n) me) (MaySay (HasTold sent) out.datagram.sender) (may-say sent out.datagram.sender good.0.0 lift owns) out.datagram.updates.items good.0.1,
    law-outs outs (sent ++ out ∷ []) good.1 (λ x m told. told-before sent (out ∷ []) x m (lift x m told))
        (owns-append me (λ i. i ≤ n) sent (out ∷ []) owns (owns-equal me n (out ∷ []) (owns-said (HasTold T) (λ i. i ≡ n) me (out ∷ []) (good.0, tt {0})))),
  )

law-append : (outs more sent : List Out) → KeepTheLaw sent outs → KeepTheLaw (sent ++ outs) more → KeepTheLaw sent (outs ++ more)
law-append [] more sent h k = subst (λ s. KeepTheLaw s more) (append-nil sent) k
law-append (out ∷ outs) more sent h k =
    (h.0, law-append outs more (sent ++ out ∷ []) h.1 (subst (λ s. KeepTheLaw s more) (sym (append_assoc sent (out ∷ []) outs)) k))

law-happens : (g : Group) (k : ℕ) (e : Event) (granted : ℕ) → IsNotInvented g.sent e → IsKept g → (o : Option Place) → place_at g.places k ≡ o → KeepTheLaw g.sent (sent_at o e granted)
law-happens g k e granted c h None at = tt {0}
law-happens g k e granted c h (Some p) at =
    let one : Stepped (HasTold g.sent) (name_at p) (state_at p) (state_at (with_event e granted p)) (sent_at (Some p) e granted) =
    placed-event (HasTold g.sent) p e granted (comes-told (HasTold g.sent) (name_at p) g.sent h.told e c) (all-at (IsPlaced g.sent) g.places k p at h.places) in
    law-outs g.sent (name_at p) (state_at (with_event e granted p)).number (sent_at (Some p) e granted) g.sent one.sent (λ x m told. told)
    (owns-weaker (name_at p) (state_at p).number (state_at (with_event e granted p)).number one.grows g.sent (all-at (HasOwns g.sent) g.places k p at h.owns))

law-move : (g : Group) (m : Move) → MayCome g m → IsKept g → KeepTheLaw [] g.sent → KeepTheLaw [] (after_move g m).sent
law-move g (Happens k e granted) c h law = law-append g.sent (sent_at (place_at g.places k) e granted) [] law (law-happens g k e granted c h (place_at g.places k) refl)
law-move g (Restarts k settings first) c h law = law

pub law-moves : (moves : List Move) (g : Group) → IsRunOf g moves → IsKept g → KeepTheLaw [] g.sent → KeepTheLaw [] (after_moves g moves).sent
law-moves [] g run h law = law
law-moves (m ∷ moves) g run h law = law-moves moves (after_move g m) run.1 (kept-move g m run.0 h) (law-move g m run.0 h law)

-- a run keeps the law
pub law-run : (g : Group) (moves : List Move) → Begins g → IsRunOf g moves → KeepTheLaw [] (after_moves g moves).sent
law-run g moves begins run = law-moves moves g run (kept-begins g begins) (subst (KeepTheLaw []) (sym begins.sent) (tt {0}))

-- Lists of datagrams

-- to whom they were sent is nothing that the law speaks of
told-forth : (outs : List Out) (x n : ℕ) → HasTold outs x n → HasTold (as_sent (datagrams_of outs)) x n
told-forth [] x n h = h
told-forth (out ∷ outs) x n (inl h) = inl h
told-forth (out ∷ outs) x n (inr h) = inr (told-forth outs x n h)

told-back : (outs : List Out) (x n : ℕ) → HasTold (as_sent (datagrams_of outs)) x n → HasTold outs x n
told-back [] x n h = h
told-back (out ∷ outs) x n (inl h) = inl h
told-back (out ∷ outs) x n (inr h) = inr (told-back outs x n h)

datagrams-snoc : (sent : List Out) (out : Out) → as_sent (datagrams_of (sent ++ out ∷ [])) ≡ as_sent (datagrams_of sent) ++ record { to = 0; datagram = out.datagram } ∷ []
datagrams-snoc [] out = refl
datagrams-snoc (o ∷ sent) out = ap (λ (os : List Out). record { to = 0; datagram = o.datagram } ∷ os) (datagrams-snoc sent out)

law-datagrams : (sent outs : List Out) → KeepTheLaw sent outs → KeepTheLaw (as_sent (datagrams_of sent)) (as_sent (datagrams_of outs))
law-datagrams sent [] h = tt {0}
law-datagrams sent (out ∷ outs) h = (
  all-weaker (MaySay (HasTold sent) out.datagram.sender) (MaySay (HasTold (as_sent (datagrams_of sent))) out.datagram.sender)
      (λ u s. record {
        other = λ ne. told-forth sent u.who u.number (s.other ne);
        own = λ e n t. s.own e n (told-back sent out.datagram.sender n t);
      }) out.datagram.updates.items h.0,
  subst (λ s. KeepTheLaw s (as_sent (datagrams_of outs))) (datagrams-snoc sent out) (law-datagrams (sent ++ out ∷ []) outs h.1),
)

follows-at : (ds : List Datagram) (k : ℕ) (d : Datagram) (sent : List Out) → slice_get ds k ≡ Some d → KeepTheLaw sent (as_sent ds) → MayFollow (sent ++ as_sent (take k ds)) d
follows-at [] k d sent e law = absurd (cc)
follows-at (c ∷ ds) zero d sent e law = let same : c ≡ d = cc in subst (λ s. MayFollow s d) (sym (append-nil sent)) (subst (MayFollow sent) same law.0)
follows-at (c ∷ ds) (suc k) d sent e law =
    subst (λ s. MayFollow s d) (append_assoc sent (record { to = 0; datagram = c } ∷ []) (as_sent (take k ds))) (follows-at ds k d (sent ++ record { to = 0; datagram = c } ∷ []) e law.1)

breaks-nothing : (told : ℕ → ℕ → Type 0) (sender : ℕ) (breach : Breach) (u : Update) → MaySay told sender u → Breaks told sender breach u → ⊥
breaks-nothing told sender Invented u s b = b.1 (s.other b.0)
breaks-nothing told sender Passed u s b = let less : u.number < u.number = b.1 u.number (s.other b.0) in absurd (omega arith)
breaks-nothing told sender WentBack u s b = let low : b.1.0 ≤ u.number = s.own b.0 b.1.0 b.1.1 in let less : u.number < b.1.0 = b.1.2 in absurd (omega arith)

-- what keeps the law is refused for nothing but want of memory
pub refused-lawful : (sent : List Out) (d : Datagram) (fault : CheckFault) → MayFollow sent d → IsBroken sent d fault → fault ≡ NoMemory
refused-lawful sent d NoMemory follows broken = refl
refused-lawful sent d (Broken u breach) follows broken =
    absurd (breaks-nothing (HasTold sent) d.sender breach u (All-contains (MaySay (HasTold sent) d.sender) d.updates.items u (All-from_recursion (MaySay (HasTold sent) d.sender) d.updates.items follows) broken.0) broken.1)

-- so is a run
pub run-passes : (g : Group) (moves : List Move) (ds : List Datagram) (k : ℕ) (fault : CheckFault) → Begins g → IsRunOf g moves → ds ≡ datagrams_of (after_moves g moves).sent → IsFirstBroken ds k fault → fault ≡ NoMemory
run-passes g moves ds k fault begins run same broken =
    let law : KeepTheLaw [] (as_sent ds) = subst (λ (cs : List Datagram). KeepTheLaw [] (as_sent cs)) (sym same) (law-datagrams [] (after_moves g moves).sent (law-run g moves begins run)) in
    refused-lawful (as_sent (take k ds)) broken.datagram fault (follows-at ds k broken.datagram [] broken.found law) broken.broken
