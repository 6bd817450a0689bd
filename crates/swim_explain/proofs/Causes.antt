-- What a call says of why x is suspected or confirmed is a cause, and none is left out.
use Rattle.std.proofs.Common.{◌≡◌, ◌≢◌, ℕ, ◌+◌, ◌%◌, ◌==◌, ◌&&◌, ◌≤◌, Bool, true, false, cond, not, refl, sym, ◌∙◌, ap, subst, inl, inr, List, [], ◌∷◌, ◌++◌, Option, Some, None, arith}
use Rattle.std.specs.List.{AllByRecursion}
use Rattle.std.specs.Option.{is_none}
use Rattle.std.proofs.lemmas.Bool.{eq-eqb, eqb-false}
use Rattle.swim_wire.specs.declared.datagram.Datagram.{Datagram}
use Rattle.swim_wire.specs.declared.datagram.Kind.{Kind}
use Rattle.swim_wire.specs.declared.datagram.Kind.TheVariants.{Ping, PingReq, Ack, Join, Page}
use Rattle.swim_wire.specs.declared.rules.Rules.{Rules}
use Rattle.swim_wire.specs.declared.update.Update.{Update}
use Rattle.swim_wire.specs.declared.update.UpdateKind.{UpdateKind}
use Rattle.swim_wire.specs.declared.update.UpdateKind.TheVariants.{Alive, Suspect, Confirm}
use Rattle.swim_rules.specs.declared.table.Row.{Row}
use Rattle.swim_rules.specs.Rows.{heard_as, row_of}
use Rattle.swim_rules.proofs.Hearing.{about-row_of}
use Rattle.swim_member.specs.declared.answer.Out.{Out}
use Rattle.swim_member.specs.Judged.{Judged}
use Rattle.swim_member.specs.Judged as judged
use Rattle.swim_member.specs.declared.own_number.OwnNumber.{OwnNumber}
use Rattle.swim_member.specs.declared.settings.Settings.{Settings}
use Rattle.swim_member.specs.declared.state.Phase.{Phase}
use Rattle.swim_member.specs.declared.state.Phase.TheVariants.{Running, Left, Expelled}
use Rattle.swim_member.specs.declared.state.Probe.{Probe}
use Rattle.swim_member.specs.Checks.{AreSound, rules_of}
use Rattle.swim_member.specs.Events.{Step, state_of}
use Rattle.swim_member.specs.Judge.{judge}
use Rattle.swim_member.specs.Machinery.Steps.{apply}
use Rattle.swim_member.specs.State.{State, Ticked}
use Rattle.swim_node.specs.declared.entry.Entry.{Entry}
use Rattle.swim_node.specs.declared.entry.Outcome.{Outcome}
use Rattle.swim_node.specs.History.{step_of}
use Rattle.swim_detect.specs.Causes.{Has, Brings, IsAccusation, IsExpiry}
use Rattle.swim_detect.proofs.Caused.{HearsBy, By_datagram, By_tick, accusation, expiry, hears-by, row-step}
use Rattle.swim_detect.proofs.Causing.{Accuses, CameFrom, Was_accused, Was_due, has-back, has-front}
use Rattle.swim_detect.proofs.Dues.{KeepsOrLoses}
use Rattle.swim_detect.proofs.Lists.{all-append}
use Rattle.swim_detect.proofs.Probes.{ticked-time}
use Rattle.swim_explain.specs.declared.fact.Fact.{Fact}
use Rattle.swim_explain.specs.declared.fact.Fact.TheVariants as fact
use Rattle.swim_explain.specs.declared.fact.Purpose.{Purpose}
use Rattle.swim_explain.specs.declared.view.View.{View}
use Rattle.swim_explain.specs.Facts.{answered, became, blamed, blamed_as, by_datagram, by_tick, came, ended, itself, met, over, passed, purpose_of, row_with, sent, sent_about, told, told_itself, told_of, unanswered, view_of}
use Rattle.swim_explain.specs.Causes.{IsCause, Says, said_of}
use Rattle.std.proofs.lemmas.Option.{same_Some}

update-is : (u : Update) (k : UpdateKind) (x n : ℕ) → u.kind ≡ k → u.who ≡ x → u.number ≡ n → u ≡ record { kind = k; who = x; number = n }
update-is u k x n a b c =
    ap (λ i. record { kind = i; who = u.who; number = u.number }) a
    ∙ ap (λ i. record { kind = k; who = i; number = u.number }) b
    ∙ ap (λ i. record { kind = k; who = x; number = i }) c

-- What says nothing of a cause

abbrev Named : State → List Step → Step → ℕ → List Fact → Type 0
Named base before e x fs = AllByRecursion (IsCause base before e x) fs

named-sent_about : (base : State) (before : List Step) (e : Step) (x : ℕ) (why : Purpose) (k : Kind) (out : Out) (o : Outcome) → Named base before e x (sent_about x why k out o)
named-sent_about base before e x why Ping out o = at (out.datagram.subject == x)
  where
    at : (b : Bool) → Named base before e x (cond b (fact.Pinged why out.datagram.seq o ∷ []) [])
    at true = (tt {0}, tt {0})
    at false = tt {0}
named-sent_about base before e x why PingReq out o = at (out.datagram.subject == x)
  where
    at : (b : Bool) → Named base before e x (cond b (fact.Asked out.to out.datagram.seq o ∷ []) [])
    at true = (tt {0}, tt {0})
    at false = tt {0}
named-sent_about base before e x why Join out o = at (out.to == x)
  where
    at : (b : Bool) → Named base before e x (cond b (fact.Joined out.datagram.seq o ∷ []) [])
    at true = (tt {0}, tt {0})
    at false = tt {0}
named-sent_about base before e x why Ack out o = tt {0}
named-sent_about base before e x why Page out o = tt {0}

named-sent : (base : State) (before : List Step) (e : Step) (x : ℕ) (why : Purpose) (outs : List Out) (outcomes : List Outcome) → Named base before e x (sent x why outs outcomes)
named-sent base before e x why [] outcomes = tt {0}
named-sent base before e x why (out ∷ outs) [] = tt {0}
named-sent base before e x why (out ∷ outs) (o ∷ outcomes) =
    all-append (IsCause base before e x) (sent_about x why out.datagram.kind out o) (sent x why outs outcomes)
    (named-sent_about base before e x why out.datagram.kind out o) (named-sent base before e x why outs outcomes)

named-ended : (base : State) (before : List Step) (e : Step) (x : ℕ) (p q : Phase) → Named base before e x (ended p q)
named-ended base before e x Running Running = tt {0}
named-ended base before e x Running Left = (tt {0}, tt {0})
named-ended base before e x Running Expelled = (tt {0}, tt {0})
named-ended base before e x Left q = tt {0}
named-ended base before e x Expelled q = tt {0}

named-itself : (base : State) (before : List Step) (e : Step) (x me : ℕ) (v w : View) → Named base before e x (itself x me v w)
named-itself base before e x me v w = at (x == me) (v.number == w.number)
  where
    at : (b c : Bool) → Named base before e x (cond b (cond c [] (fact.Renumbered v.number w.number ∷ []) ++ ended v.phase w.phase) [])
    at true true = named-ended base before e x v.phase w.phase
    at true false = (tt {0}, named-ended base before e x v.phase w.phase)
    at false c = tt {0}

-- A datagram

named-told : (base : State) (before : List Step) (e : Step) (x by : ℕ) (rules : Rules) (full : Bool) (now : ℕ) (row : Option Row) (us : List Update) → ((u : Update) → Has u us → Brings (state_of base before) e.event u) → Named base before e x (told rules x by full now row us)
named-told base before e x by rules full now row [] b = tt {0}
named-told base before e x by rules full now row (u ∷ us) b =
    at (u.who == x) (λ o. named-told base before e x by rules full now o us (λ v h. b v (inr h)))
  where
    next : Option Row
    next = row_with (heard_as rules row full u) row (record { update = u; since = now })

    at : (c : Bool) → ((o : Option Row) → Named base before e x (told rules x by full now o us)) → Named base before e x (cond c (fact.Told by u row (heard_as rules row full u) ∷ told rules x by full now next us) (told rules x by full now row us))
    at true more = (b u (inl refl), more next)
    at false more = more row

named-told_itself : (base : State) (before : List Step) (e : Step) (x by : ℕ) (us : List Update) → ((u : Update) → Has u us → Brings (state_of base before) e.event u) → Named base before e x (told_itself x by us)
named-told_itself base before e x by [] b = tt {0}
named-told_itself base before e x by (u ∷ us) b = at (u.who == x) (named-told_itself base before e x by us (λ v h. b v (inr h)))
  where
    at : (c : Bool) → Named base before e x (told_itself x by us) → Named base before e x (cond c (fact.ToldItself by u ∷ told_itself x by us) (told_itself x by us))
    at true more = (b u (inl refl), more)
    at false more = more

named-came : (base : State) (before : List Step) (e : Step) (x : ℕ) (p : Datagram) → Named base before e x (came x p)
named-came base before e x p = at (p.sender == x)
  where
    at : (c : Bool) → Named base before e x (cond c (fact.Came p.kind p.seq ∷ []) [])
    at true = (tt {0}, tt {0})
    at false = tt {0}

named-answered : (base : State) (before : List Step) (e : Step) (x by : ℕ) (o q : Option Probe) → Named base before e x (answered x by o q)
named-answered base before e x by None q = tt {0}
named-answered base before e x by (Some o) None = tt {0}
named-answered base before e x by (Some o) (Some q) = at (o.target == x && not o.answered && q.answered)
  where
    at : (c : Bool) → Named base before e x (cond c (fact.Answered by o.seq ∷ []) [])
    at true = (tt {0}, tt {0})
    at false = tt {0}

named-datagram : (base : State) (before : List Step) (e : Step) (x : ℕ) (c : Settings) (v w : View) (p : Datagram) (own : OwnNumber) → judge (state_of base before) e.event ≡ judged.Datagram p own → Named base before e x (by_datagram c x v w p)
named-datagram base before e x c v w p own f =
    all-append (IsCause base before e x) (came x p ++ told_of c x p.sender v w p.updates.items) (answered x p.sender v.probe w.probe)
    (all-append (IsCause base before e x) (came x p) (told_of c x p.sender v w p.updates.items) (named-came base before e x p) (of_whom (x == c.me)))
    (named-answered base before e x p.sender v.probe w.probe)
  where
    brings : (u : Update) → Has u p.updates.items → Brings (state_of base before) e.event u
    brings u h = record { datagram = p; own = own; accepted = f; has = h }

    of_whom : (b : Bool) → Named base before e x (cond b (told_itself x p.sender p.updates.items) (told (rules_of c) x p.sender (is_none w.row) v.time v.row p.updates.items))
    of_whom true = named-told_itself base before e x p.sender p.updates.items brings
    of_whom false = named-told base before e x p.sender (rules_of c) (is_none w.row) v.time v.row p.updates.items brings

-- A tick

-- who became Confirm at a tick was suspected for long enough
by-expiry : (base : State) (before : List Step) (e : Step) (x : ℕ) (deal : List ℕ) (r t : Row) → judge (state_of base before) e.event ≡ judged.Tick deal → row_of (state_of base before).rows x ≡ Some r → row_of (state_of base (before ++ e ∷ [])).rows x ≡ Some t → r.update.kind ≡ Suspect → t.update.kind ≡ Confirm
    → (a : IsExpiry base before e.event (record { kind = Confirm; who = x; number = r.update.number })) × (a.row.since ≡ r.since)
by-expiry base before e x deal r t f h i k l = elim (row-step x t base before e i) [
  | inl g ↦ absurd (kept g)
  | inr g ↦ heard (hears-by base before e t.update g)
]
  where
    who : t.update.who ≡ x
    who = about-row_of (state_of base (before ++ e ∷ [])).rows x t i

    kept : row_of (state_of base before).rows x ≡ Some t → ⊥
    kept g = let same : r ≡ t = cc in let kinds : Suspect ≡ Confirm = sym k ∙ ap (λ (q : Row). q.update.kind) same ∙ l in absurd (cc)

    due : (d : List ℕ) → judge (state_of base before) e.event ≡ judged.Tick d → CameFrom (apply Ticked (state_of base before)) t.update → (a : IsExpiry base before e.event (record { kind = Confirm; who = x; number = r.update.number })) × (a.row.since ≡ r.since)
    due d g c =
        let a = expiry base before e t.update d g c in
        let row : c.row ≡ r = same_Some c.row r (sym c.held ∙ ap (row_of (state_of base before).rows) who ∙ h) in
        let same : t.update ≡ record { kind = Confirm; who = x; number = r.update.number } = update-is t.update Confirm x r.update.number l who (sym c.number ∙ ap (λ (q : Row). q.update.number) row) in
        subst (λ u. (b : IsExpiry base before e.event u) × (b.row.since ≡ r.since)) same (a.0, ap (λ (q : Row). q.since) (a.1 ∙ row))

    heard : HearsBy (state_of base before) e t.update → (a : IsExpiry base before e.event (record { kind = Confirm; who = x; number = r.update.number })) × (a.row.since ≡ r.since)
    heard (By_datagram p own g j) = absurd (cc)
    heard (By_tick d g (Was_due c)) = due d g c
    heard (By_tick d g (Was_accused s1 j a)) = let kinds : Suspect ≡ Confirm = sym a.suspected ∙ l in absurd (cc)

named-became : (base : State) (before : List Step) (e : Step) (x : ℕ) (deal : List ℕ) (r t : Row) → judge (state_of base before) e.event ≡ judged.Tick deal → row_of (state_of base before).rows x ≡ Some r → row_of (state_of base (before ++ e ∷ [])).rows x ≡ Some t → (k l : UpdateKind) → r.update.kind ≡ k → t.update.kind ≡ l → Named base before e x (became r k l)
named-became base before e x deal r t f h i Suspect Confirm k l = (by-expiry base before e x deal r t f h i k l, tt {0})
named-became base before e x deal r t f h i Suspect Alive k l = tt {0}
named-became base before e x deal r t f h i Suspect Suspect k l = tt {0}
named-became base before e x deal r t f h i Alive b k l = tt {0}
named-became base before e x deal r t f h i Confirm b k l = tt {0}

named-passed : (base : State) (before : List Step) (e : Step) (x : ℕ) (deal : List ℕ) → judge (state_of base before) e.event ≡ judged.Tick deal → (o q : Option Row) → row_of (state_of base before).rows x ≡ o → row_of (state_of base (before ++ e ∷ [])).rows x ≡ q → Named base before e x (passed o q)
named-passed base before e x deal f None q h i = tt {0}
named-passed base before e x deal f (Some r) None h i = (tt {0}, tt {0})
named-passed base before e x deal f (Some r) (Some t) h i = named-became base before e x deal r t f h i r.update.kind t.update.kind refl refl

-- who became Suspect at a tick was accused by the open probe
by-accusation : (base : State) (before : List Step) (e : Step) (x : ℕ) (deal : List ℕ) (p : Probe) (r t : Row) → 1 ≤ base.settings.period → judge (state_of base before) e.event ≡ judged.Tick deal → (state_of base before).probe ≡ Some p → row_of (state_of base before).rows x ≡ Some r → row_of (state_of base (before ++ e ∷ [])).rows x ≡ Some t → r.update.kind ≡ Alive → t.update.kind ≡ Suspect
    → (a : IsAccusation base before e.event (record { kind = Suspect; who = x; number = t.update.number })) × (a.seq ≡ p.seq)
by-accusation base before e x deal p r t low f o h i k l = elim (row-step x t base before e i) [
  | inl g ↦ absurd (kept g)
  | inr g ↦ heard (hears-by base before e t.update g)
]
  where
    who : t.update.who ≡ x
    who = about-row_of (state_of base (before ++ e ∷ [])).rows x t i

    kept : row_of (state_of base before).rows x ≡ Some t → ⊥
    kept g = let same : r ≡ t = cc in let kinds : Alive ≡ Suspect = sym k ∙ ap (λ (q : Row). q.update.kind) same ∙ l in absurd (cc)

    accused : (d : List ℕ) → judge (state_of base before) e.event ≡ judged.Tick d → (s : State) → KeepsOrLoses t.update.who (apply Ticked (state_of base before)) s → Accuses s t.update → (a : IsAccusation base before e.event (record { kind = Suspect; who = x; number = t.update.number })) × (a.seq ≡ p.seq)
    accused d g s j a =
        let b = accusation base before e t.update low d g s j a in
        let probe : a.probe ≡ p = same_Some a.probe p (sym a.opened ∙ j.probe ∙ o) in
        let same : t.update ≡ record { kind = Suspect; who = x; number = t.update.number } = update-is t.update Suspect x t.update.number l who refl in
        subst (λ u. (c : IsAccusation base before e.event u) × (c.seq ≡ p.seq)) same (b.0, b.1 ∙ ap (λ (q : Probe). q.seq) probe)

    heard : HearsBy (state_of base before) e t.update → (a : IsAccusation base before e.event (record { kind = Suspect; who = x; number = t.update.number })) × (a.seq ≡ p.seq)
    heard (By_datagram q own g j) = absurd (cc)
    heard (By_tick d g (Was_due c)) = let kinds : Suspect ≡ Confirm = sym l ∙ c.confirm in absurd (cc)
    heard (By_tick d g (Was_accused s j a)) = accused d g s j a

named-blamed_as : (base : State) (before : List Step) (e : Step) (x : ℕ) (deal : List ℕ) (p : Probe) (r t : Row) → 1 ≤ base.settings.period → judge (state_of base before) e.event ≡ judged.Tick deal → (state_of base before).probe ≡ Some p → row_of (state_of base before).rows x ≡ Some r → row_of (state_of base (before ++ e ∷ [])).rows x ≡ Some t → (k l : UpdateKind) → r.update.kind ≡ k → t.update.kind ≡ l → Named base before e x (blamed_as p.seq t k l)
named-blamed_as base before e x deal p r t low f o h i Alive Suspect k l = (by-accusation base before e x deal p r t low f o h i k l, tt {0})
named-blamed_as base before e x deal p r t low f o h i Alive Alive k l = tt {0}
named-blamed_as base before e x deal p r t low f o h i Alive Confirm k l = tt {0}
named-blamed_as base before e x deal p r t low f o h i Suspect b k l = tt {0}
named-blamed_as base before e x deal p r t low f o h i Confirm b k l = tt {0}

named-blamed : (base : State) (before : List Step) (e : Step) (x : ℕ) (deal : List ℕ) (p : Probe) → 1 ≤ base.settings.period → judge (state_of base before) e.event ≡ judged.Tick deal → (state_of base before).probe ≡ Some p → (o q : Option Row) → row_of (state_of base before).rows x ≡ o → row_of (state_of base (before ++ e ∷ [])).rows x ≡ q → Named base before e x (blamed p.seq o q)
named-blamed base before e x deal p low f o (Some r) (Some t) h i = named-blamed_as base before e x deal p r t low f o h i r.update.kind t.update.kind refl refl
named-blamed base before e x deal p low f o (Some r) None h i = tt {0}
named-blamed base before e x deal p low f o None q h i = tt {0}

named-unanswered : (base : State) (before : List Step) (e : Step) (x now : ℕ) (deal : List ℕ) → 1 ≤ base.settings.period → judge (state_of base before) e.event ≡ judged.Tick deal → (w : View) → row_of (state_of base (before ++ e ∷ [])).rows x ≡ w.row → (o : Option Probe) → (state_of base before).probe ≡ o → Named base before e x (unanswered (view_of (state_of base before) x) w (over x (state_of base before).settings.period now o))
named-unanswered base before e x now deal low f w i None o = tt {0}
named-unanswered base before e x now deal low f w i (Some p) o = at (p.target == x && not p.answered && now % (state_of base before).settings.period == 0)
  where
    at : (c : Bool) → Named base before e x (unanswered (view_of (state_of base before) x) w (cond c (Some p.seq) None))
    at true = (tt {0}, named-blamed base before e x deal p low f o (row_of (state_of base before).rows x) w.row refl i)
    at false = tt {0}

named-tick : (base : State) (before : List Step) (e : Step) (x : ℕ) (deal : List ℕ) → 1 ≤ base.settings.period → judge (state_of base before) e.event ≡ judged.Tick deal → Named base before e x (by_tick (state_of base before).settings x (view_of (state_of base before) x) (view_of (state_of base (before ++ e ∷ [])) x))
named-tick base before e x deal low f =
    let v : View = view_of (state_of base before) x in
    let w : View = view_of (state_of base (before ++ e ∷ [])) x in
    all-append (IsCause base before e x) (passed v.row w.row) (unanswered v w (over x (state_of base before).settings.period w.time v.probe))
    (named-passed base before e x deal f v.row w.row refl refl)
    (named-unanswered base before e x w.time deal low f w refl v.probe refl)

-- Any call

named-met : (base : State) (before : List Step) (e : Step) (x : ℕ) → 1 ≤ base.settings.period → (j : Judged) → judge (state_of base before) e.event ≡ j → Named base before e x (met (state_of base before).settings x (view_of (state_of base before) x) (view_of (state_of base (before ++ e ∷ [])) x) j)
named-met base before e x low (judged.Datagram p own) f = named-datagram base before e x (state_of base before).settings (view_of (state_of base before) x) (view_of (state_of base (before ++ e ∷ [])) x) p own f
named-met base before e x low (judged.Tick deal) f = named-tick base before e x deal low f
named-met base before e x low (judged.Note n) f = tt {0}
named-met base before e x low (judged.Join peer) f = tt {0}
named-met base before e x low judged.Leave f = tt {0}
named-met base before e x low (judged.Members cursor) f = tt {0}

-- all that a call says is so
pub names-causes : (base : State) (before : List Step) (e : Entry) (x : ℕ) → AreSound base.settings → AllByRecursion (IsCause base before (step_of e) x) (said_of base before x e)
names-causes base before e x sound =
    let s : State = state_of base before in
    let v : View = view_of s x in
    let w : View = view_of (state_of base (before ++ step_of e ∷ [])) x in
    let j : Judged = judge s e.event in
    let low : 1 ≤ base.settings.period = (let l : 2 ≤ base.settings.period = sound.period_low in omega arith) in
    all-append (IsCause base before (step_of e) x) (met s.settings x v w j ++ itself x s.settings.me v w) (sent x (purpose_of j) e.outs.items e.outcomes.items)
    (all-append (IsCause base before (step_of e) x) (met s.settings x v w j) (itself x s.settings.me v w)
    (named-met base before (step_of e) x low j refl) (named-itself base before (step_of e) x s.settings.me v w))
    (named-sent base before (step_of e) x (purpose_of j) e.outs.items e.outcomes.items)

-- None is left out

-- a fact of these says that x is so by this update
abbrev pub AreTold : ℕ → Update → List Fact → Type 0
AreTold x u fs = (f : Fact) × Has f fs × Says x u f

told-in : (x by : ℕ) (rules : Rules) (full : Bool) (now : ℕ) (row : Option Row) (us : List Update) (u : Update) → u.who ≡ x → Has u us → AreTold x u (told rules x by full now row us)
told-in x by rules full now row [] u who h = absurd h
told-in x by rules full now row (v ∷ us) u who h = at (v.who == x) refl (λ o k. told-in x by rules full now o us u who k)
  where
    next : Option Row
    next = row_with (heard_as rules row full v) row (record { update = v; since = now })

    later : AreTold x u (told rules x by full now next us) → AreTold x u (fact.Told by v row (heard_as rules row full v) ∷ told rules x by full now next us)
    later t = (t.0, inr t.1, t.2)

    at : (c : Bool) → (v.who == x) ≡ c → ((o : Option Row) → Has u us → AreTold x u (told rules x by full now o us)) → AreTold x u (cond c (fact.Told by v row (heard_as rules row full v) ∷ told rules x by full now next us) (told rules x by full now row us))
    at true g more = elim h [
      | inl same ↦ (fact.Told by v row (heard_as rules row full v), inl refl, same)
      | inr k ↦ later (more next k)
    ]
    at false g more = elim h [
      | inl same ↦ absurd (eqb-false v.who x g (ap (λ (q : Update). q.who) same ∙ who))
      | inr k ↦ more row k
    ]

told_itself-in : (x by : ℕ) (us : List Update) (u : Update) → u.who ≡ x → Has u us → AreTold x u (told_itself x by us)
told_itself-in x by [] u who h = absurd h
told_itself-in x by (v ∷ us) u who h = at (v.who == x) refl (λ k. told_itself-in x by us u who k)
  where
    later : AreTold x u (told_itself x by us) → AreTold x u (fact.ToldItself by v ∷ told_itself x by us)
    later t = (t.0, inr t.1, t.2)

    at : (c : Bool) → (v.who == x) ≡ c → (Has u us → AreTold x u (told_itself x by us)) → AreTold x u (cond c (fact.ToldItself by v ∷ told_itself x by us) (told_itself x by us))
    at true g more = elim h [
      | inl same ↦ (fact.ToldItself by v, inl refl, same)
      | inr k ↦ later (more k)
    ]
    at false g more = elim h [
      | inl same ↦ absurd (eqb-false v.who x g (ap (λ (q : Update). q.who) same ∙ who))
      | inr k ↦ more k
    ]

in-front : (x : ℕ) (u : Update) (fs gs : List Fact) → AreTold x u fs → AreTold x u (fs ++ gs)
in-front x u fs gs t = (t.0, has-front t.0 fs gs t.1, t.2)

in-back : (x : ℕ) (u : Update) (fs gs : List Fact) → AreTold x u gs → AreTold x u (fs ++ gs)
in-back x u fs gs t = (t.0, has-back t.0 fs gs t.1, t.2)

datagram-tells : (c : Settings) (x : ℕ) (v w : View) (p : Datagram) (u : Update) → u.who ≡ x → Has u p.updates.items → AreTold x u (by_datagram c x v w p)
datagram-tells c x v w p u who h =
    in-front x u (came x p ++ told_of c x p.sender v w p.updates.items) (answered x p.sender v.probe w.probe)
    (in-back x u (came x p) (told_of c x p.sender v w p.updates.items) (of_whom (x == c.me)))
  where
    of_whom : (b : Bool) → AreTold x u (cond b (told_itself x p.sender p.updates.items) (told (rules_of c) x p.sender (is_none w.row) v.time v.row p.updates.items))
    of_whom true = told_itself-in x p.sender p.updates.items u who h
    of_whom false = told-in x p.sender (rules_of c) (is_none w.row) v.time v.row p.updates.items u who h

has-confirmed : (o q : Option Row) (c r : Row) → o ≡ Some c → q ≡ Some r → c.update.kind ≡ Suspect → r.update.kind ≡ Confirm → Has (fact.Confirmed c.update.number c.since) (passed o q)
has-confirmed o q c r h i k l = rw (h, i, k, l) (inl refl)

has-suspected : (v w : View) (x period : ℕ) (p : Probe) (c r : Row) → v.row ≡ Some c → w.row ≡ Some r → c.update.kind ≡ Alive → r.update.kind ≡ Suspect → v.probe ≡ Some p → (p.target == x) ≡ true → p.answered ≡ false → (w.time % period == 0) ≡ true → Has (fact.Suspected r.update.number p.seq) (unanswered v w (over x period w.time v.probe))
has-suspected v w x period p c r h i k l o t n z = rw (o, t, n, z, h, i, k, l) (inr (inl refl))

-- a call that leaves a row that is new and not Alive says so
pub none-out : (base : State) (before : List Step) (e : Entry) (x : ℕ) (r : Row) → AreSound base.settings → row_of (state_of base (before ++ step_of e ∷ [])).rows x ≡ Some r → row_of (state_of base before).rows x ≢ Some r → r.update.kind ≢ Alive → AreTold x r.update (said_of base before x e)
none-out base before e x r sound i n k = elim (row-step x r base before (step_of e) i) [
  | inl g ↦ absurd (n g)
  | inr g ↦ in-front x r.update (met s.settings x v w (judge s e.event) ++ itself x s.settings.me v w) (sent x (purpose_of (judge s e.event)) e.outs.items e.outcomes.items)
      (in-front x r.update (met s.settings x v w (judge s e.event)) (itself x s.settings.me v w) (heard (hears-by base before (step_of e) r.update g)))
]
  where
    s : State
    s = state_of base before

    v : View
    v = view_of s x

    w : View
    w = view_of (state_of base (before ++ step_of e ∷ [])) x

    low : 1 ≤ base.settings.period
    low = let l : 2 ≤ base.settings.period = sound.period_low in omega arith

    who : r.update.who ≡ x
    who = about-row_of (state_of base (before ++ step_of e ∷ [])).rows x r i

    by : (j : Judged) → judge s e.event ≡ j → AreTold x r.update (met s.settings x v w j) → AreTold x r.update (met s.settings x v w (judge s e.event))
    by j g t = subst (λ (q : Judged). AreTold x r.update (met s.settings x v w q)) (sym g) t

    due : (deal : List ℕ) → CameFrom (apply Ticked s) r.update → AreTold x r.update (by_tick s.settings x v w)
    due deal c =
        let held : row_of s.rows x ≡ Some c.row = ap (row_of s.rows) (sym who) ∙ c.held in
        in-front x r.update (passed v.row w.row) (unanswered v w (over x s.settings.period w.time v.probe))
        (fact.Confirmed c.row.update.number c.row.since, has-confirmed v.row w.row c.row r held i c.suspected c.confirm, sym (update-is r.update Confirm x c.row.update.number c.confirm who (sym c.number)))

    accused : (deal : List ℕ) → judge s e.event ≡ judged.Tick deal → (t : State) → KeepsOrLoses r.update.who (apply Ticked s) t → Accuses t r.update → AreTold x r.update (by_tick s.settings x v w)
    accused deal f t j a =
        let b : IsAccusation base before e.event r.update = (accusation base before (step_of e) r.update low deal f t j a).0 in
        let held : row_of s.rows x ≡ Some b.row = ap (row_of s.rows) (sym who) ∙ b.held in
        let opened : s.probe ≡ Some a.probe = sym j.probe ∙ a.opened in
        let time : w.time ≡ s.time + 1 = ticked-time base before (step_of e) deal f in
        in-back x r.update (passed v.row w.row) (unanswered v w (over x s.settings.period w.time v.probe)) (
          fact.Suspected r.update.number a.probe.seq,
          has-suspected v w x s.settings.period a.probe b.row r held i b.alive a.suspected opened (eq-eqb a.probe.target x (a.target ∙ who)) a.unanswered (ap (λ n. n % s.settings.period == 0) time ∙ b.ends),
          sym (update-is r.update Suspect x r.update.number a.suspected who refl),
        )

    heard : HearsBy s (step_of e) r.update → AreTold x r.update (met s.settings x v w (judge s e.event))
    heard (By_datagram p own g h) = by (judged.Datagram p own) g (datagram-tells s.settings x v w p r.update who h)
    heard (By_tick deal g (Was_due c)) = by (judged.Tick deal) g (due deal c)
    heard (By_tick deal g (Was_accused t j a)) = by (judged.Tick deal) g (accused deal g t j a)
