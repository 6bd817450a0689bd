use Rattle.std.proofs.Common.{◌≡◌, ◌<◌, length, map, false, None, Some, refl, sym, ap, ◌∙◌, subst}
use Rattle.std.proofs.lemmas.List.{length-map}
use Rattle.swim_state.specs.Recovery.{fault_of as shown}
use Rattle.swim_member.specs.Checks.{fault_of}
use Rattle.swim_node.specs.Node.{owner_of}
use Rattle.swim_play.specs.contracts.session.Session.{the_view}
use Rattle.swim_play.specs.declared.session.OpeningRefusal.TheVariants as refusal
use Rattle.swim_play.specs.declared.session.SessionStage.{SessionStage}
use Rattle.swim_play.specs.declared.session.SessionStage.TheVariants.{Idle, Open}
use Rattle.swim_play.specs.Life.{disk_state}
use Rattle.swim_play.specs.Play.{Playing, CanOpen, ComesAfterLives, IsRefused, asked_of, with_life}
use Rattle.swim_play.specs.Machinery.Session.{IsSession, disk_in}
use Rattle.swim_play.proofs.Openings.{after_lives, opening-unsound, opening-begun, opening-refused}
use Rattle.swim_play.proofs.Sessions.{session-begun, session-begun-apart, session-held, session-refused, session-run}
use Rattle.swim_play.proofs.session.Session.open.Goals.{then-self, else-self}
use Rattle.swim_play.proofs.session.Session.open.Goals as goal

pub returns-in-Err : goal.returns-in-Err
returns-in-Err c =
    opening-unsound c.args.self.now c.in-Err.fault c.requires.disk (sym (ap (λ (p : Playing). fault_of p.setup.settings) c.self.view_is) ∙ c.in-Err.ensures.err)

pub invariant_of-self-in-Ok : goal.invariant_of-self-in-Ok
invariant_of-self-in-Ok c =
    let session = c.self.inside in
    let owner = owner_of session.setup.settings in
    let life = c.in-Ok.living in
    let named = ap owner_of (sym c.in-Ok.ensures.setup.0) in
    let idle = subst (λ (s : SessionStage). IsSession owner session.apart session.runs.items session.lives.items s) (sym c.replace.ensures.value ∙ c.in-Idle.is) c.self.invariant in
    elim c.if-self.branch [
      | then-self w ↦ rw w.self-inside-is (session-begun-apart owner _ _ life
          (w.close_run.ensures.kept (rw c.reserve.ensures.items c.self.invariant.ended) (session-run owner session.apart session.runs.items session.lives.items session.stage c.self.invariant))
          w.close_run.ensures.lives named)
      | else-self w ↦ rw (w.self-inside-is, c.reserve.ensures.items) (session-begun owner session.runs.items session.lives.items c.in-Idle.disk life (rw w.if-self.false at idle) c.in-Ok.ensures.opened named)
    ]

pub invariant_of-self-in-Err-open : goal.invariant_of-self-in-Err-open
invariant_of-self-in-Err-open c =
    let session = c.self.inside in
    let owner = owner_of session.setup.settings in
    let idle = subst (λ (s : SessionStage). IsSession owner session.apart session.runs.items session.lives.items s) (sym c.replace.ensures.value ∙ c.in-Idle.is) c.self.invariant in
    rw c.reserve.ensures.items (session-refused owner session.runs.items session.lives.items session.apart c.in-Idle.disk c.in-Err-open.disk idle c.in-Err-open.ensures.spared)

pub returns-in-Err-open : goal.returns-in-Err-open
returns-in-Err-open c =
    let p = c.args.self.now in
    let idle : c.self.inside.stage ≡ Idle c.in-Idle.disk = sym c.replace.ensures.value ∙ c.in-Idle.is in
    let at : p.disk ≡ Some c.in-Idle.disk = sym (ap (λ (p : Playing). p.disk) c.self.view_is) ∙ ap disk_in idle in
    let left : the_view (record c.self.inside { runs = c.reserve.new.self; stage = Idle c.in-Err-open.disk }) ≡ record p { disk = Some c.in-Err-open.disk } =
    subst (λ (p : Playing). the_view (record c.self.inside { runs = c.reserve.new.self; stage = Idle c.in-Err-open.disk }) ≡ record p { disk = Some c.in-Err-open.disk }) c.self.view_is (rw (c.reserve.ensures.items, idle) refl) in
    let session = c.self.inside in
    let owner = owner_of session.setup.settings in
    let stands = subst (λ (s : SessionStage). IsSession owner session.apart session.runs.items session.lives.items s) idle c.self.invariant in
    let lived : session.apart ≡ false → 0 < length (map asked_of session.lives.items) → ComesAfterLives (refusal.Open c.in-Err-open.fault) = λ same some.
    let held = session-held owner session.apart session.runs.items session.lives.items c.in-Idle.disk stands same (rw (length-map session.lives.items asked_of) at some) in
    after_lives c.in-Err-open.fault (c.in-Err-open.ensures.lived held.0 held.1) in
    opening-refused p _ c.in-Idle.disk c.in-Err-open.disk at c.in-Err-open.fault c.refused.result
    (λ room. subst (λ (p : Playing). IsRefused p.setup c.in-Idle.disk (refusal.Open c.in-Err-open.fault) c.in-Err-open.disk) c.self.view_is (c.in-Err-open.ensures.cause room))
    (subst (λ (p : Playing). p.apart ≡ false → 0 < length p.lives → ComesAfterLives (refusal.Open c.in-Err-open.fault)) c.self.view_is lived)
    left c.refused.ensures.ok c.refused.ensures.memory

pub returns-after-self : goal.returns-after-self
returns-after-self c =
    let session = c.self.inside in
    let p = c.args.self.now in
    let life = c.in-Ok.living in
    let idle : c.self.inside.stage ≡ Idle c.in-Idle.disk = sym c.replace.ensures.value ∙ c.in-Idle.is in
    let at : p.disk ≡ Some c.in-Idle.disk = sym (ap (λ (p : Playing). p.disk) c.self.view_is) ∙ ap disk_in idle in
    let can : CanOpen p.setup = subst (λ (p : Playing). CanOpen p.setup) c.self.view_is (record { sound = c.in_default.ensures.ok; least = c.in-Ok.ensures.limit.0; most = c.in-Ok.ensures.limit.1 }) in
    let sound : shown (owner_of p.setup.settings) (disk_state c.in-Idle.disk).content ≡ None = subst (λ (p : Playing). shown (owner_of p.setup.settings) (disk_state c.in-Idle.disk).content ≡ None) c.self.view_is c.in-Ok.ensures.whole in
    let begun : the_view (record c.if-self.self-inside { apart = false; stage = Open life }) ≡ with_life c.in-Idle.disk c.first-first.result life.left p =
    subst (λ (p : Playing). the_view (record c.if-self.self-inside { apart = false; stage = Open life }) ≡ with_life c.in-Idle.disk c.first-first.result life.left p) c.self.view_is (elim c.if-self.branch [
      | then-self w ↦ rw (w.self-inside-is, w.if-self.true, w.close_run.ensures.runs, w.close_run.ensures.lives, c.reserve.ensures.items, c.in-Ok.ensures.setup.0, c.in-Ok.ensures.setup.1, c.in-Ok.ensures.opened, c.first-first.ensures, c.in-Ok.ensures.empty.0, c.in-Ok.ensures.empty.1) refl
      | else-self w ↦ rw (w.self-inside-is, w.if-self.false, c.reserve.ensures.items, c.in-Ok.ensures.setup.0, c.in-Ok.ensures.setup.1, c.in-Ok.ensures.opened, c.first-first.ensures, c.in-Ok.ensures.empty.0, c.in-Ok.ensures.empty.1) refl
    ]) in
    opening-begun p _ c.in-Idle.disk life.left at c.first-first.result can sound (c.first-first.ensures ∙ c.in-Ok.ensures.first) begun
