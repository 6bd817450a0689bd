use Rattle.std.proofs.Common.{◌≡◌, ◌==◌, ℕ, List, true, false, length, inl, inr, sym, ap, ◌∙◌}
use Rattle.swim_member.specs.declared.event.Event.TheVariants as event
use Rattle.swim_record.proofs.Events.{asked}
use Rattle.swim_record.proofs.event.read_members.Goals as goal

pub returns : goal.returns
returns c e fits begins says =
    let a = asked e c.args.text.now fits begins says in
    elim a.says [
      | inl none ↦
          let empty : (length c.args.text.now == 0) ≡ true = ap (λ (l : List ℕ). length l == 0) none.1 in
          let both : true ≡ false = sym empty ∙ sym c.is_empty.ensures ∙ c.if-is_empty.false in
          absurd (cc)
      | inr some ↦ ap (λ (n : ℕ). event.Members n) (c.at-after.ensures ∙ c.in_ok-who.ensures a.after some.0 some.1) ∙ sym a.is
    ]
