use Rattle.std.proofs.Common.{◌∙◌, ◌++◌, ◌∷◌, ◌*◌, [], drop, refl, sym, ap, subst, arith, inr}
use Rattle.std.proofs.lemmas.List.{drop-drop, length-set, take_more_set}
use Rattle.swim_wire.specs.declared.fault.WireFault.TheVariants.{Endpoint, UpdateKind}
use Rattle.swim_wire.specs.Updates.{HasNoMember, HasUnknownCode, update_of}
use Rattle.swim_wire.specs.Reading.{updates_of}
use Rattle.swim_wire.proofs.Updates.{updates_of-more}
use Rattle.swim_wire.proofs.reading.read_over.Goals as goal

pub loop-i-init : goal.loop-i-init
unfolding updates_of
loop-i-init c = record { read = refl; long = refl }

pub from_bytes-requires-clause-member : goal.from_bytes-requires-clause-member
from_bytes-requires-clause-member c =
    λ e. c.requires.faultless Endpoint (inr (inr (c.loop-i.i, (omega arith, subst HasNoMember c.update_at.ensures.text e))))

pub from_bytes-requires-clause-kind : goal.from_bytes-requires-clause-kind
from_bytes-requires-clause-kind c =
    λ h. c.requires.faultless UpdateKind (c.loop-i.i, (omega arith, subst HasUnknownCode c.update_at.ensures.text h))

pub loop-i-preserved : goal.loop-i-preserved
loop-i-preserved c =
    let text = c.update_at.ensures.text ∙ sym (drop-drop (16 * c.loop-i.i) 32 c.args.bytes.now) in
    let update = c.from_bytes.ensures ∙ ap update_of text in
    record {
      read = take_more_set c.loop-i.updates c.loop-i.i c.from_bytes.result (omega arith)
          ∙ (λ i. c.loop-i.invariant.read i ++ update i ∷ [])
          ∙ sym (updates_of-more c.loop-i.i (drop 32 c.args.bytes.now));
      long = length-set c.loop-i.updates c.loop-i.i c.from_bytes.result ∙ c.loop-i.invariant.long;
    }
