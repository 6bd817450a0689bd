-- Starts that were refused.
use Rattle.std.proofs.Common.{◌≡◌, ℕ, subst, sym}
use Rattle.swim_disk.specs.Disk.{DiskState}
use Rattle.swim_member.specs.declared.settings.Settings.{Settings}
use Rattle.swim_node.specs.Node.{owner_of}
use Rattle.swim_state.specs.Held.{Covers, Held, Through}
use Rattle.rollerblack.specs.OverUdp.{RefusesStart}
use Rattle.rollerblack.specs.declared.over_udp.StartFault.{StartFault}
use Rattle.rollerblack.specs.declared.over_udp.StartFault.TheVariants.{Memory}

-- no moment left less than what was held
abbrev pub Keeps : {D : Type 0} → Type 0 → (D → DiskState) → Settings → D → D → Type 0
Keeps keeps state settings opened left =
    keeps → (b : ℕ) → Held (owner_of settings) (state opened) b → Through (Covers (owner_of settings) b) (state opened) (state left)

-- a life that has no memory for its workers leaves the disk of its node
pub without_memory : {D : Type 0} (keeps : Type 0) (state : D → DiskState) (settings : Settings) (limit : ℕ) (opened left kept : D) (why : StartFault) → left ≡ kept → why ≡ Memory → Keeps keeps state settings opened kept → RefusesStart keeps state settings limit opened left why
without_memory {D} keeps state settings limit opened left kept why left_is why_is held =
    subst (λ (w : StartFault). RefusesStart keeps state settings limit opened left w) (sym why_is)
    (subst (λ (d : D). Keeps keeps state settings opened d) (sym left_is) held)
