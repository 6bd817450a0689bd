-- The first lines of a recording are read in one way.
use Rattle.std.proofs.Common.{◌≡◌, ℕ, Contains, List, [], ◌∷◌, ◌++◌, refl, ap, append_assoc, Option, Some, None}
use Rattle.std.specs.Prelude.{IfSome, codes}
use Rattle.swim_words.proofs.Tables.{named_in, in_table, same_value}
use Rattle.swim_words.specs.Words.{Lacks}
use Rattle.swim_words.proofs.Splits.{lacks_byte}
use Rattle.swim_record.specs.EraTimes.{IsEraTime, time_text}
use Rattle.swim_record.specs.Recording.{recording_head}
use Rattle.swim_record.specs.declared.time.EraTime.{EraTime}
use Rattle.swim_replay.specs.Versions.{version_text}
use Rattle.swim_replay.specs.declared.heading.TheConstants.TextVersion.{ALL}
use Rattle.swim_replay.specs.declared.heading.TextVersion.{TextVersion}
use Rattle.swim_replay.specs.declared.heading.TextVersion.TheVariants.{First, Second}

pub version_lacks : (v : TextVersion) → Lacks 10 (version_text v)
version_lacks First = lacks_byte 10 (version_text First) refl
version_lacks v = lacks_byte 10 (version_text v) refl

versions : (v : TextVersion) → named_in version_text ALL (version_text v) ≡ Some v
versions First = refl
versions _ = refl

pub all_versions : (v : TextVersion) → Contains ALL v
all_versions v = in_table version_text ALL (version_text v) v (versions v)

pub same_version : (v w : TextVersion) → version_text v ≡ version_text w → v ≡ w
same_version v w same = same_value version_text ALL versions v w same

-- what the first line of a head says, and what follows that line

abbrev pub head_version : Option EraTime → TextVersion
head_version None = First
head_version (Some t) = Second

abbrev pub head_rest : Option EraTime → List ℕ → List ℕ
head_rest None body = body
head_rest (Some t) body = time_text t ++ 10 ∷ body

pub head_parts : (time : Option EraTime) (body : List ℕ) → recording_head time ++ body ≡ version_text (head_version time) ++ 10 ∷ head_rest time body
head_parts None body = refl
head_parts (Some t) body = ap (λ (text : List ℕ). codes "recording 2" ++ 10 ∷ text) (append_assoc (time_text t) (10 ∷ []) body)

pub first_head : (time : Option EraTime) (body rest : List ℕ) → First ≡ head_version time → rest ≡ head_rest time body → (None ≡ time) × (rest ≡ body)
first_head None body rest version is = (refl, is)
first_head (Some t) body rest version is = absurd (cc)

pub record HasTime (time : Option EraTime) (body rest : List ℕ) : Type 0 where
  pub t : EraTime
  pub is : time ≡ Some t
  pub fits : IsEraTime t
  pub text : rest ≡ time_text t ++ 10 ∷ body

pub second_head : (time : Option EraTime) (body rest : List ℕ) → IfSome time IsEraTime → Second ≡ head_version time → rest ≡ head_rest time body → HasTime time body rest
second_head None body rest fits version is = absurd (cc)
second_head (Some t) body rest fits version text = record { t = t; is = refl; fits = fits; text = text }
