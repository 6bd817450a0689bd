-- Texts of places, one after the other.
use Rattle.std.proofs.Common.{◌≡◌, ◌≢◌, ℕ, zero, suc, ◌<◌, List, [], ◌∷◌, ◌++◌, length, get_or, All, Some, refl, ap, ◌∙◌, arith}
use Rattle.std.proofs.lemmas.List.Elements.{All-head, All-tail}
use Rattle.toml.specs.Data.{as_str}
use Rattle.toml.specs.View.{view, items_view}
use Rattle.toml.specs.declared.value.Value.{Value}
use Rattle.swim_settings.specs.declared.place.Place.{Place}
use Rattle.swim_settings.specs.Says.{AreTexts, IsPlace, place_text}

-- one more text, and one more place
pub AreTexts-append : (vs : List Value) (ps : List Place) (v : Value) (p : Place) → AreTexts (items_view vs) ps
    → as_str (view v) ≡ Some (place_text p) → AreTexts (items_view (vs ++ v ∷ [])) (ps ++ p ∷ [])
AreTexts-append [] [] v p are is = (is, tt)
AreTexts-append [] (f ∷ ps) v p are is = absurd are
AreTexts-append (w ∷ vs) [] v p are is = absurd are
AreTexts-append (w ∷ vs) (f ∷ ps) v p are is = (are.0, AreTexts-append vs ps v p are.1 is)

-- there are as many texts as places
pub AreTexts-length : (vs : List Value) (ps : List Place) → AreTexts (items_view vs) ps → length ps ≡ length vs
AreTexts-length [] [] are = refl
AreTexts-length [] (p ∷ ps) are = absurd are
AreTexts-length (v ∷ vs) [] are = absurd are
AreTexts-length (v ∷ vs) (p ∷ ps) are = ap suc (AreTexts-length vs ps are.1)

-- a value that is no place's text is none of these
pub no_place : (vs : List Value) (ps : List Place) (i : ℕ) (v : Value) → i < length vs → v ≡ get_or vs i v
    → ((p : Place) → IsPlace p → as_str (view v) ≢ Some (place_text p)) → AreTexts (items_view vs) ps → All IsPlace ps → ⊥
no_place [] ps i v less at none are places = omega (arith, less)
no_place (w ∷ vs) [] i v less at none are places = are
no_place (w ∷ vs) (p ∷ ps) zero v less at none are places =
    none p (All-head IsPlace p ps places) (ap (λ (u : Value). as_str (view u)) at ∙ are.0)
no_place (w ∷ vs) (p ∷ ps) (suc i) v less at none are places =
    no_place vs ps i v (omega (arith, less)) at none are.1 (All-tail IsPlace p ps places)
