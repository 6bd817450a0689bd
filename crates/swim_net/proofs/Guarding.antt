-- What one more byte does to the guard of a connection.
use Rattle.std.proofs.Common.{◌≡◌, ◌≢◌, ℕ, ◌<◌, ◌≤◌, Bool, true, false, List, [], ◌∷◌, ◌++◌, length, take, refl, sym, ◌∙◌, ap, inl, inr, arith}
use Rattle.std.specs.Prelude.{min}
use Rattle.std.proofs.lemmas.List.{take-append-le, take_all, length-take}
use Rattle.std.proofs.lemmas.Grind.{common_steps}
use Rattle.std.proofs.Math.Logic.{∥∥₁_map}
use Rattle.swim_shell.specs.Lines.{IsLine}
use Rattle.swim_shell.specs.Requests.{Names}
use Rattle.swim_shell.specs.declared.lines.LineText.{LineText}
use Rattle.swim_shell.specs.declared.request.Request.{Request}
use Rattle.swim_net.specs.declared.guard.Verdict.TheVariants.{Known, Refused, Http}
use Rattle.swim_net.specs.Guard.{StaysOpen, begins, more, known, first, Ends, IsHead, Judges, begins_as_http, is_no_line}

-- a head of 64 bytes is that of no fewer
full_length : (head bytes : List ℕ) → head ≡ take 64 bytes → length head ≡ 64 → 64 ≤ length bytes
full_length head bytes is full = let long : length head ≡ min 64 (length bytes) = ap length is ∙ length-take 64 bytes in omega (arith, long, full)

room_length : (head bytes : List ℕ) → head ≡ take 64 bytes → length head < 64 → length bytes < 64
room_length head bytes is room = let long : length head ≡ min 64 (length bytes) = ap length is ∙ length-take 64 bytes in omega (arith, long, room)

pub head_full : (long : Bool) (head bytes : List ℕ) (byte : ℕ) → IsHead long head bytes → length head ≡ 64 → IsHead true head (bytes ++ byte ∷ [])
head_full long head bytes byte h full = let enough = full_length head bytes h.first full in record {
  first = h.first ∙ sym (take-append-le 64 bytes (byte ∷ []) enough);
  over = λ _. grind (arith, common_steps, enough);
  within = λ e. cc;
}

pub head_room : (long : Bool) (head bytes : List ℕ) (byte : ℕ) → IsHead long head bytes → length head < 64 → IsHead long (head ++ byte ∷ []) (bytes ++ byte ∷ [])
head_room long head bytes byte h room = let few = room_length head bytes h.first room in
    let whole : take 64 bytes ≡ bytes = take_all 64 bytes (omega (arith, few)) in record {
      first = ap (λ s. s ++ byte ∷ []) (h.first ∙ whole) ∙ sym (take_all 64 (bytes ++ byte ∷ []) (grind (arith, common_steps, few)));
      over = λ e. absurd (omega (arith, few, h.over e));
      within = λ e. grind (arith, common_steps, few);
    }

pub head_whole : (head bytes : List ℕ) → IsHead false head bytes → head ≡ bytes
head_whole head bytes h = h.first ∙ take_all 64 bytes (h.within refl)

pub on_more : (passed part : List ℕ) (refused : Bool) (byte : ℕ) → byte ≢ 10 → ∥ StaysOpen passed part refused ∥₁ → ∥ StaysOpen (passed ++ byte ∷ []) (part ++ byte ∷ []) refused ∥₁
on_more passed part refused byte no_end on = ∥∥₁_map on (more passed part refused byte no_end)

pub on_known : (passed part : List ℕ) (refused : Bool) → Judges part Known → ∥ StaysOpen passed part refused ∥₁ → ∥ StaysOpen (passed ++ 10 ∷ []) [] refused ∥₁
on_known passed part refused is on = ∥∥₁_map on (known passed part refused is)

pub on_first : (passed part : List ℕ) → Judges part Refused → ∥ StaysOpen passed part false ∥₁ → ∥ StaysOpen (passed ++ 10 ∷ []) [] true ∥₁
on_first passed part is on = ∥∥₁_map on (first passed part is)

pub ends_http : (passed part : List ℕ) (refused : Bool) → Judges part Http → ∥ StaysOpen passed part refused ∥₁ → ∥ Ends (passed ++ 10 ∷ []) ∥₁
ends_http passed part refused is on = ∥∥₁_map on (λ goes. record { before = passed; part = part; refused = refused; on = goes; last = refl; by = inl is })

pub ends_second : (passed part : List ℕ) → Judges part Refused → ∥ StaysOpen passed part true ∥₁ → ∥ Ends (passed ++ 10 ∷ []) ∥₁
ends_second passed part is on = ∥∥₁_map on (λ goes. record { before = passed; part = part; refused = true; on = goes; last = refl; by = inr (refl, is) })

start_on : ∥ StaysOpen [] [] false ∥₁
start_on = ∣ begins ∣₁

pub begins_on : (passed part : List ℕ) → passed ≡ [] → part ≡ [] → ∥ StaysOpen passed part false ∥₁
begins_on passed part e f = rw e (rw f start_on)

not_http : (text head seen : List ℕ) (http : Bool) → head ≡ take 64 text → seen ≡ head → http ≡ begins_as_http seen → http ≡ false → begins_as_http (take 64 text) ≡ false
not_http text head seen http is same told none = ap begins_as_http (sym (same ∙ is)) ∙ sym told ∙ none

pub judged_refused : (text head seen : List ℕ) (http refused : Bool) (line : LineText) (request : Request) → head ≡ take 64 text → seen ≡ head → http ≡ begins_as_http seen → http ≡ false → IsLine text line → ((t : List ℕ) → IsLine t line → Names t request) → refused ≡ is_no_line request → refused ≡ true → Judges text Refused
judged_refused text head seen http refused line request is same told none line_is names told_of asks = (not_http text head seen http is same told none, record { request = request; names = names text line_is; is = sym told_of ∙ asks })

pub judged_known : (text head seen : List ℕ) (http refused : Bool) (line : LineText) (request : Request) → head ≡ take 64 text → seen ≡ head → http ≡ begins_as_http seen → http ≡ false → IsLine text line → ((t : List ℕ) → IsLine t line → Names t request) → refused ≡ is_no_line request → refused ≡ false → Judges text Known
judged_known text head seen http refused line request is same told none line_is names told_of asks = (not_http text head seen http is same told none, record { request = request; names = names text line_is; is = sym told_of ∙ asks })
