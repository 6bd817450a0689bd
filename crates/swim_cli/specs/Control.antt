-- The words after `swim ctl`.
use Rattle.std.specs.Prelude.{◌≡◌, ◌⊎◌, ℕ, List, codes}

-- a control line begins with the word
abbrev pub BeginsLine : List ℕ → Type 0
BeginsLine word =
    (word ≡ codes "status") ⊎ (word ≡ codes "about") ⊎ (word ≡ codes "members")
    ⊎ (word ≡ codes "counters") ⊎ (word ≡ codes "join") ⊎ (word ≡ codes "leave")
    ⊎ (word ≡ codes "record")
    ⊎ (word ≡ codes "reload") ⊎ (word ≡ codes "stop")
