-- The text of an endpoint, and the word for what an update says.
use Rattle.std.specs.Prelude.{ℕ, ◌/◌, ◌%◌, List, ◌∷◌, ◌++◌, codes}
use Rattle.std.specs.Fmt.{decimal}
use Rattle.swim_wire.specs.declared.update.UpdateKind.{UpdateKind}
use Rattle.swim_wire.specs.declared.update.UpdateKind.TheVariants.{Alive, Suspect, Confirm}

-- a text with this byte between two parts
abbrev pub split_by : ℕ → List ℕ → List ℕ → List ℕ
split_by byte before after = before ++ byte ∷ after

-- four numbers with dots, a colon and the port
abbrev pub dotted : ℕ → ℕ → ℕ → ℕ → ℕ → List ℕ
dotted a b c d port =
    split_by 46 (decimal a)
    (split_by 46 (decimal b)
    (split_by 46 (decimal c)
    (split_by 58 (decimal d) (decimal port))))

-- the text of an endpoint, as `10.0.0.1:7000`
abbrev pub endpoint_text : ℕ → List ℕ
endpoint_text e =
    dotted (e / 65536 / 16777216) (e / 65536 / 65536 % 256) (e / 65536 / 256 % 256)
    (e / 65536 % 256) (e % 65536)

-- the word for what an update says
abbrev pub kind_word : UpdateKind → List ℕ
kind_word Alive = codes "alive"
kind_word Suspect = codes "suspect"
kind_word Confirm = codes "confirm"
