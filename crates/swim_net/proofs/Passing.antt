-- What is read and written is what the stream below gives and takes.
use Rattle.std.proofs.Common.{ℕ, List, ◌∙◌, subst}
use Rattle.std.specs.Prelude.{Option, Some, None, Result, Ok, Err}
use Rattle.std.specs.Io.KnownBytes.{Keeps, WriteAppends}
use Rattle.swim_shell.proofs.Writing.{keeps_same as keeps_same_bytes}

-- known bytes that stay twice stay
pub keeps_on : (a b c : Option (List ℕ)) → Keeps a b → Keeps b c → Keeps a c
keeps_on None b c h k = tt
keeps_on (Some xs) None c h k = absurd h
keeps_on (Some xs) (Some ys) None h k = absurd k
keeps_on (Some xs) (Some ys) (Some zs) h k = k ∙ h

-- known bytes that are left alone stay
pub keeps_same : (a : Option (List ℕ)) → Keeps a a
keeps_same = keeps_same_bytes

-- a write after those that took nothing is the one write
pub writes_after : {E : Type 0} (a b c : Option (List ℕ)) (r : Result ℕ E) (buf : List ℕ) → Keeps a b → WriteAppends b c r buf → WriteAppends a c r buf
writes_after a b c (Err e) buf h k = keeps_on a b c h k
writes_after None b c (Ok n) buf h k = tt
writes_after (Some xs) None c (Ok n) buf h k = absurd h
writes_after {E} (Some xs) (Some ys) c (Ok n) buf h k = subst (λ w. WriteAppends {E = E} (Some w) c (Ok n) buf) h k
