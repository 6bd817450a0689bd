-- Which file a path names.
use Rattle.std.specs.Prelude.{◌≡◌, ℕ, Bool, true, false, ◌&&◌, ◌==◌, nat_le, not, max}
use Rattle.std.specs.Prelude.{[], ◌∷◌, ◌++◌, Result, Ok, Err}
use Rattle.std.specs.declared.io.ErrorKind.{ErrorKind}
use Rattle.std.specs.declared.io.ErrorKind.TheVariants as kinds
use Rattle.swim_start.specs.declared.named_file.Found.{Found}
use Rattle.swim_start.specs.declared.own_file.OwnFile.{OwnFile}

-- the same file by its device and inode, and no shorter than it once was
abbrev pub is_same_file : Found → ℕ → Found → Bool
is_same_file opened longest found =
    found.device == opened.device && found.inode == opened.inode && nat_le longest found.length

-- an error that says that there is no file
abbrev pub is_missing : ErrorKind → Bool
is_missing kinds.NotFound = true
is_missing kinds.NotADirectory = true
is_missing _ = false

-- what the system answers where a path still names a file that had so many bytes, or cannot tell
abbrev pub shows : Found → ℕ → Result Found ErrorKind → Bool
shows opened longest (Ok found) = is_same_file opened longest found
shows opened longest (Err kind) = not (is_missing kind)

-- the greatest length that was seen, after an answer
abbrev pub longest_after : ℕ → Result Found ErrorKind → ℕ
longest_after longest (Ok found) = max longest found.length
longest_after longest (Err kind) = longest

-- one look at the path. Whoever says that the file is there was shown it, no shorter than before
pub record LooksOnce {R : Type 0} (is_there : Bool) (old new : OwnFile R) : Type 0 where
  pub answer : Result Found ErrorKind
  pub once : new.named.looks ≡ old.named.looks ++ answer ∷ []
  pub shown : is_there ≡ true → shows old.opened old.longest answer ≡ true
  pub longest : new.longest ≡ longest_after old.longest answer
  pub opened : new.opened ≡ old.opened
