-- How the program ends before it is done.
use Rattle.std.specs.Prelude.{ℕ, ℤ, pos, Bool, false, Option, None, Some, if◌then◌else◌, ◌==◌, ◌||◌}
use Rattle.std.specs.declared.io.ErrorKind.{ErrorKind}
use Rattle.std.specs.declared.io.ErrorKind.TheVariants as kinds
use Rattle.swim_exit.specs.declared.exits.Exit.{Exit}
use Rattle.swim_exit.specs.declared.exits.Exit.TheVariants.{Address, Device, Expelled, File}
use Rattle.swim_exit.specs.declared.exits.Exit.TheVariants.{Locked, Memory, NoLocks, Output}
use Rattle.swim_exit.specs.declared.exits.Exit.TheVariants.{ReadOnly}
use Rattle.swim_exit.specs.declared.exits.Exit.TheVariants.{Script, Settings, Unread, Words}
use Rattle.swim_exit.specs.declared.exits.TheConstants.{UNREAD}

-- the exit status: 2 where a word, the settings or a script is at fault, 3 where the member was
-- expelled and was to end then, 141 where nobody reads standard output any more, and 1 else
abbrev pub ending_status : Exit → ℕ
ending_status Address = 2
ending_status Words = 2
ending_status (Settings refusal) = 2
ending_status (Script fault) = 2
ending_status Expelled = 3
ending_status Unread = UNREAD
ending_status _ = 1

-- the exit where a file is refused with an error of this number, which may be the disk's
abbrev pub refused_by : Option ℤ → Exit
refused_by (Some (pos code)) = if code == 5 then Device else File
refused_by _ = File

-- the exit by an error of this kind and number: the lack of memory, what is wrong with the file
-- system or the disk of a file, or else the other one
abbrev pub ending_by : ErrorKind → Option ℤ → Exit → Exit
ending_by kinds.OutOfMemory code otherwise = Memory
ending_by kinds.ReadOnlyFilesystem code File = ReadOnly
ending_by kind code File = refused_by code
ending_by kind code otherwise = otherwise

-- an error of this number says that the file system gives no lock
abbrev pub has_no_locks : Option ℤ → Bool
has_no_locks (Some (pos code)) = code == 37 || (code == 38 || code == 95)
has_no_locks _ = false

-- the exit where a state file is not opened or locked, by an error of this kind and number: another
-- process has its lock, its file system gives none, or as of each file
abbrev pub ending_of_state_file : ErrorKind → Option ℤ → Exit
ending_of_state_file kinds.ResourceBusy None = Locked
ending_of_state_file kind code = if has_no_locks code then NoLocks else ending_by kind code File

-- the exit by an error of standard output
abbrev pub ending_of_output : ErrorKind → Exit
ending_of_output kinds.BrokenPipe = Unread
ending_of_output _ = Output
