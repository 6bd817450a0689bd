-- What the calls do to the member that a handle leads to.
use Rattle.std.specs.Prelude.{◌≡◌, ◌≢◌, ℕ, [], Option, Some, None}
use Rattle.swim_library.specs.Codes.{CLOSED, IsDoneOrLacks, OK, WAITING}
use Rattle.swim_library.specs.Outbox.{waiting_in}
use Rattle.swim_library.specs.declared.handle.member.SwimMember.{SwimMember}
use Rattle.swim_library.specs.declared.running.Running.{Running}

-- the member that a handle leads to, if it is open
abbrev pub held : SwimMember → Option Running
held member = member.slot.kept

-- the handle led to a member, leads to one, and this became of it
pub record HandleBecomes (old new : SwimMember) (How : Running → Running → Type 0) : Type 0 where
  pub before : Running
  pub after : Running
  pub was : held old ≡ Some before
  pub is : held new ≡ Some after
  pub how : How before after

-- What a call with an event comes to, by its code: at OK the member became so, and at any other
-- code it is as it was. A closed handle and datagrams that wait are told; else it is done, or there
-- is no memory.
pub record TriesToEnter (old new : SwimMember) (code : ℕ) (How : Running → Running → Type 0)
    : Type 0 where
  pub entered : code ≡ OK → HandleBecomes old new How
  pub refused : code ≢ OK → held new ≡ held old
  pub closed : held old ≡ None → code ≡ CLOSED
  pub waits : (running : Running) → held old ≡ Some running → waiting_in running.outbox ≢ []
      → code ≡ WAITING
  pub answers : (running : Running) → held old ≡ Some running → waiting_in running.outbox ≡ []
      → IsDoneOrLacks code
