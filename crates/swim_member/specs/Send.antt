-- Datagrams of this member, and what they carry.
use Rattle.std.specs.Prelude.{ℕ, ◌+◌, ◌*◌, nat_lt, List, length, if◌then◌else◌}
use Rattle.swim_gossip.specs.Queue.{picked_updates}
use Rattle.swim_member.specs.Checks.{rules_of}
use Rattle.swim_member.specs.Member.{eligible}
use Rattle.swim_member.specs.State.{State, Change, Sent}
use Rattle.swim_wire.specs.declared.datagram.Datagram.{Datagram}
use Rattle.swim_wire.specs.declared.datagram.Kind.{Kind}
use Rattle.swim_wire.specs.declared.datagram.TheConstants.{UPDATES_MAX}
use Rattle.swim_wire.specs.declared.update.Update.{Update}

-- the number of binary digits of n, below 2 ^ 9
abbrev pub bits : ℕ → ℕ
bits n =
    if nat_lt n 2 then 1
    else (if nat_lt n 4 then 2
    else (if nat_lt n 8 then 3
    else (if nat_lt n 16 then 4
    else (if nat_lt n 32 then 5
    else (if nat_lt n 64 then 6
    else (if nat_lt n 128 then 7
    else (if nat_lt n 256 then 8 else 9)))))))

-- how often an update is sent
abbrev pub limit : State → ℕ
limit s = s.settings.lambda * bits (1 + length (eligible s))

-- what a ping, a ping-req or an ack carries now
abbrev pub carried_updates : State → List Update
carried_updates s = picked_updates (limit s) UPDATES_MAX s.queue

-- a datagram of this member
abbrev pub datagram : State → Kind → ℕ → ℕ → List Update → Datagram
datagram s kind seq subject updates =
    record {
      version = rules_of s.settings;
      kind = kind;
      group = s.settings.group;
      seq = seq;
      sender = s.settings.me;
      subject = subject;
      updates = record { items = updates };
    }

-- it goes out with what waits
abbrev pub send : State → ℕ → Kind → ℕ → ℕ → Change
send s to kind seq subject = Sent to (datagram s kind seq subject (carried_updates s))
