-- What contracts see of the callers of a shared member.
use Rattle.std.specs.Prelude.{◌≡◌, Bool, ◌||◌, false, ℕ, List, []}
use Rattle.swim_member.specs.declared.event.Event.{Event}
use Rattle.swim_node.specs.History.{Base}
use Rattle.swim_shared.specs.Passes.{PassView, IsPass, new_pass}
use Rattle.swim_shell.specs.Calls.{CallerView}
use Rattle.swim_handle.specs.declared.call_log.CallLog.{CallLog}

-- who calls by a pass has seen what the pass has read back, and is spent at the latest when it is
abbrev pub view_of : PassView → Bool → List Event → CallerView
view_of p spent asked = record {
  caller = p.caller;
  seen = p.seen;
  spent = spent || p.spent;
  asked = asked;
}

-- a caller of this number that was asked for nothing yet
abbrev pub new_caller : ℕ → CallerView
new_caller caller = view_of (new_pass caller) false []

-- who knows so much has called by this pass
pub record HasCalledBy (pass : PassView) (known : CallerView) : Type 0 where
  pub spent : Bool
  pub asked : List Event
  pub known_is : known ≡ view_of pass spent asked

-- the pass is left of a caller that knows so much
abbrev pub HasParts : Base → CallerView → PassView → Type 0
HasParts base known pass = HasCalledBy pass known × IsPass base pass

-- what a contract sees of a handle: what it knows, and what it has logged and counted
pub record HandleView : Type 0 where
  pub known : CallerView
  pub log : CallLog
