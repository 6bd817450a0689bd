-- How the ends of an era's workers end the member.
use Rattle.std.specs.Prelude.{Option, Some, None}
use Rattle.std.specs.Option.{option_map, option_or}
use Rattle.swim_shell.specs.declared.caller.Refusal.TheVariants as refusal
use Rattle.swim_shell.specs.declared.conversation.ControlEnd.{ControlEnd}
use Rattle.swim_shell.specs.declared.conversation.ControlEnd.TheVariants as control
use Rattle.swim_shell.specs.declared.worker.WorkerEnd.{WorkerEnd}
use Rattle.swim_shell.specs.declared.worker.WorkerEnd.TheVariants as worker
use Rattle.swim_serve.specs.declared.fault.Fault.{Fault}
use Rattle.swim_serve.specs.declared.fault.Fault.TheVariants as fault
use Rattle.swim_serve.specs.declared.era.EraFault.{EraFault}
use Rattle.swim_serve.specs.declared.era.EraFault.TheVariants as era
use Rattle.swim_serve.specs.Works.{EraEnds}

-- an era could not be: for want of memory, as its first call was refused, or since its journal does
-- not have the calls of a worker as that one knows them
abbrev pub fault_by : EraFault → Fault
fault_by (era.Refused refusal.Memory) = fault.Memory
fault_by (era.Refused why) = fault.Worker (worker.Refused why)
fault_by era.Odd = fault.Odd

-- a worker's own end is a fault of it, but where the era is full
abbrev pub fault_by_end : Option WorkerEnd → Option Fault
fault_by_end None = None
fault_by_end (Some (worker.Refused refusal.EraFull)) = None
fault_by_end (Some end) = Some (fault.Worker end)

-- the desk ends itself where a call was refused; the end of a connection is none of its own, and
-- neither are `stop`, `record` and `reload`
abbrev pub refused_desk : Option ControlEnd → Option WorkerEnd
refused_desk (Some (control.Refused why)) = Some (worker.Refused why)
refused_desk _ = None

-- the first fault is told, in this order of the workers
abbrev pub fault_of : EraEnds → Option Fault
fault_of ends = option_or (fault_by_end ends.receiver)
    (option_or (fault_by_end (option_map worker.Refused ends.ticker))
    (option_or (fault_by_end (option_map worker.Refused ends.sender))
    (fault_by_end (refused_desk ends.control))))
