-- What is done, joined with the trace of the rest, is the whole trace. Assumes nothing.
use Rattle.std.specs.Prelude.{◌≡◌, ◌-◌, ◌*◌, ◌≤◌, length, drop}
use Rattle.carrying.specs.Lent.{as_device, SameArrays}
use Rattle.device.specs.Lists.{trace_of}
use Rattle.device.proofs.Runs.{joined}
use Rattle.device.proofs.lists.run_events.Given as goal

abbrev pub invariant-loop-index : goal.invariant-loop-index
invariant-loop-index l =
    record {
      within : l.index ≤ l.total;
      slots : length l.slots ≡ length l.initial.slots;
      arrays : SameArrays l.initial.device l.device;
      whole :
          joined l.index l.slots (trace_of l.description (l.limit - l.index) (as_device l.device) (drop (3 * l.index) l.list))
          ≡ joined 0 l.initial.slots (trace_of l.description l.limit (as_device l.initial.device) l.list);
    }
