-- Why not all bytes were written.
use Rattle.std.specs.Prelude.{ℕ, ◌≤◌, List, length, take}
use Rattle.dubbo_io.specs.Count.{Rose}
use Rattle.dubbo_io.specs.Sink.{SinkState, Sends}
use Rattle.dubbo_io.specs.declared.writing.WriteFault.{WriteFault}
use Rattle.dubbo_io.specs.declared.writing.WriteFault.TheVariants.{Fault}

-- how many bytes a fault says are gone
abbrev pub gone_of : WriteFault → ℕ
gone_of (Fault faults gone) = gone

-- how many failed calls a fault tells
abbrev pub faults_of : WriteFault → ℕ
faults_of (Fault faults gone) = faults

-- the sink failed when exactly the front that the fault names was gone
pub record StopsWriting {Badge : Type 0} (old new : SinkState Badge) (bytes : List ℕ) (fault : WriteFault) : Type 0 where
  pub within : gone_of fault ≤ length bytes
  pub sends : Sends old new (take (gone_of fault) bytes)
  pub rose : Rose old.faults new.faults
  pub some : 1 ≤ faults_of fault
  pub told : faults_of fault ≤ new.faults
