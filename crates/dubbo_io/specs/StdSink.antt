-- What contracts see of a sink over a writer: how often it failed, and no bytes.
use Rattle.std.specs.Prelude.{None, ⊤}
use Rattle.dubbo_io.specs.Sink.{SinkState, IsSoundSink}
use Rattle.dubbo_io.specs.declared.standard.std_sink.StdSink.{StdSink}

-- every piece may be written at all times
abbrev pub std_sink_state : {T : Type 0} → StdSink T → SinkState (Unit {0})
std_sink_state sink = record {
  gone = None;
  admits = λ _. ⊤;
  open_to_all = ⊤;
  faults = sink.faults;
  badge = tt;
}

-- a sink over a writer is sound at all times
pub std_sink_sound : {T : Type 0} (sink : StdSink T) → IsSoundSink (std_sink_state sink)
std_sink_sound sink = record {
  front = λ _ _ _. tt;
  all = λ _ _. tt;
  faults = sink.faults_in_range;
}
