-- What contracts see of a sink that keeps what it takes.
use Rattle.std.specs.Prelude.{ℕ, ◌<◌, ◌≤◌, Some, vec_len, ⊤}
use Rattle.dubbo_io.specs.Calls.{Calls}
use Rattle.dubbo_io.specs.Sink.{SinkState, IsSoundSink}
use Rattle.dubbo_io.specs.declared.sink.Took.{Took}
use Rattle.dubbo_io.specs.declared.sink.Took.TheVariants.{Bytes, Failed}
use Rattle.dubbo_io.specs.declared.memory.mem_sink.MemSink.{MemSink}

-- all that it holds is gone, and every piece may be written at all times
abbrev pub mem_sink_state : MemSink → SinkState (Unit {0})
mem_sink_state sink = record {
  gone = Some sink.bytes.items;
  admits = λ _. ⊤;
  open_to_all = ⊤;
  faults = sink.schedule.faults;
  badge = tt;
}

abbrev pub mem_sink_calls : MemSink → Calls
mem_sink_calls sink = record {
  failing = sink.schedule.failing.items;
  made = sink.schedule.made;
  cut = sink.cut;
}

-- how many bytes it can hold
abbrev pub mem_sink_room : MemSink → ℕ
mem_sink_room sink = sink.room

-- as many bytes are gone as there is room for
abbrev pub IsFull : MemSink → Type 0
IsFull sink = sink.room ≤ vec_len sink.bytes

-- a write takes no more than the cut
abbrev pub TakesFew : Calls → Took → Type 0
TakesFew calls (Bytes n) = 0 < calls.cut → n ≤ calls.cut
TakesFew calls Failed = ⊤

-- a sink in memory is sound at all times
pub mem_sink_sound : (sink : MemSink) → IsSoundSink (mem_sink_state sink)
mem_sink_sound sink = record {
  front = λ _ _ _. tt;
  all = λ _ _. tt;
  faults = sink.schedule.in_range;
}
