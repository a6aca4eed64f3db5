-- What contracts see of a source that is a list of bytes.
use Rattle.std.specs.Prelude.{◌≡◌, ℕ, ◌<◌, ◌≤◌, false, List, [], length, take, drop, Some, refl, ⊤}
use Rattle.std.proofs.Common.{arith}
use Rattle.std.proofs.lemmas.Grind.{common_steps}
use Rattle.std.proofs.Math.Seq.{drop-length}
use Rattle.dubbo_io.specs.Calls.{Calls}
use Rattle.dubbo_io.specs.Source.{SourceState, IsSoundSource}
use Rattle.dubbo_io.specs.declared.source.Got.{Got}
use Rattle.dubbo_io.specs.declared.source.Got.TheVariants.{Bytes, End, Failed}
use Rattle.dubbo_io.specs.declared.memory.mem_source.MemSource.{MemSource}

-- the bytes before the place are given, those behind it are left
abbrev pub mem_source_state : MemSource → SourceState (Unit {0})
mem_source_state source = record {
  given = Some (take source.at source.bytes.items);
  left = Some (drop source.at source.bytes.items);
  count = source.at;
  ended = source.ended;
  faults = source.schedule.faults;
  badge = tt;
}

abbrev pub mem_source_calls : MemSource → Calls
mem_source_calls source = record {
  failing = source.schedule.failing.items;
  made = source.schedule.made;
  cut = source.cut;
}

-- a source that has these bytes left, and has given none
abbrev pub fresh : List ℕ → SourceState (Unit {0})
fresh bytes = record {
  given = Some [];
  left = Some bytes;
  count = 0;
  ended = false;
  faults = 0;
  badge = tt;
}

-- a read gives no more than the cut
abbrev pub ReadsFew : Calls → Got → Type 0
ReadsFew calls (Bytes n) = 0 < calls.cut → n ≤ calls.cut
ReadsFew calls End = ⊤
ReadsFew calls Failed = ⊤

none_behind : (at : ℕ) (bytes : List ℕ) → at ≡ length bytes → drop at bytes ≡ []
none_behind at bytes e = rw e (drop-length bytes)

-- a source in memory is sound at all times
pub mem_source_sound : (source : MemSource) → IsSoundSource (mem_source_state source)
mem_source_sound source = record {
  both = refl;
  counted = grind (arith, common_steps);
  count = omega (arith, source.within, source.few);
  faults = source.schedule.in_range;
  none_left = λ e. none_behind source.at source.bytes.items (omega (arith, source.none_left e, source.bytes.ok.0));
}
