-- What contracts see of a source over a reader: how much it gave and how often it failed, and no bytes.
use Rattle.std.specs.Prelude.{false, None, refl}
use Rattle.dubbo_io.specs.Source.{SourceState, IsSoundSource}
use Rattle.dubbo_io.specs.declared.standard.std_source.StdSource.{StdSource}

abbrev pub std_source_state : {T : Type 0} → StdSource T → SourceState (Unit {0})
std_source_state source = record {
  given = None;
  left = None;
  count = source.given;
  ended = source.ended;
  faults = source.faults;
  badge = tt;
}

-- a source that has given nothing
abbrev pub fresh_source : SourceState (Unit {0})
fresh_source = record {
  given = None;
  left = None;
  count = 0;
  ended = false;
  faults = 0;
  badge = tt;
}

-- a source over a reader is sound at all times
pub std_source_sound : {T : Type 0} (source : StdSource T) → IsSoundSource (std_source_state source)
std_source_sound source = record {
  both = refl;
  counted = tt;
  count = source.given_in_range;
  faults = source.faults_in_range;
  none_left = tt;
}
