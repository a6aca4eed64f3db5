-- What a source has given and has left, and what a read does to that.
use Rattle.std.specs.Prelude.{◌≡◌, ℕ, ◌+◌, ◌<◌, ◌≤◌, Bool, IsTrue, List, [], length, take, Option, is_some, IfSome}
use Rattle.std.specs.Io.KnownBytes.{append_known, prepend_known}
use Rattle.dubbo_io.specs.Count.{last_count, Rose}
use Rattle.dubbo_io.specs.declared.source.Got.{Got}
use Rattle.dubbo_io.specs.declared.source.Got.TheVariants.{Bytes, End, Failed}

-- what contracts see of a source
pub record SourceState (Badge : Type 0) : Type 0 where
  -- all bytes given so far, where the source tells them
  pub given : Option (List ℕ)
  -- all bytes that it will still give, where it tells them
  pub left : Option (List ℕ)
  -- how many bytes it gave so far
  pub count : ℕ
  -- it has answered the end
  pub ended : Bool
  -- how often it failed
  pub faults : ℕ
  -- what else its caller must know
  pub badge : Badge

-- what holds of every source at all times
pub record IsSoundSource {Badge : Type 0} (state : SourceState Badge) : Type 0 where
  -- it tells both lists or neither
  pub both : is_some state.given ≡ is_some state.left
  pub counted : IfSome state.given (λ given. length given ≡ state.count)
  pub count : state.count ≤ last_count
  pub faults : state.faults ≤ last_count
  pub none_left : IfSome state.left (λ left. IsTrue state.ended → left ≡ [])

-- between the old state and the new the source gave exactly these bytes
pub record GoesOn {Badge : Type 0} (old new : SourceState Badge) (bytes : List ℕ) : Type 0 where
  pub given : new.given ≡ append_known old.given bytes
  pub left : old.left ≡ prepend_known bytes new.left
  pub count : new.count ≡ old.count + length bytes
  -- behind the end nothing comes
  pub ended : IsTrue old.ended → IsTrue new.ended × (bytes ≡ [])
  pub faults : old.faults ≤ new.faults
  pub badge : new.badge ≡ old.badge

-- the source gave some bytes, and so many at most
abbrev pub GaveAtMost : {Badge : Type 0} → SourceState Badge → SourceState Badge → ℕ → Type 0
GaveAtMost old new most = (bytes : List ℕ) × GoesOn old new bytes × (length bytes ≤ most)

-- the bytes that an answer gives, `into` being the buffer behind the read
abbrev pub bytes_of : Got → List ℕ → List ℕ
bytes_of (Bytes n) into = take n into
bytes_of End into = []
bytes_of Failed into = []

-- when each answer comes, at a buffer with room for so many bytes
abbrev pub ReadAnswers : {Badge : Type 0} → SourceState Badge → SourceState Badge → ℕ → Got → Type 0
ReadAnswers old new room (Bytes n) = (n ≤ room) × (0 < room → 0 < n) × (new.ended ≡ old.ended)
ReadAnswers old new room End = (0 < room) × IsTrue new.ended
ReadAnswers old new room Failed = (0 < room) × Rose old.faults new.faults × (new.ended ≡ old.ended)

-- what one read did, `into` being the buffer behind it
pub record Reads {Badge : Type 0} (old new : SourceState Badge) (into : List ℕ) (got : Got) : Type 0 where
  pub goes_on : GoesOn old new (bytes_of got into)
  pub answer : ReadAnswers old new (length into) got
