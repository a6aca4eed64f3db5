-- What holds of a reader of requests.
use Rattle.std.specs.Prelude.{◌≡◌, ℕ, List, length, Option, Some}
use Rattle.dubbo_header.specs.declared.header.Header.{Header}
use Rattle.dubbo_bodies.specs.declared.request_reader.progress.Progress.{Progress}
use Rattle.dubbo_bodies.specs.RequestStages.{IsSound, Stands}

-- the bytes that were fed led to where the reading stands
pub record Follows (progress : Progress) (count : ℕ) (started : Option Header) (fed : List ℕ) : Type 0 where
  pub counted : count ≡ length fed
  pub sound : IsSound progress count
  pub stands : (header : Header) → started ≡ Some header → Stands progress header fed
