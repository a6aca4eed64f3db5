-- How far a script has been read.
use Rattle.std.specs.Prelude.{◌↔◌, ℕ, List}
use Rattle.std.specs.List.{Contains}
use Rattle.dubbo_play.specs.FirstForm.{Call, IsWord, service_line}
use Rattle.dubbo_play.specs.FirstScript.{HaveCalls}

-- these lines have been read: their calls are known, and which services they name
pub record AreRead (lines : List (List ℕ)) (calls : List Call) (services : List (List ℕ)) : Type 0 where
  pub good : HaveCalls lines calls
  pub known : (path method : List ℕ) → IsWord path → IsWord method
      → Contains services (service_line path method) ↔ Contains lines (service_line path method)
