-- How a run ends: with its status and the text printed with it, or with a failed output.
use Rattle.std.specs.Prelude.{◌≡◌, ◌≢◌, ℕ, ◌⊎◌, List}
use Rattle.dubbo_io.specs.Count.{Rose}
use Rattle.dubbo_io.specs.Sink.{SinkState, Sends, SentFront}

-- the whole text was written, or the output failed behind a front of it, and the status is 4
abbrev pub Ends : {Badge : Type 0} → SinkState Badge → SinkState Badge → ℕ → List ℕ → ℕ → Type 0
Ends old new status text result = ((result ≡ status) × Sends old new text)
    ⊎ ((result ≡ 4) × Rose old.faults new.faults × SentFront old new text)

-- a run came to this status: its words and its input call for a status and a text, and it ended with them
abbrev pub Comes : {Badge : Type 0} → (ℕ → List ℕ → Type 0) → SinkState Badge → SinkState Badge → ℕ → Type 0
Comes CallsFor before now result = (status : ℕ) × (text : List ℕ)
    × CallsFor status text × Ends before now status text result

-- the run came to this status, or the input or the output failed, or memory was wanting
abbrev pub IsUnlessFault : ℕ → ℕ → Type 0
IsUnlessFault status result = (result ≡ status) ⊎ (result ≡ 3) ⊎ (result ≡ 4) ⊎ (result ≡ 6)

-- where the cause of a status stands, that status comes. Those of a failed input and of want of memory are
-- left out, since such a cause may stand beside another
abbrev pub IsExact : (ℕ → List ℕ → Type 0) → ℕ → Type 0
IsExact CallsFor result = (status : ℕ) (text : List ℕ) → status ≢ 3 → status ≢ 6
    → CallsFor status text → IsUnlessFault status result
