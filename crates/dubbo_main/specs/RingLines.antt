-- The lines that the command `ring` reads, what each does to the ring, and what is printed.
use Rattle.std.specs.Prelude.{◌≡◌, ℕ, suc, ◌⊎◌, ◌++◌, List, [], ◌∷◌, length, codes, decimal, Option, None, Some}
use Rattle.std.specs.List.{Contains}
use Rattle.dubbo_play.specs.FirstScript.{lines_of}
use Rattle.hash_ring.specs.Names.{IsName, MOST, with_name, without}
use Rattle.hash_ring.specs.Choice.{IsChosen}
use Rattle.hash_ring.specs.Refusals.{IsNew, HasRoomFor}
use Rattle.dubbo_main.specs.declared.commands.ring.Damage.{Damage}
use Rattle.dubbo_main.specs.declared.commands.ring.Damage.TheVariants.{Form, Repeated, Unknown, Many}

-- what a line asks for
pub data Ask : Type 0 where
  nothing : Ask
  add : List ℕ → Ask
  remove : List ℕ → Ask
  choose : List ℕ → Ask

-- the bytes of a line ask for this; a key is spelled like a name
abbrev pub Says : List ℕ → Ask → Type 0
Says line nothing = line ≡ []
Says line (add name) = IsName name × (line ≡ codes "add " ++ name)
Says line (remove name) = IsName name × (line ≡ codes "remove " ++ name)
Says line (choose key) = IsName key × (line ≡ codes "key " ++ key)

-- what is printed of a key: the name that it gets, or `none` of a ring without names
abbrev pub Prints : List (List ℕ) → List ℕ → List ℕ → Type 0
Prints names key printed = ((names ≡ []) × (printed ≡ key ++ codes " none\n"))
    ⊎ ((name : List ℕ) × IsChosen names key name × (printed ≡ key ++ codes " " ++ name ++ codes "\n"))

-- the ring has these names, does what it is asked for, and then has those; this is printed
abbrev pub Does : List (List ℕ) → Ask → List (List ℕ) → List ℕ → Type 0
Does names nothing after printed = (after ≡ names) × (printed ≡ [])
Does names (add name) after printed = HasRoomFor names name × (after ≡ with_name name names) × (printed ≡ [])
Does names (remove name) after printed = Contains names name × (after ≡ without name names) × (printed ≡ [])
Does names (choose key) after printed = (after ≡ names) × Prints names key printed

-- a line that the ring takes
pub record Takes (names : List (List ℕ)) (line : List ℕ) (after : List (List ℕ)) (printed : List ℕ) : Type 0 where
  pub ask : Ask
  pub says : Says line ask
  pub does : Does names ask after printed

-- why a line is damaged: it asks for nothing that there is, adds a name that the ring has, removes one that it
-- hasn't, or adds one to a ring that is full
abbrev pub IsDamaged : List (List ℕ) → List ℕ → Damage → Type 0
IsDamaged names line Form = (ask : Ask) → ¬ Says line ask
IsDamaged names line Repeated = (name : List ℕ) × Says line (add name) × Contains names name
IsDamaged names line Unknown = (name : List ℕ) × Says line (remove name) × (¬ Contains names name)
IsDamaged names line Many = (name : List ℕ) × Says line (add name) × IsNew names name × (length names ≡ MOST)

-- what came of a line: the ring took it, or it is damaged and nothing is printed of it
abbrev pub ComesOf : List (List ℕ) → List ℕ → Option Damage → List (List ℕ) → List ℕ → Type 0
ComesOf names line None after printed = Takes names line after printed
ComesOf names line (Some damage) after printed = IsDamaged names line damage × (printed ≡ [])

-- the word of a damage
abbrev pub damage_word : Damage → List ℕ
damage_word Form = codes "form"
damage_word Repeated = codes "repeated"
damage_word Unknown = codes "unknown"
damage_word Many = codes "many"

-- the last line of a damaged input
abbrev pub damaged_line : ℕ → Damage → List ℕ
damaged_line number damage = codes "damaged line " ++ decimal number ++ (codes " " ++ damage_word damage ++ codes "\n")

-- lines one after the other, the first of which has this number, at a ring with these names: the status that
-- they end with, and what is printed. The first damaged line is the last that is looked at
pub data Runs : List (List ℕ) → ℕ → List (List ℕ) → ℕ → List ℕ → Type 0 where
  ended : (names : List (List ℕ)) (number : ℕ) → Runs names number [] 0 []
  taken : (names after : List (List ℕ)) (number status : ℕ) (line printed text : List ℕ) (lines : List (List ℕ))
      → Takes names line after printed → Runs after (suc number) lines status text
      → Runs names number (line ∷ lines) status (printed ++ text)
  damaged : (names : List (List ℕ)) (number : ℕ) (line : List ℕ) (lines : List (List ℕ)) (damage : Damage)
      → IsDamaged names line damage → Runs names number (line ∷ lines) 8 (damaged_line number damage)

-- what `ring` answers to its whole input: it begins without names, and counts lines from 1
abbrev pub RingAnswers : List ℕ → ℕ → List ℕ → Type 0
RingAnswers bytes status text = Runs [] 1 (lines_of bytes) status text
