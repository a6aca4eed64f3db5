-- What the words of the command line say: the program's name, a command, and the command's options.
use Rattle.std.specs.Prelude.{◌≡◌, ℕ, ◌≤◌, ◌⊎◌, ◌++◌, List, [], ◌∷◌, codes, decimal}
use Rattle.dubbo_main.specs.declared.words.PlainCommand.{PlainCommand}
use Rattle.dubbo_main.specs.declared.words.PlainCommand.TheVariants.{Decode, Direct, Encode, Frames, Gen, Ring}
use Rattle.dubbo_main.specs.declared.words.Show.{Show}
use Rattle.dubbo_main.specs.declared.words.Show.TheVariants.{Summary, Script}

-- the words are the program's name and `play`
abbrev pub IsPlay : List (List ℕ) → Type 0
IsPlay words = (name : List ℕ) × (words ≡ name ∷ codes "play" ∷ [])

-- the first of the options is this one with this value, as two words or as one, and these follow
abbrev pub IsFirstOption : List ℕ → List ℕ → List (List ℕ) → List (List ℕ) → Type 0
IsFirstOption name value options rest = (options ≡ (codes "--" ++ name) ∷ value ∷ rest)
    ⊎ (options ≡ (codes "--" ++ name ++ codes "=" ++ value) ∷ rest)

-- the options are this one alone, with this value
abbrev pub IsOption : List ℕ → List ℕ → List (List ℕ) → Type 0
IsOption name value options = IsFirstOption name value options []

-- the options say how many roots: 1 where they say nothing, else up to 65,535 in decimal, with no leading zero
abbrev pub HaveRoots : List (List ℕ) → ℕ → Type 0
HaveRoots options roots = ((options ≡ []) × (roots ≡ 1))
    ⊎ (IsOption (codes "roots") (decimal roots) options × (roots ≤ 65535))

-- the word that says what `gen` shows
abbrev pub show_word : Show → List ℕ
show_word Summary = codes "summary"
show_word Script = codes "script"

-- the options say what `gen` shows: the summary where they say nothing
abbrev pub HaveShow : List (List ℕ) → Show → Type 0
HaveShow options show = ((options ≡ []) × (show ≡ Summary)) ⊎ IsOption (codes "show") (show_word show) options

-- the options say of how many calls `gen` makes a script, and what it shows: the two in any order
pub data HaveGenerated (options : List (List ℕ)) (calls : ℕ) (show : Show) : Type 0 where
  calls_first : (rest : List (List ℕ)) → IsFirstOption (codes "calls") (decimal calls) options rest
      → HaveShow rest show → HaveGenerated options calls show
  show_first : (rest : List (List ℕ)) → IsFirstOption (codes "show") (show_word show) options rest
      → IsOption (codes "calls") (decimal calls) rest → HaveGenerated options calls show

-- this word and the options behind it call for this command
abbrev pub Calls : List ℕ → List (List ℕ) → PlainCommand → Type 0
Calls word options (Decode roots) = (word ≡ codes "decode") × HaveRoots options roots
Calls word options Direct = (word ≡ codes "direct") × (options ≡ [])
Calls word options Encode = (word ≡ codes "encode") × (options ≡ [])
Calls word options Frames = (word ≡ codes "frames") × (options ≡ [])
Calls word options (Gen calls show) = (word ≡ codes "gen") × (calls ≤ 4096) × HaveGenerated options calls show
Calls word options Ring = (word ≡ codes "ring") × (options ≡ [])

-- the words call for this command, with the options that it has
abbrev pub Names : List (List ℕ) → PlainCommand → Type 0
Names words command = (name : List ℕ) × (word : List ℕ) × (options : List (List ℕ))
    × (words ≡ name ∷ word ∷ options) × Calls word options command

-- the words call for no command that waits for nobody
abbrev pub HasNoReading : List (List ℕ) → Type 0
HasNoReading words = (command : PlainCommand) → ¬ Names words command

-- the second of the words is this one
abbrev pub HasSecond : List ℕ → List (List ℕ) → Type 0
HasSecond second words = (name : List ℕ) × (more : List (List ℕ)) × (words ≡ name ∷ second ∷ more)

-- the words call for a command that may wait for others
abbrev pub IsWaiting : List (List ℕ) → Type 0
IsWaiting words = HasSecond (codes "play") words ⊎ HasSecond (codes "serve") words
