-- Options of a command line, one after another.
use Rattle.std.proofs.Common.{Option, None, Some, ◌≡◌, ◌≢◌, ◌⊎◌, ℕ, ◌≤◌, ◌-◌, length, take, drop, List, [], ◌∷◌, ◌++◌, get_or, refl, sym, ap, subst, ◌∙◌, inl, inr, arith, codes, map}
use Rattle.std.specs.Prelude.{MatchOption, decimal, String, string_bytes}
use Rattle.std.proofs.Common.{Global}
use Rattle.std.proofs.lemmas.Fmt.{decimal_injective}
use Rattle.std.proofs.lemmas.List.{append_assoc, append_cancel_left, append-nil, take_all}
use Rattle.dubbo_main.specs.Words.{IsFirstOption, IsOption, HaveGenerated, HaveShow, show_word}
use Rattle.dubbo_main.specs.Words.HaveGenerated.{calls_first, show_first}
use Rattle.dubbo_main.specs.declared.words.Show.{Show}
use Rattle.dubbo_main.specs.declared.words.Show.TheVariants.{Summary, Script}

-- the two ways in which a first word and those behind it can be an option
abbrev pub AreLed : List ℕ → List ℕ → List ℕ → List (List ℕ) → List (List ℕ) → Type 0
AreLed name value word tail rest = ((word ≡ codes "--" ++ name) × (tail ≡ value ∷ rest))
    ⊎ ((word ≡ codes "--" ++ (name ++ codes "=" ++ value)) × (tail ≡ rest))

first_of : {A : Type 0} (a b : A) (xs ys : List A) → a ∷ xs ≡ b ∷ ys → a ≡ b
first_of a b xs ys same = cc

rest_of : {A : Type 0} (a b : A) (xs ys : List A) → a ∷ xs ≡ b ∷ ys → xs ≡ ys
rest_of a b xs ys same = cc

pub led_once : (name value word : List ℕ) (tail rest : List (List ℕ)) → IsFirstOption name value (word ∷ tail) rest → AreLed name value word tail rest
led_once name value word tail rest is = elim is [
  | inl apart ↦ inl (first_of _ _ _ _ apart, rest_of _ _ _ _ apart)
  | inr joined ↦ inr (first_of _ _ _ _ joined, rest_of _ _ _ _ joined)
]

-- no first word, no option
pub nothing_led : (name value : List ℕ) (rest : List (List ℕ)) → ¬ IsFirstOption name value [] rest
nothing_led name value rest is = elim is [
  | inl apart ↦ absurd (let e = apart in cc)
  | inr joined ↦ absurd (let e = joined in cc)
]

same_behind : (word behind other : List ℕ) → word ≡ codes "--" ++ behind → word ≡ codes "--" ++ other → behind ≡ other
same_behind word behind other one two = append_cancel_left (codes "--") behind other (sym one ∙ two)

-- behind the dashes stands no such name
pub other_name : (name word behind : List ℕ) (tail : List (List ℕ)) → word ≡ codes "--" ++ behind → ((rest : List ℕ) → behind ≢ name ++ rest)
    → (value : List ℕ) (more : List (List ℕ)) → ¬ IsFirstOption name value (word ∷ tail) more
other_name name word behind tail dashes none value more is = elim (led_once name value word tail more is) [
  | inl apart ↦ none [] (same_behind word behind name dashes apart.0 ∙ sym (append-nil name))
  | inr joined ↦ none (codes "=" ++ value) (same_behind word behind (name ++ codes "=" ++ value) dashes joined.0 ∙ append_assoc name (codes "=") value)
]

-- behind the name stands something, but no value
pub no_value : (name word behind more : List ℕ) (tail : List (List ℕ)) → word ≡ codes "--" ++ behind → behind ≡ name ++ more → more ≢ [] → ((rest : List ℕ) → more ≢ codes "=" ++ rest)
    → (value : List ℕ) (rest : List (List ℕ)) → ¬ IsFirstOption name value (word ∷ tail) rest
no_value name word behind more tail dashes named some none value rest is = elim (led_once name value word tail rest is) [
  | inl apart ↦ some (append_cancel_left name more [] (sym named ∙ same_behind word behind name dashes apart.0 ∙ sym (append-nil name)))
  | inr joined ↦ none value (append_cancel_left name more (codes "=" ++ value)
      (sym named ∙ same_behind word behind (name ++ codes "=" ++ value) dashes joined.0 ∙ append_assoc name (codes "=") value))
]

longer : (name value : List ℕ) → codes "--" ++ name ≡ codes "--" ++ name ++ codes "=" ++ value → ⊥
longer name value same =
    let behind : name ≡ name ++ codes "=" ++ value = append_cancel_left (codes "--") name (name ++ codes "=" ++ value) same in
    let none : [] ≡ codes "=" ++ value = append_cancel_left name [] (codes "=" ++ value) (append-nil name ∙ behind ∙ append_assoc name (codes "=") value) in
    absurd cc

-- a first option has one value, and one rest behind it
pub option_once : (name one other : List ℕ) (options rest others : List (List ℕ)) → IsFirstOption name one options rest → IsFirstOption name other options others
    → (one ≡ other) × (rest ≡ others)
option_once name one other options rest others a b = elim a [
  | inl apart ↦ elim b [
    | inl too ↦ (let e : (codes "--" ++ name) ∷ one ∷ rest ≡ (codes "--" ++ name) ∷ other ∷ others = sym apart ∙ too in
        (first_of _ _ _ _ (rest_of _ _ _ _ e), rest_of _ _ _ _ (rest_of _ _ _ _ e)))
    | inr joined ↦ absurd (longer name other (first_of _ _ _ _ (sym apart ∙ joined)))
  ]
  | inr joined ↦ elim b [
    | inl apart ↦ absurd (longer name one (first_of _ _ _ _ (sym apart ∙ joined)))
    | inr too ↦ (let e = sym joined ∙ too in
        (append_cancel_left (codes "--" ++ name ++ codes "=") one other (first_of _ _ _ _ e), rest_of _ _ _ _ e))
  ]
]

initial_of : (initial : ℕ) (name value : List ℕ) (options rest : List (List ℕ)) → IsFirstOption (initial ∷ name) value options rest
    → get_or (get_or options 0 []) 2 0 ≡ initial
initial_of initial name value options rest is = elim is [
  | inl apart ↦ ap (λ words. get_or (get_or words 0 []) 2 0) apart
  | inr joined ↦ ap (λ words. get_or (get_or words 0 []) 2 0) joined
]

-- a first option is not both of `gen`'s options
one_name : (one other : List ℕ) (options rest others : List (List ℕ)) → IsFirstOption (codes "calls") one options rest → IsFirstOption (codes "show") other options others → ⊥
one_name one other options rest others a b =
    let c = initial_of 99 (codes "alls") one options rest a in
    let s = initial_of 115 (codes "how") other options others b in
    omega (arith, c, s)

-- options that begin with neither option
pub none_generated : (options : List (List ℕ)) → ((value : List ℕ) (rest : List (List ℕ)) → ¬ IsFirstOption (codes "calls") value options rest)
    → ((calls : ℕ) (show : Show) (rest : List (List ℕ)) → calls ≤ 4096 → IsFirstOption (codes "show") (show_word show) options rest → ¬ IsOption (codes "calls") (decimal calls) rest)
    → (calls : ℕ) (show : Show) → calls ≤ 4096 → ¬ HaveGenerated options calls show
none_generated options no_calls no_show calls show few (calls_first rest first shows) = no_calls (decimal calls) rest first
none_generated options no_calls no_show calls show few (show_first rest first counts) = no_show calls show rest few first counts

-- options that say behind the calls what can't be shown
pub show_refused : (value : List ℕ) (options rest : List (List ℕ)) → IsFirstOption (codes "calls") value options rest → ((show : Show) → ¬ HaveShow rest show)
    → (calls : ℕ) (show : Show) → calls ≤ 4096 → ¬ HaveGenerated options calls show
show_refused value options rest first refused calls show few (calls_first rest' first' shows) =
    refused show (subst (λ r. HaveShow r show) (sym (option_once (codes "calls") value (decimal calls) options rest rest' first first').1) shows)
show_refused value options rest first refused calls show few (show_first rest' first' counts) = one_name value (show_word show) options rest rest' first first'

-- what is shown stands first, and behind it no such number
pub no_calls_behind : (word : List ℕ) (options rest : List (List ℕ)) → IsFirstOption (codes "show") word options rest
    → ((calls : ℕ) → calls ≤ 4096 → ¬ IsOption (codes "calls") (decimal calls) rest)
    → (calls : ℕ) (other : Show) (others : List (List ℕ)) → calls ≤ 4096 → IsFirstOption (codes "show") (show_word other) options others → ¬ IsOption (codes "calls") (decimal calls) others
no_calls_behind word options rest first refused calls other others few first' counts =
    refused calls few (subst (λ r. IsOption (codes "calls") (decimal calls) r) (sym (option_once (codes "show") word (show_word other) options rest others first first').1) counts)

-- an option has one value
pub value_once : (name one other : List ℕ) (options : List (List ℕ)) → IsOption name one options → IsOption name other options → one ≡ other
value_once name one other options a b = (option_once name one other options [] [] a b).0

-- no words but none are without a length
pub map_none : (words : List (String Global)) → map string_bytes words ≡ [] → words ≡ []
map_none [] none = refl
map_none (word ∷ words) none = absurd cc

-- some words are their first and those behind it
pub first_up : (words : List (String Global)) (word : String Global) → 1 ≤ length words → word ≡ get_or words 0 word
    → map string_bytes words ≡ string_bytes word ∷ map string_bytes (take (length words - 1) (drop 1 words))
first_up [] word some is = absurd (omega (arith, some))
first_up (w ∷ ws) word some is =
    let all : take (length (w ∷ ws) - 1) ws ≡ ws = take_all (length (w ∷ ws) - 1) ws (omega arith) in
    ap (λ v. string_bytes v ∷ map string_bytes ws) (sym is) ∙ ap (λ t. string_bytes word ∷ map string_bytes t) (sym all)

-- two words or more are the first two and those behind them
pub second_up : (words : List (String Global)) (word : String Global) → 2 ≤ length words → word ≡ get_or words 1 word
    → (name : List ℕ) × (map string_bytes words ≡ name ∷ string_bytes word ∷ map string_bytes (take (length words - 2) (drop 2 words)))
second_up [] word some is = absurd (omega (arith, some))
second_up (first ∷ []) word some is = absurd (omega (arith, some))
second_up (first ∷ w ∷ ws) word some is =
    let all : take (length (first ∷ w ∷ ws) - 2) ws ≡ ws = take_all (length (first ∷ w ∷ ws) - 2) ws (omega arith) in
    (string_bytes first, ap (λ v. string_bytes first ∷ string_bytes v ∷ map string_bytes ws) (sym is) ∙ ap (λ t. string_bytes first ∷ string_bytes word ∷ map string_bytes t) (sym all))

-- what options say that do not begin with the number of calls
pub generated_or_none : {A : Type 0} (options : List (List ℕ)) (found : Option A) (Says : A → Type 0)
    → ((value : List ℕ) (rest : List (List ℕ)) → ¬ IsFirstOption (codes "calls") value options rest)
    → MatchOption found ((calls : ℕ) (show : Show) (rest : List (List ℕ)) → calls ≤ 4096 → IsFirstOption (codes "show") (show_word show) options rest → ¬ IsOption (codes "calls") (decimal calls) rest) Says
    → MatchOption found ((calls : ℕ) (show : Show) → calls ≤ 4096 → ¬ HaveGenerated options calls show) Says
generated_or_none options None Says no_calls says = none_generated options no_calls says
generated_or_none options (Some found) Says no_calls says = says

word_shows_once : (one other : Show) → show_word one ≡ show_word other → one ≡ other
word_shows_once Summary Summary same = refl
word_shows_once Script Script same = refl
word_shows_once Summary Script same = let e = ap (λ word. get_or word 1 0) same in absurd (omega (arith, e))
word_shows_once Script Summary same = let e = ap (λ word. get_or word 1 0) same in absurd (omega (arith, e))

-- no options are no option
pub some_option : (name value : List ℕ) (options : List (List ℕ)) → options ≡ [] → ¬ IsOption name value options
some_option name value options none is = nothing_led name value [] (subst (λ words. IsFirstOption name value words []) none is)

-- options say once what is shown
show_once : (options : List (List ℕ)) (one other : Show) → HaveShow options one → HaveShow options other → one ≡ other
show_once options one other a b = elim a [
  | inl none ↦ elim b [
    | inl too ↦ none.1 ∙ sym too.1
    | inr option ↦ absurd (some_option (codes "show") (show_word other) options none.0 option)
  ]
  | inr option ↦ elim b [
    | inl none ↦ absurd (some_option (codes "show") (show_word one) options none.0 option)
    | inr too ↦ word_shows_once one other (value_once (codes "show") (show_word one) (show_word other) options option too)
  ]
]

-- a number of calls is written in one way
pub decimal_once : (one other : ℕ) → one ≤ 65535 → other ≤ 65535 → decimal one ≡ decimal other → one ≡ other
decimal_once one other few fewer same = decimal_injective one other (omega (arith, few)) (omega (arith, fewer)) same

-- options say once of how many calls a script is made, and what is shown
pub generated_once : (options : List (List ℕ)) (one other : ℕ) (show shown : Show) → one ≤ 4096 → other ≤ 4096 → HaveGenerated options one show → HaveGenerated options other shown
    → (one ≡ other) × (show ≡ shown)
generated_once options one other show shown few fewer (calls_first rest first shows) (calls_first rest' first' shows') =
    let both = option_once (codes "calls") (decimal one) (decimal other) options rest rest' first first' in (
      decimal_once one other (omega (arith, few)) (omega (arith, fewer)) both.0,
      show_once rest' show shown (subst (λ r. HaveShow r show) both.1 shows) shows',
    )
generated_once options one other show shown few fewer (calls_first rest first shows) (show_first rest' first' counts) = absurd (one_name (decimal one) (show_word shown) options rest rest' first first')
generated_once options one other show shown few fewer (show_first rest first counts) (calls_first rest' first' shows') = absurd (one_name (decimal other) (show_word show) options rest' rest first' first)
generated_once options one other show shown few fewer (show_first rest first counts) (show_first rest' first' counts') =
    let both = option_once (codes "show") (show_word show) (show_word shown) options rest rest' first first' in (
      decimal_once one other (omega (arith, few)) (omega (arith, fewer))
          (value_once (codes "calls") (decimal one) (decimal other) rest' (subst (λ r. IsOption (codes "calls") (decimal one) r) both.1 counts) counts'),
      word_shows_once show shown both.0,
    )
