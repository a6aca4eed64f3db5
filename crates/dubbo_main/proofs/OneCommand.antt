-- Words call for one command at most.
use Rattle.std.proofs.Common.{Option, None, Some, ◌≡◌, ◌≢◌, ℕ, ◌≤◌, ◌+◌, ◌*◌, List, [], ◌∷◌, get_or, refl, sym, ap, subst, ◌∙◌, inl, inr, arith, codes}
use Rattle.std.specs.Prelude.{MatchOption, decimal}
use Rattle.dubbo_main.specs.Words.{Calls, HasNoReading, HaveGenerated, HaveRoots, Names}
use Rattle.dubbo_main.specs.declared.words.PlainCommand.{PlainCommand}
use Rattle.dubbo_main.specs.declared.words.PlainCommand.TheVariants.{Decode, Direct, Encode, Frames, Gen, Ring}
use Rattle.dubbo_main.specs.declared.words.Show.{Show}
use Rattle.dubbo_main.proofs.Led.{decimal_once, generated_once, some_option, value_once}

-- the word of a command
abbrev word_of : PlainCommand → List ℕ
word_of (Decode roots) = codes "decode"
word_of Direct = codes "direct"
word_of Encode = codes "encode"
word_of Frames = codes "frames"
word_of (Gen calls show) = codes "gen"
word_of Ring = codes "ring"

called_by : (word : List ℕ) (options : List (List ℕ)) (command : PlainCommand) → Calls word options command → word ≡ word_of command
called_by word options (Decode roots) calls_for = calls_for.0
called_by word options Direct calls_for = calls_for.0
called_by word options Encode calls_for = calls_for.0
called_by word options Frames calls_for = calls_for.0
called_by word options (Gen calls show) calls_for = calls_for.0
called_by word options Ring calls_for = calls_for.0

second_is : (words : List (List ℕ)) (command : PlainCommand) → Names words command → get_or words 1 [] ≡ word_of command
second_is words command names = ap (λ ws. get_or ws 1 []) names.3 ∙ called_by names.1 names.2 command names.4

-- the first two letters of a word
abbrev initials : List ℕ → ℕ
initials word = get_or word 0 0 * 256 + get_or word 1 0

-- commands with other initials
apart : (words : List (List ℕ)) (one other : PlainCommand) → Names words one → Names words other → initials (word_of one) ≢ initials (word_of other) → ⊥
apart words one other named too differ = differ (ap initials (sym (second_is words one named) ∙ second_is words other too))

roots_once : (options : List (List ℕ)) (one other : ℕ) → HaveRoots options one → HaveRoots options other → one ≡ other
roots_once options one other a b = elim a [
  | inl none ↦ elim b [
    | inl too ↦ none.1 ∙ sym too.1
    | inr option ↦ absurd (some_option (codes "roots") (decimal other) options none.0 option.0)
  ]
  | inr option ↦ elim b [
    | inl none ↦ absurd (some_option (codes "roots") (decimal one) options none.0 option.0)
    | inr too ↦ decimal_once one other option.1 too.1 (value_once (codes "roots") (decimal one) (decimal other) options option.0 too.0)
  ]
]

tail_of : (a b c d : List ℕ) (more rest : List (List ℕ)) → a ∷ b ∷ more ≡ c ∷ d ∷ rest → more ≡ rest
tail_of a b c d more rest same = cc

-- words have one list of options
options_once : (words : List (List ℕ)) (one other : PlainCommand) (named : Names words one) (too : Names words other) → too.2 ≡ named.2
options_once words one other named too = tail_of too.0 too.1 named.0 named.1 too.2 named.2 (sym too.3 ∙ named.3)

decode_once : (words : List (List ℕ)) (one other : ℕ) → Names words (Decode one) → Names words (Decode other) → Decode one ≡ Decode other
decode_once words one other named too =
    let same = options_once words (Decode one) (Decode other) named too in
    ap (λ roots. Decode roots) (roots_once named.2 one other named.4.1 (subst (λ options. HaveRoots options other) same too.4.1))

gen_once : (words : List (List ℕ)) (one other : ℕ) (show shown : Show) → Names words (Gen one show) → Names words (Gen other shown) → Gen one show ≡ Gen other shown
gen_once words one other show shown named too =
    let same = options_once words (Gen one show) (Gen other shown) named too in
    let both = generated_once named.2 one other show shown named.4.1 too.4.1 named.4.2 (subst (λ options. HaveGenerated options other shown) same too.4.2) in
    ap (λ calls. Gen calls show) both.0 ∙ ap (λ what. Gen other what) both.1

pub names_once : (words : List (List ℕ)) (one other : PlainCommand) → Names words one → Names words other → one ≡ other
names_once words (Decode one) (Decode other) named too = decode_once words one other named too
names_once words Direct Direct named too = refl
names_once words Encode Encode named too = refl
names_once words Frames Frames named too = refl
names_once words (Gen one show) (Gen other shown) named too = gen_once words one other show shown named too
names_once words Ring Ring named too = refl
names_once words (Decode roots) Direct named too = absurd (apart words (Decode roots) Direct named too (λ e. omega (arith, e)))
names_once words (Decode roots) Encode named too = absurd (apart words (Decode roots) Encode named too (λ e. omega (arith, e)))
names_once words (Decode roots) Frames named too = absurd (apart words (Decode roots) Frames named too (λ e. omega (arith, e)))
names_once words (Decode roots) (Gen calls show) named too = absurd (apart words (Decode roots) (Gen calls show) named too (λ e. omega (arith, e)))
names_once words (Decode roots) Ring named too = absurd (apart words (Decode roots) Ring named too (λ e. omega (arith, e)))
names_once words Direct (Decode roots) named too = absurd (apart words Direct (Decode roots) named too (λ e. omega (arith, e)))
names_once words Direct Encode named too = absurd (apart words Direct Encode named too (λ e. omega (arith, e)))
names_once words Direct Frames named too = absurd (apart words Direct Frames named too (λ e. omega (arith, e)))
names_once words Direct (Gen calls show) named too = absurd (apart words Direct (Gen calls show) named too (λ e. omega (arith, e)))
names_once words Direct Ring named too = absurd (apart words Direct Ring named too (λ e. omega (arith, e)))
names_once words Encode (Decode roots) named too = absurd (apart words Encode (Decode roots) named too (λ e. omega (arith, e)))
names_once words Encode Direct named too = absurd (apart words Encode Direct named too (λ e. omega (arith, e)))
names_once words Encode Frames named too = absurd (apart words Encode Frames named too (λ e. omega (arith, e)))
names_once words Encode (Gen calls show) named too = absurd (apart words Encode (Gen calls show) named too (λ e. omega (arith, e)))
names_once words Encode Ring named too = absurd (apart words Encode Ring named too (λ e. omega (arith, e)))
names_once words Frames (Decode roots) named too = absurd (apart words Frames (Decode roots) named too (λ e. omega (arith, e)))
names_once words Frames Direct named too = absurd (apart words Frames Direct named too (λ e. omega (arith, e)))
names_once words Frames Encode named too = absurd (apart words Frames Encode named too (λ e. omega (arith, e)))
names_once words Frames (Gen calls show) named too = absurd (apart words Frames (Gen calls show) named too (λ e. omega (arith, e)))
names_once words Frames Ring named too = absurd (apart words Frames Ring named too (λ e. omega (arith, e)))
names_once words (Gen calls show) (Decode roots) named too = absurd (apart words (Gen calls show) (Decode roots) named too (λ e. omega (arith, e)))
names_once words (Gen calls show) Direct named too = absurd (apart words (Gen calls show) Direct named too (λ e. omega (arith, e)))
names_once words (Gen calls show) Encode named too = absurd (apart words (Gen calls show) Encode named too (λ e. omega (arith, e)))
names_once words (Gen calls show) Frames named too = absurd (apart words (Gen calls show) Frames named too (λ e. omega (arith, e)))
names_once words (Gen calls show) Ring named too = absurd (apart words (Gen calls show) Ring named too (λ e. omega (arith, e)))
names_once words Ring (Decode roots) named too = absurd (apart words Ring (Decode roots) named too (λ e. omega (arith, e)))
names_once words Ring Direct named too = absurd (apart words Ring Direct named too (λ e. omega (arith, e)))
names_once words Ring Encode named too = absurd (apart words Ring Encode named too (λ e. omega (arith, e)))
names_once words Ring Frames named too = absurd (apart words Ring Frames named too (λ e. omega (arith, e)))
names_once words Ring (Gen calls show) named too = absurd (apart words Ring (Gen calls show) named too (λ e. omega (arith, e)))

-- the word `gen` calls for no command where its options say nothing to be made
pub nothing_made : (word : List ℕ) (options : List (List ℕ)) → word ≡ codes "gen" → ((calls : ℕ) (show : Show) → calls ≤ 4096 → ¬ HaveGenerated options calls show)
    → (command : PlainCommand) → ¬ Calls word options command
nothing_made word options is none (Decode roots) calls_for = let e = ap initials (sym is ∙ calls_for.0) in omega (arith, e)
nothing_made word options is none Direct calls_for = let e = ap initials (sym is ∙ calls_for.0) in omega (arith, e)
nothing_made word options is none Encode calls_for = let e = ap initials (sym is ∙ calls_for.0) in omega (arith, e)
nothing_made word options is none Frames calls_for = let e = ap initials (sym is ∙ calls_for.0) in omega (arith, e)
nothing_made word options is none (Gen calls show) calls_for = none calls show calls_for.1 calls_for.2
nothing_made word options is none Ring calls_for = let e = ap initials (sym is ∙ calls_for.0) in omega (arith, e)

-- what words call for by their second and the options behind it
pub names_of : (words : List (List ℕ)) (name word : List ℕ) (options : List (List ℕ)) (found : Option PlainCommand) → words ≡ name ∷ word ∷ options
    → MatchOption found ((command : PlainCommand) → ¬ Calls word options command) (Calls word options) → MatchOption found (HasNoReading words) (Names words)
names_of words name word options None are none = λ command names.
    let same : names.0 ∷ names.1 ∷ names.2 ≡ name ∷ word ∷ options = sym names.3 ∙ are in
    let words_are : names.1 ≡ word = ap (λ ws. get_or ws 1 []) same in
    none command (subst (λ w. Calls w options command) words_are (subst (λ o. Calls names.1 o command) (tail_of names.0 names.1 name word names.2 options same) names.4))
names_of words name word options (Some command) are calls_for = (name, word, options, are, calls_for)
