-- No two statuses of a plain command have their causes at once, the failed input and want of memory aside.
use Rattle.std.proofs.Common.{◌≡◌, ◌≢◌, ◌⊎◌, ℕ, List, [], refl, subst, sym, ◌∙◌, inl, inr, arith}
use Rattle.std.specs.Prelude.{IsSome}
use Rattle.dubbo_io.specs.Source.{SourceState}
use Rattle.dubbo_io.specs.Sink.{SinkState}
use Rattle.dubbo_play.specs.FirstScript.{lines_of}
use Rattle.dubbo_main.specs.Input.{IsWhole}
use Rattle.dubbo_main.specs.Words.{Names}
use Rattle.dubbo_main.specs.Statuses.{Comes}
use Rattle.dubbo_main.specs.Generating.{IsGenerated}
use Rattle.dubbo_main.specs.PlainCommands.{Answers, ReadsInput}
use Rattle.dubbo_main.specs.PlainStatuses.{PlainCallsFor, WritesAnswer, WritesGenerated}
use Rattle.dubbo_main.specs.PlainStatuses.PlainCallsFor.{answered, generated, no_reading, input_failed, no_memory, no_memory_made, too_long}
use Rattle.dubbo_main.specs.declared.words.PlainCommand.{PlainCommand}
use Rattle.dubbo_main.specs.declared.words.PlainCommand.TheVariants.{Decode, Direct, Encode, Frames, Gen, Ring}
use Rattle.dubbo_main.specs.declared.words.Show.{Show}
use Rattle.dubbo_main.proofs.Decodings.{decode_once}
use Rattle.dubbo_main.proofs.Directings.{direct_once}
use Rattle.dubbo_main.proofs.Encodings.{encode_once}
use Rattle.dubbo_main.proofs.Framings.{frames_once}
use Rattle.dubbo_main.proofs.OneCommand.{names_once}
use Rattle.dubbo_main.proofs.Ringing.{ring_once}
use Rattle.dubbo_main.proofs.Statuses.{GoesOn-once, IsOneStatus, IsThisOr3Or6, whole_or_long}

-- a command answers one status to an input
answers_once : (command : PlainCommand) (bytes : List ℕ) (status status' : ℕ) (text text' : List ℕ)
    → Answers command bytes status text → Answers command bytes status' text' → status ≡ status'
answers_once (Decode roots) bytes status status' text text' one other = decode_once roots bytes status status' text text' one other
answers_once Direct bytes status status' text text' one other = direct_once bytes status status' text text' one other
answers_once Encode bytes status status' text text' one other = encode_once bytes status status' text text' one other
answers_once Frames bytes status status' text text' one other = frames_once bytes status status' text text' one other
answers_once (Gen calls show) bytes status status' text text' one other = absurd one
answers_once Ring bytes status status' text text' one other = ring_once [] 1 (lines_of bytes) status status' text text' one other

one_status : {Badge : Type 0} (words : List (List ℕ)) (old new : SourceState Badge) (status other : ℕ) (text others_text : List ℕ) → IsSome old.given → status ≢ 3 → status ≢ 6
    → PlainCallsFor words old new status text → PlainCallsFor words old new other others_text → IsThisOr3Or6 other status
one_status words old new _ _ _ _ told not_3 not_6 (input_failed _ _ _ _ _) _ = absurd (not_3 refl)
one_status words old new _ _ _ _ told not_3 not_6 (no_memory _ _ _ _) _ = absurd (not_6 refl)
one_status words old new _ _ _ _ told not_3 not_6 (no_memory_made _ _ _ _) _ = absurd (not_6 refl)
one_status words old new _ _ _ _ told not_3 not_6 _ (input_failed _ _ _ _ _) = inr (inl refl)
one_status words old new _ _ _ _ told not_3 not_6 _ (no_memory _ _ _ _) = inr (inr refl)
one_status words old new _ _ _ _ told not_3 not_6 _ (no_memory_made _ _ _ _) = inr (inr refl)
one_status words old new _ _ _ _ told not_3 not_6 (no_reading _ _) (no_reading _ _) = inl refl
one_status words old new _ _ _ _ told not_3 not_6 (too_long _ _ _ _) (too_long _ _ _ _) = inl refl
one_status words old new _ _ _ _ told not_3 not_6 (no_reading none _) (answered command _ _ _ names _ _) = absurd (none command names)
one_status words old new _ _ _ _ told not_3 not_6 (no_reading none _) (too_long command names _ _) = absurd (none command names)
one_status words old new _ _ _ _ told not_3 not_6 (answered command _ _ _ names _ _) (no_reading none _) = absurd (none command names)
one_status words old new _ _ _ _ told not_3 not_6 (too_long command names _ _) (no_reading none _) = absurd (none command names)
one_status words old new _ _ _ _ told not_3 not_6 (answered _ bytes _ _ _ whole _) (too_long _ _ _ long) = absurd (whole_or_long old new bytes whole long)
one_status words old new _ _ _ _ told not_3 not_6 (too_long _ _ _ long) (answered _ bytes _ _ _ whole _) = absurd (whole_or_long old new bytes whole long)
one_status words old new _ _ _ _ told not_3 not_6 (answered command bytes status text names whole answers) (answered command' bytes' status' text' names' whole' answers') =
    let same : bytes' ≡ bytes = GoesOn-once old new bytes' bytes told whole'.goes_on whole.goes_on in
    let one : command' ≡ command = names_once words command' command names' names in
    let here : Answers command bytes status' text' = subst (λ c. Answers c bytes status' text') one (subst (λ b. Answers command' b status' text') same answers') in
    inl (answers_once command bytes status' status text' text here answers)
one_status words old new _ _ _ _ told not_3 not_6 (generated _ _ _ _ _ _) (generated _ _ _ _ _ _) = inl refl
one_status words old new _ _ _ _ told not_3 not_6 (generated calls show _ names _ _) (no_reading none _) = absurd (none (Gen calls show) names)
one_status words old new _ _ _ _ told not_3 not_6 (no_reading none _) (generated calls show _ names _ _) = absurd (none (Gen calls show) names)
one_status words old new _ _ _ _ told not_3 not_6 (generated calls show _ names _ _) (too_long command others reads _) = absurd (subst ReadsInput (names_once words command (Gen calls show) others names) reads)
one_status words old new _ _ _ _ told not_3 not_6 (too_long command others reads _) (generated calls show _ names _ _) = absurd (subst ReadsInput (names_once words command (Gen calls show) others names) reads)
one_status words old new _ _ _ _ told not_3 not_6 (generated calls show _ names _ _) (answered command bytes status text others _ answers) =
    absurd (subst (λ c. Answers c bytes status text) (names_once words command (Gen calls show) others names) answers)
one_status words old new _ _ _ _ told not_3 not_6 (answered command bytes status text others _ answers) (generated calls show _ names _ _) =
    absurd (subst (λ c. Answers c bytes status text) (names_once words command (Gen calls show) others names) answers)

-- the table of the plain commands, over an input that tells its bytes
pub IsOneStatus-plain : {Badge : Type 0} (words : List (List ℕ)) (old new : SourceState Badge) → IsSome old.given → IsOneStatus (PlainCallsFor words old new)
IsOneStatus-plain words old new told = λ status other text others_text not_3 not_6 one two. one_status words old new status other text others_text told not_3 not_6 one two

-- a status of an answer
abbrev IsAnswers : ℕ → Type 0
IsAnswers status = (status ≡ 0) ⊎ (status ≡ 2) ⊎ (status ≡ 8)

other_than : (status : ℕ) → status ≢ 0 → status ≢ 2 → status ≢ 8 → ¬ IsAnswers status
other_than status not_0 not_2 not_8 is = elim is [ inl e ↦ not_0 e | inr more ↦ elim more [ inl e ↦ not_2 e | inr e ↦ not_8 e ] ]

-- a status of 0, 2 or 8 is that of an answer, where the command reads its input
answer_of : {Badge : Type 0} (words : List (List ℕ)) (command : PlainCommand) (old new : SourceState Badge) (status : ℕ) (text : List ℕ)
    → Names words command → ReadsInput command → IsAnswers status → PlainCallsFor words old new status text
    → (bytes : List ℕ) × IsWhole old new bytes × Answers command bytes status text
answer_of words command old new _ _ names reads is (answered command' bytes status text names' whole answers) =
    (bytes, whole, subst (λ c. Answers c bytes status text) (names_once words command' command names' names) answers)
answer_of words command old new _ _ names reads is (generated calls show _ names' _ _) = absurd (subst ReadsInput (names_once words command (Gen calls show) names names') reads)
answer_of words command old new _ _ names reads is (no_reading none _) = absurd (none command names)
answer_of words command old new _ _ names reads is (input_failed _ _ _ _ _) = absurd (other_than 3 (λ e. omega (arith, e)) (λ e. omega (arith, e)) (λ e. omega (arith, e)) is)
answer_of words command old new _ _ names reads is (no_memory _ _ _ _) = absurd (other_than 6 (λ e. omega (arith, e)) (λ e. omega (arith, e)) (λ e. omega (arith, e)) is)
answer_of words command old new _ _ names reads is (no_memory_made _ _ _ _) = absurd (other_than 6 (λ e. omega (arith, e)) (λ e. omega (arith, e)) (λ e. omega (arith, e)) is)
answer_of words command old new _ _ names reads is (too_long _ _ _ _) = absurd (other_than 7 (λ e. omega (arith, e)) (λ e. omega (arith, e)) (λ e. omega (arith, e)) is)

-- what a run writes at 0, 2 and 8
pub WritesAnswer-Comes : {B C : Type 0} (words : List (List ℕ)) (command : PlainCommand) (old new : SourceState B) (before now : SinkState C) (result : ℕ)
    → ReadsInput command → Names words command → Comes (PlainCallsFor words old new) before now result → WritesAnswer (Answers command) old new before now result
WritesAnswer-Comes words command old new before now result reads names comes is = elim comes.3 [
  | inl written ↦
      let found = answer_of words command old new comes.0 comes.1 names reads (subst IsAnswers written.0 is) comes.2 in
      (found.0, comes.1, found.1, subst (λ s. Answers command found.0 s comes.1) (sym written.0) found.2, written.1)
  | inr failed ↦ absurd (other_than 4 (λ e. omega (arith, e)) (λ e. omega (arith, e)) (λ e. omega (arith, e)) (subst IsAnswers failed.0 is))
]

-- what a command writes that reads no input
abbrev Makes : PlainCommand → List ℕ → Type 0
Makes (Decode roots) text = ⊥
Makes Direct text = ⊥
Makes Encode text = ⊥
Makes Frames text = ⊥
Makes (Gen calls show) text = IsGenerated calls show text
Makes Ring text = ⊥

-- status 0 is that of a script that is made
made_of : {Badge : Type 0} (words : List (List ℕ)) (calls : ℕ) (show : Show) (old new : SourceState Badge) (status : ℕ) (text : List ℕ)
    → Names words (Gen calls show) → status ≡ 0 → PlainCallsFor words old new status text → (new ≡ old) × IsGenerated calls show text
made_of words calls show old new _ _ names is (answered command bytes status text names' whole answers) =
    absurd (subst (λ c. Answers c bytes status text) (names_once words command (Gen calls show) names' names) answers)
made_of words calls show old new _ _ names is (generated calls' show' text names' same made) =
    (same, subst (λ c. Makes c text) (names_once words (Gen calls' show') (Gen calls show) names' names) made)
made_of words calls show old new _ _ names is (no_reading none _) = absurd (none (Gen calls show) names)
made_of words calls show old new _ _ names is (input_failed _ _ _ _ _) = absurd (omega (arith, is))
made_of words calls show old new _ _ names is (no_memory _ _ _ _) = absurd (omega (arith, is))
made_of words calls show old new _ _ names is (no_memory_made _ _ _ _) = absurd (omega (arith, is))
made_of words calls show old new _ _ names is (too_long _ _ _ _) = absurd (omega (arith, is))

-- what a run of `gen` writes at 0
pub WritesGenerated-Comes : {B C : Type 0} (words : List (List ℕ)) (calls : ℕ) (show : Show) (old new : SourceState B) (before now : SinkState C) (result : ℕ)
    → Names words (Gen calls show) → Comes (PlainCallsFor words old new) before now result → WritesGenerated (IsGenerated calls show) old new before now result
WritesGenerated-Comes words calls show old new before now result names comes is = elim comes.3 [
  | inl written ↦ (let made = made_of words calls show old new comes.0 comes.1 names (sym written.0 ∙ is) comes.2 in (comes.1, made.0, made.1, written.1))
  | inr failed ↦ absurd (omega (arith, is, failed.0))
]
