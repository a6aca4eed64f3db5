-- No two statuses of `play` have their causes at once, the failed input and want of memory aside.
use Rattle.std.proofs.Common.{◌≡◌, ◌≢◌, ℕ, List, refl, subst, inl, inr}
use Rattle.std.specs.Prelude.{IsSome}
use Rattle.dubbo_io.specs.Source.{SourceState}
use Rattle.dubbo_play.specs.FirstScript.{IsFirstOther}
use Rattle.dubbo_play.proofs.Laws.{read_or_refused}
use Rattle.dubbo_main.specs.PlayStatuses.{CallsFor}
use Rattle.dubbo_main.specs.PlayStatuses.CallsFor.{played, other_words, refused, input_failed, no_memory, too_long}
use Rattle.dubbo_main.proofs.Statuses.{GoesOn-once, IsOneStatus, IsThisOr3Or6, whole_or_long}

one_status : {Badge : Type 0} (words : List (List ℕ)) (old new : SourceState Badge) (status other : ℕ) (text others_text : List ℕ) → IsSome old.given → status ≢ 3 → status ≢ 6
    → CallsFor words old new status text → CallsFor words old new other others_text → IsThisOr3Or6 other status
one_status words old new _ _ _ _ told not_3 not_6 (input_failed _ _ _) _ = absurd (not_3 refl)
one_status words old new _ _ _ _ told not_3 not_6 (no_memory _ _) _ = absurd (not_6 refl)
one_status words old new _ _ _ _ told not_3 not_6 _ (input_failed _ _ _) = inr (inl refl)
one_status words old new _ _ _ _ told not_3 not_6 _ (no_memory _ _) = inr (inr refl)
one_status words old new _ _ _ _ told not_3 not_6 (played _ _ _ _ _) (played _ _ _ _ _) = inl refl
one_status words old new _ _ _ _ told not_3 not_6 (other_words _ _) (other_words _ _) = inl refl
one_status words old new _ _ _ _ told not_3 not_6 (refused _ _ _) (refused _ _ _) = inl refl
one_status words old new _ _ _ _ told not_3 not_6 (too_long _ _) (too_long _ _) = inl refl
one_status words old new _ _ _ _ told not_3 not_6 (other_words others _) (played _ _ play _ _) = absurd (others play)
one_status words old new _ _ _ _ told not_3 not_6 (other_words others _) (refused _ play _) = absurd (others play)
one_status words old new _ _ _ _ told not_3 not_6 (other_words others _) (too_long play _) = absurd (others play)
one_status words old new _ _ _ _ told not_3 not_6 (played _ _ play _ _) (other_words others _) = absurd (others play)
one_status words old new _ _ _ _ told not_3 not_6 (refused _ play _) (other_words others _) = absurd (others play)
one_status words old new _ _ _ _ told not_3 not_6 (too_long play _) (other_words others _) = absurd (others play)
one_status words old new _ _ _ _ told not_3 not_6 (played bytes calls _ whole reads) (refused line _ is) =
    let same : is.0 ≡ bytes = GoesOn-once old new is.0 bytes told is.1.goes_on whole.goes_on in
    absurd (read_or_refused bytes calls line reads (subst (λ b. IsFirstOther b line) same is.2))
one_status words old new _ _ _ _ told not_3 not_6 (refused line _ is) (played bytes calls _ whole reads) =
    let same : is.0 ≡ bytes = GoesOn-once old new is.0 bytes told is.1.goes_on whole.goes_on in
    absurd (read_or_refused bytes calls line reads (subst (λ b. IsFirstOther b line) same is.2))
one_status words old new _ _ _ _ told not_3 not_6 (played bytes _ _ whole _) (too_long _ long) = absurd (whole_or_long old new bytes whole long)
one_status words old new _ _ _ _ told not_3 not_6 (refused _ _ is) (too_long _ long) = absurd (whole_or_long old new is.0 is.1 long)
one_status words old new _ _ _ _ told not_3 not_6 (too_long _ long) (played bytes _ _ whole _) = absurd (whole_or_long old new bytes whole long)
one_status words old new _ _ _ _ told not_3 not_6 (too_long _ long) (refused _ _ is) = absurd (whole_or_long old new is.0 is.1 long)

-- the table of `play`, over an input that tells its bytes
pub IsOneStatus-play : {Badge : Type 0} (words : List (List ℕ)) (old new : SourceState Badge) → IsSome old.given → IsOneStatus (CallsFor words old new)
IsOneStatus-play words old new told = λ status other text others_text not_3 not_6 one two. one_status words old new status other text others_text told not_3 not_6 one two
