-- What holds of the statuses of every command.
use Rattle.std.proofs.Common.{◌≡◌, ◌≢◌, ◌⊎◌, ℕ, List, ◌++◌, Option, None, Some, sym, ◌∙◌, inl, inr, arith}
use Rattle.std.proofs.lemmas.Bool.{false≢true}
use Rattle.std.proofs.lemmas.List.{append_cancel_left}
use Rattle.std.specs.Prelude.{IsSome}
use Rattle.std.specs.Io.KnownBytes.{append_known}
use Rattle.dubbo_io.specs.Source.{SourceState, GoesOn}
use Rattle.dubbo_io.specs.Sink.{SinkState}
use Rattle.dubbo_main.specs.Statuses.{Comes, IsExact}
use Rattle.dubbo_main.specs.Input.{IsWhole, IsTooLong}

known_once : (known after : Option (List ℕ)) (xs ys : List ℕ) → IsSome known → after ≡ append_known known xs → after ≡ append_known known ys → xs ≡ ys
known_once None after xs ys told one other = absurd (false≢true told)
known_once (Some front) after xs ys told one other =
    let both : Some (front ++ xs) ≡ Some (front ++ ys) = sym one ∙ other in append_cancel_left front xs ys cc

-- a source that tells its bytes gave one list of bytes between two states
pub GoesOn-once : {Badge : Type 0} (old new : SourceState Badge) (xs ys : List ℕ) → IsSome old.given → GoesOn old new xs → GoesOn old new ys → xs ≡ ys
GoesOn-once old new xs ys told one other = known_once old.given new.given xs ys told one.given other.given

-- a whole input is not too long
pub whole_or_long : {Badge : Type 0} (old new : SourceState Badge) (bytes : List ℕ) → IsWhole old new bytes → IsTooLong old new → ⊥
whole_or_long old new bytes whole long = omega (arith, whole.goes_on.count, whole.within, long.1.count, long.2)

-- the status is this one, or the input failed, or memory was wanting
abbrev pub IsThisOr3Or6 : ℕ → ℕ → Type 0
IsThisOr3Or6 other status = (other ≡ status) ⊎ (other ≡ 3) ⊎ (other ≡ 6)

-- a table of statuses in which no two causes stand at once, the failed input and want of memory aside
abbrev pub IsOneStatus : (ℕ → List ℕ → Type 0) → Type 0
IsOneStatus CallsFor = (status other : ℕ) (text others_text : List ℕ) → status ≢ 3 → status ≢ 6
    → CallsFor status text → CallsFor other others_text → IsThisOr3Or6 other status

-- the status that a run came to is the one whose cause stands, unless an end failed or memory was wanting
pub IsExact-Comes : {Badge : Type 0} (CallsFor : ℕ → List ℕ → Type 0) (before now : SinkState Badge) (result : ℕ)
    → IsOneStatus CallsFor → Comes CallsFor before now result → IsExact CallsFor result
IsExact-Comes CallsFor before now result one comes status text not_3 not_6 cause = elim comes.3 [
  | inl written ↦ elim (one status comes.0 text comes.1 not_3 not_6 cause comes.2) [
    | inl this ↦ inl (written.0 ∙ this)
    | inr fault ↦ elim fault [
      | inl input ↦ inr (inl (written.0 ∙ input))
      | inr memory ↦ inr (inr (inr (written.0 ∙ memory)))
    ]
  ]
  | inr failed ↦ inr (inr (inl failed.0))
]
