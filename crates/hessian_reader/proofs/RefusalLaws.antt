-- What holds of all refusals.
use Rattle.std.proofs.Common.{◌≡◌, ◌≢◌, ℕ, List, [], ◌∷◌, ◌++◌, length, refl, sym, ap, ◌∙◌, subst, arith, append_assoc, length-append, inl, inr}
use Rattle.std.proofs.Math.Seq.{take-append_seam}
use Rattle.hessian_graph.specs.Shape.{Shape}
use Rattle.hessian_graph.specs.Spells.{Denotes}
use Rattle.hessian_graph.specs.Refusal.{Cause, Short, Refusal}
use Rattle.hessian_text.specs.Spelling.{AreBytes}
use Rattle.hessian_reader.specs.Leaves.{hessian, node_limit, IsDenoted}
use Rattle.hessian_reader.specs.Faults.{faults}
use Rattle.hessian_reader.specs.Course.{EndsAt}
use Rattle.hessian_reader.specs.States.{start}
use Rattle.hessian_reader.specs.Steps.{Leads}
use Rattle.hessian_reader.proofs.Running.{reads}
use Rattle.hessian_reader.proofs.Behind.{taken_never_stops}
use Rattle.hessian_reader.proofs.Refusals.{stopped_stays}
use Rattle.hessian_reader.proofs.Whole.{ends_once, ends_whole}

pub denoted_not_refused : (roots : ℕ) (bytes : List ℕ) (g : Shape) (cause : Cause) → IsDenoted bytes g → length g.roots ≡ roots → Refusal hessian faults node_limit roots bytes cause → ⊥
denoted_not_refused roots bytes g cause d e (inl q) =
    let r = reads g bytes d in
    taken_never_stops roots bytes (q.before ++ q.element) q.rest r.to (subst (λ k. Leads (start k) bytes r.to) e r.leads) q.joined q.stops
denoted_not_refused roots bytes g cause d e (inr (cut, is)) = cut.no_graph g d e

pub refusal_stays : (roots : ℕ) (bytes more : List ℕ) (cause : Cause) → cause ≢ Short (length bytes) → Refusal hessian faults node_limit roots bytes cause → Refusal hessian faults node_limit roots (bytes ++ more) cause
refusal_stays roots bytes more cause some (inl q) = inl (stopped_stays roots bytes more cause q)
refusal_stays roots bytes more cause some (inr (cut, is)) = absurd (some is)

length_some : (xs : List ℕ) → length xs ≡ 0 → xs ≡ []
length_some [] e = refl
length_some (x ∷ xs) e = absurd (omega (arith, e))

pub front_is_short : (front more : List ℕ) (g : Shape) → AreBytes (front ++ more) → more ≢ [] → IsDenoted (front ++ more) g → Refusal hessian faults node_limit (length g.roots) front (Short (length front))
front_is_short front more g small some d = inr (record { goes_on = λ f rest e st. taken_never_stops (length g.roots) (front ++ more) f (rest ++ more) r.to r.leads (ap (λ x. x ++ more) e ∙ append_assoc f rest more) st; no_graph = λ h dh e. one_end h dh e }, refl)
  where
    r : Rattle.hessian_reader.proofs.Running.IsRead g (front ++ more)
    r = reads g (front ++ more) d

    one_end : (h : Shape) → Denotes hessian node_limit front h → length h.roots ≡ length g.roots → ⊥
    one_end h dh e =
        let len = length-append front more in
        let ends : EndsAt (length g.roots) (front ++ more) (length front) = record { graph = h; within = omega (arith, len); denoted = subst (λ x. IsDenoted x h) (sym (take-append_seam front more)) dh; roots_are = e } in
        let same = ends_once (length g.roots) (front ++ more) (length front) (length (front ++ more)) small ends (ends_whole (length g.roots) (front ++ more) g d refl) in
        some (length_some more (omega (arith, same, len)))
