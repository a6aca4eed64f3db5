-- Bytes have at most one refusal.
use Rattle.std.proofs.Common.{◌≡◌, ◌≢◌, ℕ, List, [], ◌∷◌, ◌++◌, length, refl, sym, ap, ◌∙◌, subst, append_assoc, inl, inr}
use Rattle.std.proofs.lemmas.List.{append-nil}
use Rattle.hessian_graph.specs.Reading.{Tables}
use Rattle.hessian_graph.specs.Loose.{Slot}
use Rattle.hessian_graph.specs.Loose.{Leads as LooseLeads}
use Rattle.hessian_graph.specs.Loose.Leads.{here as l_here, on as l_on}
use Rattle.hessian_graph.specs.Refusal.{Cause, Stopped, Refusal}
use Rattle.hessian_text.specs.Spelling.{AreBytes}
use Rattle.hessian_reader.specs.Leaves.{hessian, node_limit}
use Rattle.hessian_reader.specs.Faults.{faults}
use Rattle.hessian_reader.proofs.LexChunks.{small_more}
use Rattle.hessian_reader.proofs.LeafBytes.{no_bytes, element_bytes}
use Rattle.hessian_reader.proofs.OneWay.{Fronts, fronts}
use Rattle.hessian_reader.proofs.OneWay.Fronts.{first_shorter, second_shorter}
use Rattle.hessian_reader.proofs.LooseOnce.{want_of, row_element, once}
use Rattle.hessian_reader.proofs.Reasons.{Reason, reason_of}
use Rattle.hessian_reader.proofs.OneReason.{no_shorter, one_reason, reason_some}

right_some : (xs ys : List ℕ) → ys ≢ [] → xs ++ ys ≢ []
right_some [] ys some e = some e
right_some (x ∷ xs) ys some e = cc

-- whole elements are bytes
loose_bytes : {t u : Tables} {ss xs : List Slot} {bytes : List ℕ} → LooseLeads hessian t ss bytes u xs → AreBytes bytes
loose_bytes l_here = no_bytes
loose_bytes (l_on {s = s} element rest bytes row joined leads) = let r = row_element row in subst AreBytes (sym joined) (small_more element rest (element_bytes (want_of s) element r.element r.is) (loose_bytes leads))

-- where whole elements lead from one refused element to the next, they are none, and the causes are one
led_cause : {t u : Tables} {ss xs : List Slot} {k : List ℕ} {one other : Cause} (before element : List ℕ) → LooseLeads hessian t ss k u xs → Reason t (length before) ss (k ++ element) one → Reason u (length (before ++ k)) xs element other → one ≡ other
led_cause {t = t} {ss = ss} {other = other} before element l_here p q = one_reason p (subst (λ b. Reason t (length b) ss element other) (append-nil before) q)
led_cause before element (l_on {s = s} {ss = ss} el rest k row joined leads) p q =
    let r = row_element row in
    absurd (no_shorter s ss el (rest ++ element) (k ++ element) r.element refl (ap (λ x. x ++ element) joined ∙ append_assoc el rest element) (right_some rest element (reason_some element q)) r.is p)

-- two refused elements at the end of one front
front_cause : (roots : ℕ) (bytes other_bytes : List ℕ) (one other : Cause) (p : Stopped hessian faults node_limit roots bytes one) (q : Stopped hessian faults node_limit roots other_bytes other) → p.before ++ p.element ≡ q.before ++ q.element → one ≡ other
front_cause roots bytes other_bytes one other p q same = by_fronts (fronts p.before p.element q.before q.element same)
  where
    by_fronts : Fronts p.before p.element q.before q.element → one ≡ other
    by_fronts (first_shorter k a b) =
        led_cause p.before q.element (once k (loose_bytes p.reached) a p.reached q.reached)
        (subst (λ x. Reason p.tables (length p.before) p.slots x one) b (reason_of p.refused))
        (subst (λ x. Reason q.tables (length x) q.slots q.element other) a (reason_of q.refused))
    by_fronts (second_shorter k a b) =
        sym (led_cause q.before p.element (once k (loose_bytes q.reached) a q.reached p.reached)
        (subst (λ x. Reason q.tables (length q.before) q.slots x other) b (reason_of q.refused))
        (subst (λ x. Reason p.tables (length x) p.slots p.element one) a (reason_of p.refused)))

-- the shortest front that stops is one
stopped_cause : (roots : ℕ) (bytes : List ℕ) (one other : Cause) → Stopped hessian faults node_limit roots bytes one → Stopped hessian faults node_limit roots bytes other → one ≡ other
stopped_cause roots bytes one other p q = by_fronts (fronts (p.before ++ p.element) p.rest (q.before ++ q.element) q.rest (sym p.joined ∙ q.joined))
  where
    by_fronts : Fronts (p.before ++ p.element) p.rest (q.before ++ q.element) q.rest → one ≡ other
    by_fronts (first_shorter [] a b) = front_cause roots bytes bytes one other p q (sym (a ∙ append-nil (p.before ++ p.element)))
    by_fronts (first_shorter (x ∷ k) a b) = absurd (q.shortest (p.before ++ p.element) (x ∷ k) a (λ e. cc) p.stops)
    by_fronts (second_shorter [] a b) = front_cause roots bytes bytes one other p q (a ∙ append-nil (q.before ++ q.element))
    by_fronts (second_shorter (x ∷ k) a b) = absurd (p.shortest (q.before ++ q.element) (x ∷ k) a (λ e. cc) q.stops)

pub one_refusal : (roots : ℕ) (bytes : List ℕ) (one other : Cause) → Refusal hessian faults node_limit roots bytes one → Refusal hessian faults node_limit roots bytes other → one ≡ other
one_refusal roots bytes one other (inl p) (inl q) = stopped_cause roots bytes one other p q
one_refusal roots bytes one other (inl p) (inr (cut, is)) = absurd (cut.goes_on (p.before ++ p.element) p.rest p.joined p.stops)
one_refusal roots bytes one other (inr (cut, is)) (inl q) = absurd (cut.goes_on (q.before ++ q.element) q.rest q.joined q.stops)
one_refusal roots bytes one other (inr (cut, is)) (inr (too, same)) = is ∙ sym same
