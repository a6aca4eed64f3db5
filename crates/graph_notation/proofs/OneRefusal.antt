-- A text has at most one refusal.
use Rattle.std.proofs.Common.{◌≡◌, ℕ, suc, ◌+◌, List, [], ◌∷◌, ◌++◌, length, refl, ap, sym, ◌∙◌, subst, arith, inl, inr, append_assoc}
use Rattle.std.proofs.lemmas.List.{append-nil}
use Rattle.graph_notation.specs.declared.element.Element.{Element}
use Rattle.graph_notation.specs.declared.element.Element.TheVariants.{Reference}
use Rattle.graph_notation.specs.declared.fault.NotationFault.{NotationFault}
use Rattle.graph_notation.specs.declared.fault.NotationFault.TheVariants.{UnknownNode}
use Rattle.graph_notation.specs.Tokens.{Token, IsToken, Cut}
use Rattle.graph_notation.specs.Tokens.Cut.{none, one}
use Rattle.graph_notation.specs.Forms.{SpellsGraph}
use Rattle.graph_notation.specs.Notation.{ReadAs}
use Rattle.graph_notation.specs.Refusal.{GoOn, GoOnWithin, Refused, RefusedAt, EndsEarly, Refusal}
use Rattle.graph_notation.specs.Refusal.Refused.{misplaced, unknown, too_many}
use Rattle.graph_notation.proofs.Distinct.{one_element, one_reading}
use Rattle.graph_notation.proofs.Refusing.{goes_on}
use Rattle.graph_notation.proofs.Tokens.{one_token}
use Rattle.graph_notation.proofs.Verdict.{cut_on, zip_on, never_goes_on}

-- of two cuts at the front of one text, one goes on where the other ends
data Cuts (rest rest' : List ℕ) (tokens tokens' : List Token) : Type 0 where
  first_shorter : (more : List Token) → tokens' ≡ tokens ++ more → Cut rest more rest' → Cuts rest rest' tokens tokens'
  second_shorter : (more : List Token) → tokens ≡ tokens' ++ more → Cut rest' more rest → Cuts rest rest' tokens tokens'

one_further : {rest rest' : List ℕ} (tokens tokens' : List Token) (token token' : Token) → token ≡ token' → Cuts rest rest' tokens tokens' → Cuts rest rest' (token ∷ tokens) (token' ∷ tokens')
one_further tokens tokens' token token' e (first_shorter more h c) = let is : token' ∷ tokens' ≡ token ∷ (tokens ++ more) = cc in first_shorter more is c
one_further tokens tokens' token token' e (second_shorter more h c) = let is : token ∷ tokens ≡ token' ∷ (tokens' ++ more) = cc in second_shorter more is c

at_front : {s t rest' : List ℕ} {tokens' : List Token} → s ≡ t → Cut t tokens' rest' → Cuts s rest' [] tokens'
at_front {s} {t} {rest'} {tokens'} e y = first_shorter tokens' refl (subst (λ x. Cut x tokens' rest') (sym e) y)

both_cut : {s t rest rest' : List ℕ} {tokens tokens' : List Token} → Cut s tokens rest → Cut t tokens' rest' → s ≡ t → Cuts rest rest' tokens tokens'
both_cut (none text) y e = at_front e y
both_cut (one token middle rest tokens x c) (none text) e = second_shorter (token ∷ tokens) refl (subst (λ z. Cut z (token ∷ tokens) rest) e (one token middle rest tokens x c))
both_cut (one token middle rest tokens x c) (one token' middle' rest' tokens' x' c') e =
    let same = one_token x x' e in
    one_further tokens tokens' token token' same.0 (both_cut c c' same.1)

nothing_cut : {s rest : List ℕ} {tokens : List Token} → Cut s tokens rest → tokens ≡ [] → s ≡ rest
nothing_cut (none text) e = refl
nothing_cut (one token middle rest tokens x c) e = let n : suc (length tokens) ≡ 0 = ap length e in absurd (omega (arith, n))

first_cut : {s rest : List ℕ} {tokens : List Token} (m : Token) (ms : List Token) (token after : List ℕ) → Cut s tokens rest → tokens ≡ m ∷ ms → s ≡ token ++ after → IsToken token after → m ≡ token
first_cut m ms token after (none text) e h x = let n : 0 ≡ suc (length ms) = ap length e in absurd (omega (arith, n))
first_cut m ms token after (one token' middle rest tokens x' c) e h x = let same : token' ≡ token = (one_token x' x h).0 in cc

-- a token has one cause at a place
one_cause : {bound : ℕ} (at : ℕ) (before : List Element) {token : Token} {f g : NotationFault} → Refused bound before token at f → Refused bound before token at g → f ≡ g
one_cause at before (misplaced never no_forward) (misplaced never' no_forward') = refl
one_cause at before (misplaced never no_forward) (unknown k is) = absurd (no_forward k is)
one_cause at before (misplaced never no_forward) (too_many e r goes too) = absurd (never e r goes)
one_cause at before (unknown k is) (misplaced never no_forward) = absurd (no_forward k is)
one_cause at before (unknown k is) (unknown k' is') = let same : Reference k ≡ Reference k' = one_element is.reads is'.reads in let e : k ≡ k' = cc in ap (UnknownNode at) e
one_cause at before (unknown k is) (too_many e r goes too) = absurd (is.too_high (subst (λ v. GoOn (before ++ v ∷ [])) (one_element r is.reads) goes))
one_cause at before (too_many e r goes too) (misplaced never no_forward) = absurd (never e r goes)
one_cause at before (too_many e r goes too) (unknown k is) = absurd (is.too_high (subst (λ v. GoOn (before ++ v ∷ [])) (one_element r is.reads) goes))
one_cause at before (too_many e r goes too) (too_many e' r' goes' too') = refl

same_cause : {bound at at' : ℕ} {before before' : List Element} {token token' : Token} {f g : NotationFault} → Refused bound before token at f → Refused bound before' token' at' g → before' ≡ before → token' ≡ token → at' ≡ at → f ≡ g
same_cause {bound} {at} {at'} {before} {before'} {token} {token'} {f} {g} x y es ts is =
    let a : Refused bound before token' at' g = subst (λ v. Refused bound v token' at' g) es y in
    let b : Refused bound before token at' g = subst (λ v. Refused bound before v at' g) ts a in
    one_cause at before x (subst (λ v. Refused bound before token v g) is b)

-- elements that go on do so at their front
front_goes_on : (bound : ℕ) (es : List Element) (e : Element) (more : List Element) → GoOnWithin bound (es ++ e ∷ more) → GoOnWithin bound (es ++ e ∷ [])
front_goes_on bound es e more w = record {
  more = more ++ w.more;
  graph = w.graph;
  spelled = subst (SpellsGraph w.graph) (append_assoc es (e ∷ more) w.more ∙ sym (append_assoc es (e ∷ []) (more ++ w.more))) w.spelled;
  limit = w.limit;
}

-- no reading goes past a refused token
never_past : {bound : ℕ} {text : List ℕ} {fault : NotationFault} (p : RefusedAt bound text fault) (tokens more : List Token) (es : List Element) → tokens ≡ p.tokens ++ p.token ∷ more → ReadAs tokens es → GoOnWithin bound es → ⊥
never_past {bound} p tokens more es e read goes =
    let z = zip_on p.tokens p.elements p.token more es p.read (subst (λ ts. ReadAs ts es) e read) in
    let within : GoOnWithin bound (p.elements ++ z.0 ∷ []) = front_goes_on bound p.elements z.0 z.1 (subst (GoOnWithin bound) z.3 goes) in
    never_goes_on bound p.elements p.refused z.0 z.2 (goes_on bound (p.elements ++ z.0 ∷ []) within) within

shorter : {bound : ℕ} {text : List ℕ} {a b : NotationFault} (p : RefusedAt bound text a) (q : RefusedAt bound text b) (more : List Token) → q.tokens ≡ p.tokens ++ more → Cut (p.token ++ p.rest) more (q.token ++ q.rest) → a ≡ b
shorter {bound} {text} p q [] e c =
    let rests : p.token ++ p.rest ≡ q.token ++ q.rest = nothing_cut c refl in
    let token : q.token ≡ p.token = sym (one_token p.next q.next rests).0 in
    let tokens : q.tokens ≡ p.tokens = e ∙ append-nil p.tokens in
    let elements : q.elements ≡ p.elements = one_reading p.tokens q.elements p.elements (subst (λ ts. ReadAs ts q.elements) tokens q.read) p.read in
    let n : length (p.token ++ p.rest) ≡ length (q.token ++ q.rest) = ap length rests in
    let i : p.at + length (p.token ++ p.rest) ≡ length text = p.place in
    let j : q.at + length (q.token ++ q.rest) ≡ length text = q.place in
    let at : q.at ≡ p.at = omega (arith, n, i, j) in
    same_cause p.refused q.refused elements token at
shorter {bound} {text} p q (m ∷ ms) e c =
    let first : m ≡ p.token = first_cut m ms p.token p.rest c refl refl p.next in
    absurd (never_past p q.tokens ms q.elements (e ∙ ap (λ t. p.tokens ++ t ∷ ms) first) q.read q.goes_on)

one_token_refused : {bound : ℕ} {text : List ℕ} {a b : NotationFault} (p : RefusedAt bound text a) (q : RefusedAt bound text b) → Cuts (p.token ++ p.rest) (q.token ++ q.rest) p.tokens q.tokens → a ≡ b
one_token_refused p q (first_shorter more e c) = shorter p q more e c
one_token_refused p q (second_shorter more e c) = sym (shorter q p more e c)

no_early_end : {bound : ℕ} {text : List ℕ} {a b : NotationFault} → RefusedAt bound text a → EndsEarly bound text b → ⊥
no_early_end {bound} {text} p q =
    let c = cut_on text p.rest p.token q.tokens p.cut refl p.next refl q.cut in
    never_past p q.tokens c.0 q.elements c.1 q.read q.goes_on

pub one_refusal : (bound : ℕ) (text : List ℕ) (a b : NotationFault) → Refusal bound text a → Refusal bound text b → a ≡ b
one_refusal bound text a b (inl p) (inl q) = one_token_refused p q (both_cut p.cut q.cut refl)
one_refusal bound text a b (inl p) (inr q) = absurd (no_early_end p q)
one_refusal bound text a b (inr p) (inl q) = absurd (no_early_end q p)
one_refusal bound text a b (inr p) (inr q) = p.fault_is ∙ sym q.fault_is
