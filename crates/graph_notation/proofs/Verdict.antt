-- What a reading says of its text.
use Rattle.std.proofs.Common.{◌≡◌, ◌≢◌, ℕ, suc, ◌+◌, ◌-◌, ◌<◌, ◌≤◌, true, false, List, [], ◌∷◌, ◌++◌, length, drop, refl, ap, sym, ◌∙◌, subst, arith, inl, inr, append_assoc, length-append, length-drop}
use Rattle.std.specs.Prelude.{Ok, Err, nat_lt}
use Rattle.hessian_graph.specs.declared.value.Value.TheVariants as values
use Rattle.hessian_graph.specs.Shape.{Shape}
use Rattle.graph_notation.specs.declared.element.Element.{Element}
use Rattle.graph_notation.specs.declared.element.Element.TheVariants.{Plain, Reference}
use Rattle.graph_notation.specs.declared.fault.NotationFault.{NotationFault}
use Rattle.graph_notation.specs.declared.fault.NotationFault.TheVariants.{BadNotation, UnknownNode, TooManyNodes, OutOfMemory}
use Rattle.graph_notation.specs.declared.frame.Cause.TheVariants.{Bad, Unknown, TooMany}
use Rattle.graph_notation.specs.Tokens.{Token, IsToken, Cut}
use Rattle.graph_notation.specs.Tokens.Cut.{none, one}
use Rattle.graph_notation.specs.Elements.{Reads}
use Rattle.graph_notation.specs.Elements.Reads.{null, yes, no, int, long, date, binary, words, reference, sign}
use Rattle.graph_notation.specs.Forms.{SpellsGraph}
use Rattle.graph_notation.specs.Notation.{ReadAs, IsNotation}
use Rattle.graph_notation.specs.Machine.{State, start, gives, wants_value, is_whole, run, step, graph_of, reference_step}
use Rattle.graph_notation.specs.Progress.{SoFar, TokenAt, Untaken, StoppedAt}
use Rattle.graph_notation.specs.Progress.Untaken.{unread, bad, unknown, too_many, no_memory}
use Rattle.graph_notation.specs.Refusal.{GoOn, GoOnWithin, Refused, RefusedAt, EndsEarly, Refusal}
use Rattle.graph_notation.specs.Refusal.Refused.{misplaced, unknown as refused_unknown, too_many as refused_many}
use Rattle.graph_notation.proofs.Nexts.{IsForm, AllForms}
use Rattle.graph_notation.proofs.Exact.{spelled_where_read}
use Rattle.graph_notation.proofs.Advance.{run_more}
use Rattle.graph_notation.proofs.Tokens.{one_token, some_token, one_cut}
use Rattle.graph_notation.proofs.Living.{sane_start, sane_run}
use Rattle.graph_notation.proofs.Refusing.{lives, goes_on, dead_within, dead_always, unfinished, run_more_room, with_room, forward_step, err_is}
use Rattle.graph_notation.proofs.Distinct.{one_element, one_reading}

form_of : {token : Token} {e : Element} → Reads token e → IsForm e
form_of null = tt
form_of yes = tt
form_of no = tt
form_of (int z token fits is) = tt
form_of (long z token fits is) = tt
form_of (date z digits fits is) = tt
form_of (binary bytes digits low is) = tt
form_of (words inner text q u) = tt
form_of (reference k digits low is) = tt
form_of (sign mark) = tt

pub forms_of : (tokens : List Token) (es : List Element) → ReadAs tokens es → AllForms es
forms_of [] [] a = tt
forms_of [] (e ∷ es) a = absurd a
forms_of (t ∷ ts) [] a = absurd a
forms_of (t ∷ ts) (e ∷ es) a = (form_of a.0, forms_of ts es a.1)

forms_more : (es : List Element) (e : Element) → AllForms es → IsForm e → AllForms (es ++ e ∷ [])
forms_more [] e a f = (f, tt)
forms_more (x ∷ xs) e a f = (a.0, forms_more xs e a.1 f)

-- a whole reading
pub record Whole (bound : ℕ) (text : List ℕ) (s : State) : Type 0 where
  pub elements : List Element
  pub spelled : SpellsGraph (graph_of s) elements
  pub notation : IsNotation text (graph_of s)
  pub limit : length s.nodes ≤ bound

pub whole : (bound : ℕ) (text : List ℕ) (s : State) → SoFar bound text [] s → is_whole s ≡ true → Whole bound text s
whole bound text s x w =
    let sp : SpellsGraph (graph_of s) x.elements = spelled_where_read bound x.elements s x.is w (forms_of x.tokens x.elements x.read) in
    record {
      elements = x.elements;
      spelled = sp;
      notation = record { tokens = x.tokens; elements = x.elements; cut = x.cut; read = x.read; spelled = sp };
      limit = (sane_run bound x.elements start s (sane_start bound) x.is).limit;
    }

-- a text that ends too early
pub ends_early : (bound : ℕ) (text : List ℕ) (s : State) → SoFar bound text [] s → is_whole s ≡ false → EndsEarly bound text (BadNotation (length text))
ends_early bound text s x w = record {
  tokens = x.tokens;
  elements = x.elements;
  cut = x.cut;
  read = x.read;
  goes_on = lives bound x.elements s x.is (forms_of x.tokens x.elements x.read);
  unfinished = λ g sp. unfinished bound x.elements s g x.is w sp;
  fault_is = refl;
}

-- a token that was refused
null_goes : (bound : ℕ) (es : List Element) (s : State) → run bound start es ≡ Ok s → AllForms es → wants_value s.place s.frame.head ≡ true → GoOn (es ++ Plain values.Null ∷ [])
null_goes bound es s h a w =
    let t : State = gives values.Null s in
    let k : step bound s (Plain values.Null) ≡ Ok t = rw w refl in
    goes_on bound (es ++ Plain values.Null ∷ []) (lives bound (es ++ Plain values.Null ∷ []) t (run_more bound es (Plain values.Null) start s t h k) (forms_more es (Plain values.Null) a tt))

no_value_here : (bound : ℕ) (s : State) (k : ℕ) → step bound s (Reference k) ≡ Err Bad → step bound s (Plain values.Null) ≡ Err Bad
no_value_here bound s k h = elim (err_is (wants_value s.place s.frame.head) (reference_step k s) (Err Bad) Bad h) [
  | inl x ↦ absurd (never k s x.1)
  | inr x ↦ rw x.0 refl
]
  where
    never : (k : ℕ) (s : State) → reference_step k s ≡ Err Bad → ⊥
    never k s e = elim (err_is (nat_lt k (length s.nodes)) (Ok (gives (values.Node k) s)) (Err (Unknown k)) Bad e) [ inl y ↦ cc | inr y ↦ cc ]

placed : (text token rest : List ℕ) (at : ℕ) → at < length text → drop at text ≡ token ++ rest → at + length (token ++ rest) ≡ length text
placed text token rest at low e =
    let n : length (drop at text) ≡ length text - at = length-drop at text in
    let m : length (token ++ rest) ≡ length (drop at text) = ap length (sym e) in
    omega (arith, n, m)

refused_at : (bound : ℕ) (text after : List ℕ) (at : ℕ) (s : State) (fault : NotationFault) → at < length text → (x : SoFar bound text (drop at text) s) (front : TokenAt (drop at text) after) → Refused bound x.elements front.token at fault → RefusedAt bound text fault
refused_at bound text after at s fault low x front r = record {
  tokens = x.tokens;
  elements = x.elements;
  token = front.token;
  rest = after;
  cut = subst (Cut text x.tokens) front.whole x.cut;
  next = front.next;
  read = x.read;
  goes_on = lives bound x.elements s x.is (forms_of x.tokens x.elements x.read);
  at = at;
  place = placed text front.token after at low front.whole;
  refused = r;
}

pub stopped : (bound : ℕ) (text : List ℕ) (fault : NotationFault) → StoppedAt bound text fault → fault ≢ OutOfMemory → RefusedAt bound text fault
stopped bound text fault x never = by_cause x.untaken refl
  where
    es : List Element
    es = (x.so_far).elements

    forms : AllForms es
    forms = forms_of ((x.so_far).tokens) es ((x.so_far).read)

    by_cause : {f : NotationFault} → Untaken bound (drop x.at text) (drop x.end text) x.before x.at f → f ≡ fault → RefusedAt bound text fault
    by_cause (unread front h) e = subst (RefusedAt bound text) e (refused_at bound text (drop x.end text) x.at x.before (BadNotation x.at) x.low x.so_far front
        (misplaced (λ y r g. h y r) (λ k f. h (Reference k) f.reads)))
    by_cause (bad front y r k) e = subst (RefusedAt bound text) e (refused_at bound text (drop x.end text) x.at x.before (BadNotation x.at) x.low x.so_far front
        (misplaced
        (λ z q g. let same : z ≡ y = one_element q r in dead_always bound es x.before y Bad tt ((x.so_far).is) k (subst (λ v. GoOn (es ++ v ∷ [])) same g))
        (λ n f.
        let same : y ≡ Reference n = one_element r f.reads in
        let k' : step bound x.before (Reference n) ≡ Err Bad = subst (λ v. step bound x.before v ≡ Err Bad) same k in
        dead_always bound es x.before (Plain values.Null) Bad tt ((x.so_far).is) (no_value_here bound x.before n k') f.may_stand)))
    by_cause (unknown front y k r h) e =
        let f = forward_step bound x.before y k h in
        let h' : step bound x.before (Reference k) ≡ Err (Unknown k) = subst (λ v. step bound x.before v ≡ Err (Unknown k)) f.is h in
        subst (RefusedAt bound text) e (refused_at bound text (drop x.end text) x.at x.before (UnknownNode x.at k) x.low x.so_far front
        (refused_unknown k (record {
          reads = subst (Reads front.token) f.is r;
          may_stand = null_goes bound es x.before ((x.so_far).is) forms f.wants;
          too_high = dead_always bound es x.before (Reference k) (Unknown k) tt ((x.so_far).is) h';
        })))
    by_cause (too_many front y r h) e =
        let big = with_room bound x.before y h in
        let bound' : ℕ = bound + suc (length (x.before).nodes) in
        let more : run bound' start es ≡ Ok x.before = run_more_room bound bound' es start x.before (omega arith) ((x.so_far).is) in
        subst (RefusedAt bound text) e (refused_at bound text (drop x.end text) x.at x.before (TooManyNodes x.at) x.low x.so_far front
        (refused_many y r
        (goes_on bound' (es ++ y ∷ []) (lives bound' (es ++ y ∷ []) big.next (run_more bound' es y start x.before big.next more big.is) (forms_more es y forms (form_of r))))
        (dead_within bound es x.before y TooMany ((x.so_far).is) h)))
    by_cause no_memory e = absurd (never (sym e))

-- No text is both a notation and refused.
pub cut_on : {text rest : List ℕ} {tokens : List Token} (s after : List ℕ) (token : Token) (others : List Token) → Cut text tokens rest → rest ≡ token ++ after → IsToken token after → s ≡ text → Cut s others [] → (more : List Token) × (others ≡ tokens ++ token ∷ more)
cut_on s after token others (none text) e x same c = by_cut c refl (same ∙ e)
  where
    by_cut : {t r : List ℕ} {ts : List Token} → Cut t ts r → r ≡ [] → t ≡ token ++ after → (more : List Token) × (ts ≡ token ∷ more)
    by_cut (none t) h k = let big = some_token x in let n : length t ≡ length token + length after = ap length k ∙ length-append token after in let z : length t ≡ 0 = ap length h in absurd (omega arith)
    by_cut (one token' middle r ts x' c') h k = let y = one_token x' x k in (ts, ap (λ z. z ∷ ts) y.0)
cut_on s after token others (one token' middle rest tokens x' c') e x same c = by_cut c refl same (λ ts d h. cut_on middle after token ts c' e x h d)
  where
    by_cut : {t r : List ℕ} {us : List Token} → Cut t us r → r ≡ [] → t ≡ token' ++ middle → ((ts : List Token) → Cut middle ts [] → middle ≡ middle → (more : List Token) × (ts ≡ tokens ++ token ∷ more)) → (more : List Token) × (us ≡ token' ∷ (tokens ++ token ∷ more))
    by_cut (none t) h k again = let big = some_token x' in let n : length t ≡ length token' + length middle = ap length k ∙ length-append token' middle in let z : length t ≡ 0 = ap length h in absurd (omega arith)
    by_cut (one first m r us y d) h k again =
        let both = one_token y x' k in
        let d' : Cut middle us [] = subst (λ z. Cut z us []) both.1 (subst (Cut m us) h d) in
        let z = again us d' refl in
        let a : first ≡ token' = both.0 in
        let b : us ≡ tokens ++ token ∷ z.0 = z.1 in
        (z.0, (cc))

pub zip_on : (tokens : List Token) (es : List Element) (token : Token) (more : List Token) (fs : List Element) → ReadAs tokens es → ReadAs (tokens ++ token ∷ more) fs → (e : Element) × (gs : List Element) × Reads token e × (fs ≡ es ++ e ∷ gs)
zip_on [] [] token more [] a b = absurd b
zip_on [] [] token more (f ∷ fs) a b = (f, fs, b.0, refl)
zip_on [] (e ∷ es) token more fs a b = absurd a
zip_on (t ∷ ts) [] token more fs a b = absurd a
zip_on (t ∷ ts) (e ∷ es) token more [] a b = absurd b
zip_on (t ∷ ts) (e ∷ es) token more (f ∷ fs) a b =
    let x : e ≡ f = one_element a.0 b.0 in
    let y = zip_on ts es token more fs a.1 b.1 in
    let z : fs ≡ es ++ y.0 ∷ y.1 = y.3 in
    (y.0, y.1, y.2, (cc))

-- no graph with at most so many nodes goes on with a refused token
pub never_goes_on : (bound : ℕ) (before : List Element) {token : Token} {at : ℕ} {f : NotationFault} → Refused bound before token at f → (e : Element) → Reads token e → GoOn (before ++ e ∷ []) → GoOnWithin bound (before ++ e ∷ []) → ⊥
never_goes_on bound before (misplaced never no_forward) e r on within = never e r on
never_goes_on bound before (refused_unknown k f) e r on within = f.too_high (subst (λ v. GoOn (before ++ v ∷ [])) (one_element r f.reads) on)
never_goes_on bound before (refused_many y q goes never) e r on within = never (subst (λ v. GoOnWithin bound (before ++ v ∷ [])) (one_element r q) within)

pub read_or_refused : (bound : ℕ) (text : List ℕ) (g : Shape) (fault : NotationFault) → IsNotation text g → length g.nodes ≤ bound → Refusal bound text fault → ⊥
read_or_refused bound text g fault n low (inl r) =
    let c = cut_on text r.rest r.token n.tokens r.cut refl r.next refl n.cut in
    let z = zip_on r.tokens r.elements r.token c.0 n.elements r.read (subst (λ ts. ReadAs ts n.elements) c.1 n.read) in
    let e : Element = z.0 in
    let sp : SpellsGraph g ((r.elements ++ e ∷ []) ++ z.1) = subst (SpellsGraph g) (z.3 ∙ sym (append_assoc r.elements (e ∷ []) z.1)) n.spelled in
    let on : GoOn (r.elements ++ e ∷ []) = record { more = z.1; graph = g; spelled = sp } in
    let within : GoOnWithin bound (r.elements ++ e ∷ []) = record { more = z.1; graph = g; spelled = sp; limit = low } in
    never_goes_on bound r.elements r.refused e z.2 on within
read_or_refused bound text g fault n low (inr r) =
    let ts : n.tokens ≡ r.tokens = one_cut text r.tokens refl n.cut r.cut in
    let es : n.elements ≡ r.elements = one_reading r.tokens n.elements r.elements (subst (λ x. ReadAs x n.elements) ts n.read) r.read in
    r.unfinished g (subst (SpellsGraph g) es n.spelled)
