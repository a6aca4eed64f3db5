-- What came before a stage, for the places of refusals.
use Rattle.std.proofs.Common.{◌≡◌, ℕ, ◌+◌, ◌*◌, ◌-◌, ◌<◌, ◌≤◌, List, [], ◌∷◌, ◌++◌, refl, sym, ap, ◌∙◌, subst, arith, inl, inr, append_assoc}
use Rattle.std.specs.Prelude.{Some}
use Rattle.std.proofs.lemmas.Bool.{cases_lt}
use Rattle.std.proofs.lemmas.List.{append-nil}
use Rattle.hessian_text.specs.Spelling.{AreBytes}
use Rattle.hessian_text.specs.declared.stage.Kind.{Kind}
use Rattle.hessian_text.specs.declared.stage.Part.{Part}
use Rattle.hessian_text.specs.declared.stage.Part.TheVariants.{Inner, Final}
use Rattle.hessian_text.specs.declared.stage.Begun.{Begun}
use Rattle.hessian_text.specs.declared.stage.Stage.{Stage}
use Rattle.hessian_text.specs.declared.stage.Stage.TheVariants.{Code, High, Low, Inside, Ended}
use Rattle.hessian_text.specs.declared.step.Item.{Item}
use Rattle.hessian_text.specs.declared.step.Item.TheVariants.{Grows, Whole, Wrong}
use Rattle.hessian_text.specs.ChunkHead.{ChunkHead}
use Rattle.hessian_text.specs.Items.{IsItem, Contents}
use Rattle.hessian_text.specs.Items.Contents.{none, item}
use Rattle.hessian_text.specs.Refusal.{InnerChunks, IsBeforeItem}
use Rattle.hessian_text.specs.Refusal.InnerChunks.{none as no_chunks, chunk as one_chunk}
use Rattle.hessian_text.specs.Residual.{begun_bytes}
use Rattle.hessian_text.specs.Sound.{SoundBegun, SoundStage}
use Rattle.hessian_text.specs.Steps.{letter_bytes, letter_units, behind, entered, after_code, item_step, taken, step, Runs}
use Rattle.hessian_text.specs.Steps.Runs.{stay, go}
use Rattle.hessian_text.proofs.Characters.{item_ended, item_grown}
use Rattle.hessian_text.proofs.Stages.{CodeRow, code_row, arrived_is, moved_is, entered_some, entered_none}
use Rattle.hessian_text.proofs.Keeping.{stage_sound}
use Rattle.hessian_text.proofs.Stages.CodeRow.{short, middle, long}
use Rattle.hessian_text.proofs.Running.{first_small, later_small}

-- whole chunks and a whole head
pub record IsBehindHead (kind : Kind) (part : Part) (n : ℕ) (bytes : List ℕ) : Type 0 where
  pub chunks : List ℕ
  pub head : List ℕ
  pub earlier : InnerChunks kind chunks
  pub begins : ChunkHead kind part n head
  pub bytes_are : bytes ≡ chunks ++ head

-- a character that has begun behind whole ones
pub record IsInItem (kind : Kind) (part : Part) (left : ℕ) (begun : Begun) (bytes : List ℕ) : Type 0 where
  pub before : List ℕ
  pub place : IsBeforeItem kind part left before
  pub bytes_are : bytes ≡ before ++ begun_bytes begun

abbrev pub HasCome : Kind → Stage → List ℕ → Type 0
HasCome kind Code came = InnerChunks kind came
HasCome kind (High part) came = (b1 b0 : ℕ) → b1 < 256 → b0 < 256 → IsBehindHead kind part (b1 * 256 + b0) (came ++ b1 ∷ b0 ∷ [])
HasCome kind (Low part high) came = (b0 : ℕ) → b0 < 256 → IsBehindHead kind part (high * 256 + b0) (came ++ b0 ∷ [])
HasCome kind (Inside part left begun) came = IsInItem kind part left begun came
HasCome kind Ended came = Unit {0}

-- one chunk more
chunks_more : (kind : Kind) (chunks value head forms : List ℕ) (units : ℕ) → InnerChunks kind chunks → ChunkHead kind Inner units head → Contents kind value units forms → InnerChunks kind (chunks ++ (head ++ forms))
chunks_more kind chunks value head forms units no_chunks h c = subst (λ x. InnerChunks kind (head ++ x)) (append-nil forms) (one_chunk value head forms [] units h c no_chunks)
chunks_more kind chunks value head forms units (one_chunk v g f rest n h' c' more) h c = subst (λ x. InnerChunks kind x) (sym (append_assoc g (f ++ rest) (head ++ forms) ∙ ap (λ x. g ++ x) (append_assoc f rest (head ++ forms)))) (one_chunk v g f (rest ++ (head ++ forms)) n h' c' (chunks_more kind rest value head forms units more h c))

-- one item more
contents_more : (kind : Kind) (values forms value form : List ℕ) (units more : ℕ) → Contents kind values units forms → IsItem kind value more form → Contents kind (values ++ value) (units + more) (forms ++ form)
contents_more kind values forms value form units more none i = subst (λ n. Contents kind value n form) (let e : more + 0 ≡ 0 + more = omega arith in e) (subst (λ x. Contents kind value (more + 0) x) (append-nil form) (subst (λ x. Contents kind x (more + 0) (form ++ [])) (append-nil value) (item value form [] [] more 0 i none)))
contents_more kind values forms value form units more (item v f vs fs u n j c) i =
    let k : Contents kind (v ++ (vs ++ value)) (u + (n + more)) (f ++ (fs ++ form)) = item v f (vs ++ value) (fs ++ form) u (n + more) j (contents_more kind vs fs value form n more c i) in
    let e : u + (n + more) ≡ (u + n) + more = omega arith in
    subst (λ m. Contents kind ((v ++ vs) ++ value) m ((f ++ fs) ++ form)) e (subst (λ x. Contents kind ((v ++ vs) ++ value) (u + (n + more)) x) (sym (append_assoc f fs form)) (subst (λ x. Contents kind x (u + (n + more)) (f ++ (fs ++ form))) (sym (append_assoc v vs value)) k))

-- behind so many units of a chunk
entered_come : (kind : Kind) (part : Part) (left stated units : ℕ) (chunks head forms value came : List ℕ) → InnerChunks kind chunks → ChunkHead kind part stated head → Contents kind value units forms → units + left ≡ stated → came ≡ chunks ++ (head ++ forms) → HasCome kind (entered part left) came
entered_come kind part left stated units chunks head forms value came earlier begins contents are same = elim (cases_lt 0 left) [
  | inl h ↦ rw (entered_some part left h) (record { before = came; place = record { chunks = chunks; head = head; forms = forms; value = value; stated = stated; units = units; earlier = earlier; begins = begins; contents = contents; some_left = h; are_left = are; bytes_are = same }; bytes_are = sym (append-nil came) })
  | inr h ↦ let e : left ≡ 0 = omega arith in rw (entered_none part left e) (behind_come kind part stated units chunks head forms value came earlier begins contents (let k : units ≡ stated = omega arith in k) same)
]
  where
    behind_come : (kind : Kind) (part : Part) (stated units : ℕ) (chunks head forms value came : List ℕ) → InnerChunks kind chunks → ChunkHead kind part stated head → Contents kind value units forms → units ≡ stated → came ≡ chunks ++ (head ++ forms) → HasCome kind (behind part) came
    behind_come kind Final stated units chunks head forms value came earlier begins contents are same = tt
    behind_come kind Inner stated units chunks head forms value came earlier begins contents are same = rw same (chunks_more kind chunks value head forms stated earlier begins (subst (λ n. Contents kind value n forms) are contents))

head_come : (kind : Kind) (part : Part) (n : ℕ) (came : List ℕ) → IsBehindHead kind part n came → HasCome kind (entered part n) came
head_come kind part n came h = entered_come kind part n n 0 h.chunks h.head [] [] came h.earlier h.begins none (omega arith) (h.bytes_are ∙ ap (λ x. h.chunks ++ x) (sym (append-nil h.head)))

come_at : (kind : Kind) (s t : Stage) (came : List ℕ) → s ≡ t → HasCome kind s came → HasCome kind t came
come_at kind s t came e h = subst (λ x. HasCome kind x came) e h

row_come : (kind : Kind) (c : ℕ) (t : Stage) (came : List ℕ) → InnerChunks kind came → CodeRow kind c t → HasCome kind t (came ++ c ∷ [])
row_come kind c t came h (short n few head e) = come_at kind (entered Final n) t (came ++ c ∷ []) (sym e) (head_come kind Final n (came ++ c ∷ []) (record { chunks = came; head = c ∷ []; earlier = h; begins = head; bytes_are = refl }))
row_come kind c t came h (middle high few head e) = come_at kind (Low Final high) t (came ++ c ∷ []) (sym e) (λ b0 k. record { chunks = came; head = c ∷ b0 ∷ []; earlier = h; begins = head b0 k; bytes_are = append_assoc came (c ∷ []) (b0 ∷ []) })
row_come kind c t came h (long part head e) = come_at kind (High part) t (came ++ c ∷ []) (sym e) (λ b1 b0 k m. record { chunks = came; head = c ∷ b1 ∷ b0 ∷ []; earlier = h; begins = head b1 b0 k m; bytes_are = append_assoc came (c ∷ []) (b1 ∷ b0 ∷ []) })

high_come : (kind : Kind) (part : Part) (b b0 : ℕ) (came : List ℕ) → IsBehindHead kind part (b * 256 + b0) (came ++ b ∷ b0 ∷ []) → IsBehindHead kind part (b * 256 + b0) ((came ++ b ∷ []) ++ b0 ∷ [])
high_come kind part b b0 came h = subst (λ x. IsBehindHead kind part (b * 256 + b0) x) (sym (append_assoc came (b ∷ []) (b0 ∷ []))) h

item_come : (kind : Kind) (part : Part) (left : ℕ) (begun : Begun) (b : ℕ) (t : Stage) (gained came : List ℕ) (out : Item) → 0 < left → b < 256 → SoundBegun kind left begun → IsInItem kind part left begun came → item_step kind left begun b ≡ out → taken part left out ≡ Some (t, gained) → HasCome kind t (came ++ b ∷ [])
item_come kind part left begun b t gained came (Grows p) some small s h is e = come_at kind (Inside part left p) t (came ++ b ∷ []) (moved_is (Inside part left p) t [] gained e).0 (record { before = h.before; place = h.place; bytes_are = ap (λ x. x ++ b ∷ []) h.bytes_are ∙ append_assoc h.before (begun_bytes begun) (b ∷ []) ∙ ap (λ x. h.before ++ x) (sym (item_grown kind left begun b p s is).grown) })
item_come kind part left begun b t gained came (Whole w) some small s h is e =
    let i = item_ended kind left begun b w some small s is in
    come_at kind (entered part (left - letter_units w)) t (came ++ b ∷ []) (moved_is (entered part (left - letter_units w)) t (letter_bytes w) gained e).0 (with_item i.item i.fits h.place)
  where
    with_item : IsItem kind (letter_bytes w) (letter_units w) (begun_bytes begun ++ b ∷ []) → letter_units w ≤ left → IsBeforeItem kind part left h.before → HasCome kind (entered part (left - letter_units w)) (came ++ b ∷ [])
    with_item i fits p = entered_come kind part (left - letter_units w) p.stated (p.units + letter_units w) p.chunks p.head (p.forms ++ (begun_bytes begun ++ b ∷ [])) (p.value ++ letter_bytes w) (came ++ b ∷ []) p.earlier p.begins (contents_more kind p.value p.forms (letter_bytes w) (begun_bytes begun ++ b ∷ []) p.units (letter_units w) p.contents i) (let a : p.units + left ≡ p.stated = p.are_left in omega arith) (ap (λ x. x ++ b ∷ []) (h.bytes_are ∙ ap (λ x. x ++ begun_bytes begun) p.bytes_are) ∙ regroup p.chunks p.head p.forms (begun_bytes begun) (b ∷ []))
      where
        regroup : (a b c d e : List ℕ) → ((a ++ (b ++ c)) ++ d) ++ e ≡ a ++ (b ++ (c ++ (d ++ e)))
        regroup a b c d e = simp append_assoc
item_come kind part left begun b t gained came Wrong some small s h is e = absurd (cc)

pub step_come : (kind : Kind) (s t : Stage) (b : ℕ) (gained came : List ℕ) → SoundStage kind s → b < 256 → step kind s b ≡ Some (t, gained) → HasCome kind s came → HasCome kind t (came ++ b ∷ [])
step_come kind Code t b gained came s small e h = row_come kind b t came h (code_row kind b t (arrived_is (after_code kind b) t gained e).0)
step_come kind (High part) t b gained came s small e h = come_at kind (Low part b) t (came ++ b ∷ []) (moved_is (Low part b) t [] gained e).0 (λ b0 k. high_come kind part b b0 came (h b b0 small k))
step_come kind (Low part high) t b gained came s small e h = come_at kind (entered part (high * 256 + b)) t (came ++ b ∷ []) (moved_is (entered part (high * 256 + b)) t [] gained e).0 (head_come kind part (high * 256 + b) (came ++ b ∷ []) (h b small))
step_come kind (Inside part left begun) t b gained came s small e h = item_come kind part left begun b t gained came (item_step kind left begun b) s.0 small s.2 h refl e
step_come kind Ended t b gained came s small e h = absurd (cc)

pub runs_come : (kind : Kind) (s t : Stage) (xs gained came : List ℕ) → Runs kind s xs t gained → SoundStage kind s → AreBytes xs → HasCome kind s came → HasCome kind t (came ++ xs)
runs_come kind s t xs gained came (stay u) sound small h = subst (λ x. HasCome kind s x) (sym (append-nil came)) h
runs_come kind s t xs gained came (go s' u t' b bs g more e r) sound small h =
    let low = first_small b bs small in
    subst (λ x. HasCome kind t x) (append_assoc came (b ∷ []) bs) (runs_come kind u t bs more (came ++ b ∷ []) r (stage_sound kind s u b g sound low e) (later_small b bs small) (step_come kind s u b g came sound low e h))
