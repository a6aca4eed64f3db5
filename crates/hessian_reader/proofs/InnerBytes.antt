-- A byte inside a text or a binary that is refused.
use Rattle.std.proofs.Common.{◌≡◌, ◌≢◌, ℕ, ◌+◌, ◌-◌, ◌<◌, false, List, [], ◌∷◌, ◌++◌, length, take, refl, ap, sym, ◌∙◌, subst, arith, append_assoc}
use Rattle.std.specs.Prelude.{slice_index}
use Rattle.std.proofs.lemmas.List.{append-nil, length-append}
use Rattle.std.proofs.Math.Seq.{take-append_seam, get_or-append_seam}
use Rattle.hessian_graph.specs.Loose.{Slot, AType as TypeSlot, AName as NameSlot, AField}
use Rattle.hessian_graph.specs.Refusal.{BadCode, BadText, MayBeText, Stopped}
use Rattle.hessian_graph.specs.Refusal.MayBeText.{in_value, in_name, in_type}
use Rattle.hessian_graph.specs.Refusal.WantsName.{of_class as name_of_class, of_field}
use Rattle.hessian_graph.specs.Refusal.Refused.{text_code as f_text_code, text_character as f_text_character, binary_code as f_binary_code}
use Rattle.hessian_text.specs.declared.stage.Kind.{Kind}
use Rattle.hessian_text.specs.declared.stage.Kind.TheVariants as kinds
use Rattle.hessian_text.specs.declared.stage.Stage.TheVariants as stages
use Rattle.hessian_text.specs.Spelling.{AreBytes, Spelling, IsCutShort}
use Rattle.hessian_text.specs.Refusal.{IsBadCode, IsBadText}
use Rattle.hessian_text.specs.Steps.Runs.{stay}
use Rattle.hessian_text.specs.Reader.{Reading, Advances, RefusesCode, RefusesItem}
use Rattle.hessian_text.proofs.Running.{cut_short}
use Rattle.hessian_text.proofs.Answering.{code_at, item_at}
use Rattle.hessian_reader.specs.declared.element.Want.{Want}
use Rattle.hessian_reader.specs.declared.element.Want.TheVariants as wants
use Rattle.hessian_reader.specs.Leaves.{hessian, node_limit}
use Rattle.hessian_reader.specs.Elements.{HasNoElement}
use Rattle.hessian_reader.proofs.Elements.{BeginsElement}
use Rattle.hessian_reader.specs.Codes.{chunk_element}
use Rattle.hessian_reader.specs.Lexing.{TakesChunks, BeginsChunks}
use Rattle.hessian_reader.specs.States.{State, Place, AtValue, AtDefined, AtReference, AtType, AtLength, AtClass, AtName, AtCount, AtField as FieldPlace, start, want_at, lacks_none, is_done}
use Rattle.hessian_reader.specs.Steps.{Leads}
use Rattle.hessian_reader.proofs.Slots.{open_slots, left_slots, loose_form, slots_at, slots_of}
use Rattle.hessian_reader.specs.Faults.{faults}
use Rattle.hessian_reader.proofs.Sound.{Sound}
use Rattle.hessian_reader.proofs.Keeping.{sound_start, sound_leads}
use Rattle.hessian_reader.proofs.Outcomes.{some_lacking}
use Rattle.hessian_reader.proofs.Elements.{chunks_are}
use Rattle.hessian_reader.proofs.OneWay.{Fronts, fronts}
use Rattle.hessian_reader.proofs.OneWay.Fronts.{first_shorter, second_shorter}
use Rattle.hessian_reader.proofs.LexChunks.{small_more, leads_on, no_code_lexed, no_item_lexed}
use Rattle.hessian_reader.proofs.LeafBytes.{no_bytes, cons_bytes}
use Rattle.hessian_reader.proofs.LooseOnce.{want_of}
use Rattle.hessian_reader.proofs.Objected.{value_waits, any_wanted, any_place}
use Rattle.hessian_reader.proofs.Stopping.{right_some}
use Rattle.hessian_reader.proofs.CutOff.{Begins, none_stops}

-- ---- the slot of a text or a binary

record TextSlot (s : State) : Type 0 where
  slot : Slot
  others : List Slot
  splits : slots_of s ≡ slot ∷ others
  wanted : want_of slot ≡ want_at s.place
  may : MayBeText slot

text_slot : (s : State) → Sound s → lacks_none s.built.open_nodes s.built.wanted ≡ false → TakesChunks (want_at s.place) kinds.Text → TextSlot s
text_slot s sound some t = by_place s.place refl t
  where
    value : wants.AnyValue ≡ want_at s.place → TextSlot s
    value w = let v = value_waits s sound some (any_place s.place w) in record { slot = v.slot; others = v.others; splits = v.splits; wanted = any_wanted v.slot v.wants ∙ w; may = in_value v.wants }

    there : (p : Place) (slot : Slot) (others : List Slot) → s.place ≡ p → slots_at p (open_slots s.built.open_nodes s.built.wanted) (left_slots s.built.open_nodes s.built.wanted) ≡ slot ∷ others → want_of slot ≡ want_at p → MayBeText slot → TextSlot s
    there p slot others e f w may = record { slot = slot; others = others; splits = ap (λ q. slots_at q (open_slots s.built.open_nodes s.built.wanted) (left_slots s.built.open_nodes s.built.wanted)) e ∙ f; wanted = w ∙ sym (ap want_at e); may = may }

    by_place : (p : Place) → s.place ≡ p → TakesChunks (want_at p) kinds.Text → TextSlot s
    by_place AtValue e t = value (sym (ap want_at e))
    by_place AtDefined e t = value (sym (ap want_at e))
    by_place AtReference e t = absurd t
    by_place (AtLength k) e t = absurd t
    by_place AtClass e t = absurd t
    by_place (AtCount name) e t = absurd t
    by_place (AtType form) e t = there (AtType form) (TypeSlot (loose_form form)) _ e refl refl (in_type (loose_form form))
    by_place AtName e t = there AtName NameSlot _ e refl refl (in_name name_of_class)
    by_place (FieldPlace class k) e t = there (FieldPlace class k) (AField class k) _ e refl refl (in_name (of_field class k))

binary_wanted : (w : Want) → TakesChunks w kinds.Binary → wants.AnyValue ≡ w
binary_wanted wants.AnyValue t = refl
binary_wanted wants.AnInt t = absurd t
binary_wanted wants.AType t = absurd cc
binary_wanted wants.AText t = absurd cc

-- ---- fronts of a text or a binary that has begun

front_begins : (w : Want) (kind : Kind) (came f m : List ℕ) → TakesChunks w kind → IsCutShort kind came → came ≡ f ++ m → BeginsElement w f
front_begins w kind came f m t cut e = record {
  element = chunk_element w kind cut.value;
  more = m ++ cut.more;
  lacks = right_some m cut.more cut.lacks;
  is = chunks_are w kind cut.value (f ++ (m ++ cut.more)) t (subst (Spelling kind cut.value) (ap (λ x. x ++ cut.more) e ∙ append_assoc f m cut.more) cut.spells);
}

no_more : (b : ℕ) (m k : List ℕ) → b ∷ [] ≡ m ++ k → k ≢ [] → m ≡ []
no_more b [] k e some = refl
no_more b (c ∷ []) k e some = absurd (some cc)
no_more b (c ∷ d ∷ m) k e some = absurd cc

begins_by : (w : Want) (kind : Kind) (came : List ℕ) (b : ℕ) → TakesChunks w kind → IsCutShort kind came → Begins w (came ++ b ∷ [])
begins_by w kind came b t cut f k e some more = by_fronts (fronts came (b ∷ []) f k e)
  where
    by_fronts : Fronts came (b ∷ []) f k → BeginsElement w f
    by_fronts (second_shorter m x y) = front_begins w kind came f m t cut x
    by_fronts (first_shorter m x y) = front_begins w kind came f [] t cut (sym (append-nil came) ∙ ap (λ q. came ++ q) (sym (no_more b m k y more)) ∙ sym x ∙ sym (append-nil f))

-- ---- the refusals

module _ (roots : ℕ) (bytes before came rest : List ℕ) (b : ℕ) (s : State) (r : Reading) (joined : bytes ≡ (before ++ (came ++ b ∷ [])) ++ rest) (leads : Leads (start roots) before s) (d : is_done s ≡ false) (low : AreBytes came) (small : b < 256) (begun : BeginsChunks (want_at s.place) r came) where
  element : List ℕ
  element = came ++ b ∷ []

  bytes_are : AreBytes (came ++ b ∷ [])
  bytes_are = small_more came (b ∷ []) low (cons_bytes b [] small no_bytes)

  cut : IsCutShort r.kind came
  cut = cut_short r.kind r.stage came begun.advances.gained low begun.advances.runs begun.still_open

  stays : Advances r [] r
  stays = record { gained = []; kind = refl; runs = stay r.stage; done = sym (append-nil r.done) }

  within : length came < length (came ++ b ∷ [])
  within = omega (arith, length-append came (b ∷ []))

  led : Advances (record { kind = r.kind; done = []; stage = stages.Code }) (take (length came) (came ++ b ∷ [])) r
  led = subst (λ x. Advances (record { kind = r.kind; done = []; stage = stages.Code }) x r) (sym (take-append_seam came (b ∷ []))) begun.advances

  byte_is : slice_index (came ++ b ∷ []) (length came) ≡ b
  byte_is = get_or-append_seam came b [] 0

  from_none : (n : ℕ) → 0 + n ≡ n
  from_none n = omega arith

  some : came ++ b ∷ [] ≢ []
  some = right_some came (b ∷ []) (λ e. cc)

  came_some : 0 < length came
  came_some = filled came begun.some
    where
      filled : (xs : List ℕ) → xs ≢ [] → 0 < length xs
      filled [] h = absurd (h refl)
      filled (x ∷ xs) h = omega arith

  bad_code : RefusesCode r.kind r.stage b → IsBadCode r.kind (came ++ b ∷ []) 0 (length came) b
  bad_code refuses =
      let q = code_at r.kind (came ++ b ∷ []) 0 (length came) r (omega arith) bytes_are within led (subst (RefusesCode r.kind r.stage) (sym byte_is) refuses) in
      subst (λ c. IsBadCode r.kind (came ++ b ∷ []) 0 (length came) c) byte_is (subst (λ n. IsBadCode r.kind (came ++ b ∷ []) 0 n (slice_index (came ++ b ∷ []) n)) (from_none (length came)) q)

  code_by : (kind : Kind) → r.kind ≡ kind → HasNoElement (want_at s.place) (came ++ b ∷ []) → IsBadCode kind (came ++ b ∷ []) 0 (length came) b → Stopped hessian faults node_limit roots bytes (BadCode (length before + length came) b)
  code_by kinds.Text e none bad =
      let sound = sound_leads (sound_start roots) leads in
      let t = text_slot s sound (some_lacking s sound d) (subst (TakesChunks (want_at s.place)) e begun.takes) in
      none_stops roots bytes before (came ++ b ∷ []) rest s t.slot t.others _ joined leads d t.splits t.wanted some none (begins_by (want_at s.place) r.kind came b begun.takes cut) (f_text_code t.slot t.others (came ++ b ∷ []) (length came) b t.may came_some bad)
  code_by kinds.Binary e none bad =
      let sound = sound_leads (sound_start roots) leads in
      let w = binary_wanted (want_at s.place) (subst (TakesChunks (want_at s.place)) e begun.takes) in
      let v = value_waits s sound (some_lacking s sound d) (any_place s.place w) in
      none_stops roots bytes before (came ++ b ∷ []) rest s v.slot v.others _ joined leads d v.splits (any_wanted v.slot v.wants ∙ w) some none (begins_by (want_at s.place) r.kind came b begun.takes cut) (f_binary_code v.slot v.others (came ++ b ∷ []) (length came) b v.wants came_some bad)

  -- a code behind a chunk that isn't the last
  pub inner_code_stops : RefusesCode r.kind r.stage b → Stopped hessian faults node_limit roots bytes (BadCode (length before + length came) b)
  inner_code_stops refuses = code_by r.kind refl (no_code_lexed (want_at s.place) r r came (b ∷ []) 0 low (cons_bytes b [] small no_bytes) (leads_on (want_at s.place) r came (b ∷ []) begun) (omega arith) stays refuses) (bad_code refuses)

  -- a byte that no character goes on with; so many bytes of it came
  pub character_stops : (k : ℕ) → RefusesItem r.kind r.stage b k → Stopped hessian faults node_limit roots bytes (BadText (length before + (length came - k)))
  character_stops k refuses =
      let sound = sound_leads (sound_start roots) leads in
      let q = item_at r.kind (came ++ b ∷ []) 0 (length came) k r (omega arith) bytes_are within led (subst (λ c. RefusesItem r.kind r.stage c k) (sym byte_is) refuses) in
      let t = text_slot s sound (some_lacking s sound d) (subst (TakesChunks (want_at s.place)) q.0 begun.takes) in
      let none = no_item_lexed (want_at s.place) r r came (b ∷ []) 0 k low (cons_bytes b [] small no_bytes) (leads_on (want_at s.place) r came (b ∷ []) begun) (omega arith) stays refuses in
      none_stops roots bytes before (came ++ b ∷ []) rest s t.slot t.others _ joined leads d t.splits t.wanted some none (begins_by (want_at s.place) r.kind came b begun.takes cut) (f_text_character t.slot t.others (came ++ b ∷ []) (length came - k) t.may (subst (λ n. IsBadText (came ++ b ∷ []) 0 (n - k)) (from_none (length came)) q.1))
