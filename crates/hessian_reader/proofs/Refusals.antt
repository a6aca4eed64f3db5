-- A piece that is refused is refused at the place and for the cause that the definition of refusals gives.
use Rattle.std.proofs.Common.{◌≡◌, ℕ, zero, suc, ◌+◌, ◌-◌, ◌<◌, ◌≤◌, false, List, [], ◌∷◌, ◌++◌, length, get_or, take, drop, refl, sym, ap, ◌∙◌, subst, arith, append_assoc, length-append, inl, inr}
use Rattle.std.specs.Prelude.{Err, slice_index}
use Rattle.std.proofs.lemmas.List.{take-append-drop, length-take-le}
use Rattle.std.proofs.Math.Seq.{take-append_seam, get_or-append_seam}
use Rattle.hessian_graph.specs.Refusal.{Cause, Double, BadCode, BadText, Stopped}
use Rattle.hessian_text.specs.Spelling.{AreBytes}
use Rattle.hessian_text.specs.declared.stage.Stage.TheVariants as stages
use Rattle.hessian_text.specs.Reader.{Reading, Advances, RefusesItem}
use Rattle.hessian_text.proofs.Answering.{begun_within}
use Rattle.hessian_reader.specs.declared.element.Element.{Element}
use Rattle.hessian_reader.specs.declared.element.Want.{Want}
use Rattle.hessian_reader.specs.declared.element.Want.TheVariants as wants
use Rattle.hessian_reader.specs.declared.fault.HessianFault.{HessianFault}
use Rattle.hessian_reader.specs.declared.fault.HessianFault.TheVariants as told
use Rattle.hessian_reader.specs.declared.lexer.Lexed.TheVariants as lexed
use Rattle.hessian_reader.specs.declared.stop.Objection.{Objection}
use Rattle.hessian_reader.specs.Leaves.{hessian, node_limit}
use Rattle.hessian_reader.specs.Elements.{IsElement}
use Rattle.hessian_reader.specs.Faults.{faults, cause_of}
use Rattle.hessian_reader.specs.Lexing.{BeginsChunks}
use Rattle.hessian_reader.specs.Refusing.{fault_of, IsStoppedBy, RefusesFirst, RefusesByte}
use Rattle.hessian_reader.specs.States.{State, start, want_at, is_done}
use Rattle.hessian_reader.specs.Steps.{take_element, Leads}
use Rattle.hessian_reader.proofs.OneWay.{bytes_front}
use Rattle.hessian_reader.proofs.LexChunks.{small_more}
use Rattle.hessian_reader.proofs.LeafBytes.{no_bytes, cons_bytes}
use Rattle.hessian_reader.proofs.Stopping.{objection_stops}
use Rattle.hessian_reader.proofs.FirstByte.{double_stops, no_value_stops, no_int_stops, no_text_stops, no_type_stops}
use Rattle.hessian_reader.proofs.InnerBytes.{inner_code_stops, character_stops}

-- ---- a byte of a piece

parted_at : (n : ℕ) (xs : List ℕ) → n < length xs → xs ≡ take n xs ++ (get_or xs n 0 ∷ drop (suc n) xs)
parted_at n [] low = absurd (omega (arith, low))
parted_at zero (x ∷ xs) low = refl
parted_at (suc n) (x ∷ xs) low = ap (λ q. x ∷ q) (parted_at n xs (omega (arith, low)))

-- the bytes up to that byte, and those behind it
joined_at : (before came piece : List ℕ) (n : ℕ) → n < length piece → before ++ (came ++ piece) ≡ (before ++ ((came ++ take n piece) ++ slice_index piece n ∷ [])) ++ drop (suc n) piece
joined_at before came piece n low =
    let b = slice_index piece n in
    let rest = drop (suc n) piece in
    let front = came ++ take n piece in
    ap (λ x. before ++ (came ++ x)) (parted_at n piece low) ∙ ap (λ x. before ++ x) (sym (append_assoc came (take n piece) (b ∷ rest)) ∙ sym (append_assoc front (b ∷ []) rest)) ∙ sym (append_assoc before (front ++ b ∷ []) rest)

joined_first : (before piece : List ℕ) → 0 < length piece → before ++ piece ≡ (before ++ slice_index piece 0 ∷ []) ++ drop 1 piece
joined_first before piece low = joined_at before [] piece 0 low

byte_small : (piece : List ℕ) (n : ℕ) → AreBytes piece → n < length piece → slice_index piece n < 256
byte_small piece n small low = small.small n low

-- of a character no more bytes came than of its text
character_within : (front : List ℕ) (b : ℕ) (r : Reading) (k : ℕ) (w : Want) → AreBytes front → b < 256 → BeginsChunks w r front → RefusesItem r.kind r.stage b k → k ≤ length front
character_within front b r k w low small begun refuses =
    begun_within r.kind (front ++ b ∷ []) 0 (length front) k r (small_more front (b ∷ []) low (cons_bytes b [] small no_bytes)) (omega (arith, length-append front (b ∷ [])))
    (subst (λ x. Advances (record { kind = r.kind; done = []; stage = stages.Code }) x r) (sym (take-append_seam front (b ∷ []))) begun.advances)
    (subst (λ c. RefusesItem r.kind r.stage c k) (sym (get_or-append_seam front b [] 0)) refuses)

module _ (roots : ℕ) (before came piece : List ℕ) (s : State) (leads : Leads (start roots) before s) (d : is_done s ≡ false) (low : AreBytes came) (small : AreBytes piece) where
  all : List ℕ
  all = before ++ (came ++ piece)

  anew : came ≡ [] → before ++ (came ++ piece) ≡ before ++ piece
  anew none = ap (λ x. before ++ (x ++ piece)) none

  first_by : (w : Want) (c : ℕ) → w ≡ want_at s.place → RefusesFirst w c → before ++ (came ++ piece) ≡ (before ++ c ∷ []) ++ drop 1 piece → Stopped hessian faults node_limit roots (before ++ (came ++ piece)) (BadCode (length before) c)
  first_by wants.AnyValue c e r j = no_value_stops roots (before ++ (came ++ piece)) before (drop 1 piece) c s j leads d e r
  first_by wants.AnInt c e r j = no_int_stops roots (before ++ (came ++ piece)) before (drop 1 piece) c s j leads d e r
  first_by wants.AText c e r j = no_text_stops roots (before ++ (came ++ piece)) before (drop 1 piece) c s j leads d e r
  first_by wants.AType c e r j = no_type_stops roots (before ++ (came ++ piece)) before (drop 1 piece) c s j leads d e r.0 r.1

  first_joined : came ≡ [] → (c : ℕ) → 0 < length piece → c ≡ slice_index piece 0 → before ++ (came ++ piece) ≡ (before ++ c ∷ []) ++ drop 1 piece
  first_joined none c some e = anew none ∙ joined_first before piece some ∙ ap (λ b. (before ++ b ∷ []) ++ drop 1 piece) (sym e)

  pub double_refused : (c : ℕ) → RefusesByte (want_at s.place) came piece (lexed.Double c) → IsStoppedBy roots (before ++ (came ++ piece)) (told.Double (length before) c)
  double_refused c (w, none, some, e, is) = (Double (length before) c, refl, double_stops roots (before ++ (came ++ piece)) before (drop 1 piece) c s (first_joined none c some e) leads d (sym w) is)

  front_small : (n : ℕ) → AreBytes (came ++ take n piece)
  front_small n = small_more came (take n piece) low (bytes_front (take n piece) (drop n piece) (subst AreBytes (sym (take-append-drop n piece)) small))

  front_length : (n : ℕ) → n ≤ length piece → length (came ++ take n piece) ≡ length came + n
  front_length n h = length-append came (take n piece) ∙ ap (λ x. length came + x) (length-take-le n piece h)

  pub code_refused : (n c : ℕ) → RefusesByte (want_at s.place) came piece (lexed.NoCode n c) → IsStoppedBy roots (before ++ (came ++ piece)) (told.BadCode (length before + length came + n) c)
  code_refused n c (some, e, inl (none, z, r)) =
      let place : length before + length came + n ≡ length before = let k : length came ≡ 0 = ap length none in omega (arith, k, z) in
      (BadCode (length before) c, ap (λ p. told.BadCode p c) place, first_by (want_at s.place) c refl r (first_joined none c (omega (arith, some)) (e ∙ ap (slice_index piece) z)))
  code_refused n c (some, e, inr r) =
      let front = came ++ take n piece in
      let place : length before + length came + n ≡ length before + length front = let k = front_length n (omega (arith, some)) in omega (arith, k) in
      let c_small : c < 256 = subst (λ b. b < 256) (sym e) (byte_small piece n small some) in
      let j = joined_at before came piece n some ∙ ap (λ b. (before ++ (front ++ b ∷ [])) ++ drop (suc n) piece) (sym e) in
      (BadCode (length before + length front) c, ap (λ p. told.BadCode p c) place, inner_code_stops roots (before ++ (came ++ piece)) before front (drop (suc n) piece) c s r.reading j leads d (front_small n) c_small r.begun r.refuses)

  pub text_refused : (n k : ℕ) → RefusesByte (want_at s.place) came piece (lexed.NoText n k) → IsStoppedBy roots (before ++ (came ++ piece)) (told.BadText (length before + length came + n - k))
  text_refused n k (some, r) =
      let front = came ++ take n piece in
      let b = slice_index piece n in
      let len = front_length n (omega (arith, some)) in
      let most = character_within front b r.reading k (want_at s.place) (front_small n) (byte_small piece n small some) r.begun r.refuses in
      let place : length before + length came + n - k ≡ length before + (length front - k) = omega (arith, len, most) in
      (BadText (length before + (length front - k)), ap told.BadText place, character_stops roots (before ++ (came ++ piece)) before front (drop (suc n) piece) b s r.reading (joined_at before came piece n some) leads d (front_small n) (byte_small piece n small some) r.begun k r.refuses)

  -- an element that its state objects to
  pub element_refused : (used : ℕ) (x : Element) (o : Objection) → IsElement (want_at s.place) (came ++ take used piece) x → take_element s x ≡ Err o → IsStoppedBy roots (before ++ (came ++ piece)) (fault_of (cause_of o (length before)))
  element_refused used x o is refuses =
      let element = came ++ take used piece in
      let j : before ++ (came ++ piece) ≡ (before ++ element) ++ drop used piece = ap (λ x. before ++ (came ++ x)) (sym (take-append-drop used piece)) ∙ ap (λ x. before ++ x) (sym (append_assoc came (take used piece) (drop used piece))) ∙ sym (append_assoc before element (drop used piece)) in
      (cause_of o (length before), refl, objection_stops roots (before ++ (came ++ piece)) before element (drop used piece) s x o j leads d is refuses)

-- what stops stops however the bytes go on
pub stopped_stays : (roots : ℕ) (bytes more : List ℕ) (cause : Cause) → Stopped hessian faults node_limit roots bytes cause → Stopped hessian faults node_limit roots (bytes ++ more) cause
stopped_stays roots bytes more cause q = record {
  before = q.before;
  element = q.element;
  rest = q.rest ++ more;
  tables = q.tables;
  slots = q.slots;
  joined = ap (λ x. x ++ more) q.joined ∙ append_assoc (q.before ++ q.element) q.rest more;
  stops = q.stops;
  shortest = q.shortest;
  reached = q.reached;
  refused = q.refused;
}

pub stopped_later : (roots : ℕ) (bytes more : List ℕ) (fault : HessianFault) → IsStoppedBy roots bytes fault → IsStoppedBy roots (bytes ++ more) fault
stopped_later roots bytes more fault (cause, is, q) = (cause, is, stopped_stays roots bytes more cause q)
