-- Each whole element keeps a state sound.
use Rattle.std.proofs.Common.{◌≡◌, ℕ, zero, suc, ◌-◌, ◌<◌, false, List, [], ◌∷◌, ◌++◌, length, refl, subst, arith, length-append}
use Rattle.std.specs.Prelude.{Some, None, Ok, ℤ, pos}
use Rattle.std.proofs.lemmas.Bool.{ne_eqb}
use Rattle.hessian_graph.specs.declared.value.Value.TheVariants.{Node}
use Rattle.hessian_graph.specs.declared.node.Class.{Class}
use Rattle.hessian_graph.specs.Shape.{Text}
use Rattle.hessian_reader.specs.declared.element.Form.{Form}
use Rattle.hessian_reader.specs.declared.element.Form.TheVariants as forms
use Rattle.hessian_reader.specs.declared.element.Head.{Head}
use Rattle.hessian_reader.specs.declared.element.Head.TheVariants as heads
use Rattle.hessian_reader.specs.declared.element.Element.{Element}
use Rattle.hessian_reader.specs.declared.element.Element.TheVariants as elements
use Rattle.hessian_reader.specs.declared.table.Sort.{Sort}
use Rattle.hessian_reader.specs.declared.table.Sort.TheVariants as sorts
use Rattle.hessian_reader.specs.declared.store.Lacks.{Lacks}
use Rattle.hessian_reader.specs.declared.store.OpenNode.{OpenNode}
use Rattle.hessian_reader.specs.declared.stop.Objection.TheVariants.{NoNode, NoType, NoClass, NoLength}
use Rattle.hessian_reader.specs.Leaves.{node_limit}
use Rattle.hessian_reader.specs.States.{State, Place, AtValue, AtDefined, AtReference, AtType, AtLength, AtClass, AtName, AtCount, AtField, ToEnd, Count, Key, Mate, start, begins_node, takes_value, moves_to, closes, begins_object, field_count, learns_type, awaits_fields, lacks_none, is_done}
use Rattle.hessian_reader.specs.Steps.{end_of, end_step, behind_type, node_step, header_step, class_step, head_step, number_step, words_step, take_element, Leads}
use Rattle.hessian_reader.specs.Steps.Leads.{here, on}
use Rattle.hessian_reader.proofs.Lacking.{AreOpen}
use Rattle.hessian_reader.proofs.Sound.{SortFits, PlaceFits, Sound, sound_typed, sound_classed, sound_moves, sound_value, sound_begins, sound_closes}
use Rattle.hessian_reader.proofs.Outcomes.{ok_is, took_value, ended_there, had_room, was_below, was_natural, some_lacking}

module _ (s : State) (sound : Sound s) (some : lacks_none s.built.open_nodes s.built.wanted ≡ false) where
  sound_behind : (form : Form) (k : ℕ) → length s.built.nodes < node_limit → k < length s.names.types → Sound (behind_type form (Some k) s)
  sound_behind forms.Open k low h = sound_begins s ToEnd (sorts.List (Some k)) sound low h
  sound_behind forms.Long k low h = sound_moves s (AtLength (Some k)) sound (some, low, h)
  sound_behind (forms.Short n) k low h = sound_begins s (Count n) (sorts.List (Some k)) sound low h
  sound_behind forms.Pairs k low h = sound_begins s Key (sorts.Map (Some k)) sound low h

  sound_fields : (far : Class) (k : ℕ) → Sound (awaits_fields far k s)
  sound_fields far zero = sound_classed s far sound some
  sound_fields far (suc k) = rw (ne_eqb (suc k) 0 (λ z. omega arith)) (sound_moves s (AtField far (suc k)) sound (some, omega arith))

  sound_object : (k : ℕ) → length s.built.nodes < node_limit → k < length s.names.classes → Sound (begins_object k s)
  sound_object k low h = sound_begins s (Count (field_count s.names k)) (sorts.Object k) sound low h

  sound_end : (lacks : Lacks) (others : List OpenNode) (u : State) → s.place ≡ AtValue → AreOpen (length s.built.nodes) others → end_of lacks others s ≡ Ok u → Sound u
  sound_end ToEnd others u p sane e = subst Sound (ok_is (closes others s) u e) (sound_closes s others sound p sane)
  sound_end Key others u p sane e = subst Sound (ok_is (closes others s) u e) (sound_closes s others sound p sane)
  sound_end (Count k) others u p sane e = cc
  sound_end Mate others u p sane e = cc

  sound_ends : (os : List OpenNode) (u : State) → s.place ≡ AtValue → AreOpen (length s.built.nodes) os → end_step os s ≡ Ok u → Sound u
  sound_ends [] u p sane e = cc
  sound_ends (o ∷ os) u p sane e = sound_end o.lacks os u p sane.2 e

  sound_node : (lacks : Lacks) (sort : Sort) (u : State) → SortFits s.names sort → node_step lacks sort s ≡ Ok u → Sound u
  sound_node lacks sort u fits e = let (low, e1) = had_room s (Ok (begins_node lacks sort s)) u e in subst Sound (ok_is _ u e1) (sound_begins s lacks sort sound low fits)

  sound_header : (p : Place) (u : State) → (length s.built.nodes < node_limit → PlaceFits s p) → header_step p s ≡ Ok u → Sound u
  sound_header p u fits e = let (low, e1) = had_room s (Ok (moves_to p s)) u e in subst Sound (ok_is _ u e1) (sound_moves s p sound (fits low))

  sound_class : (z : ℤ) (u : State) → length s.built.nodes < node_limit → class_step z s ≡ Ok u → Sound u
  sound_class z u low e = let (k, is, h, e1) = was_below z (length s.names.classes) (λ k. begins_object k s) (NoClass z) u e in subst Sound e1 (sound_object k low h)

  sound_head : (h : Head) (u : State) → head_step h s ≡ Ok u → Sound u
  sound_head heads.Refer u e = subst Sound (ok_is (moves_to AtReference s) u e) (sound_moves s AtReference sound some)
  sound_head (heads.ShortList k) u e = sound_node (Count k) (sorts.List None) u tt e
  sound_head heads.OpenList u e = sound_node ToEnd (sorts.List None) u tt e
  sound_head heads.OpenMap u e = sound_node Key (sorts.Map None) u tt e
  sound_head heads.LongList u e = sound_header (AtLength None) u (λ low. (some, low, tt)) e
  sound_head (heads.Typed form) u e = sound_header (AtType form) u (λ low. (some, low)) e
  sound_head heads.LongObject u e = sound_header AtClass u (λ low. (some, low)) e
  sound_head heads.Define u e = subst Sound (ok_is (moves_to AtName s) u e) (sound_moves s AtName sound some)
  sound_head (heads.ShortObject k) u e = let (low, e1) = had_room s (class_step (pos k) s) u e in sound_class (pos k) u low e1
  sound_head heads.End u e = let (p, e1) = ended_there s.place (end_step s.built.open_nodes s) u e in sound_ends s.built.open_nodes u p sound.open_fit e1

  fits_at : (p : Place) → s.place ≡ p → PlaceFits s p
  fits_at p e = subst (PlaceFits s) e sound.place

  sound_number : (p : Place) (z : ℤ) (u : State) → s.place ≡ p → number_step p z s ≡ Ok u → Sound u
  sound_number AtValue z u p e = cc
  sound_number AtDefined z u p e = cc
  sound_number AtName z u p e = cc
  sound_number (AtField class k) z u p e = cc
  sound_number AtReference z u p e = let (k, is, low, e1) = was_below z (length s.built.nodes) (λ n. takes_value (Node n) s) (NoNode z) u e in subst Sound e1 (sound_value s (Node k) sound)
  sound_number (AtType form) z u p e = let (k, is, low, e1) = was_below z (length s.names.types) (λ j. behind_type form (Some j) s) (NoType z) u e in subst Sound e1 (sound_behind form k (fits_at (AtType form) p).1 low)
  sound_number (AtLength type_number) z u p e = let (k, is, e1) = was_natural z (λ j. begins_node (Count j) (sorts.List type_number) s) (NoLength z) u e in subst Sound e1 (sound_begins s (Count k) (sorts.List type_number) sound (fits_at (AtLength type_number) p).1 (fits_at (AtLength type_number) p).2)
  sound_number AtClass z u p e = sound_class z u (fits_at AtClass p).1 e
  sound_number (AtCount name) z u p e = let (k, is, e1) = was_natural z (λ j. awaits_fields (record { name = name; fields = [] }) j s) (NoLength z) u e in subst Sound e1 (sound_fields (record { name = name; fields = [] }) k)

sound_words : (s : State) (p : Place) (text : Text) (u : State) → Sound s → lacks_none s.built.open_nodes s.built.wanted ≡ false → s.place ≡ p → words_step p text s ≡ Ok u → Sound u
sound_words s AtValue text u sound some p e = cc
sound_words s AtDefined text u sound some p e = cc
sound_words s AtReference text u sound some p e = cc
sound_words s (AtLength k) text u sound some p e = cc
sound_words s AtClass text u sound some p e = cc
sound_words s (AtCount name) text u sound some p e = cc
sound_words s AtName text u sound some p e = subst Sound (ok_is (moves_to (AtCount text) s) u e) (sound_moves s (AtCount text) sound some)
sound_words s (AtField class k) text u sound some p e = subst Sound (ok_is _ u e) (sound_fields s sound some (record class { fields = class.fields ++ text ∷ [] }) (k - 1))
sound_words s (AtType form) text u sound some p e =
    let low : length s.names.types < length (s.names.types ++ text ∷ []) = simp length-append (omega arith) in
    subst Sound (ok_is _ u e) (sound_behind (learns_type text s) (sound_typed s text sound) some form (length s.names.types) (fits_at s sound some (AtType form) p).1 low)

pub sound_take : (s u : State) (x : Element) → Sound s → is_done s ≡ false → take_element s x ≡ Ok u → Sound u
sound_take s u (elements.Plain v) sound d e = let (p, e1) = took_value s.place (Ok (takes_value v s)) u e in subst Sound (ok_is _ u e1) (sound_value s v sound)
sound_take s u (elements.Code h) sound d e = let (p, e1) = took_value s.place (head_step h s) u e in sound_head s sound (some_lacking s sound d) h u e1
sound_take s u (elements.Number z) sound d e = sound_number s sound (some_lacking s sound d) s.place z u refl e
sound_take s u (elements.Words text) sound d e = sound_words s s.place text u sound (some_lacking s sound d) refl e

pub sound_start : (roots : ℕ) → Sound (start roots)
sound_start roots = record { open_fit = tt; limit = omega arith; numbers = λ i h. absurd (omega arith); place = tt }

pub sound_leads : {s u : State} {bytes : List ℕ} → Sound s → Leads s bytes u → Sound u
sound_leads sound here = sound
sound_leads {s = s} sound (on {t = t} x element rest bytes d is took joined leads) = sound_leads (sound_take s t x sound d took) leads
