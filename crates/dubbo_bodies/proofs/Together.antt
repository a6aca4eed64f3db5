-- The values of a request are spelled as one graph: the arguments, and behind them the attachments.
use Rattle.std.proofs.Common.{◌≡◌, ℕ, suc, List, [], ◌∷◌, ◌++◌, length, refl, sym, ap, ◌∙◌, subst, arith, append_assoc}
use Rattle.std.specs.Prelude.{None}
use Rattle.std.proofs.lemmas.List.{append-nil, length-append}
use Rattle.hessian_graph.specs.declared.value.Value.{Value}
use Rattle.hessian_graph.specs.declared.value.Value.TheVariants as values
use Rattle.hessian_graph.specs.Shape.{Text, Shape, MapKind, values_at, shape_of}
use Rattle.hessian_graph.specs.Work.{IsClosed}
use Rattle.hessian_graph.specs.Reading.{Tables, Leaves, no_tables, one_more}
use Rattle.hessian_graph.specs.Spells.{TextsSpelling, ArePairs, Begins, Spells, SpellsAll, SpellsGraph}
use Rattle.hessian_graph.specs.Spells.TextsSpelling.{none as no_texts, one as one_text}
use Rattle.hessian_graph.specs.Spells.Spells.{text as t_text, open_map}
use Rattle.hessian_graph.specs.Spells.SpellsAll.{none, one}
use Rattle.hessian_graph.specs.Forms.{Writes, WritesAll, InForms, Written}
use Rattle.hessian_graph.specs.Forms.Writes.{text as w_text, map as w_map}
use Rattle.hessian_graph.specs.Forms.WritesAll.{none as w_none, one as w_one}
use Rattle.dubbo_bodies.specs.declared.attachment.Attachment.{Attachment}
use Rattle.dubbo_bodies.specs.declared.message.Request.{Request}
use Rattle.dubbo_bodies.specs.Attachments.{name_values, with_attachments, texts_of}
use Rattle.dubbo_bodies.specs.Fields.{fields_of}
use Rattle.dubbo_bodies.specs.WrittenBody.{WrittenRequest, MapForm}
use Rattle.dubbo_bodies.proofs.Wider.{all_wider, all_written_wider}
use Rattle.dubbo_bodies.proofs.Begun.{counts_once, all_count, all_writes_count}
use Rattle.dubbo_bodies.proofs.Beside.{within_attached, attached_values, attached_kind, canon_attached}

-- the first text, and the others
abbrev pub Parted : Leaves → List Text → List ℕ → Type 0
Parted w [] bytes = bytes ≡ []
Parted w (text ∷ texts) bytes = (front : List ℕ) × (rest : List ℕ) × w.text text front × TextsSpelling w texts rest × (bytes ≡ front ++ rest)

pub parted : {w : Leaves} {texts : List Text} {bytes : List ℕ} → TextsSpelling w texts bytes → Parted w texts bytes
parted no_texts = refl
parted (one_text text texts front rest is more) = (front, rest, is, more, refl)

-- names and values of attachments, one after another
names_spelled : (l : Leaves) (g : Shape) (t : Tables) (entries : List Attachment) (bytes : List ℕ) → TextsSpelling l (texts_of entries) bytes → SpellsAll l g (name_values entries) t t bytes
names_spelled l g t [] bytes s = subst (SpellsAll l g [] t t) (sym (parted s)) none
names_spelled l g t (a ∷ rest) bytes s =
    let name = parted s in
    let value = parted name.3 in
    let behind : SpellsAll l g (name_values rest) t t value.1 = names_spelled l g t rest value.1 value.3 in
    let second : SpellsAll l g (values.Text a.value ∷ name_values rest) t t (value.0 ++ value.1) = one value.0 value.1 (t_text a.value value.0 value.2) behind in
    let both : SpellsAll l g (name_values (a ∷ rest)) t t (name.0 ++ (value.0 ++ value.1)) = one name.0 (value.0 ++ value.1) (t_text a.name name.0 name.2) second in
    subst (SpellsAll l g (name_values (a ∷ rest)) t t) (sym (name.4 ∙ ap (λ xs. name.0 ++ xs) value.4)) both

names_written : (w : Leaves) (g : Shape) (t : Tables) (entries : List Attachment) (bytes : List ℕ) → TextsSpelling w (texts_of entries) bytes → WritesAll w g (name_values entries) t t bytes
names_written w g t [] bytes s = subst (WritesAll w g [] t t) (sym (parted s)) w_none
names_written w g t (a ∷ rest) bytes s =
    let name = parted s in
    let value = parted name.3 in
    let behind : WritesAll w g (name_values rest) t t value.1 = names_written w g t rest value.1 value.3 in
    let second : WritesAll w g (values.Text a.value ∷ name_values rest) t t (value.0 ++ value.1) = w_one value.0 value.1 (w_text a.value value.0 value.2) behind in
    let both : WritesAll w g (name_values (a ∷ rest)) t t (name.0 ++ (value.0 ++ value.1)) = w_one name.0 (value.0 ++ value.1) (w_text a.name name.0 name.2) second in
    subst (WritesAll w g (name_values (a ∷ rest)) t t) (sym (name.4 ∙ ap (λ xs. name.0 ++ xs) value.4)) both

names_in_pairs : (entries : List Attachment) → ArePairs (name_values entries)
names_in_pairs [] = (0, refl)
names_in_pairs (a ∷ rest) = let p = names_in_pairs rest in (suc p.0, omega (arith, p.1))

-- what is spelled or written one after another is so joined
all_joined : {l : Leaves} {g : Shape} {vs more : List Value} {t u x : Tables} {a b : List ℕ} → SpellsAll l g vs t u a → SpellsAll l g more u x b → SpellsAll l g (vs ++ more) t x (a ++ b)
all_joined none on = on
all_joined {l} {g} {more = more} {t} {x = x} {b = b} (one {v = v} {vs = vs} front rest head tail) on = subst (SpellsAll l g (v ∷ (vs ++ more)) t x) (sym (append_assoc front rest b)) (one front (rest ++ b) head (all_joined tail on))

all_written : {l : Leaves} {g : Shape} {vs more : List Value} {t u x : Tables} {a b : List ℕ} → WritesAll l g vs t u a → WritesAll l g more u x b → WritesAll l g (vs ++ more) t x (a ++ b)
all_written w_none on = on
all_written {l} {g} {more = more} {t} {x = x} {b = b} (w_one {v = v} {vs = vs} front rest head tail) on = subst (WritesAll l g (v ∷ (vs ++ more)) t x) (sym (append_assoc front rest b)) (w_one front (rest ++ b) head (all_written tail on))

-- the map of the attachments is the next node
map_begins : (form : Shape) (entries : List Attachment) (t : Tables) → length form.nodes ≡ t.begun → Begins (with_attachments form entries) t (length form.nodes) (MapKind None)
map_begins form entries t begun = record {
  next = begun;
  within = let long = length-append form.nodes (record { kind = MapKind None; values = name_values entries } ∷ []) in omega (arith, long);
  kind_is = attached_kind form entries;
}

map_pairs : (form : Shape) (entries : List Attachment) → ArePairs (values_at (with_attachments form entries) (length form.nodes))
map_pairs form entries = subst ArePairs (sym (attached_values form entries)) (names_in_pairs entries)

pub graph_attached : (l : Leaves) (form : Shape) (entries : List Attachment) (bytes items : List ℕ) → SpellsGraph l bytes form → TextsSpelling l (texts_of entries) items → SpellsGraph l (bytes ++ 0x48 ∷ (items ++ 0x5a ∷ [])) (with_attachments form entries)
graph_attached l form entries bytes items s texts =
    let h = with_attachments form entries in
    let t = s.last in
    let n = length form.nodes in
    let inner : SpellsAll l h (values_at h n) (one_more t) (one_more t) items = subst (λ vs. SpellsAll l h vs (one_more t) (one_more t) items) (sym (attached_values form entries)) (names_spelled l h (one_more t) entries items texts) in
    let map : Spells l h (values.Node n) t (one_more t) (0x48 ∷ (items ++ 0x5a ∷ [])) = open_map n items (map_begins form entries t (sym s.all_begun)) (map_pairs form entries) inner in
    let last : SpellsAll l h (values.Node n ∷ []) t (one_more t) (0x48 ∷ (items ++ 0x5a ∷ [])) = subst (SpellsAll l h (values.Node n ∷ []) t (one_more t)) (append-nil (0x48 ∷ (items ++ 0x5a ∷ []))) (one (0x48 ∷ (items ++ 0x5a ∷ [])) [] map none) in
    record {
      last = one_more t;
      roots = all_joined (all_wider (within_attached form entries) s.roots) last;
      all_begun = let long = length-append form.nodes (record { kind = MapKind None; values = name_values entries } ∷ []) in omega (arith, long, s.all_begun);
    }

forms_attached : (l w : Leaves) (form : Shape) (entries : List Attachment) (bytes items : List ℕ) (t : Tables) → length form.nodes ≡ t.begun → WritesAll w form form.roots no_tables t bytes → TextsSpelling w (texts_of entries) items → InForms w (bytes ++ 0x48 ∷ (items ++ 0x5a ∷ [])) (with_attachments form entries)
forms_attached l w form entries bytes items t begun forms texts =
    let h = with_attachments form entries in
    let n = length form.nodes in
    let inner : WritesAll w h (values_at h n) (one_more t) (one_more t) items = subst (λ vs. WritesAll w h vs (one_more t) (one_more t) items) (sym (attached_values form entries)) (names_written w h (one_more t) entries items texts) in
    let map : Writes w h (values.Node n) t (one_more t) (0x48 ∷ (items ++ 0x5a ∷ [])) = w_map n items (map_begins form entries t begun) (map_pairs form entries) inner in
    let last : WritesAll w h (values.Node n ∷ []) t (one_more t) (0x48 ∷ (items ++ 0x5a ∷ [])) = subst (WritesAll w h (values.Node n ∷ []) t (one_more t)) (append-nil (0x48 ∷ (items ++ 0x5a ∷ []))) (w_one (0x48 ∷ (items ++ 0x5a ∷ [])) [] map w_none) in
    record { last = one_more t; roots = all_written (all_written_wider (within_attached form entries) forms) last }

-- Written arguments, and behind them the map of the attachments, are written together.
pub written_attached : (l w : Leaves) (g : Shape) (entries : List Attachment) (bytes map : List ℕ) → ((text : Text) (form : List ℕ) → w.text text form → l.text text form) → IsClosed g → Written l w g bytes → MapForm w entries map → Written l w (with_attachments g entries) (bytes ++ map)
written_attached l w g entries bytes map spelled closed is m =
    let form = is.form in
    let begun : is.spelled.last.begun ≡ is.in_forms.last.begun = counts_once (all_count is.spelled.roots) (all_writes_count is.in_forms.roots) in
    let all : List ℕ = bytes ++ 0x48 ∷ (m.items ++ 0x5a ∷ []) in
    let whole : Written l w (with_attachments g entries) all = record {
      form = with_attachments form entries;
      canonical = canon_attached g form entries closed is.canonical;
      spelled = graph_attached l form entries bytes m.items is.spelled (texts_spelled l w spelled m.texts);
      in_forms = forms_attached l w form entries bytes m.items is.in_forms.last (sym is.spelled.all_begun ∙ begun) is.in_forms.roots m.texts;
    } in
    subst (λ xs. Written l w (with_attachments g entries) (bytes ++ xs)) (sym m.joined) whole
  where
    texts_spelled : (l w : Leaves) {texts : List Text} {bytes : List ℕ} → ((text : Text) (form : List ℕ) → w.text text form → l.text text form) → TextsSpelling w texts bytes → TextsSpelling l texts bytes
    texts_spelled l w spelled no_texts = no_texts
    texts_spelled l w spelled (one_text text texts front rest is more) = one_text text texts front rest (spelled text front is) (texts_spelled l w spelled more)

-- the texts, the arguments and the attachments of a request are its body
pub written_request : (l w : Leaves) (r : Request) (front values map : List ℕ) → ((text : Text) (form : List ℕ) → w.text text form → l.text text form) → IsClosed (shape_of r.args) → TextsSpelling w (fields_of r) front → Written l w (shape_of r.args) values → MapForm w r.attachments map → WrittenRequest l w r (front ++ (values ++ map))
written_request l w r front values map spelled closed texts is m = record {
  front = front;
  values = values ++ map;
  texts = texts;
  written = written_attached l w (shape_of r.args) r.attachments values map spelled closed is m;
  joined = refl;
}
