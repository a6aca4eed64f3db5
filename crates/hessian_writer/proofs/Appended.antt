-- Leaves that are written.
use Rattle.std.proofs.Common.{◌≡◌, ℕ, ◌+◌, ◌<◌, ◌≤◌, Bool, List, [], ◌∷◌, ◌++◌, length, get_or, take, refl, ap, sym, ◌∙◌, subst, append_assoc}
use Rattle.std.specs.Prelude.{ℤ, pos}
use Rattle.std.proofs.lemmas.List.{append-nil, take_more, take_all}
use Rattle.hessian_scalars.specs.declared.scalar.Scalar.TheVariants as scalars
use Rattle.hessian_scalars.specs.Written.{Appends as AppendsScalar}
use Rattle.hessian_text.specs.Spelling.{AreBytes}
use Rattle.hessian_text.specs.Written.{AppendsText, AppendsBinary}
use Rattle.hessian_graph.specs.declared.value.Value.TheVariants as values
use Rattle.hessian_graph.specs.declared.node.Class.{Class}
use Rattle.hessian_graph.specs.Shape.{Text}
use Rattle.hessian_graph.specs.Reading.{IntSpelling}
use Rattle.hessian_graph.specs.Reading.IsScalar.{null, bool, int, long, date}
use Rattle.hessian_graph.specs.Spells.{TextsSpelling}
use Rattle.hessian_graph.specs.Spells.TextsSpelling.{none as no_texts, one as one_text}
use Rattle.hessian_writer.specs.Leaves.{hessian_forms, written_bytes}
use Rattle.hessian_writer.specs.Course.{LeafForm}
use Rattle.hessian_writer.specs.Course.LeafForm.{scalar, text as text_leaf, binary as binary_leaf}
use Rattle.hessian_writer.specs.Appending.{Appends, AppendsTexts, AppendsClass}

pub appends_null : (old new : List ℕ) → AppendsScalar old new scalars.Null → Appends (LeafForm hessian_forms values.Null) old new
appends_null old new a = record { bytes = a.spelling; is = scalar values.Null a.spelling null a.written; joined = a.joined }

pub appends_bool : (b : Bool) (old new : List ℕ) → AppendsScalar old new (scalars.Bool b) → Appends (LeafForm hessian_forms (values.Bool b)) old new
appends_bool b old new a = record { bytes = a.spelling; is = scalar (values.Bool b) a.spelling (bool b) a.written; joined = a.joined }

pub appends_int : (z : ℤ) (old new : List ℕ) → AppendsScalar old new (scalars.Int z) → Appends (LeafForm hessian_forms (values.Int z)) old new
appends_int z old new a = record { bytes = a.spelling; is = scalar (values.Int z) a.spelling (int z) a.written; joined = a.joined }

pub appends_long : (z : ℤ) (old new : List ℕ) → AppendsScalar old new (scalars.Long z) → Appends (LeafForm hessian_forms (values.Long z)) old new
appends_long z old new a = record { bytes = a.spelling; is = scalar (values.Long z) a.spelling (long z) a.written; joined = a.joined }

pub appends_date : (z : ℤ) (old new : List ℕ) → AppendsScalar old new (scalars.Date z) → Appends (LeafForm hessian_forms (values.Date z)) old new
appends_date z old new a = record { bytes = a.spelling; is = scalar (values.Date z) a.spelling (date z) a.written; joined = a.joined }

pub appends_text : (text : Text) (old new : List ℕ) → AppendsText old text new → Appends (LeafForm hessian_forms (values.Text text)) old new
appends_text text old new a = record { bytes = a.written; is = text_leaf text a.written a.spells; joined = a.appended }

pub appends_contents : (contents old new : List ℕ) → AreBytes contents → AppendsBinary old contents new → Appends (written_bytes contents) old new
appends_contents contents old new small a = record { bytes = a.written; is = (small, a.spells); joined = a.appended }

pub appends_binary : (contents old new : List ℕ) → Appends (written_bytes contents) old new → Appends (LeafForm hessian_forms (values.Bytes contents)) old new
appends_binary contents old new a = record { bytes = a.bytes; is = binary_leaf contents a.bytes a.is; joined = a.joined }

-- texts, one after another
pub no_texts_yet : (old : List ℕ) → AppendsTexts [] old old
no_texts_yet old = record { bytes = []; is = no_texts; joined = sym (append-nil old) }

text_behind : {texts : List Text} {bytes : List ℕ} → TextsSpelling hessian_forms texts bytes → (text : Text) (form : List ℕ) → hessian_forms.text text form → TextsSpelling hessian_forms (texts ++ text ∷ []) (bytes ++ form)
text_behind no_texts text form is = subst (TextsSpelling hessian_forms (text ∷ [])) (append-nil form) (one_text text [] form [] is no_texts)
text_behind (one_text first texts front rest it more) text form is =
    subst (TextsSpelling hessian_forms (first ∷ (texts ++ text ∷ []))) (sym (append_assoc front rest form))
    (one_text first (texts ++ text ∷ []) front (rest ++ form) it (text_behind more text form is))

pub one_more_text : (texts : List Text) (text : Text) (old mid new : List ℕ) → AppendsTexts texts old mid → AppendsText mid text new → AppendsTexts (texts ++ text ∷ []) old new
one_more_text texts text old mid new a b = record {
  bytes = a.bytes ++ b.written;
  is = text_behind a.is text b.written b.spells;
  joined = b.appended ∙ ap (λ x. x ++ b.written) a.joined ∙ append_assoc old a.bytes b.written;
}

-- the texts up to the next place
pub texts_more : (texts : List Text) (i : ℕ) (text : Text) (old mid new : List ℕ) → i < length texts → text ≡ get_or texts i text → AppendsTexts (take i texts) old mid → AppendsText mid text new → AppendsTexts (take (i + 1) texts) old new
texts_more texts i text old mid new h e a b =
    let cut : take (i + 1) texts ≡ take i texts ++ text ∷ [] = take_more texts i text h ∙ ap (λ (x : Text). take i texts ++ x ∷ []) (sym e) in
    subst (λ ts. AppendsTexts ts old new) (sym cut) (one_more_text (take i texts) text old mid new a b)

pub all_texts : (texts : List Text) (i : ℕ) (old new : List ℕ) → length texts ≤ i → AppendsTexts (take i texts) old new → AppendsTexts texts old new
all_texts texts i old new h a = subst (λ ts. AppendsTexts ts old new) (take_all i texts h) a

pub appends_class : (class : Class) (count : ℤ) (a b c d : List ℕ) → count ≡ pos (length class.fields) → AppendsText a class.name b → AppendsScalar b c (scalars.Int count) → AppendsTexts class.fields c d → AppendsClass class a d
appends_class class count a b c d e name stated fields = record {
  bytes = name.written ++ (stated.spelling ++ fields.bytes);
  is = record {
    name = name.written;
    count = stated.spelling;
    fields = fields.bytes;
    is_name = name.spells;
    is_count = subst (λ z. IntSpelling hessian_forms z stated.spelling) e stated.written;
    are_fields = fields.is;
    joined = refl;
  };
  joined = fields.joined ∙ ap (λ x. x ++ fields.bytes) (stated.joined ∙ ap (λ x. x ++ stated.spelling) name.appended ∙ append_assoc a name.written stated.spelling) ∙ append_assoc a (name.written ++ stated.spelling) fields.bytes ∙ ap (λ x. a ++ x) (append_assoc name.written stated.spelling fields.bytes);
}
