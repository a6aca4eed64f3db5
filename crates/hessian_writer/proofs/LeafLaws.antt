-- The writer's spellings of leaves are spellings, and there is one of each.
use Rattle.std.proofs.Common.{◌≡◌, ℕ, ◌/◌, ◌%◌, ◌≤◌, List, ◌∷◌, ◌++◌, length, take, drop, refl, ap, sym, ◌∙◌, subst, arith}
use Rattle.std.specs.Str.{chars}
use Rattle.std.specs.List.{flat_map}
use Rattle.std.specs.Char.Escape.{encode_utf16}
use Rattle.std.proofs.lemmas.Str.{chars-encodes}
use Rattle.hessian_scalars.specs.declared.scalar.Scalar.TheVariants as scalars
use Rattle.hessian_scalars.proofs.OneForm.{one_shortest}
use Rattle.hessian_text.specs.Written.{CHUNK, by_units, WrittenBinary, WrittenUnits, WrittenText}
use Rattle.hessian_text.specs.Written.WrittenBinary.{last as b_last, chunk as b_chunk}
use Rattle.hessian_text.specs.Written.WrittenUnits.{last as u_last, chunk as u_chunk}
use Rattle.hessian_text.proofs.ReadBack.{binary_spells}
use Rattle.hessian_text.proofs.TextBack.{text_spells}
use Rattle.hessian_graph.specs.declared.value.Value.{Value}
use Rattle.hessian_graph.specs.declared.value.Value.TheVariants as values
use Rattle.hessian_graph.specs.Reading.{Includes, OneSpelling}
use Rattle.hessian_graph.specs.Shape.{Shape}
use Rattle.hessian_graph.specs.Canon.{IsCanon, in_order}
use Rattle.hessian_graph.specs.Spells.{SpellsGraph, Denotes}
use Rattle.hessian_graph.specs.Forms.{Written}
use Rattle.hessian_graph.proofs.Visits.{one_visit}
use Rattle.hessian_writer.specs.Leaves.{scalar_bytes, shortest_bytes, hessian, hessian_forms}

scalar_spells : (v : Value) (bytes : List ℕ) → shortest_bytes v bytes → scalar_bytes v bytes
scalar_spells values.Null bytes is = is.spells
scalar_spells (values.Bool b) bytes is = is.spells
scalar_spells (values.Int z) bytes is = is.spells
scalar_spells (values.Long z) bytes is = is.spells
scalar_spells (values.Date z) bytes is = is.spells
scalar_spells (values.Text text) bytes is = is
scalar_spells (values.Bytes contents) bytes is = is
scalar_spells (values.Node n) bytes is = is

one_scalar : (v : Value) (a b : List ℕ) → shortest_bytes v a → shortest_bytes v b → a ≡ b
one_scalar values.Null a b p q = one_shortest scalars.Null a b p q
one_scalar (values.Bool t) a b p q = one_shortest (scalars.Bool t) a b p q
one_scalar (values.Int z) a b p q = one_shortest (scalars.Int z) a b p q
one_scalar (values.Long z) a b p q = one_shortest (scalars.Long z) a b p q
one_scalar (values.Date z) a b p q = one_shortest (scalars.Date z) a b p q
one_scalar (values.Text text) a b p q = absurd p
one_scalar (values.Bytes contents) a b p q = absurd p
one_scalar (values.Node n) a b p q = absurd p

chunk_form : List ℕ → ℕ → List ℕ → List ℕ
chunk_form us n rest = 0x52 ∷ n / 256 ∷ n % 256 ∷ (by_units (take n us) ++ rest)

one_units : {us a b : List ℕ} → WrittenUnits us a → WrittenUnits us b → a ≡ b
unfolding chunk_form
one_units (u_last us few) (u_last vs less) = refl
one_units (u_last us few) (u_chunk vs rest n many is more) = absurd (omega (arith, few, many))
one_units (u_chunk us rest n many is more) (u_last vs few) = absurd (omega (arith, few, many))
one_units (u_chunk us rest n many is more) (u_chunk vs other m lots it others) =
    let same : m ≡ n = it ∙ sym is in
    let q = one_units more (subst (λ k. WrittenUnits (drop k us) other) same others) in
    ap (chunk_form us n) q ∙ ap (λ k. chunk_form us k other) (sym same)

one_binary : {cs a b : List ℕ} → WrittenBinary cs a → WrittenBinary cs b → a ≡ b
one_binary (b_last cs few) (b_last ds less) = refl
one_binary (b_last cs few) (b_chunk ds rest many more) = absurd (omega (arith, few, many))
one_binary (b_chunk cs rest many more) (b_last ds few) = absurd (omega (arith, few, many))
one_binary (b_chunk cs rest many more) (b_chunk ds other lots others) = ap (λ x. 0x41 ∷ 0x80 ∷ 0x00 ∷ (take CHUNK cs ++ x)) (one_binary more others)

pub one_text : (text a b : List ℕ) → WrittenText text a → WrittenText text b → a ≡ b
one_text text a b p q =
    let same : q.chars ≡ p.chars = sym (chars-encodes q.chars q.scalar) ∙ ap chars (sym q.are_chars ∙ p.are_chars) ∙ chars-encodes p.chars p.scalar in
    one_units p.written (subst (λ cs. WrittenUnits (flat_map encode_utf16 cs) b) same q.written)

pub forms_are_spellings : Includes hessian hessian_forms
forms_are_spellings = record {
  scalar = scalar_spells;
  text = λ text bytes is. text_spells text bytes is;
  binary = λ contents bytes is. binary_spells contents bytes is.0 is.1;
}

pub one_form : OneSpelling hessian_forms
one_form = record {
  scalar = one_scalar;
  text = one_text;
  binary = λ contents a b p q. one_binary p.1 q.1;
}

-- a graph has one canonical form
one_canon : (g a b : Shape) → IsCanon g a → IsCanon g b → a ≡ b
one_canon g a b p q = p.2 ∙ ap (in_order g) (one_visit p.1 q.1) ∙ sym q.2

pub denoted : (bound : ℕ) (g form : Shape) (bytes : List ℕ) → Written hessian hessian_forms g bytes → IsCanon g form → length form.nodes ≤ bound → Denotes hessian bound bytes form
denoted bound g form bytes w canon few = record {
  spelled = subst (SpellsGraph hessian bytes) (one_canon g w.form form w.canonical canon) w.spelled;
  limit = few;
}
