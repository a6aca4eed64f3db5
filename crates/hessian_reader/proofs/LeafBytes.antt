-- Whole elements are bytes.
use Rattle.std.proofs.Common.{ℕ, zero, suc, ◌<◌, List, [], ◌∷◌, ◌++◌, length, get_or, sym, subst, arith}
use Rattle.hessian_scalars.specs.declared.scalar.Scalar.{Scalar}
use Rattle.hessian_scalars.specs.ScalarSpelling.{ScalarSpelling}
use Rattle.hessian_scalars.proofs.Bytes.{IsBytes-spelled}
use Rattle.hessian_text.specs.declared.stage.Kind.{Kind}
use Rattle.hessian_text.specs.declared.stage.Kind.TheVariants as kinds
use Rattle.hessian_text.specs.declared.stage.Part.{Part}
use Rattle.hessian_text.specs.ChunkHead.{ChunkHead}
use Rattle.hessian_text.specs.ChunkHead.ChunkHead.{text_short, text_middle, text_inner, text_final, binary_short, binary_middle, binary_inner, binary_final}
use Rattle.hessian_text.specs.Items.{IsItem, Contents}
use Rattle.hessian_text.specs.Items.Contents.{none, item}
use Rattle.hessian_text.specs.Spelling.{AreBytes, Spelling}
use Rattle.hessian_text.specs.Spelling.Spelling.{last, chunk}
use Rattle.hessian_text.proofs.Shapes.{Shape, to_shape}
use Rattle.hessian_text.proofs.Shapes.Shape.{one, two, three, four, surrogates}
use Rattle.hessian_reader.specs.declared.element.Head.{Head}
use Rattle.hessian_reader.specs.declared.element.Element.{Element}
use Rattle.hessian_reader.specs.declared.element.Want.{Want}
use Rattle.hessian_reader.specs.Elements.{HeadCode, IsElement}
use Rattle.hessian_reader.specs.Elements.HeadCode.{refer as h_refer, short_list as h_short_list, open_list as h_open_list, long_list as h_long_list, open_typed_list as h_open_typed_list, long_typed_list as h_long_typed_list, short_typed_list as h_short_typed_list, typed_map as h_typed_map, open_map as h_open_map, define as h_define, short_object as h_short_object, long_object as h_long_object, end as h_end}
use Rattle.hessian_reader.proofs.Elements.{Formed, formed}
use Rattle.hessian_reader.proofs.Elements.Formed.{a_scalar, chunks, head as a_head}
use Rattle.hessian_reader.proofs.LexChunks.{small_more}

pub no_bytes : AreBytes []
no_bytes = record { small = λ i l. omega arith }

pub cons_bytes : (b : ℕ) (bs : List ℕ) → b < 256 → AreBytes bs → AreBytes (b ∷ bs)
cons_bytes b bs h a = record { small = λ i l. small_at i l }
  where
    small_at : (i : ℕ) → i < length (b ∷ bs) → get_or (b ∷ bs) i 0 < 256
    small_at zero l = h
    small_at (suc i) l = a.small i (omega arith)

shape_bytes : (value : List ℕ) (units : ℕ) (form : List ℕ) → Shape value units form → AreBytes form
shape_bytes value units form (one a h) = cons_bytes a [] (omega arith) no_bytes
shape_bytes value units form (two a b i j) = cons_bytes a (b ∷ []) (omega (arith, i.high)) (cons_bytes b [] (omega (arith, j.high)) no_bytes)
shape_bytes value units form (three a b c t) = cons_bytes a (b ∷ c ∷ []) (omega (arith, t.first.high)) (cons_bytes b (c ∷ []) (omega (arith, t.second.high)) (cons_bytes c [] (omega (arith, t.third.high)) no_bytes))
shape_bytes value units form (four a b c d t) = cons_bytes a (b ∷ c ∷ d ∷ []) (omega (arith, t.first.high)) (cons_bytes b (c ∷ d ∷ []) (omega (arith, t.second.high)) (cons_bytes c (d ∷ []) (omega (arith, t.third.high)) (cons_bytes d [] (omega (arith, t.fourth.high)) no_bytes)))
shape_bytes value units form (surrogates a b c d e f v t is) = cons_bytes a (b ∷ c ∷ d ∷ e ∷ f ∷ []) (omega (arith, t.first)) (cons_bytes b (c ∷ d ∷ e ∷ f ∷ []) (omega (arith, t.second.high)) (cons_bytes c (d ∷ e ∷ f ∷ []) (omega (arith, t.third.high)) (cons_bytes d (e ∷ f ∷ []) (omega (arith, t.fourth)) (cons_bytes e (f ∷ []) (omega (arith, t.fifth.high)) (cons_bytes f [] (omega (arith, t.sixth.high)) no_bytes)))))

item_bytes : (kind : Kind) (value : List ℕ) (units : ℕ) (form : List ℕ) → IsItem kind value units form → AreBytes form
item_bytes kinds.Text value units form i = shape_bytes value units form (to_shape value units form i)
item_bytes kinds.Binary value units form i = subst AreBytes (sym i.form_is) (cons_bytes i.byte [] i.small no_bytes)

pub contents_bytes : (kind : Kind) (value : List ℕ) (units : ℕ) (forms : List ℕ) → Contents kind value units forms → AreBytes forms
contents_bytes kind value units forms none = no_bytes
contents_bytes kind value units forms (item v form vs fs n more i c) = small_more form fs (item_bytes kind v n form i) (contents_bytes kind vs more fs c)

pub head_bytes : (kind : Kind) (part : Part) (n : ℕ) (head : List ℕ) → ChunkHead kind part n head → AreBytes head
head_bytes kind part n head (text_short c m i e) = cons_bytes c [] (omega (arith, i.high)) no_bytes
head_bytes kind part n head (text_middle c b0 m i s e) = cons_bytes c (b0 ∷ []) (omega (arith, i.high)) (cons_bytes b0 [] s no_bytes)
head_bytes kind part n head (text_inner b1 b0 m s1 s0 e) = cons_bytes 0x52 (b1 ∷ b0 ∷ []) (omega arith) (cons_bytes b1 (b0 ∷ []) s1 (cons_bytes b0 [] s0 no_bytes))
head_bytes kind part n head (text_final b1 b0 m s1 s0 e) = cons_bytes 0x53 (b1 ∷ b0 ∷ []) (omega arith) (cons_bytes b1 (b0 ∷ []) s1 (cons_bytes b0 [] s0 no_bytes))
head_bytes kind part n head (binary_short c m i e) = cons_bytes c [] (omega (arith, i.high)) no_bytes
head_bytes kind part n head (binary_middle c b0 m i s e) = cons_bytes c (b0 ∷ []) (omega (arith, i.high)) (cons_bytes b0 [] s no_bytes)
head_bytes kind part n head (binary_inner b1 b0 m s1 s0 e) = cons_bytes 0x41 (b1 ∷ b0 ∷ []) (omega arith) (cons_bytes b1 (b0 ∷ []) s1 (cons_bytes b0 [] s0 no_bytes))
head_bytes kind part n head (binary_final b1 b0 m s1 s0 e) = cons_bytes 0x42 (b1 ∷ b0 ∷ []) (omega arith) (cons_bytes b1 (b0 ∷ []) s1 (cons_bytes b0 [] s0 no_bytes))

pub spelling_bytes : (kind : Kind) (value bytes : List ℕ) → Spelling kind value bytes → AreBytes bytes
spelling_bytes kind value bytes (last v head forms n h c) = small_more head forms (head_bytes kind _ n head h) (contents_bytes kind v n forms c)
spelling_bytes kind value bytes (chunk v vs head forms rest n h c s) = small_more head (forms ++ rest) (head_bytes kind _ n head h) (small_more forms rest (contents_bytes kind v n forms c) (spelling_bytes kind vs rest s))

scalar_bytes_are : (v : Scalar) (bytes : List ℕ) → ScalarSpelling v bytes → AreBytes bytes
scalar_bytes_are v bytes s = record { small = λ i l. IsBytes-spelled v bytes s i }

code_small : (h : Head) (c : ℕ) → HeadCode h c → c < 256
code_small h c h_refer = omega arith
code_small h c (h_short_list code k i e) = omega (arith, i.below)
code_small h c h_open_list = omega arith
code_small h c h_long_list = omega arith
code_small h c h_open_typed_list = omega arith
code_small h c h_long_typed_list = omega arith
code_small h c (h_short_typed_list code k i e) = omega (arith, i.below)
code_small h c h_typed_map = omega arith
code_small h c h_open_map = omega arith
code_small h c h_define = omega arith
code_small h c (h_short_object code k i e) = omega (arith, i.below)
code_small h c h_long_object = omega arith
code_small h c h_end = omega arith

formed_bytes : (w : Want) (bytes : List ℕ) (x : Element) → Formed w bytes x → AreBytes bytes
formed_bytes w bytes x (a_scalar v t s e) = scalar_bytes_are v bytes s
formed_bytes w bytes x (chunks kind value t s e) = spelling_bytes kind value bytes s
formed_bytes w bytes x (a_head h c is t b e) = subst AreBytes (sym b) (cons_bytes c [] (code_small h c is) no_bytes)

pub element_bytes : (w : Want) (bytes : List ℕ) (x : Element) → IsElement w bytes x → AreBytes bytes
element_bytes w bytes x is = formed_bytes w bytes x (formed w bytes x is)
