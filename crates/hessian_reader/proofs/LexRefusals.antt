-- Which byte of an element is refused, by what the crates of scalars and of texts say.
use Rattle.std.proofs.Common.{◌≡◌, ◌≢◌, ℕ, zero, suc, ◌-◌, ◌<◌, List, [], ◌∷◌, ◌++◌, length, take, refl, sym, ap, ◌∙◌, subst, arith, inl, inr}
use Rattle.std.specs.Prelude.{Some, None, slice_get, slice_index}
use Rattle.std.proofs.lemmas.Bool.Decides.{nat_tests}
use Rattle.hessian_graph.specs.declared.value.Value.{Value}
use Rattle.hessian_graph.specs.declared.value.Value.TheVariants as values
use Rattle.hessian_graph.specs.Reading.{IsScalar}
use Rattle.hessian_graph.specs.Reading.IsScalar.{null, bool, int, long, date}
use Rattle.hessian_graph.specs.Refusal.{BeginsNode, BeginsNoInt, BeginsNoValue}
use Rattle.hessian_graph.specs.Refusal.BeginsNode.{map as b_map, typed_map as b_typed_map, long_object as b_long_object, open_typed_list as b_open_typed_list, long_typed_list as b_long_typed_list, open_list as b_open_list, long_list as b_long_list, short_object as b_short_object, short_typed_list as b_short_typed_list, short_list as b_short_list}
use Rattle.hessian_scalars.specs.declared.scalar.Scalar.TheVariants as scalars
use Rattle.hessian_scalars.specs.ScalarSpelling.{IsDoubleCode}
use Rattle.hessian_scalars.specs.Read.{BeginsNothing, BeginsInt}
use Rattle.hessian_text.specs.declared.stage.Kind.{Kind}
use Rattle.hessian_text.specs.declared.stage.Kind.TheVariants as kinds
use Rattle.hessian_text.specs.declared.stage.Stage.{Stage}
use Rattle.hessian_text.specs.declared.stage.Stage.TheVariants as stages
use Rattle.hessian_text.specs.Spelling.{Spelling}
use Rattle.hessian_text.specs.Steps.{after_code, arrived, step, Runs}
use Rattle.hessian_text.specs.Steps.Runs.{stay, go}
use Rattle.hessian_text.specs.Reader.{Reading, Advances, RefusesCode, RefusesItem}
use Rattle.hessian_text.proofs.Stages.{Ahead, stage_forward}
use Rattle.hessian_reader.specs.declared.element.Head.{Head}
use Rattle.hessian_reader.specs.declared.element.Head.TheVariants as heads
use Rattle.hessian_reader.specs.declared.element.Form.TheVariants as forms
use Rattle.hessian_reader.specs.declared.element.Want.{Want}
use Rattle.hessian_reader.specs.declared.element.Want.TheVariants as wants
use Rattle.hessian_reader.specs.declared.lexer.Lexed.TheVariants as lexed
use Rattle.hessian_reader.specs.Leaves.{hessian, scalar_bytes}
use Rattle.hessian_reader.specs.Faults.{faults}
use Rattle.hessian_reader.specs.Elements.{HeadCode}
use Rattle.hessian_reader.specs.Elements.HeadCode.{refer, short_list, short_typed_list, define, short_object, end}
use Rattle.hessian_reader.specs.Codes.{head_of, kind_of}
use Rattle.hessian_reader.specs.Lexing.{BeginsChunks}
use Rattle.hessian_reader.specs.Refusing.{RefusesFirst, RefusesByte}
use Rattle.hessian_reader.specs.Starting.{StartsScalar, StartsChunks, LeadsScalar, LeadsChunks}
use Rattle.hessian_reader.proofs.LeafCodes.{head_is, chunk_kind, double_no_scalar}
use Rattle.hessian_reader.proofs.LexChunks.{more_lexed}

-- ---- scalars

record IsFirst (c : ℕ) (piece : List ℕ) : Type 0 where
  within : 0 < length piece
  is : c ≡ slice_index piece 0

first_is : (c : ℕ) (piece : List ℕ) → slice_get piece 0 ≡ Some c → IsFirst c piece
first_is c [] e = absurd cc
first_is c (b ∷ piece) e = record { within = omega arith; is = cc }

starts_at : (w : Want) (c : ℕ) (came piece : List ℕ) → LeadsScalar w (came ++ piece) → came ≡ [] → IsFirst c piece → StartsScalar w c
starts_at w c came piece l none f = subst (StartsScalar w) (ap (λ x. slice_index (x ++ piece) 0) none ∙ sym f.is) l.starts

double_wanted : (w : Want) (c : ℕ) → StartsScalar w c → IsDoubleCode c → w ≡ wants.AnyValue
double_wanted wants.AnyValue c s d = refl
double_wanted wants.AnInt c s d = absurd (double_no_scalar (scalars.Int s.number) c s.more d s.spells)
double_wanted wants.AType c s d = absurd (double_no_scalar (scalars.Int s.number) c s.more d s.spells)
double_wanted wants.AText c s d = absurd s

pub double_byte : (w : Want) (c : ℕ) (came piece : List ℕ) → LeadsScalar w (came ++ piece) → came ≡ [] → slice_get piece 0 ≡ Some c → IsDoubleCode c → RefusesByte w came piece (lexed.Double c)
double_byte w c came piece l none e d = let f = first_is c piece e in (double_wanted w c (starts_at w c came piece l none f) d, none, f.within, f.is, d)

-- a code that no head has
node_head : (c : ℕ) → BeginsNode c → head_of c ≡ None → ⊥
node_head c b_map n = cc
node_head c b_typed_map n = cc
node_head c b_long_object n = cc
node_head c b_open_typed_list n = cc
node_head c b_long_typed_list n = cc
node_head c b_open_list n = cc
node_head c b_long_list n = cc
node_head c (b_short_object code i) n = let e = head_is (heads.ShortObject (code - 0x60)) code (short_object code _ i refl) in cc
node_head c (b_short_typed_list code i) n = let e = head_is (heads.Typed (forms.Short (code - 0x70))) code (short_typed_list code _ i refl) in cc
node_head c (b_short_list code i) n = let e = head_is (heads.ShortList (code - 0x78)) code (short_list code _ i refl) in cc

not_head : (c d : ℕ) (h : Head) → HeadCode h d → head_of c ≡ None → c ≢ d
not_head c d h is n e = let k = head_is h d is in let m : head_of c ≡ head_of d = ap head_of e in cc

no_scalar_value : (c : ℕ) → BeginsNothing c → (v : Value) (more : List ℕ) → IsScalar v → scalar_bytes v (c ∷ more) → ⊥
no_scalar_value c n (values.Null) more null s = n.no_scalar scalars.Null more s
no_scalar_value c n (values.Bool b) more (bool b') s = n.no_scalar (scalars.Bool b) more s
no_scalar_value c n (values.Int z) more (int z') s = n.no_scalar (scalars.Int z) more s
no_scalar_value c n (values.Long z) more (long z') s = n.no_scalar (scalars.Long z) more s
no_scalar_value c n (values.Date z) more (date z') s = n.no_scalar (scalars.Date z) more s
no_scalar_value c n (values.Text text) more is s = elim is [ ]
no_scalar_value c n (values.Bytes contents) more is s = elim is [ ]
no_scalar_value c n (values.Node k) more is s = elim is [ ]

no_chunks : (kind : Kind) (c : ℕ) → kind_of c ≡ None → (value more : List ℕ) → Spelling kind value (c ∷ more) → ⊥
no_chunks kind c n value more s = let k = chunk_kind kind value more c s in cc

no_value : (c : ℕ) → kind_of c ≡ None → head_of c ≡ None → BeginsNothing c → BeginsNoValue hessian faults c
no_value c k h n = record {
  no_scalar = no_scalar_value c n;
  no_text = no_chunks kinds.Text c k;
  no_binary = no_chunks kinds.Binary c k;
  no_node = λ b. node_head c b h;
  no_reference = not_head c 0x51 heads.Refer refer h;
  no_class = not_head c 0x43 heads.Define define h;
  no_double = n.no_double;
  no_end = not_head c 0x5a heads.End end h;
}

other_first : (w : Want) (c : ℕ) → StartsScalar w c → BeginsNothing c → RefusesFirst w c
other_first wants.AnyValue c s n = no_value c s.0 s.1 n
other_first wants.AnInt c s n = absurd (n.no_scalar (scalars.Int s.number) s.more s.spells)
other_first wants.AType c s n = absurd (n.no_scalar (scalars.Int s.number) s.more s.spells)
other_first wants.AText c s n = absurd s

pub other_byte : (w : Want) (c : ℕ) (came piece : List ℕ) → LeadsScalar w (came ++ piece) → came ≡ [] → slice_get piece 0 ≡ Some c → BeginsNothing c → RefusesByte w came piece (lexed.NoCode 0 c)
other_byte w c came piece l none e n = let f = first_is c piece e in (f.within, f.is, inl (none, refl, other_first w c (starts_at w c came piece l none f) n))

no_int : (c : ℕ) → (BeginsInt c → ⊥) → BeginsNoInt hessian c
no_int c none z more s = none (record { number = z; more = more; spells = s })

pub int_byte : (w : Want) (c : ℕ) (piece : List ℕ) → w ≡ wants.AnInt → 0 < length piece → c ≡ slice_index piece 0 → (BeginsInt c → ⊥) → RefusesByte w [] piece (lexed.NoCode 0 c)
int_byte w c piece e some first none = (some, first, inl (refl, refl, subst (λ u. RefusesFirst u c) (sym e) (no_int c none)))

-- ---- texts and binaries

no_chunk : (kind : Kind) (code : ℕ) → after_code kind code ≡ None → (value more : List ℕ) → Spelling kind value (code ∷ more) → ⊥
no_chunk kind code e value more s = refused (stage_forward kind stages.Code code value more tt s)
  where
    refused : Ahead kind (step kind stages.Code code) value more → ⊥
    refused a = let k : arrived (after_code kind code) ≡ arrived None = ap arrived e in let m : arrived (after_code kind code) ≡ Some (a.next, a.gained) = a.is in cc

kind_has_chunk : (kind : Kind) (c : ℕ) → kind_of c ≡ Some kind → after_code kind c ≡ None → ⊥
kind_has_chunk kinds.Text c k e = grind (arith, nat_tests)
kind_has_chunk kinds.Binary c k e = grind (arith, nat_tests)

chunk_first : (w : Want) (kind : Kind) (c : ℕ) → StartsChunks w kind c → after_code kind c ≡ None → RefusesFirst w c
chunk_first wants.AnyValue kind c s e = absurd (kind_has_chunk kind c s e)
chunk_first wants.AnInt kind c s e = absurd s
chunk_first wants.AType kind c s e = (no_chunk kinds.Text c (subst (λ k. after_code k c ≡ None) s.0 e), no_int c s.1)
chunk_first wants.AText kind c s e = no_chunk kinds.Text c (subst (λ k. after_code k c ≡ None) s e)

-- what led to the byte behind a front of the piece
leads_front : (w : Want) (r : Reading) (came piece : List ℕ) (n : ℕ) → n < length piece → came ++ take n piece ≢ [] → LeadsChunks w r came piece → LeadsChunks w r came (take n piece)
leads_front w r [] piece zero low some l = absurd (some refl)
leads_front w r [] [] (suc n) low some l = absurd (omega (arith, low))
leads_front w r [] (b ∷ piece) (suc n) low some l = record { some = omega arith; starts = l.starts; advances = l.advances }
leads_front w r (c ∷ came) piece n low some l = record { some = omega arith; starts = l.starts; advances = l.advances }

front_begun : (w : Want) (r after : Reading) (came piece : List ℕ) (n : ℕ) → n < length piece → came ++ take n piece ≢ [] → LeadsChunks w r came piece → Advances r (take n piece) after → after.stage ≢ stages.Ended → BeginsChunks w after (came ++ take n piece)
front_begun w r after came piece n low some l a open' = more_lexed w r after came (take n piece) (leads_front w r came piece n low some l) a open'

data Front (came piece : List ℕ) (n : ℕ) : Type 0 where
  is_first : came ≡ [] → n ≡ 0 → Front came piece n
  is_later : came ++ take n piece ≢ [] → Front came piece n

front_at : (came piece : List ℕ) (n : ℕ) → n < length piece → Front came piece n
front_at [] piece zero low = is_first refl refl
front_at [] [] (suc n) low = absurd (omega (arith, low))
front_at [] (b ∷ piece) (suc n) low = is_later (λ e. cc)
front_at (c ∷ came) piece n low = is_later (λ e. cc)

pub code_byte : (w : Want) (r after : Reading) (came piece : List ℕ) (n : ℕ) → LeadsChunks w r came piece → n < length piece → Advances r (take n piece) after → RefusesCode r.kind after.stage (slice_index piece n) → RefusesByte w came piece (lexed.NoCode n (slice_index piece n))
code_byte w r after came piece n l low a refuses = by_front (front_at came piece n low)
  where
    by_front : Front came piece n → RefusesByte w came piece (lexed.NoCode n (slice_index piece n))
    by_front (is_first none zero') = (low, refl, inl (none, zero', chunk_first w r.kind (slice_index piece n) (subst (StartsChunks w r.kind) (ap (λ x. slice_index (x ++ piece) 0) none ∙ ap (slice_index piece) (sym zero')) l.starts) refuses.no_code))
    by_front (is_later some) = (
      low,
      refl,
      inr (record {
        reading = after;
        begun = front_begun w r after came piece n low some l a (λ e. let k : after.stage ≡ stages.Code = refuses.at_code in cc);
        refuses = subst (λ k. RefusesCode k after.stage (slice_index piece n)) (sym a.kind) refuses;
      }),
    )

runs_nothing : (kind : Kind) (s t : Stage) (bytes gained : List ℕ) → Runs kind s bytes t gained → bytes ≡ [] → t ≡ s
runs_nothing kind s t bytes gained (stay u) e = refl
runs_nothing kind s t bytes gained (go s' u t' b xs g h is more) e = absurd cc

pub item_byte : (w : Want) (r after : Reading) (came piece : List ℕ) (n k : ℕ) → LeadsChunks w r came piece → n < length piece → Advances r (take n piece) after → RefusesItem r.kind after.stage (slice_index piece n) k → RefusesByte w came piece (lexed.NoText n k)
item_byte w r after came piece n k l low a refuses = by_front (front_at came piece n low)
  where
    by_front : Front came piece n → RefusesByte w came piece (lexed.NoText n k)
    by_front (is_first none zero') = absurd (
        let first : r.stage ≡ stages.Code = runs_nothing r.kind stages.Code r.stage came l.advances.gained l.advances.runs none in
        let second : after.stage ≡ r.stage = runs_nothing r.kind r.stage after.stage (take n piece) a.gained a.runs (ap (λ m. take m piece) zero') in
        let inside = refuses.inside in
        cc)
    by_front (is_later some) = (
      low,
      record {
        reading = after;
        begun = front_begun w r after came piece n low some l a (λ e. let inside = refuses.inside in cc);
        refuses = subst (λ q. RefusesItem q after.stage (slice_index piece n) k) (sym a.kind) refuses;
      },
    )
