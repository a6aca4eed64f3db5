-- What a piece makes of a text or a binary that may stand in a place.
use Rattle.std.proofs.Common.{◌≡◌, ◌≢◌, ℕ, zero, suc, ◌+◌, ◌-◌, ◌<◌, List, [], ◌∷◌, ◌++◌, length, get_or, take, drop, refl, sym, ap, ◌∙◌, subst, arith, append_assoc}
use Rattle.std.specs.Prelude.{Some, None, slice_index}
use Rattle.std.proofs.lemmas.List.{append-nil, length-append, get_or-append-add, take-append-le}
use Rattle.std.proofs.Math.ListN.{get_or-append}
use Rattle.std.proofs.Math.Seq.{take-append_seam, take-append-add}
use Rattle.hessian_scalars.specs.declared.scalar.Scalar.TheVariants as scalars
use Rattle.hessian_scalars.specs.Read.{BeginsInt}
use Rattle.hessian_scalars.specs.ScalarSpelling.{ScalarSpelling}
use Rattle.hessian_text.specs.declared.stage.Kind.{Kind}
use Rattle.hessian_text.specs.declared.stage.Stage.{Stage}
use Rattle.hessian_text.specs.declared.stage.Stage.TheVariants as stages
use Rattle.hessian_text.specs.Spelling.{Spelling, AreBytes, IsSpelledAt}
use Rattle.hessian_text.specs.Residual.{Completes}
use Rattle.hessian_text.specs.Steps.{arrived, step, Runs}
use Rattle.hessian_text.specs.Steps.Runs.{stay, go}
use Rattle.hessian_text.specs.Reader.{Reading, Advances, RefusesCode, RefusesItem}
use Rattle.hessian_text.proofs.Running.{runs_more}
use Rattle.hessian_text.proofs.Answering.{goes_on}
use Rattle.hessian_text.proofs.Exactly.{no_code_no_value, no_item_no_value}
use Rattle.hessian_reader.specs.declared.element.Element.{Element}
use Rattle.hessian_reader.specs.declared.element.Want.{Want}
use Rattle.hessian_reader.specs.declared.element.Want.TheVariants as wants
use Rattle.hessian_reader.specs.Elements.{IsElement, HasNoElement}
use Rattle.hessian_reader.specs.Codes.{kind_of, chunk_element}
use Rattle.hessian_reader.specs.Lexing.{TakesChunks, BeginsChunks}
use Rattle.hessian_reader.specs.Starting.{StartsChunks, LeadsChunks}
use Rattle.hessian_reader.proofs.LeafCodes.{head_no_kind, chunk_code, chunk_kind, scalar_apart}
use Rattle.hessian_reader.proofs.Elements.{Formed, formed, chunks_are, element_some}
use Rattle.hessian_reader.proofs.Elements.Formed.{a_scalar, chunks, head}

-- a reading of which nothing came
abbrev fresh : Kind → Reading
fresh kind = record { kind = kind; done = []; stage = stages.Code }

-- ---- bytes and more of them

pub joined : (kind : Kind) (r after : Reading) (came piece : List ℕ) → Advances (fresh kind) came r → Advances r piece after → Advances (fresh kind) (came ++ piece) after
joined kind r after came piece a b = record {
  gained = a.gained ++ b.gained;
  kind = b.kind ∙ a.kind;
  runs = runs_more kind stages.Code r.stage after.stage came piece a.gained b.gained a.runs (subst (λ k. Runs k r.stage piece after.stage b.gained) a.kind b.runs);
  done = b.done ∙ ap (λ x. x ++ b.gained) a.done;
}

spelled : (kind : Kind) (after : Reading) (bytes : List ℕ) → AreBytes bytes → Advances (fresh kind) bytes after → after.stage ≡ stages.Ended → Spelling kind after.done bytes
spelled kind after bytes small a ended = subst (Spelling kind after.done) (append-nil bytes) ((goes_on kind after bytes after.done [] small a).1 (record {
  more = [];
  value_is = sym (append-nil after.done);
  completes = subst (λ s. Completes after.kind s [] []) (sym ended) (refl, refl);
}))

takes : (w : Want) (kind : Kind) (c : ℕ) → StartsChunks w kind c → TakesChunks w kind
takes wants.AnyValue kind c s = tt
takes wants.AnInt kind c s = s
takes wants.AType kind c s = s.0
takes wants.AText kind c s = s

-- the value is whole
pub whole_lexed : (w : Want) (r after : Reading) (came piece : List ℕ) (n : ℕ) → AreBytes (came ++ take n piece) → LeadsChunks w r came piece → Advances r (take n piece) after → after.stage ≡ stages.Ended → IsElement w (came ++ take n piece) (chunk_element w r.kind after.done)
whole_lexed w r after came piece n small l a ended = chunks_are w r.kind after.done (came ++ take n piece) (takes w r.kind (slice_index (came ++ piece) 0) l.starts) (spelled r.kind after (came ++ take n piece) small (joined r.kind r after came (take n piece) l.advances a) ended)

some_bytes : (bytes : List ℕ) → 0 < length bytes → bytes ≢ []
some_bytes [] h e = omega arith
some_bytes (b ∷ bytes) h e = cc

-- it goes on behind the piece
pub more_lexed : (w : Want) (r after : Reading) (came piece : List ℕ) → LeadsChunks w r came piece → Advances r piece after → after.stage ≢ stages.Ended → BeginsChunks w after (came ++ piece)
more_lexed w r after came piece l a n = record {
  some = some_bytes (came ++ piece) l.some;
  takes = subst (TakesChunks w) (sym a.kind) (takes w r.kind (slice_index (came ++ piece) 0) l.starts);
  advances = subst (λ k. Advances (fresh k) (came ++ piece) after) (sym a.kind) (joined r.kind r after came piece l.advances a);
  still_open = n;
}

-- ---- what leads into a text or a binary

moved : (kind : Kind) (s t : Stage) (bytes gained : List ℕ) (c : ℕ) (bs : List ℕ) → Runs kind s bytes t gained → bytes ≡ c ∷ bs → step kind s c ≡ None → ⊥
moved kind s t bytes gained c bs (stay u) e n = cc
moved kind s t bytes gained c bs (go s' u t' b xs g h is more) e n = let same : b ≡ c = cc in let k : step kind s c ≡ Some (u, g) = ap (step kind s) (sym same) ∙ is in cc

first_kind : (kind : Kind) (r : Reading) (c : ℕ) (bs : List ℕ) → Advances (fresh kind) (c ∷ bs) r → kind_of c ≡ Some kind
first_kind kind r c bs a = chunk_code kind c (λ e. moved kind stages.Code r.stage (c ∷ bs) a.gained c bs a.runs refl (ap arrived e))

no_int : (kind : Kind) (c : ℕ) → kind_of c ≡ Some kind → BeginsInt c → ⊥
no_int kind c e i = let p = scalar_apart (scalars.Int i.number) c i.more i.spells in let k : kind_of c ≡ None = p.kind in cc

starts_again : (w : Want) (kind : Kind) (c : ℕ) → TakesChunks w kind → kind_of c ≡ Some kind → StartsChunks w kind c
starts_again wants.AnyValue kind c t e = e
starts_again wants.AnInt kind c t e = t
starts_again wants.AType kind c t e = (t, no_int kind c e)
starts_again wants.AText kind c t e = t

pub leads_on : (w : Want) (r : Reading) (came piece : List ℕ) → BeginsChunks w r came → LeadsChunks w r came piece
leads_on w r [] piece b = absurd (b.some refl)
leads_on w r (c ∷ came) piece b = record {
  some = omega arith;
  starts = starts_again w r.kind c b.takes (first_kind r.kind r c came b.advances);
  advances = b.advances;
}

-- nothing came of it
pub leads_in : (w : Want) (kind : Kind) (r : Reading) (c : ℕ) (piece : List ℕ) → r ≡ fresh kind → 0 < length piece → c ≡ slice_index piece 0 → StartsChunks w kind c → LeadsChunks w r [] piece
leads_in w kind r c piece e some first st = subst (λ q. LeadsChunks w q [] piece) (sym e) (record {
  some = some;
  starts = subst (StartsChunks w kind) first st;
  advances = record { gained = []; kind = refl; runs = stay stages.Code; done = refl };
})

-- ---- no text or binary stands at the front

-- what may stand at the front is of the kind that begins
only : (w : Want) (kind : Kind) (c : ℕ) (ds : List ℕ) (x : Element) → StartsChunks w kind c → Formed w (c ∷ ds) x → (value : List ℕ) × Spelling kind value (c ∷ ds)
only wants.AnyValue kind c ds x st (a_scalar v t s e) = absurd (let p = scalar_apart v c ds s in let k : kind_of c ≡ None = p.kind in cc)
only wants.AnyValue kind c ds x st (chunks other value t s e) = let k : Some kind ≡ Some other = sym st ∙ chunk_kind other value ds c s in let same : other ≡ kind = cc in (value, subst (λ q. Spelling q value (c ∷ ds)) same s)
only wants.AnyValue kind c ds x st (head h d is t b e) = absurd (let same : c ≡ d = cc in let k = head_no_kind h d is in let l : kind_of d ≡ Some kind = ap kind_of (sym same) ∙ st in cc)
only wants.AnInt kind c ds x st f = absurd st
only wants.AType kind c ds x st (a_scalar v t s e) = absurd (st.1 (record { number = t.0; more = ds; spells = subst (λ q. ScalarSpelling q (c ∷ ds)) t.1 s }))
only wants.AType kind c ds x st (chunks other value t s e) = (value, subst (λ q. Spelling q value (c ∷ ds)) (t ∙ sym st.0) s)
only wants.AType kind c ds x st (head h d is t b e) = absurd cc
only wants.AText kind c ds x st (a_scalar v t s e) = absurd t
only wants.AText kind c ds x st (chunks other value t s e) = (value, subst (λ q. Spelling q value (c ∷ ds)) (t ∙ sym st) s)
only wants.AText kind c ds x st (head h d is t b e) = absurd cc

first_same : (c d : ℕ) (a b : List ℕ) → c ∷ a ≡ d ∷ b → c ≡ d
first_same c d a b e = cc

-- no spelling of the kind that begins stands at the front, so no element does
pub none_stands : (w : Want) (kind : Kind) (bytes : List ℕ) → 0 < length bytes → StartsChunks w kind (slice_index bytes 0) → ((more front rest value : List ℕ) → AreBytes more → bytes ++ more ≡ front ++ rest → Spelling kind value front → ⊥) → HasNoElement w bytes
none_stands w kind [] some st none = absurd (omega arith)
none_stands w kind (c ∷ bs) some st none = λ more front rest x small e is. at_front more front rest x small e is
  where
    at_front : (more front rest : List ℕ) (x : Element) → AreBytes more → c ∷ (bs ++ more) ≡ front ++ rest → IsElement w front x → ⊥
    at_front more [] rest x small e is = element_some w [] x is refl
    at_front more (d ∷ ds) rest x small e is =
        let o = only w kind d ds x (subst (StartsChunks w kind) (first_same c d (bs ++ more) (ds ++ rest) e) st) (formed w (d ∷ ds) x is) in
        none more (d ∷ ds) rest o.0 small e o.1

pub small_more : (a b : List ℕ) → AreBytes a → AreBytes b → AreBytes (a ++ b)
small_more a b p q = record { small = λ i l. small_at a p b q i l }
  where
    small_at : (a : List ℕ) → AreBytes a → (b : List ℕ) → AreBytes b → (i : ℕ) → i < length (a ++ b) → get_or (a ++ b) i 0 < 256
    small_at [] p b q i l = q.small i l
    small_at (x ∷ a) p b q zero l = p.small 0 (omega arith)
    small_at (x ∷ a) p b q (suc i) l = small_at a (record { small = λ j k. p.small (suc j) (omega arith) }) b q i (omega arith)

-- the bytes that were taken, the one that is refused, and all that follows
record IsRefused (bytes came piece : List ℕ) (n : ℕ) : Type 0 where
  within : length came + n < length (drop 0 bytes)
  front : take (length came + n) (drop 0 bytes) ≡ came ++ take n piece
  byte : slice_index (drop 0 bytes) (length came + n) ≡ slice_index piece n

placed : (came piece more : List ℕ) (n : ℕ) → n < length piece → IsRefused ((came ++ piece) ++ more) came piece n
placed came piece more n l = record {
  within = omega (arith, length-append (came ++ piece) more, length-append came piece);
  front = ap (take (length came + n)) (append_assoc came piece more) ∙ take-append-add came (piece ++ more) n ∙ ap (λ x. came ++ x) (take-append-le n piece more (omega arith));
  byte = ap (λ x. get_or x (length came + n) 0) (append_assoc came piece more) ∙ get_or-append-add came (piece ++ more) n 0 ∙ get_or-append piece more 0 n l;
}

none_before : (n : ℕ) → n - 0 ≡ n
none_before n = omega arith

stands : (kind : Kind) (bytes front rest value : List ℕ) → bytes ≡ front ++ rest → Spelling kind value front → IsSpelledAt kind bytes 0 value (length front)
stands kind bytes front rest value e s = record {
  after = omega arith;
  within = let k : length bytes ≡ length (front ++ rest) = ap length e in omega (arith, length-append front rest);
  spells = subst (Spelling kind value) (sym (ap (λ n. take n bytes) (none_before (length front)) ∙ ap (take (length front)) e ∙ take-append_seam front rest)) s;
}

pub no_code_lexed : (w : Want) (r after : Reading) (came piece : List ℕ) (n : ℕ) → AreBytes came → AreBytes piece → LeadsChunks w r came piece → n < length piece → Advances r (take n piece) after → RefusesCode r.kind after.stage (slice_index piece n) → HasNoElement w (came ++ piece)
no_code_lexed w r after came piece n low small l within a refuses = none_stands w r.kind (came ++ piece) l.some l.starts (λ more front rest value few e s.
    let bytes = (came ++ piece) ++ more in
    let p = placed came piece more n within in
    no_code_no_value r.kind bytes value 0 (length front) (length came + n) after (small_more (came ++ piece) more (small_more came piece low small) few) p.within
    (subst (λ q. Advances (fresh r.kind) q after) (sym p.front) (joined r.kind r after came (take n piece) l.advances a))
    (subst (RefusesCode r.kind after.stage) (sym p.byte) refuses)
    (stands r.kind bytes front rest value e s))

pub no_item_lexed : (w : Want) (r after : Reading) (came piece : List ℕ) (n k : ℕ) → AreBytes came → AreBytes piece → LeadsChunks w r came piece → n < length piece → Advances r (take n piece) after → RefusesItem r.kind after.stage (slice_index piece n) k → HasNoElement w (came ++ piece)
no_item_lexed w r after came piece n k low small l within a refuses = none_stands w r.kind (came ++ piece) l.some l.starts (λ more front rest value few e s.
    let bytes = (came ++ piece) ++ more in
    let p = placed came piece more n within in
    no_item_no_value r.kind bytes value 0 (length front) (length came + n) k after (small_more (came ++ piece) more (small_more came piece low small) few) p.within
    (subst (λ q. Advances (fresh r.kind) q after) (sym p.front) (joined r.kind r after came (take n piece) l.advances a))
    (subst (λ b. RefusesItem r.kind after.stage b k) (sym p.byte) refuses)
    (stands r.kind bytes front rest value e s))
