-- A reply that is written is read as it was, with the canonical form of its graph.
use Rattle.std.proofs.Common.{◌≡◌, ℕ, ◌≤◌, List, [], ◌∷◌, ◌++◌, length, refl, sym, ap, ◌∙◌, subst, arith}
use Rattle.std.specs.Prelude.{ℤ, map, pos}
use Rattle.std.proofs.lemmas.List.{length-map}
use Rattle.hessian_graph.specs.declared.value.Value.{Value as GraphValue}
use Rattle.hessian_graph.specs.declared.value.Value.TheVariants as values
use Rattle.hessian_graph.specs.declared.parts.Parts.{Parts}
use Rattle.hessian_graph.specs.Shape.{Shape, shape_of}
use Rattle.hessian_graph.specs.Canon.{Visit, renumbered, in_order, IsCanon}
use Rattle.hessian_graph.specs.Canon.Visit.{done, plain}
use Rattle.hessian_graph.specs.Work.{IsClosed}
use Rattle.hessian_graph.specs.Reading.{IntSpelling, no_tables}
use Rattle.hessian_graph.specs.Spells.{Denotes}
use Rattle.hessian_graph.specs.Spells.SpellsAll.{none as no_values}
use Rattle.hessian_graph.specs.Forms.{Written}
use Rattle.hessian_graph.proofs.Again.{form_stays}
use Rattle.hessian_graph.proofs.Visits.{one_visit}
use Rattle.hessian_writer.specs.Leaves.{hessian, hessian_forms}
use Rattle.hessian_writer.proofs.LeafLaws.{forms_are_spellings, denoted}
use Rattle.dubbo_header.specs.declared.header.Header.{Header}
use Rattle.dubbo_bodies.specs.declared.message.Reply.{Reply}
use Rattle.dubbo_bodies.specs.declared.message.Reply.TheVariants.{Value, Threw, Status}
use Rattle.dubbo_bodies.specs.Fields.{HESSIAN}
use Rattle.dubbo_bodies.specs.Fields.OptionalText.{text as o_text}
use Rattle.dubbo_bodies.specs.ReplyBody.{OK_STATUS, null_alone, BeginsWithKind, ReplyOf}
use Rattle.dubbo_bodies.specs.ReplyBody.Outcome.{exception as o_exception, value as o_value, null as o_null}
use Rattle.dubbo_bodies.specs.ReplyBody.ReplyOf.{outcome, status as r_status}
use Rattle.dubbo_bodies.specs.WrittenBody.{WrittenReply}
use Rattle.dubbo_bodies.specs.WrittenBody.WrittenReply.{exception, value, null, status}
use Rattle.dubbo_bodies.specs.CanonBody.{IsCanonReply, GoesWith, HasFewNodes, HasClosedGraph}
use Rattle.dubbo_bodies.specs.CanonBody.IsCanonReply.{value as c_value, exception as c_exception, status as c_status}

one_root : (vs : List GraphValue) → length vs ≡ 1 → (root : GraphValue) × (vs ≡ root ∷ [])
one_root [] e = absurd (omega (arith, e))
one_root (v ∷ []) e = (v, refl)
one_root (v ∷ w ∷ vs) e = absurd (omega (arith, e))

-- the canonical form has as many roots
form_root : (g f : Shape) → IsCanon g f → length g.roots ≡ 1 → (root : GraphValue) × (f.roots ≡ root ∷ [])
form_root g f canon e = one_root f.roots (ap (λ (x : Shape). length x.roots) canon.2 ∙ length-map g.roots (renumbered canon.0) ∙ e)

begins : (header : Header) (number : ℤ) (kind rest : List ℕ) → header.serial ≡ HESSIAN → header.status ≡ OK_STATUS → IntSpelling hessian_forms number kind → BeginsWithKind hessian header (kind ++ rest) number (length kind) rest
begins header number kind rest serial ok is = record { serial = serial; status = ok; front = kind; is_kind = forms_are_spellings.scalar (values.Int number) kind is; place = refl; joined = refl }

read_value : (bound : ℕ) (g h : Parts) (bytes : List ℕ) → Written hessian hessian_forms (shape_of g) bytes → IsCanon (shape_of g) (shape_of h) → length h.nodes ≤ bound → Denotes hessian bound bytes (shape_of h)
read_value bound g h bytes w canon few = let nodes : length (shape_of h).nodes ≡ length h.nodes = length-map h.nodes _ in denoted bound (shape_of g) (shape_of h) bytes w canon (omega (arith, nodes, few))

-- the canonical form of null alone
null_form : (g f : Shape) → g.roots ≡ values.Null ∷ [] → IsCanon g f → f ≡ null_alone
null_form g f e canon =
    let visit : Visit g [] (values.Null ∷ []) canon.0 = subst (λ vs. Visit g [] vs canon.0) e canon.1 in
    let none : canon.0 ≡ [] = one_visit visit (plain [] [] values.Null [] refl (done [])) in
    canon.2 ∙ ap (in_order g) none ∙ ap (λ (vs : List GraphValue). record { roots = map (renumbered []) vs; nodes = [] }) e

no_bytes : (bound : ℕ) → Denotes hessian bound [] (record { roots = []; nodes = [] })
no_bytes bound = record { spelled = record { last = no_tables; roots = no_values; all_begun = refl }; limit = omega arith }

kind_alone : (kind : List ℕ) → kind ++ [] ≡ kind
kind_alone [] = refl
kind_alone (b ∷ bs) = ap (λ xs. b ∷ xs) (kind_alone bs)

read_threw : (bound : ℕ) (header : Header) (g h : Parts) (kind bytes : List ℕ) → IsClosed (shape_of g) → IsClosed (shape_of h) → header.serial ≡ HESSIAN → header.status ≡ OK_STATUS → length g.roots ≡ 1 → IntSpelling hessian_forms (pos 0) kind → Written hessian hessian_forms (shape_of g) bytes → IsCanon (shape_of g) (shape_of h) → length h.nodes ≤ bound → ReplyOf hessian bound header (kind ++ bytes) (Threw h)
read_threw bound header g h kind bytes closed closed' serial ok single is w canon few =
    let root = form_root (shape_of g) (shape_of h) canon single in
    outcome (pos 0) (length kind) bytes (shape_of h) (Threw h) (begins header (pos 0) kind bytes serial ok is) (read_value bound g h bytes w canon few) (o_exception root.0 h root.1 (form_stays (shape_of g) (shape_of h) closed closed' canon))

read_some : (bound : ℕ) (header : Header) (g h : Parts) (kind bytes : List ℕ) → IsClosed (shape_of g) → IsClosed (shape_of h) → header.serial ≡ HESSIAN → header.status ≡ OK_STATUS → length g.roots ≡ 1 → IntSpelling hessian_forms (pos 1) kind → Written hessian hessian_forms (shape_of g) bytes → IsCanon (shape_of g) (shape_of h) → length h.nodes ≤ bound → ReplyOf hessian bound header (kind ++ bytes) (Value h)
read_some bound header g h kind bytes closed closed' serial ok single is w canon few =
    let root = form_root (shape_of g) (shape_of h) canon single in
    outcome (pos 1) (length kind) bytes (shape_of h) (Value h) (begins header (pos 1) kind bytes serial ok is) (read_value bound g h bytes w canon few) (o_value root.0 h root.1 (form_stays (shape_of g) (shape_of h) closed closed' canon))

read_null : (bound : ℕ) (header : Header) (g h : Parts) (kind : List ℕ) → header.serial ≡ HESSIAN → header.status ≡ OK_STATUS → g.roots ≡ values.Null ∷ [] → IntSpelling hessian_forms (pos 2) kind → IsCanon (shape_of g) (shape_of h) → ReplyOf hessian bound header kind (Value h)
read_null bound header g h kind serial ok none is canon =
    let begun : BeginsWithKind hessian header (kind ++ []) (pos 2) (length kind) [] = begins header (pos 2) kind [] serial ok is in
    outcome (pos 2) (length kind) [] (record { roots = []; nodes = [] }) (Value h) (subst (λ b. BeginsWithKind hessian header b (pos 2) (length kind) []) (kind_alone kind) begun) (no_bytes bound) (o_null h refl (null_form (shape_of g) (shape_of h) none canon))

pub reply_read : (bound : ℕ) (header : Header) {r s : Reply} {body : List ℕ} → HasClosedGraph r → HasClosedGraph s → header.serial ≡ HESSIAN → GoesWith r header.status → WrittenReply hessian hessian_forms r body → IsCanonReply r s → HasFewNodes s bound → ReplyOf hessian bound header body s
reply_read bound header sound sound' serial goes (exception g kind bytes is w) (c_exception g' h canon) few = read_threw bound header g h kind bytes sound sound' serial goes.0 goes.1 is w canon few
reply_read bound header sound sound' serial goes (value g kind bytes some is w) (c_value g' h canon) few = read_some bound header g h kind bytes sound sound' serial goes.0 goes.1 is w canon few
reply_read bound header sound sound' serial goes (null g kind none is) (c_value g' h canon) few = read_null bound header g h kind serial goes.0 none is canon
reply_read bound header sound sound' serial goes (status code text bytes is) (c_status code' text') few =
    subst (λ n. ReplyOf hessian bound header bytes (Status n text)) goes.0 (r_status text serial (λ e. goes.1 (sym goes.0 ∙ e)) (o_text text bytes (forms_are_spellings.text text bytes is)))
