-- How calls end: one ending, one body, and the same for arguments of one shape.
use Rattle.std.proofs.Common.{◌≡◌, ℕ, suc, ◌<◌, ◌≤◌, ◌^◌, List, [], ◌∷◌, ◌++◌, length, get_or, refl, ap, sym, ◌∙◌, subst, arith}
use Rattle.std.specs.Prelude.{Result, Ok, Err, IfOk, map, pos}
use Rattle.std.proofs.lemmas.List.{get_or_default, length-map}
use Rattle.hessian_graph.specs.declared.value.Value.{Value as GraphValue}
use Rattle.hessian_graph.specs.declared.value.Value.TheVariants as values
use Rattle.hessian_graph.specs.Shape.{Shape, shape_of, node_shape}
use Rattle.hessian_graph.specs.Canon.{IsCanon, renumbered}
use Rattle.hessian_graph.specs.Forms.{Written}
use Rattle.hessian_graph.specs.Iso.{Iso}
use Rattle.hessian_graph.specs.Work.{IsClosed}
use Rattle.hessian_graph.proofs.OneForm.{one_written}
use Rattle.hessian_writer.specs.Leaves.{hessian, hessian_forms}
use Rattle.hessian_writer.specs.Writable.{IsWritable}
use Rattle.hessian_writer.proofs.LeafLaws.{one_form as one_form_of_leaves}
use Rattle.dubbo_bodies.specs.declared.message.Request.{Request}
use Rattle.dubbo_bodies.specs.declared.message.Reply.{Reply}
use Rattle.dubbo_bodies.specs.declared.message.Reply.TheVariants.{Value, Threw, Status}
use Rattle.dubbo_bodies.specs.CanonBody.{HasFewNodes}
use Rattle.dubbo_bodies.specs.WrittenBody.{LIMIT, IsWritableReply, WrittenReply}
use Rattle.dubbo_bodies.specs.WrittenBody.WrittenReply.{exception, value, null, status}
use Rattle.dubbo_bodies.proofs.OneBody.{one_reply}
use Rattle.service_table.specs.declared.kind.Kind.{Kind as Service}
use Rattle.service_table.specs.declared.row.Row.{Row}
use Rattle.service_table.specs.Rows.{Serves, ServesAs, AreApart, service_of, asked_by, no_row}
use Rattle.service_table.specs.Endings.{Ending, IsCanonEnding, BodyOf, IsShort, ending_of}
use Rattle.service_table.specs.Endings.IsCanonEnding.{given, thrown, stated}
use Rattle.service_table.specs.Direct.{HasBody, Outcome, Direct, EndsIn, IsDirect}
use Rattle.service_table.specs.Direct.Outcome.{answered, exceeded}
use Rattle.service_table.specs.Direct.Direct.{unknown, served}
use Rattle.service_table.specs.Replies.{answer}
use Rattle.service_table.proofs.CanonForms.{one_canon, iso_form}
use Rattle.service_table.proofs.Closed.{OfGraph, answer_closed}
use Rattle.service_table.proofs.Alike.{one_ending, some_ending, alike_answer}

-- what is written for a graph is written for each graph of the same canonical form
shared_bytes : (g h f : Shape) (bytes : List ℕ) → IsCanon g f → IsCanon h f → Written hessian hessian_forms g bytes → Written hessian hessian_forms h bytes
shared_bytes g h f bytes p q w = record { form = w.form; canonical = subst (IsCanon h) (one_canon g f w.form p w.canonical) q; spelled = w.spelled; in_forms = w.in_forms }

same_bytes : (g h f : Shape) (a b : List ℕ) → IsCanon g f → IsCanon h f → Written hessian hessian_forms g a → Written hessian hessian_forms h b → a ≡ b
same_bytes g h f a b p q v w = one_written hessian_forms h a b one_form_of_leaves (shared_bytes g h f a p q v) w

-- only null has the number of null
null_value : (order : List ℕ) (v : GraphValue) → renumbered order v ≡ values.Null → v ≡ values.Null
null_value order values.Null e = refl
null_value order (values.Bool b) e = cc
null_value order (values.Int i) e = cc
null_value order (values.Long l) e = cc
null_value order (values.Date d) e = cc
null_value order (values.Text t) e = cc
null_value order (values.Bytes bs) e = cc
null_value order (values.Node n) e = cc

null_roots : (order : List ℕ) (vs : List GraphValue) → map (renumbered order) vs ≡ values.Null ∷ [] → vs ≡ values.Null ∷ []
null_roots order [] e = cc
null_roots order (v ∷ []) e = ap (λ x. x ∷ []) (null_value order v (ap (λ (xs : List GraphValue). get_or xs 0 values.Null) e))
null_roots order (v ∷ w ∷ vs) e = let long : suc (suc (length (map (renumbered order) vs))) ≡ 1 = ap (λ (xs : List GraphValue). length xs) e in absurd (omega (arith, long))

null_shared : (g h f : Shape) → IsCanon g f → IsCanon h f → g.roots ≡ values.Null ∷ [] → h.roots ≡ values.Null ∷ []
null_shared g h f p q e =
    null_roots q.0 h.roots (ap (λ (x : Shape). x.roots) (sym q.2) ∙ ap (λ (x : Shape). x.roots) p.2 ∙ ap (map (renumbered p.0)) e)

joined : (a b c d : List ℕ) → a ≡ b → c ≡ d → a ++ c ≡ b ++ d
joined a b c d p q = ap (λ xs. xs ++ c) p ∙ ap (λ xs. b ++ xs) q

-- replies of one canonical ending are written as one body
same_body : {r s : Reply} {e : Ending} {a b : List ℕ} → WrittenReply hessian hessian_forms r a → WrittenReply hessian hessian_forms s b → IsCanonEnding (ending_of r) e → IsCanonEnding (ending_of s) e → a ≡ b
same_body (exception g kind vs is w) (exception h kind' vs' is' w') (thrown g' f p) (thrown h' f' q) = joined kind kind' vs vs' (one_form_of_leaves.scalar (values.Int (pos 0)) kind kind' is is') (same_bytes (shape_of g) (shape_of h) f vs vs' p q w w')
same_body (exception g kind vs is w) (value h kind' vs' some' is' w') (thrown g' f p) q = elim q [ ]
same_body (exception g kind vs is w) (null h kind' none' is') (thrown g' f p) q = elim q [ ]
same_body (exception g kind vs is w) (status code text bytes is') (thrown g' f p) q = elim q [ ]
same_body (value g kind vs some is w) (exception h kind' vs' is' w') (given g' f p) q = elim q [ ]
same_body (value g kind vs some is w) (value h kind' vs' some' is' w') (given g' f p) (given h' f' q) = joined kind kind' vs vs' (one_form_of_leaves.scalar (values.Int (pos 1)) kind kind' is is') (same_bytes (shape_of g) (shape_of h) f vs vs' p q w w')
same_body (value g kind vs some is w) (null h kind' none' is') (given g' f p) (given h' f' q) = absurd (some (null_shared (shape_of h) (shape_of g) f q p none'))
same_body (value g kind vs some is w) (status code text bytes is') (given g' f p) q = elim q [ ]
same_body (null g kind none is) (exception h kind' vs' is' w') (given g' f p) q = elim q [ ]
same_body (null g kind none is) (value h kind' vs' some' is' w') (given g' f p) (given h' f' q) = absurd (some' (null_shared (shape_of g) (shape_of h) f p q none))
same_body (null g kind none is) (null h kind' none' is') p q = one_form_of_leaves.scalar (values.Int (pos 2)) kind kind' is is'
same_body (null g kind none is) (status code text bytes is') (given g' f p) q = elim q [ ]
same_body (status code text bytes is) (exception h kind' vs' is' w') (stated code' text') q = elim q [ ]
same_body (status code text bytes is) (value h kind' vs' some' is' w') (stated code' text') q = elim q [ ]
same_body (status code text bytes is) (null h kind' none' is') (stated code' text') q = elim q [ ]
same_body (status code text bytes is) (status code'' text'' bytes' is') (stated code' text') (stated code''' text''') = one_form_of_leaves.text text bytes bytes' is is'

pub one_body : (e : Ending) (a b : List ℕ) → BodyOf e a → BodyOf e b → a ≡ b
one_body e a b p q = same_body p.written q.written p.canonical q.canonical

-- a body isn't both short and too long
not_both : (e : Ending) → HasBody e (λ count. count ≤ LIMIT) → HasBody e (λ count. LIMIT < count) → ⊥
not_both e p q =
    let same : length p.body ≡ length q.body = ap (λ (xs : List ℕ). length xs) (one_body e p.body q.body p.is q.is) in
    let short = p.long in
    let long = q.long in
    absurd (omega (arith, same, short, long))

one_outcome : {kind : Service} {g : Shape} {a b : Ending} → Outcome kind g a → Outcome kind g b → a ≡ b
one_outcome (answered e p s) (answered e' q t) = one_ending p q
one_outcome (answered e p s) (exceeded e' q t) = absurd (not_both e' (subst (λ x. HasBody x (λ count. count ≤ LIMIT)) (one_ending p q) s) t)
one_outcome (exceeded e p s) (answered e' q t) = absurd (not_both e (subst (λ x. HasBody x (λ count. count ≤ LIMIT)) (one_ending q p) t) s)
one_outcome (exceeded e p s) (exceeded e' q t) = refl

-- a request has one row at most
one_row : (rows : List Row) (r : Request) (row other : Row) → AreApart rows → Serves rows r row → Serves rows r other → row ≡ other
one_row rows r row other apart p q =
    let a : get_or rows p.there.0 no_row ≡ row = get_or_default rows p.there.0 no_row row p.there.1 ∙ p.there.2 in
    let b : get_or rows q.there.0 no_row ≡ other = get_or_default rows q.there.0 no_row other q.there.1 ∙ q.there.2 in
    let at : p.there.0 ≡ q.there.0 = apart p.there.0 q.there.0 p.there.1 q.there.1 (ap service_of a ∙ p.same ∙ sym q.same ∙ sym (ap service_of b)) in
    sym a ∙ ap (λ i. get_or rows i no_row) at ∙ b

pub one_direct : {rows : List Row} {r : Request} {a b : Ending} → AreApart rows → Direct rows r a → Direct rows r b → a ≡ b
one_direct apart (unknown none) (unknown none') = refl
one_direct apart (unknown none) (served row e serves o) = absurd (none row serves)
one_direct apart (served row e serves o) (unknown none) = absurd (none row serves)
one_direct {rows} {r} apart (served row e serves o) (served row' e' serves' o') =
    one_outcome (subst (λ (x : Row). Outcome x.kind (shape_of r.args) e) (one_row rows r row row' apart serves serves') o) o'

-- arguments of one shape
alike_outcome : {kind : Service} {g h : Shape} {e : Ending} → IsClosed h → suc (length h.nodes) < 2 ^ 32 → Iso g h → Outcome kind g e → Outcome kind h e
alike_outcome {kind} {g} {h} closed few iso (answered e p s) = answered e (alike_answer kind g h closed few iso e p) s
alike_outcome {kind} {g} {h} closed few iso (exceeded e p s) = exceeded e (alike_answer kind g h closed few iso e p) s

pub alike_direct : {rows : List Row} {r s : Request} {e : Ending} → IsClosed (shape_of s.args) → suc (length (shape_of s.args).nodes) < 2 ^ 32 → asked_by r ≡ asked_by s → Iso (shape_of r.args) (shape_of s.args) → Direct rows r e → Direct rows s e
alike_direct closed few asked iso (unknown none) = unknown (λ row serves. none row (record { there = serves.there; same = serves.same ∙ sym asked }))
alike_direct closed few asked iso (served row e serves o) = served row e (record { there = serves.there; same = serves.same ∙ asked }) (alike_outcome closed few iso o)

-- what is answered to the canonical form of arguments has the canonical form of what they get
pub ends_as : (kind : Service) (g f : Shape) (reply : Reply) → IsClosed g → IsClosed f → IsCanon g f → suc (length g.nodes) < 2 ^ 32 → suc (length f.nodes) < 2 ^ 32 → ending_of reply ≡ answer kind f → EndsIn (IsCanonEnding (answer kind g)) reply
ends_as kind g f reply cg cf canon few room e =
    let x = some_ending (answer kind g) (answer_closed kind g cg few) in
    record { ending = x.0; canonical = subst (λ z. IsCanonEnding z x.0) (sym e) (alike_answer kind g f cf room (iso_form g f cg cf canon) x.0 x.1); is = x.1 }

-- what holds of the graph of an ending holds of a reply's
pub reply_writable : (reply : Reply) → OfGraph IsWritable (ending_of reply) → IsWritableReply reply
reply_writable (Value g) h = h
reply_writable (Threw g) h = h
reply_writable (Status code text) h = h

pub reply_nodes : (reply : Reply) (few most : ℕ) → few ≤ most → OfGraph (λ x. length x.nodes ≤ few) (ending_of reply) → HasFewNodes reply most
reply_nodes (Value g) few most h k = let count : length (shape_of g).nodes ≡ length g.nodes = length-map g.nodes (node_shape g.types g.classes) in omega (arith, h, k, count)
reply_nodes (Threw g) few most h k = let count : length (shape_of g).nodes ≡ length g.nodes = length-map g.nodes (node_shape g.types g.classes) in omega (arith, h, k, count)
reply_nodes (Status code text) few most h k = tt

-- the body of a reply, as one of its ending
pub has_body : (Long : ℕ → Type 0) (reply : Reply) (e : Ending) (body : List ℕ) → IsCanonEnding (ending_of reply) e → WrittenReply hessian hessian_forms reply body → Long (length body) → HasBody e Long
has_body Long reply e body canon written long = record { body = body; is = record { reply = reply; canonical = canon; written = written }; long = long }

pub is_short : (reply : Reply) (body : List ℕ) → WrittenReply hessian hessian_forms reply body → length body ≤ LIMIT → IsShort reply
is_short reply body written short other w = let same : length other ≡ length body = ap (λ (xs : List ℕ). length xs) (one_reply one_form_of_leaves w written) in omega (arith, same, short)

pub direct_of : (rows : List Row) (r : Request) (kind : Service) (reply : Reply) → ServesAs rows r kind → EndsIn (Outcome kind (shape_of r.args)) reply → IsDirect rows r reply
direct_of rows r kind reply (row, serves, is) ends =
    record { ending = ends.ending; canonical = ends.canonical; is = served row ends.ending serves (subst (λ k. Outcome k (shape_of r.args) ends.ending) is ends.is) }

-- a fact of what is answered, from another
pub then_ok : {A E : Type 0} {P Q : A → Type 0} (r : Result A E) → ((x : A) → P x → Q x) → IfOk r P → IfOk r Q
then_ok (Ok x) f h = f x h
then_ok (Err e) f h = tt
