-- What is written is read as it was, with the canonical form of its graph.
use Rattle.std.proofs.Common.{◌≡◌, ℕ, suc, ◌<◌, List, [], ◌∷◌, ◌++◌, length, get_or, refl, sym, ap, ◌∙◌, subst, arith}
use Rattle.std.specs.Prelude.{map, None}
use Rattle.std.proofs.lemmas.List.{append-nil, length-append, length-map}
use Rattle.std.proofs.lemmas.List.Elements.{All-head, All-tail, All-nil}
use Rattle.hessian_graph.specs.declared.value.Value.{Value}
use Rattle.hessian_graph.specs.declared.value.Value.TheVariants as values
use Rattle.hessian_graph.specs.Shape.{Text, Shape, NodeShape, Kind, MapKind, shape_of}
use Rattle.hessian_graph.specs.Canon.{Visit, renumbered, moved, in_order, IsCanon}
use Rattle.hessian_graph.specs.Canon.Visit.{done}
use Rattle.hessian_graph.specs.Work.{IsClosed}
use Rattle.hessian_graph.specs.Spells.{TextsSpelling}
use Rattle.hessian_graph.specs.Spells.TextsSpelling.{none as no_texts, one as one_text}
use Rattle.hessian_graph.proofs.Again.{form_stays}
use Rattle.hessian_writer.specs.Leaves.{hessian, hessian_forms}
use Rattle.hessian_writer.proofs.LeafLaws.{forms_are_spellings, denoted}
use Rattle.dubbo_header.specs.declared.header.Header.{Header}
use Rattle.dubbo_bodies.specs.declared.attachment.Attachment.{Attachment}
use Rattle.dubbo_bodies.specs.declared.message.Request.{Request}
use Rattle.dubbo_bodies.specs.Attachments.{AttachmentsOf, TextPairs, name_values, with_attachments}
use Rattle.dubbo_bodies.specs.Attachments.AttachmentsOf.{map as a_map}
use Rattle.dubbo_bodies.specs.Attachments.TextPairs.{none as no_pairs, kept}
use Rattle.dubbo_bodies.specs.Descriptor.{HasArgs}
use Rattle.dubbo_bodies.specs.Fields.{HESSIAN, DESCRIPTOR, FieldsSpelling}
use Rattle.dubbo_bodies.specs.Fields.FieldSpelling.{text as f_text}
use Rattle.dubbo_bodies.specs.Fields.FieldsSpelling.{none as no_fields, one as one_field}
use Rattle.dubbo_bodies.specs.RequestBody.{with_roots, RequestOf}
use Rattle.dubbo_bodies.specs.WrittenBody.{WrittenRequest}
use Rattle.dubbo_bodies.specs.CanonBody.{IsCanonRequest}
use Rattle.dubbo_bodies.proofs.Wider.{IsWithin, values_stay, kind_stays}
use Rattle.dubbo_bodies.proofs.Beside.{AreBelow, seen_within, visit_wider, attached_values, attached_kind, canon_attached}

-- ---- the arguments alone, in a graph that has more nodes

node_is : {k k' : Kind} {vs vs' : List Value} → k ≡ k' → vs ≡ vs' → ◌≡◌ {A = NodeShape} (record { kind = k; values = vs }) (record { kind = k'; values = vs' })
node_is {k} {k'} {vs} {vs'} a b = ap (λ x. record { kind = x; values = vs }) a ∙ ap (λ xs. record { kind = k'; values = xs }) b

moved_wider : (g h : Shape) (order ns : List ℕ) → IsWithin g h → AreBelow (length g.nodes) ns → map (moved h order) ns ≡ map (moved g order) ns
moved_wider g h order [] w few = refl
moved_wider g h order (m ∷ ns) w few =
    let less : m < length g.nodes = All-head (λ k. k < length g.nodes) m ns few in
    let one : moved h order m ≡ moved g order m = node_is (kind_stays g h m w less) (ap (map (renumbered order)) (sym (values_stay g h m w less))) in
    ap (λ x. x ∷ map (moved h order) ns) one ∙ ap (λ xs. moved g order m ∷ xs) (moved_wider g h order ns w (All-tail (λ k. k < length g.nodes) m ns few))

canon_alone : (f : Shape) (entries : List Attachment) → IsClosed f → IsCanon f f → IsCanon (with_roots f.roots (with_attachments f entries)) f
canon_alone f entries closed canon =
    let order = canon.0 in
    let h : Shape = with_roots f.roots (with_attachments f entries) in
    let w : IsWithin f h = record { more = record { kind = MapKind None; values = name_values entries } ∷ []; nodes = refl } in
    let few : AreBelow (length f.nodes) order = seen_within closed canon.1 closed.roots (All-nil (λ m. m < length f.nodes)) in
    let visit : Visit h [] (f.roots ++ []) order = visit_wider closed w canon.1 closed.roots (done order) in
    let same : in_order h order ≡ in_order f order = ap (λ (ns : List NodeShape). record { roots = map (renumbered order) f.roots; nodes = ns }) (moved_wider f h order order w few) in
    (order, subst (λ vs. Visit h [] vs order) (append-nil f.roots) visit, canon.2 ∙ sym same)

-- ---- the texts in front, and the attachments

fields_spelled : (place : ℕ) {texts : List Text} {bytes : List ℕ} → TextsSpelling hessian_forms texts bytes → FieldsSpelling hessian place texts bytes
fields_spelled place no_texts = no_fields place
fields_spelled place (one_text text texts front rest is more) = one_field place text texts front rest (f_text place text front (forms_are_spellings.text text front is)) (fields_spelled (suc place) more)

all_kept : (entries : List Attachment) → TextPairs (name_values entries) entries
all_kept [] = no_pairs
all_kept (a ∷ rest) = kept a.name a.value (name_values rest) rest (all_kept rest)

attached_nodes : (f : Shape) (entries : List Attachment) → length (with_attachments f entries).nodes ≡ suc (length f.nodes)
attached_nodes f entries = let long = length-append f.nodes (record { kind = MapKind None; values = name_values entries } ∷ []) in omega (arith, long)

attachments_read : (f : Shape) (entries : List Attachment) → AttachmentsOf (with_attachments f entries) (values.Node (length f.nodes)) entries
attachments_read f entries =
    let long = attached_nodes f entries in
    a_map (length f.nodes) None entries (omega (arith, long)) (attached_kind f entries) (subst (λ vs. TextPairs vs entries) (sym (attached_values f entries)) (all_kept entries))

-- ---- requests

pub request_read : (bound : ℕ) (header : Header) (r s : Request) (body : List ℕ) → IsClosed (shape_of r.args) → IsClosed (shape_of s.args) → header.serial ≡ HESSIAN → HasArgs r.desc (length r.args.roots) → WrittenRequest hessian hessian_forms r body → IsCanonRequest r s → length s.args.nodes < bound → RequestOf hessian bound header body s
request_read bound header r s body closed closed' serial counted w c few =
    let g : Shape = shape_of r.args in
    let f : Shape = shape_of s.args in
    let h : Shape = with_attachments f s.attachments in
    let form : IsCanon (with_attachments g r.attachments) h = subst (λ (es : List Attachment). IsCanon (with_attachments g r.attachments) (with_attachments f es)) (sym c.attachments) (canon_attached g f r.attachments closed c.args) in
    let long : length h.nodes ≡ suc (length f.nodes) = attached_nodes f s.attachments in
    let nodes : length f.nodes ≡ length s.args.nodes = length-map s.args.nodes _ in
    let roots : length f.roots ≡ length r.args.roots = ap (λ (x : Shape). length x.roots) c.args.2 ∙ length-map g.roots (renumbered c.args.0) in
    let desc : s.desc ≡ r.desc = ap (λ (ts : List Text). get_or ts DESCRIPTOR []) c.texts in
    record {
      at = length w.front;
      values = w.values;
      begins = record {
        serial = serial;
        front = w.front;
        fields = subst (λ (ts : List Text). FieldsSpelling hessian 0 ts w.front) (sym c.texts) (fields_spelled 0 w.texts);
        place = refl;
        joined = w.joined;
      };
      count = length r.args.roots;
      counted = subst (λ (d : List ℕ). HasArgs d (length r.args.roots)) (sym desc) counted;
      graph = h;
      denotes = denoted bound (with_attachments g r.attachments) h w.values w.written form (omega (arith, long, nodes, few));
      are = record {
        args = f.roots;
        last = values.Node (length f.nodes);
        roots = refl;
        each = roots;
        canonical = canon_alone f s.attachments closed' (form_stays g f closed closed' c.args);
        attachments = attachments_read f s.attachments;
      };
    }
