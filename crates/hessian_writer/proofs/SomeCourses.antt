-- Each graph that can be written has a spelling in the writer's forms.
use Rattle.std.proofs.Common.{◌≡◌, ℕ, zero, suc, ◌+◌, ◌<◌, ◌≤◌, List, [], ◌∷◌, ◌++◌, length, set, refl, sym, ◌∙◌, subst, arith, length-append}
use Rattle.std.specs.Prelude.{Option, Some, None, All, replicate}
use Rattle.std.proofs.lemmas.List.Elements.{All-tail}
use Rattle.hessian_graph.specs.declared.value.Value.{Value}
use Rattle.hessian_graph.specs.declared.value.Value.TheVariants as values
use Rattle.hessian_graph.specs.Shape.{Kind, ListKind, MapKind, ObjectKind, Shape, no_node, node_of, kind_at, values_at}
use Rattle.hessian_graph.specs.Canon.{place_of}
use Rattle.hessian_graph.specs.Reading.{Tables, no_tables}
use Rattle.hessian_graph.specs.Forms.{Written}
use Rattle.hessian_graph.specs.Work.{NamesBelow, IsClosed, FineAt, unseen}
use Rattle.hessian_graph.proofs.Places.{place_within}
use Rattle.hessian_graph.proofs.Values.{is_node}
use Rattle.hessian_graph.proofs.Walking.{less_unseen, new_fine, open_fine}
use Rattle.hessian_writer.specs.Leaves.{hessian, hessian_forms}
use Rattle.hessian_writer.specs.Writable.{IsWritable}
use Rattle.hessian_writer.specs.Carried.{IsCarriedValue, IsCarried}
use Rattle.hessian_writer.specs.Course.{Due, ValueOf, End, values_then, end_then, Course}
use Rattle.hessian_writer.specs.Course.Course.{done, end, leaf, again, first}
use Rattle.hessian_writer.proofs.LeafLaws.{forms_are_spellings}
use Rattle.hessian_writer.proofs.Trees.{written}
use Rattle.hessian_writer.proofs.SomeScalars.{some_count}
use Rattle.hessian_writer.proofs.SomeForms.{some_leaf, some_head}

-- what is due names nodes of the graph, and is such as the types can hold
abbrev DuesFit : ℕ → List Due → Type 0
DuesFit count [] = Unit {0}
DuesFit count (ValueOf v ∷ ds) = NamesBelow count v × IsCarriedValue v × DuesFit count ds
DuesFit count (End ∷ ds) = DuesFit count ds

values_fit : (count : ℕ) (vs : List Value) (ds : List Due) → All (NamesBelow count) vs → All IsCarriedValue vs → DuesFit count ds → DuesFit count (values_then vs ds)
values_fit count [] ds below carried fit = fit
values_fit count (v ∷ vs) ds below carried fit = (below 0 v (omega arith), carried 0 v (omega arith), values_fit count vs ds (All-tail (NamesBelow count) v vs below) (All-tail IsCarriedValue v vs carried) fit)

end_fits : (count : ℕ) (kind : Kind) (ds : List Due) → DuesFit count ds → DuesFit count (end_then kind ds)
end_fits count (ListKind type) ds fit = fit
end_fits count (MapKind type) ds fit = fit
end_fits count (ObjectKind class) ds fit = fit

values_long : (vs : List Value) (ds : List Due) → length (values_then vs ds) ≡ length vs + length ds
values_long [] ds = omega arith
values_long (v ∷ vs) ds = let e = values_long vs ds in omega (arith, e)

end_long : (kind : Kind) (ds : List Due) → length (end_then kind ds) ≤ suc (length ds)
end_long (ListKind type) ds = omega arith
end_long (MapKind type) ds = omega arith
end_long (ObjectKind class) ds = omega arith

record SomeCourse (g : Shape) (seen : List ℕ) (t : Tables) (ds : List Due) : Type 0 where
  bytes : List ℕ
  out : List ℕ
  last : Tables
  course : Course hessian_forms g seen t ds bytes out last

-- no more types and classes than nodes
record FewNames (seen : List ℕ) (t : Tables) : Type 0 where
  types : length t.types ≤ length seen
  classes : length t.classes ≤ length seen

-- some course of what is due, where fuel is left for the work
abbrev Fueled : Shape → ℕ → Type 0
Fueled g fuel = (numbers : List (Option ℕ)) (seen : List ℕ) (t : Tables) (ds : List Due) → FineAt g numbers seen [] → FewNames seen t → DuesFit (length g.nodes) ds → unseen numbers g.nodes + length ds < fuel → SomeCourse g seen t ds

module _ (g : Shape) (closed : IsClosed g) (carried : IsCarried g) (writable : IsWritable g) (fuel : ℕ) (go : Fueled g fuel) (numbers : List (Option ℕ)) (seen : List ℕ) (t : Tables) (ds : List Due) (fine : FineAt g numbers seen []) (few : FewNames seen t) (fit : DuesFit (length g.nodes) ds) (h : unseen numbers g.nodes + suc (length ds) < suc fuel) where
  few_seen : length seen ≤ length g.nodes
  few_seen = let c = fine.count in omega (arith, c)

  course_node : (n : ℕ) (o : Option ℕ) → n < length g.nodes → place_of n seen ≡ o → SomeCourse g seen t (ValueOf (values.Node n) ∷ ds)
  course_node n (Some k) within at =
      let q = go numbers seen t ds fine few fit (omega (arith, h)) in
      let small : k < 2147483648 = let a = place_within n seen k at in let b = few_seen in let c = writable.few in omega (arith, a, b, c) in
      let number = some_count k small in
      record { bytes = 0x51 ∷ (number.0 ++ q.bytes); out = q.out; last = q.last; course = again n k number.0 at number.1 q.course }
  course_node n None within new =
      let a = few.types in
      let b = few.classes in
      let c = few_seen in
      let d = writable.few in
      let head = some_head (kind_at g n) (values_at g n) t (writable.each n within) (carried.kinds n within) (omega (arith, a, c, d)) (omega (arith, b, c, d)) in
      let less = less_unseen numbers g.nodes n (length seen) no_node (omega (arith, fine.numbered)) within (fine.places n within ∙ new) in
      let rest : List Due = end_then (kind_at g n) ds in
      let long = values_long (values_at g n) rest in
      let ending = end_long (kind_at g n) ds in
      let one : length (seen ++ n ∷ []) ≡ length seen + 1 = rw length-append refl in
      let types = head.types in
      let classes = head.classes in
      let q = go (set numbers n (Some (length seen))) (seen ++ n ∷ []) head.u (values_then (values_at g n) rest) (open_fine g numbers seen [] n fine within new)
      (record { types = omega (arith, types, a, one); classes = omega (arith, classes, b, one) })
      (values_fit (length g.nodes) (values_at g n) rest (closed.each n within) (carried.values n within) (end_fits (length g.nodes) (kind_at g n) ds fit))
      (omega (arith, less, long, ending, h)) in
      record { bytes = head.bytes ++ q.bytes; out = q.out; last = q.last; course = first n head.bytes new head.form q.course }

  course_value : (v : Value) (o : Option ℕ) → NamesBelow (length g.nodes) v → IsCarriedValue v → node_of v ≡ o → SomeCourse g seen t (ValueOf v ∷ ds)
  course_value v None below is names =
      let q = go numbers seen t ds fine few fit (omega (arith, h)) in
      let form = some_leaf v is names in
      record { bytes = form.0 ++ q.bytes; out = q.out; last = q.last; course = leaf v form.0 form.1 q.course }
  course_value v (Some n) below is names = subst (λ x. SomeCourse g seen t (ValueOf x ∷ ds)) (sym (is_node v n names)) (course_node n (place_of n seen) (below n names) refl)

  course_end : SomeCourse g seen t (End ∷ ds)
  course_end =
      let q = go numbers seen t ds fine few fit (omega (arith, h)) in
      record { bytes = 0x5a ∷ q.bytes; out = q.out; last = q.last; course = end q.course }

fueled : (g : Shape) → IsClosed g → IsCarried g → IsWritable g → (fuel : ℕ) → Fueled g fuel
fueled g closed carried writable zero numbers seen t ds fine few fit h = absurd (omega (arith, h))
fueled g closed carried writable (suc fuel) numbers seen t [] fine few fit h = record { bytes = []; out = seen; last = t; course = done }
fueled g closed carried writable (suc fuel) numbers seen t (ValueOf v ∷ ds) fine few fit h =
    course_value g closed carried writable fuel (fueled g closed carried writable fuel) numbers seen t ds fine few fit.2 h v (node_of v) fit.0 fit.1 refl
fueled g closed carried writable (suc fuel) numbers seen t (End ∷ ds) fine few fit h = course_end g closed carried writable fuel (fueled g closed carried writable fuel) numbers seen t ds fine few fit h

-- each graph that can be written is written somehow
pub some_written : (g : Shape) → IsClosed g → IsCarried g → IsWritable g → (bytes : List ℕ) × Written hessian hessian_forms g bytes
some_written g closed carried writable =
    let numbers : List (Option ℕ) = replicate (length g.nodes) None in
    let ds : List Due = values_then g.roots [] in
    let q = fueled g closed carried writable (suc (unseen numbers g.nodes + length ds)) numbers [] no_tables ds (new_fine g (length g.nodes) refl) (record { types = omega arith; classes = omega arith }) (values_fit (length g.nodes) g.roots [] closed.roots carried.roots tt) (omega arith) in
    (q.bytes, written g q.bytes q.out q.last forms_are_spellings q.course)
