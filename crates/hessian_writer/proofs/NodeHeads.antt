-- The head of a node, by what kind of node it is.
use Rattle.std.proofs.Common.{◌≡◌, ℕ, suc, List, [], ◌∷◌, ◌++◌, length, get_or, refl, sym, subst}
use Rattle.std.specs.Prelude.{Option, Some, None}
use Rattle.hessian_graph.specs.declared.value.Value.{Value}
use Rattle.hessian_graph.specs.declared.value.Pair.{Pair}
use Rattle.hessian_graph.specs.declared.node.Node.{Node}
use Rattle.hessian_graph.specs.declared.node.Node.TheVariants as nodes
use Rattle.hessian_graph.specs.declared.node.Class.{Class}
use Rattle.hessian_graph.specs.declared.parts.Parts.{Parts}
use Rattle.hessian_graph.specs.Shape.{Text, ListKind, ObjectKind, kind_of, values_of, alternately, no_class}
use Rattle.hessian_graph.specs.Reading.{Tables, one_more}
use Rattle.hessian_graph.specs.Moving.{NamesThere}
use Rattle.hessian_graph.proofs.Alternately.{length_alternately}
use Rattle.hessian_writer.specs.Sharing.{listed}
use Rattle.hessian_writer.specs.Appending.{AppendsHead, AppendsType}
use Rattle.hessian_writer.proofs.Heading.{map_head_of, typed_map_head}

pub list_head : (p : Parts) (node : Node) (type : Option ℕ) (items xs : List Value) (t : Tables) (old new : List ℕ) → node ≡ nodes.List type items → type ≡ None → xs ≡ items → ((t : Tables) → AppendsHead (ListKind None) (length xs) t (one_more t) old new) → AppendsHead (kind_of p.types p.classes node) (length (values_of node)) t (one_more t) old new
list_head p node type items xs t old new e none same a = rw (e, none) (subst (λ ys. AppendsHead (ListKind None) (length ys) t (one_more t) old new) same (a t))

pub typed_list_head : (p : Parts) (node : Node) (type : Option ℕ) (items xs : List Value) (number begun : ℕ) (types : List Text) (before after : List ℕ) (classes : List Class) (old new : List ℕ) → node ≡ nodes.List type items → type ≡ Some number → xs ≡ items → types ≡ p.types → ((t : Tables) → t.types ≡ listed [] types before → AppendsHead (ListKind (Some (get_or types number []))) (length xs) t (one_more (record t { types = listed [] types after })) old new) → AppendsHead (kind_of p.types p.classes node) (length (values_of node)) (record { begun = begun; types = listed [] p.types before; classes = classes }) (record { begun = suc begun; types = listed [] p.types after; classes = classes }) old new
typed_list_head p node type items xs number begun types before after classes old new e some same there a =
    let b = subst (λ ts. (t : Tables) → t.types ≡ listed [] ts before → AppendsHead (ListKind (Some (get_or ts number []))) (length xs) t (one_more (record t { types = listed [] ts after })) old new) there a in
    let t : Tables = record { begun = begun; types = listed [] p.types before; classes = classes } in
    rw (e, some) (subst (λ ys. AppendsHead (ListKind (Some (get_or p.types number []))) (length ys) t (record { begun = suc begun; types = listed [] p.types after; classes = classes }) old new) same (b t refl))

pub map_head : (p : Parts) (node : Node) (type : Option ℕ) (pairs : List Pair) (t : Tables) (old new : List ℕ) → node ≡ nodes.Map type pairs → type ≡ None → new ≡ old ++ 0x48 ∷ [] → AppendsHead (kind_of p.types p.classes node) (length (values_of node)) t (one_more t) old new
map_head p node type pairs t old new e none a = rw (e, none) (map_head_of (length (alternately pairs)) (length pairs) t old new (length_alternately pairs) a)

pub map_head_typed : (p : Parts) (node : Node) (type : Option ℕ) (pairs : List Pair) (number begun : ℕ) (types : List Text) (before after : List ℕ) (classes : List Class) (old mid new : List ℕ) → node ≡ nodes.Map type pairs → type ≡ Some number → types ≡ p.types → mid ≡ old ++ 0x4d ∷ [] → ((t : Tables) → t.types ≡ listed [] types before → AppendsType (get_or types number []) t (record t { types = listed [] types after }) mid new) → AppendsHead (kind_of p.types p.classes node) (length (values_of node)) (record { begun = begun; types = listed [] p.types before; classes = classes }) (record { begun = suc begun; types = listed [] p.types after; classes = classes }) old new
map_head_typed p node type pairs number begun types before after classes old mid new e some there m a =
    let b = subst (λ ts. (t : Tables) → t.types ≡ listed [] ts before → AppendsType (get_or ts number []) t (record t { types = listed [] ts after }) mid new) there a in
    let t : Tables = record { begun = begun; types = listed [] p.types before; classes = classes } in
    let u : Tables = record { begun = begun; types = listed [] p.types after; classes = classes } in
    rw (e, some) (typed_map_head (get_or p.types number []) (length (alternately pairs)) (length pairs) t u old mid new (length_alternately pairs) m (b t refl))

pub object_head : (p : Parts) (node : Node) (vs : List Value) (class begun : ℕ) (classes : List Class) (before after : List ℕ) (types : List Text) (old new : List ℕ) → node ≡ nodes.Object class vs → NamesThere p.types p.classes node → classes ≡ p.classes → ((t : Tables) → t.classes ≡ listed no_class classes before → AppendsHead (ObjectKind (get_or classes class no_class)) (length (get_or classes class no_class).fields) t (one_more (record t { classes = listed no_class classes after })) old new) → AppendsHead (kind_of p.types p.classes node) (length (values_of node)) (record { begun = begun; types = types; classes = listed no_class p.classes before }) (record { begun = suc begun; types = types; classes = listed no_class p.classes after }) old new
object_head p node vs class begun classes before after types old new e there same a =
    let fits = subst (NamesThere p.types p.classes) e there in
    let b = subst (λ cs. (t : Tables) → t.classes ≡ listed no_class cs before → AppendsHead (ObjectKind (get_or cs class no_class)) (length (get_or cs class no_class).fields) t (one_more (record t { classes = listed no_class cs after })) old new) same a in
    let t : Tables = record { begun = begun; types = types; classes = listed no_class p.classes before } in
    rw e (subst (λ n. AppendsHead (ObjectKind (get_or p.classes class no_class)) n t (record { begun = suc begun; types = types; classes = listed no_class p.classes after }) old new) (sym fits.count_is) (b t refl))
