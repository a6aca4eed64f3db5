-- What is read is exactly what is spelled.
use Rattle.std.proofs.Common.{◌≡◌, ℕ, suc, ◌≤◌, true, false, List, [], ◌∷◌, ◌++◌, length, refl, ap, sym, ◌∙◌, subst, arith, inl, inr}
use Rattle.std.specs.Prelude.{None, Ok}
use Rattle.std.proofs.lemmas.List.{append-nil}
use Rattle.hessian_graph.specs.declared.value.Value.{Value}
use Rattle.hessian_graph.specs.Shape.{NodeShape, Shape}
use Rattle.graph_notation.specs.declared.element.Mark.TheVariants.{BeginList, EndList, BeginMap, EndMap, BeginFields, EndFields, Comma, Colon, Named}
use Rattle.graph_notation.specs.declared.element.Element.{Element}
use Rattle.graph_notation.specs.declared.element.Element.TheVariants.{Plain, Words, Reference, Sign}
use Rattle.graph_notation.specs.declared.frame.Head.TheVariants as heads
use Rattle.graph_notation.specs.declared.frame.Frame.{Frame}
use Rattle.graph_notation.specs.declared.frame.Place.{Place}
use Rattle.graph_notation.specs.declared.frame.Place.TheVariants as places
use Rattle.graph_notation.specs.Forms.{Items, Entries, SpellsGraph}
use Rattle.graph_notation.specs.Forms.Entries.{none as none_row, some as some_row}
use Rattle.graph_notation.specs.Machine.{State, start, new_frame, is_whole, run, end_step, graph_of}
use Rattle.graph_notation.proofs.Stages.{at, grown, IsEnd}
use Rattle.graph_notation.proofs.Forward.{entries_goes}
use Rattle.graph_notation.proofs.Nexts.{AllForms, done_of, ok_is, IsNoEnd, none_after, stepped, no_end_outside}
use Rattle.graph_notation.proofs.Backward.{joined_read, value_read, unnamed}

-- elements that were read to their end, as this graph
pub record ReadTo (bound : ℕ) (es : List Element) (g : Shape) : Type 0 where
  pub state : State
  pub is : run bound start es ≡ Ok state
  pub whole : is_whole state ≡ true
  pub graph : graph_of state ≡ g

whole_of : (nodes : List NodeShape) (vs : List Value) (place : Place) → IsEnd place → is_whole (at nodes (grown [] vs (new_frame 0 (heads.List None))) [] place) ≡ true
whole_of nodes vs place h = elim h [ inl e ↦ rw e refl | inr e ↦ rw e refl ]

-- what is spelled is read
pub read_where_spelled : (bound : ℕ) (g : Shape) (es : List Element) → SpellsGraph g es → length g.nodes ≤ bound → ReadTo bound es g
read_where_spelled bound g es s b =
    let base : Frame = new_frame 0 (heads.List None) in
    let x = entries_goes {bound = bound} [] base [] [] s refl refl refl (omega arith) in
    record {
      state = at g.nodes (grown [] g.roots base) [] x.after;
      is = ap (run bound start) (sym (append-nil es)) ∙ x.is;
      whole = whole_of g.nodes g.roots x.after x.ends;
      graph = refl;
    }

no_end : (e : Element) (es : List Element) (bound : ℕ) (t : State) → run bound start (e ∷ es) ≡ Ok t → IsNoEnd e
no_end (Plain v) es bound t h = tt
no_end (Words text) es bound t h = tt
no_end (Reference k) es bound t h = tt
no_end (Sign BeginList) es bound t h = tt
no_end (Sign EndList) es bound t h = let s = stepped bound (end_step true start) es t h in no_end_outside true [] (new_frame 0 (heads.List None)) places.Start s.u s.is
no_end (Sign BeginMap) es bound t h = tt
no_end (Sign EndMap) es bound t h = let s = stepped bound (end_step false start) es t h in no_end_outside false [] (new_frame 0 (heads.List None)) places.Start s.u s.is
no_end (Sign BeginFields) es bound t h = tt
no_end (Sign EndFields) es bound t h = let s = stepped bound (end_step false start) es t h in no_end_outside false [] (new_frame 0 (heads.List None)) places.Start s.u s.is
no_end (Sign Comma) es bound t h = tt
no_end (Sign Colon) es bound t h = tt
no_end (Sign Named) es bound t h = tt

-- what is read is spelled
pub spelled_where_read : (bound : ℕ) (es : List Element) (t : State) → run bound start es ≡ Ok t → is_whole t ≡ true → AllForms es → SpellsGraph (graph_of t) es
spelled_where_read bound [] t h w a = subst (λ (x : State). SpellsGraph (graph_of x) []) (ok_is start t h) (none_row Items 0)
spelled_where_read bound (e ∷ es) t h w a =
    let base : Frame = new_frame 0 (heads.List None) in
    let k : ℕ = suc (length es) in
    let x = joined_read k bound k (omega arith) (value_read k bound) [] base [] places.Start e es t refl (inl refl) (λ z. no_end e es bound t h) h (done_of t w) a (omega arith) in
    let f : Frame = grown x.names x.vs base in
    let ends : x.rest ≡ [] = none_after bound x.seg f x.rest t x.goes_on x.ends in
    let last : run bound (at x.seg f [] places.After) [] ≡ Ok t = subst (λ y. run bound (at x.seg f [] places.After) y ≡ Ok t) ends x.goes_on in
    let is : at x.seg f [] places.After ≡ t = ok_is (at x.seg f [] places.After) t last in
    let inside : Entries Items x.names x.vs 0 x.seg x.front = some_row Items x.names x.vs 0 x.seg x.front x.spelled in
    let none : x.names ≡ [] = unnamed inside (λ z. cc) in
    let front : e ∷ es ≡ x.front = x.is ∙ ap (λ y. x.front ++ y) ends ∙ append-nil x.front in
    let inside' : Entries Items [] x.vs 0 x.seg x.front = subst (λ y. Entries Items y x.vs 0 x.seg x.front) none inside in
    subst (λ (y : State). SpellsGraph (graph_of y) (e ∷ es)) is (subst (λ y. Entries Items [] x.vs 0 x.seg y) (sym front) inside')
