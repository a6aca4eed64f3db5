-- A text is a notation of at most one graph.
use Rattle.std.proofs.Common.{◌≡◌, ℕ, ◌+◌, List, length, refl, ap, sym, ◌∙◌, subst, arith}
use Rattle.hessian_graph.specs.Shape.{Shape}
use Rattle.graph_notation.specs.declared.element.Element.{Element}
use Rattle.graph_notation.specs.Forms.{SpellsGraph}
use Rattle.graph_notation.specs.Machine.{graph_of}
use Rattle.graph_notation.specs.Notation.{ReadAs, IsNotation}
use Rattle.graph_notation.proofs.Nexts.{ok_is}
use Rattle.graph_notation.proofs.Exact.{read_where_spelled}
use Rattle.graph_notation.proofs.Tokens.{one_cut}
use Rattle.graph_notation.proofs.Distinct.{one_reading}

-- elements spell at most one graph
pub spelled_once : (g h : Shape) (es : List Element) → SpellsGraph g es → SpellsGraph h es → g ≡ h
spelled_once g h es s t =
    let bound : ℕ = length g.nodes + length h.nodes in
    let x = read_where_spelled bound g es s (omega arith) in
    let y = read_where_spelled bound h es t (omega arith) in
    let same : x.state ≡ y.state = ok_is x.state y.state (sym x.is ∙ y.is) in
    sym x.graph ∙ ap graph_of same ∙ y.graph

pub one_graph : (text : List ℕ) (g h : Shape) → IsNotation text g → IsNotation text h → g ≡ h
one_graph text g h a b =
    let tokens : a.tokens ≡ b.tokens = one_cut text b.tokens refl a.cut b.cut in
    let elements : a.elements ≡ b.elements = one_reading b.tokens a.elements b.elements (subst (λ ts. ReadAs ts a.elements) tokens a.read) b.read in
    spelled_once g h b.elements (subst (SpellsGraph g) elements a.spelled) b.spelled
