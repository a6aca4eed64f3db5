-- Numbers in the order in which things come.
use Rattle.std.proofs.Common.{◌≡◌, ℕ, ◌<◌, List, [], ◌∷◌, ◌++◌, length, set, sym, ◌∙◌, arith}
use Rattle.std.specs.Prelude.{Option, Some, None, replicate}
use Rattle.std.proofs.lemmas.List.{length-replicate}
use Rattle.hessian_graph.specs.Shape.{Shape, no_node}
use Rattle.hessian_graph.specs.Canon.{place_of}
use Rattle.hessian_graph.specs.Work.{FineAt}
use Rattle.hessian_graph.proofs.Walking.{new_fine, open_fine, seen_below}
use Rattle.hessian_writer.specs.Numbered.{AreNumbers}

-- a graph of so many nodes
blank : ℕ → Shape
blank n = record { roots = []; nodes = replicate n no_node }

long_blank : (n : ℕ) → length (blank n).nodes ≡ n
unfolding blank
long_blank n = length-replicate n no_node

as_visit : (numbers : List (Option ℕ)) (order : List ℕ) → AreNumbers numbers order → FineAt (blank (length numbers)) numbers order []
as_visit numbers order a =
    let long = long_blank (length numbers) in
    record {
      numbered = sym long;
      places = λ n h. a.places n (omega (arith, h, long));
      count = a.count ∙ sym long;
      within = λ k d h. absurd (omega (arith, h));
    }

of_visit : (n : ℕ) (numbers : List (Option ℕ)) (order : List ℕ) → FineAt (blank n) numbers order [] → AreNumbers numbers order
of_visit n numbers order f = record {
  places = λ m h. f.places m (let e = f.numbered in omega (arith, h, e));
  count = f.count ∙ sym f.numbered;
}

pub no_numbers : (total : ℕ) → AreNumbers (replicate total None) []
no_numbers total = of_visit total (replicate total None) [] (new_fine (blank total) total (sym (long_blank total)))

pub next_number : (numbers : List (Option ℕ)) (order : List ℕ) (n : ℕ) → AreNumbers numbers order → n < length numbers → place_of n order ≡ None → AreNumbers (set numbers n (Some (length order))) (order ++ n ∷ [])
next_number numbers order n a within new =
    let long = long_blank (length numbers) in
    of_visit (length numbers) (set numbers n (Some (length order))) (order ++ n ∷ []) (open_fine (blank (length numbers)) numbers order [] n (as_visit numbers order a) (omega (arith, within, long)) new)

pub some_left : (numbers : List (Option ℕ)) (order : List ℕ) (n : ℕ) → AreNumbers numbers order → n < length numbers → place_of n order ≡ None → length order < length numbers
some_left numbers order n a within new =
    let long = long_blank (length numbers) in
    let below = seen_below (blank (length numbers)) numbers order [] n (as_visit numbers order a) (omega (arith, within, long)) new in
    omega (arith, below, long)
