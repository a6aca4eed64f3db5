-- What whole bytes denote is what whole elements lead to.
use Rattle.std.proofs.Common.{◌≡◌, ℕ, ◌≤◌, true, List, [], ◌∷◌, length, refl, ap, sym, ◌∙◌, subst, arith}
use Rattle.std.proofs.lemmas.List.{length-map}
use Rattle.hessian_graph.specs.declared.node.Class.{Class}
use Rattle.hessian_graph.specs.Shape.{Text, Shape}
use Rattle.hessian_graph.specs.Reading.{Tables, Leaves, no_tables, add_type}
use Rattle.hessian_graph.specs.Line.{Form as LineForm, Open, Long, Short, Pairs, Symbol, values_then, defined, begun_by, Row, Line}
use Rattle.hessian_graph.specs.Line.Row.{scalar as r_scalar, text as r_text, binary as r_binary, end as r_end, refer as r_refer, reference as r_reference, define as r_define, class_name as r_class_name, field_count as r_field_count, field_name as r_field_name, open_list as r_open_list, long_list as r_long_list, short_list as r_short_list, list_length as r_list_length, typed as r_typed, type_name as r_type_name, type_number as r_type_number, open_map as r_open_map, long_object as r_long_object, class_number as r_class_number, short_object as r_short_object}
use Rattle.hessian_graph.specs.Line.Line.{done, next}
use Rattle.hessian_graph.proofs.ToLine.{line_of}
use Rattle.hessian_graph.proofs.ToTree.{tree_of}
use Rattle.hessian_reader.specs.Leaves.{hessian, node_limit, IsDenoted}
use Rattle.hessian_reader.specs.States.{State, AtValue, start, is_done, node_named, graph_of}
use Rattle.hessian_reader.specs.Steps.{Leads}
use Rattle.hessian_reader.specs.Steps.Leads.{here, on}
use Rattle.hessian_reader.proofs.Lacking.{Lacks', roots_lack}
use Rattle.hessian_reader.proofs.Sound.{Sound}
use Rattle.hessian_reader.proofs.Slots.{tables_of}
use Rattle.hessian_reader.proofs.Ahead.{Ahead, Has}
use Rattle.hessian_reader.proofs.Ahead.Ahead.{value}
use Rattle.hessian_reader.proofs.Forward.{forward}
use Rattle.hessian_reader.proofs.Backward.{backward}
use Rattle.hessian_reader.proofs.Keeping.{sound_take, sound_start, sound_leads}
use Rattle.hessian_reader.proofs.Ending.{none_open, is_finished, some_open, same_graph, has_own}

-- from the line to the states

pub record Ran (g : Shape) (s : State) (bytes : List ℕ) (t : Tables) : Type 0 where
  pub to : State
  pub leads : Leads s bytes to
  pub has : Has g to []
  pub tables : tables_of to ≡ t

pub run_forward : {g : Shape} {t u : Tables} {ss : List Symbol} {bytes : List ℕ} (s : State) → length g.nodes ≤ node_limit → Sound s → t ≡ tables_of s → Has g s ss → Line hessian g t ss u bytes → Ran g s bytes u
run_forward s limit sound e h done = record { to = s; leads = here; has = h; tables = sym e }
run_forward {g} s limit sound e h (next {s = front} {ss = ss} element rest bytes row joined line) =
    let d = some_open g s front ss h in
    let w = forward g s sound limit e row h in
    let q = run_forward w.to limit (sound_take s w.to w.x sound d w.taken) (sym w.tables) w.has line in
    record { to = q.to; leads = on w.x element rest bytes d w.is_element w.taken joined q.leads; has = q.has; tables = q.tables }

-- nodes begin, and none is taken back

form_more : (f : LineForm) (t : Tables) → t.begun ≤ (begun_by f t).begun
form_more Open t = omega arith
form_more Long t = omega arith
form_more Short t = omega arith
form_more Pairs t = omega arith

defined_more : (c : Class) (fs : List Text) (t : Tables) → t.begun ≤ (defined c fs t).begun
defined_more c [] t = omega arith
defined_more c (f ∷ fs) t = omega arith

row_more : {l : Leaves} {g : Shape} {t t' : Tables} {front : Symbol} {element : List ℕ} {ss ss' : List Symbol} → Row l g t front element ss ss' t' → t.begun ≤ t'.begun
row_more (r_scalar v element is spelled) = omega arith
row_more (r_text text element spelled) = omega arith
row_more (r_binary contents element spelled) = omega arith
row_more r_end = omega arith
row_more (r_refer n) = omega arith
row_more (r_reference n element low spelled) = omega arith
row_more (r_define v c) = omega arith
row_more (r_class_name c element spelled) = omega arith
row_more {t = t} (r_field_count c element spelled) = defined_more c c.fields t
row_more {t = t} (r_field_name c f fs element spelled) = defined_more c fs t
row_more (r_open_list n b) = omega arith
row_more (r_long_list n b) = omega arith
row_more (r_short_list n code b is count) = omega arith
row_more (r_list_length n element is spelled) = omega arith
row_more (r_typed f n code is typed) = omega arith
row_more {t = t} (r_type_name f n text element b spelled) = form_more f (add_type text t)
row_more {t = t} (r_type_number f n k element low b spelled) = form_more f t
row_more (r_open_map n b pairs) = omega arith
row_more (r_long_object n is) = omega arith
row_more (r_class_number n k element o spelled) = omega arith
row_more (r_short_object n code is o) = omega arith

line_more : {l : Leaves} {g : Shape} {t u : Tables} {ss : List Symbol} {bytes : List ℕ} → Line l g t ss u bytes → t.begun ≤ u.begun
line_more done = omega arith
line_more (next element rest bytes row joined line) = let a = row_more row in let b = line_more line in omega (arith, a, b)

-- from the states to the line

pub record Lined (g : Shape) (s u : State) (bytes : List ℕ) : Type 0 where
  pub ss : List Symbol
  pub has : Has g s ss
  pub line : Line hessian g (tables_of s) ss (tables_of u) bytes

pub run_backward : {s u : State} {bytes : List ℕ} (g : Shape) → Sound s → Leads s bytes u → length u.built.nodes ≤ length g.nodes → Has g u [] → Lined g s u bytes
run_backward g sound here within h = record { ss = []; has = h; line = done }
run_backward {s = s} g sound (on {t = t} x element rest bytes d is took joined leads) within h =
    let q = run_backward g (sound_take s t x sound d took) leads within h in
    let more = line_more q.line in
    let b = backward g s t element x q.ss sound d is took (omega (arith, more, within)) q.has in
    record { ss = b.front ∷ b.ss; has = b.has; line = next element rest bytes b.row joined q.line }

-- what the bytes denote is read

pub record IsRead (g : Shape) (bytes : List ℕ) : Type 0 where
  pub to : State
  pub leads : Leads (start (length g.roots)) bytes to
  pub is_end : is_done to ≡ true
  pub same : graph_of to ≡ g

has_start : (g : Shape) → Has g (start (length g.roots)) (values_then g.roots [])
has_start g = record {
  under = values_then g.roots [];
  lacking = roots_lack g [] g.roots (length g.roots) [] refl refl (λ i h. absurd (omega arith));
  ahead = value;
  kinds = λ i h. absurd (omega arith);
}

pub reads : (g : Shape) (bytes : List ℕ) → IsDenoted bytes g → IsRead g bytes
reads g bytes d =
    let s : State = start (length g.roots) in
    let q = run_forward s d.limit (sound_start (length g.roots)) refl (has_start g) (line_of d.spelled.roots) in
    let f = none_open g q.to q.has in
    let many : length q.to.built.nodes ≡ length g.nodes = ap (λ (t : Tables). t.begun) q.tables ∙ d.spelled.all_begun in
    record { to = q.to; leads = q.leads; is_end = is_finished g q.to f; same = same_graph g q.to f q.has.kinds many }

-- what is read is denoted

at_value_is : {g : Shape} {t : Tables} {under ss : List Symbol} → Ahead g t AtValue under ss → under ≡ ss
at_value_is value = refl

pub record IsWhole (g : Shape) (roots : ℕ) (bytes : List ℕ) : Type 0 where
  pub denoted : IsDenoted bytes g
  pub roots_are : length g.roots ≡ roots

pub denotes : (roots : ℕ) (bytes : List ℕ) (s : State) → Leads (start roots) bytes s → is_done s ≡ true → IsWhole (graph_of s) roots bytes
denotes roots bytes s leads e =
    let g : Shape = graph_of s in
    let sound = sound_leads (sound_start roots) leads in
    let high = sound.limit in
    let count : length g.nodes ≡ length s.built.nodes = length-map s.built.nodes (node_named s.names) in
    let q = run_backward g (sound_start roots) leads (omega (arith, count)) (has_own s e) in
    let under : q.has.under ≡ q.ss = at_value_is q.has.ahead in
    let p : Lacks' g (start roots).built q.ss = subst (Lacks' g (start roots).built) under q.has.lacking in
    let is : q.ss ≡ values_then g.roots [] = p.rest ∙ ap (λ x. values_then x []) (sym p.roots_are) in
    record {
      denoted = record {
        spelled = record {
          last = tables_of s;
          roots = tree_of hessian g g.roots no_tables (tables_of s) bytes (subst (λ x. Line hessian g no_tables x (tables_of s) bytes) is q.line);
          all_begun = sym count;
        };
        limit = omega (arith, count, high);
      };
      roots_are = ap length p.roots_are ∙ p.wants;
    }
