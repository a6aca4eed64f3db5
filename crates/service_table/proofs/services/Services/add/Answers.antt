use Rattle.service_table.proofs.services.Services.add.Goals as goal
use Rattle.std.proofs.Common.{◌≡◌, ◌<◌, List, [], ◌∷◌, ◌++◌, length, get_or, sym, ap, ◌∙◌, subst, arith}
use Rattle.std.specs.Prelude.{None, OnOk}
use Rattle.service_table.proofs.services.Services.add.Goals.{in-Ok, in-Err}
use Rattle.std.specs.Map.{lookup}
use Rattle.std.proofs.lemmas.List.{map-append, length-map}
use Rattle.indexmap.proofs.CallerLemmas.{insert_entry-new}
use Rattle.service_table.specs.declared.row.Row.{Row}
use Rattle.service_table.specs.Adding.{MayAdd, IsRepeated}
use Rattle.service_table.specs.Rows.{service_of, no_row}
use Rattle.service_table.specs.Table.{row_of, rows_of}
use Rattle.service_table.proofs.Equality.{same_name, tells, own}
use Rattle.service_table.proofs.Names.{Entry, fresh, repeated, none_is}

repeats : (c : goal.After-drop-name-in-Some-3) → IsRepeated c.args.self.now c.args.row c.in-Some.place
repeats c =
    let es : List Entry = c.self.inside.rows.entries in
    let view : rows_of es ≡ c.args.self.now = c.self.view_is in
    let h = c.in-Some.ensures.within in
    let count : length (rows_of es) ≡ length es = length-map es row_of in
    let same : service_of (get_or (rows_of es) c.in-Some.place no_row) ≡ service_of c.args.row =
    repeated same_name tells own c.name_of-name.result es c.in-Some.place h c.in-Some.ensures.index ∙ c.name_of-name.ensures.names in
    record {
      enough = c.in_ok-check_args.ensures.enough;
      there = subst (λ (rows : List Row). c.in-Some.place < length rows) view (omega (arith, h, count));
      same = subst (λ (rows : List Row). service_of (get_or rows c.in-Some.place no_row) ≡ service_of c.args.row) view same;
    }

pub returns-in-Some-clause-refused : goal.returns-in-Some-clause-refused
returns-in-Some-clause-refused c = λ other. repeats c

pub returns-in-Some-clause-not : goal.returns-in-Some-clause-not
returns-in-Some-clause-not c = λ other may. let r = repeats c in may.fresh c.in-Some.place r.there r.same

-- what was not found before is none of the rows
unfound : (c : goal.Joined-insert-2) → lookup (same_name c.name_of-name.result) c.self.inside.rows.entries ≡ None
unfound c = none_is (lookup (same_name c.name_of-name.result) c.self.inside.rows.entries) c.in_default.ensures.found

pub returns-clause-added : goal.returns-clause-added
returns-clause-added c = elim c.match-insert.branch [
  | in-Ok w ↦ subst (λ r. OnOk r (rows_of c.insert.new.self.entries ≡ c.args.self.now ++ c.args.row ∷ [])) (sym w.result-is)
      (let es : List Entry = c.self.inside.rows.entries in
      let more : c.insert.new.self.entries ≡ es ++ (c.name_of-name.result, c.args.row.kind) ∷ [] =
      w.in-Ok.ensures.entries ∙ insert_entry-new same_name c.self.inside.rows c.name_of-name.result c.args.row.kind (unfound c) in
      ap rows_of more ∙ map-append row_of es ((c.name_of-name.result, c.args.row.kind) ∷ [])
      ∙ ap (λ (row : Row). rows_of es ++ row ∷ []) c.name_of-name.ensures.same ∙ ap (λ (rows : List Row). rows ++ c.args.row ∷ []) c.self.view_is)
  | in-Err w ↦ subst (λ r. OnOk r (rows_of c.insert.new.self.entries ≡ c.args.self.now ++ c.args.row ∷ [])) (sym w.result-is) tt
]

pub returns-clause-may : goal.returns-clause-may
returns-clause-may c = elim c.match-insert.branch [
  | in-Ok w ↦ subst (λ r. OnOk r (MayAdd c.args.self.now c.args.row)) (sym w.result-is) (may c)
  | in-Err w ↦ subst (λ r. OnOk r (MayAdd c.args.self.now c.args.row)) (sym w.result-is) tt
]
  where
    may : (c : goal.Joined-insert-2) → MayAdd c.args.self.now c.args.row
    may c = record {
      enough = c.in_ok-check_args.ensures.enough;
      fresh = λ number there same.
          let es : List Entry = c.self.inside.rows.entries in
          fresh same_name tells own c.name_of-name.result es (unfound c) number
          (subst (λ (rows : List Row). number < length rows) (sym c.self.view_is) there)
          (subst (λ (rows : List Row). service_of (get_or rows number no_row) ≡ service_of c.args.row) (sym c.self.view_is) same ∙ sym c.name_of-name.ensures.names);
    }
