-- What a table of services keeps: names of services with their kinds, in the order of the rows.
use Rattle.std.specs.Prelude.{List, [], ◌∷◌, map}
use Rattle.std.specs.String.{string_bytes}
use Rattle.hessian_graph.specs.Shape.{Text}
use Rattle.service_table.specs.declared.row.Row.{Row}
use Rattle.service_table.specs.declared.kind.Kind.{Kind}
use Rattle.service_table.specs.declared.name.ServiceName.{ServiceName}

-- the service that a name names
abbrev pub service_named : ServiceName → List Text
service_named name = string_bytes name.path ∷ string_bytes name.version ∷ string_bytes name.method ∷ string_bytes name.desc ∷ []

-- the row of a name and a kind
abbrev pub row_of : (ServiceName × Kind) → Row
row_of entry = record {
  path = string_bytes entry.0.path;
  version = string_bytes entry.0.version;
  method = string_bytes entry.0.method;
  desc = string_bytes entry.0.desc;
  kind = entry.1;
}

abbrev pub rows_of : List (ServiceName × Kind) → List Row
rows_of entries = map row_of entries
