-- Rows of a table of services, and which of them a request asks for.
use Rattle.std.specs.Prelude.{◌≡◌, ℕ, ◌<◌, List, [], ◌∷◌, length, get_or, Contains}
use Rattle.hessian_graph.specs.Shape.{Text}
use Rattle.dubbo_bodies.specs.declared.message.Request.{Request}
use Rattle.service_table.specs.declared.row.Row.{Row}
use Rattle.service_table.specs.declared.kind.Kind.{Kind}
use Rattle.service_table.specs.declared.kind.Kind.TheVariants.{Void, Echo, Args, Twice, Reverse, Sum, Knot, Throw}

-- what names the service of a row: path, version, method and descriptor
abbrev pub service_of : Row → List Text
service_of row = row.path ∷ row.version ∷ row.method ∷ row.desc ∷ []

-- the service that a request asks for
abbrev pub asked_by : Request → List Text
asked_by r = r.path ∷ r.version ∷ r.method ∷ r.desc ∷ []

-- the row is of the service that the request asks for
pub record Serves (rows : List Row) (r : Request) (row : Row) : Type 0 where
  pub there : Contains rows row
  pub same : service_of row ≡ asked_by r

-- no row is of the service that the request asks for
abbrev pub NoneServes : List Row → Request → Type 0
NoneServes rows r = (row : Row) → Serves rows r row → ⊥

abbrev pub no_row : Row
no_row = record { path = []; version = []; method = []; desc = []; kind = Void }

-- each service has one row
abbrev pub AreApart : List Row → Type 0
AreApart rows = (i j : ℕ) → i < length rows → j < length rows → service_of (get_or rows i no_row) ≡ service_of (get_or rows j no_row) → i ≡ j

-- how many arguments a kind needs
abbrev pub needs : Kind → ℕ
needs Void = 0
needs Echo = 1
needs Args = 0
needs Twice = 1
needs Reverse = 1
needs Sum = 1
needs Knot = 1
needs Throw = 1

-- a row of this kind is of the service that the request asks for
abbrev pub ServesAs : List Row → Request → Kind → Type 0
ServesAs rows r kind = (row : Row) × Serves rows r row × (kind ≡ row.kind)
