-- Names of services are equal where their four texts are.
use Rattle.std.proofs.Common.{◌≡◌, Bool, true, refl, sym, ◌∙◌}
use Rattle.std.specs.Prelude.{◌&&◌}
use Rattle.std.specs.String.{string_bytes}
use Rattle.std.specs.Str.{bytes_eq}
use Rattle.std.specs.Cmp.Lexicographic.{bytes_decides}
use Rattle.std.proofs.lemmas.Bool.{and_parts, and_from}
use Rattle.service_table.specs.contracts.name.ServiceNamePartialEq.TheImpl.{eq-value}
use Rattle.service_table.specs.declared.name.ServiceName.{ServiceName}
use Rattle.service_table.specs.Table.{service_named}

-- the comparison of two names
abbrev pub same_name : ServiceName → ServiceName → Bool
same_name = eq-value.it

-- text by text
abbrev by_texts : ServiceName → ServiceName → Bool
by_texts a b = bytes_eq (string_bytes a.path) (string_bytes b.path) && (bytes_eq (string_bytes a.version) (string_bytes b.version) && (bytes_eq (string_bytes a.method) (string_bytes b.method) && bytes_eq (string_bytes a.desc) (string_bytes b.desc)))

compares : (a b : ServiceName) → same_name a b ≡ by_texts a b
compares a b = refl

pub tells : (a b : ServiceName) → same_name a b ≡ true → service_named a ≡ service_named b
tells a b e =
    let all = and_parts (bytes_eq (string_bytes a.path) (string_bytes b.path)) _ (sym (compares a b) ∙ e) in
    let rest = and_parts (bytes_eq (string_bytes a.version) (string_bytes b.version)) _ all.1 in
    let last = and_parts (bytes_eq (string_bytes a.method) (string_bytes b.method)) (bytes_eq (string_bytes a.desc) (string_bytes b.desc)) rest.1 in
    let path : string_bytes a.path ≡ string_bytes b.path = (bytes_decides (string_bytes a.path) (string_bytes b.path)).0 all.0 in
    let version : string_bytes a.version ≡ string_bytes b.version = (bytes_decides (string_bytes a.version) (string_bytes b.version)).0 rest.0 in
    let method : string_bytes a.method ≡ string_bytes b.method = (bytes_decides (string_bytes a.method) (string_bytes b.method)).0 last.0 in
    let desc : string_bytes a.desc ≡ string_bytes b.desc = (bytes_decides (string_bytes a.desc) (string_bytes b.desc)).0 last.1 in
    cc

pub own : (a b : ServiceName) → service_named a ≡ service_named b → same_name a b ≡ true
own a b e =
    let path : string_bytes a.path ≡ string_bytes b.path = cc in
    let version : string_bytes a.version ≡ string_bytes b.version = cc in
    let method : string_bytes a.method ≡ string_bytes b.method = cc in
    let desc : string_bytes a.desc ≡ string_bytes b.desc = cc in
    compares a b ∙ and_from _ _ ((bytes_decides (string_bytes a.path) (string_bytes b.path)).1 path)
    (and_from _ _ ((bytes_decides (string_bytes a.version) (string_bytes b.version)).1 version)
    (and_from _ _ ((bytes_decides (string_bytes a.method) (string_bytes b.method)).1 method) ((bytes_decides (string_bytes a.desc) (string_bytes b.desc)).1 desc)))
