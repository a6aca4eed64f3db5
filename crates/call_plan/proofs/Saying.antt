-- What a line says is determined by its bytes.
use Rattle.std.proofs.Common.{◌≡◌, ℕ, zero, suc, ◌≤◌, List, [], ◌∷◌, get_or, refl, sym, ap, subst, ◌∙◌, inl, inr, arith, codes}
use Rattle.std.specs.List.{join_with_byte}
use Rattle.hessian_graph.specs.Shape.{shape_of}
use Rattle.dubbo_bodies.specs.declared.message.Request.{Request}
use Rattle.service_table.specs.declared.row.Row.{Row}
use Rattle.call_plan.specs.declared.calls.Call.{Call}
use Rattle.graph_notation.specs.Notation.{IsNotation}
use Rattle.call_plan.specs.Words.{field_of, SaysNumber, mode_word, kind_word}
use Rattle.call_plan.specs.LineForms.{IsSkipped, IsTarget, IsServiceLine, HasField, IsCallLine, Line, nothing, offer, ask, Says, BeginsCall, attachments_of}
use Rattle.call_plan.specs.Pieces.{pieces}
use Rattle.call_plan.proofs.Lower.{one_notation_graph, one_parts}
use Rattle.call_plan.proofs.Cutting.{Unmarked}
use Rattle.call_plan.proofs.Piecing.{AreCut, pieces_joined, joined_pieces, pieces_whole}
use Rattle.call_plan.proofs.Piecing.AreCut.{last as last_cut, rest as rest_cut, more as more_cut}
use Rattle.call_plan.proofs.Wording.{unspaced, spaceless, mode_spaceless, kind_spaceless, field_spaceless, number_spaceless, number_once, kind_once, mode_once, field_once}

abbrev SaysTimeout : List ℕ → ℕ → Type 0
SaysTimeout field n = SaysNumber 1 2147483647 1000 field n

abbrev SaysRetries : List ℕ → ℕ → Type 0
SaysRetries field n = SaysNumber 0 15 2 field n

abbrev SaysForks : List ℕ → ℕ → Type 0
SaysForks field n = SaysNumber 1 8 2 field n

-- the pieces of a service's line
pub service_cut : (text : List ℕ) (row : Row) → IsServiceLine text row
    → pieces 9 text ≡ codes "service" ∷ row.path ∷ field_of row.version ∷ row.method ∷ field_of row.desc ∷ kind_word row.kind ∷ []
service_cut text row is =
    let cut_a : AreCut 5 (field_of row.desc ∷ kind_word row.kind ∷ []) = more_cut 4 (field_of row.desc) (kind_word row.kind) ([]) (field_spaceless row.desc is.target.is_desc) (last_cut 4 (kind_word row.kind) (kind_spaceless row.kind)) in
    let cut_b : AreCut 6 (row.method ∷ field_of row.desc ∷ kind_word row.kind ∷ []) = more_cut 5 row.method (field_of row.desc) (kind_word row.kind ∷ []) (unspaced row.method is.target.is_method) cut_a in
    let cut_c : AreCut 7 (field_of row.version ∷ row.method ∷ field_of row.desc ∷ kind_word row.kind ∷ []) = more_cut 6 (field_of row.version) row.method (field_of row.desc ∷ kind_word row.kind ∷ []) (field_spaceless row.version is.target.is_version) cut_b in
    let cut_d : AreCut 8 (row.path ∷ field_of row.version ∷ row.method ∷ field_of row.desc ∷ kind_word row.kind ∷ []) = more_cut 7 row.path (field_of row.version) (row.method ∷ field_of row.desc ∷ kind_word row.kind ∷ []) (unspaced row.path is.target.is_path) cut_c in
    let cut_e : AreCut 9 (codes "service" ∷ row.path ∷ field_of row.version ∷ row.method ∷ field_of row.desc ∷ kind_word row.kind ∷ []) = more_cut 8 (codes "service") row.path (field_of row.version ∷ row.method ∷ field_of row.desc ∷ kind_word row.kind ∷ []) (spaceless (codes "service") refl) cut_d in
    ap (pieces 9) is.written ∙ pieces_joined 9 _ cut_e

-- the last fields of a call's line
tail_cut : (desc : List ℕ) (count : ℕ) (notation : List ℕ) (fields : List (List ℕ)) → Unmarked 32 desc → HasField count notation fields → AreCut 1 (desc ∷ fields)
tail_cut desc zero notation fields clear has = subst (λ l. AreCut 1 (desc ∷ l)) (sym has.1) (last_cut 1 desc clear)
tail_cut desc (suc k) notation fields clear has = subst (λ l. AreCut 1 (desc ∷ l)) (sym has) (more_cut 0 desc notation [] clear (rest_cut notation))

-- the pieces of a call's line
pub call_cut : (number : ℕ) (text : List ℕ) (c : Call) (is : IsCallLine number text c)
    → pieces 9 text ≡ codes "call" ∷ mode_word c.mode ∷ is.timeout ∷ is.retries ∷ is.forks ∷ c.request.path ∷ field_of c.request.version ∷ c.request.method ∷ field_of c.request.desc ∷ is.last
call_cut number text c is =
    let cut_a : AreCut 2 (c.request.method ∷ field_of c.request.desc ∷ is.last) = more_cut 1 c.request.method (field_of c.request.desc) (is.last) (unspaced c.request.method is.target.is_method) (tail_cut (field_of c.request.desc) is.count is.notation is.last (field_spaceless c.request.desc is.target.is_desc) is.field) in
    let cut_b : AreCut 3 (field_of c.request.version ∷ c.request.method ∷ field_of c.request.desc ∷ is.last) = more_cut 2 (field_of c.request.version) c.request.method (field_of c.request.desc ∷ is.last) (field_spaceless c.request.version is.target.is_version) cut_a in
    let cut_c : AreCut 4 (c.request.path ∷ field_of c.request.version ∷ c.request.method ∷ field_of c.request.desc ∷ is.last) = more_cut 3 c.request.path (field_of c.request.version) (c.request.method ∷ field_of c.request.desc ∷ is.last) (unspaced c.request.path is.target.is_path) cut_b in
    let cut_d : AreCut 5 (is.forks ∷ c.request.path ∷ field_of c.request.version ∷ c.request.method ∷ field_of c.request.desc ∷ is.last) = more_cut 4 is.forks c.request.path (field_of c.request.version ∷ c.request.method ∷ field_of c.request.desc ∷ is.last) (number_spaceless 1 8 2 c.forks is.forks (omega arith) is.numbers.says_forks) cut_c in
    let cut_e : AreCut 6 (is.retries ∷ is.forks ∷ c.request.path ∷ field_of c.request.version ∷ c.request.method ∷ field_of c.request.desc ∷ is.last) = more_cut 5 is.retries is.forks (c.request.path ∷ field_of c.request.version ∷ c.request.method ∷ field_of c.request.desc ∷ is.last) (number_spaceless 0 15 2 c.retries is.retries (omega arith) is.numbers.says_retries) cut_d in
    let cut_f : AreCut 7 (is.timeout ∷ is.retries ∷ is.forks ∷ c.request.path ∷ field_of c.request.version ∷ c.request.method ∷ field_of c.request.desc ∷ is.last) = more_cut 6 is.timeout is.retries (is.forks ∷ c.request.path ∷ field_of c.request.version ∷ c.request.method ∷ field_of c.request.desc ∷ is.last) (number_spaceless 1 2147483647 1000 c.timeout is.timeout (omega arith) is.numbers.says_timeout) cut_e in
    let cut_g : AreCut 8 (mode_word c.mode ∷ is.timeout ∷ is.retries ∷ is.forks ∷ c.request.path ∷ field_of c.request.version ∷ c.request.method ∷ field_of c.request.desc ∷ is.last) = more_cut 7 (mode_word c.mode) is.timeout (is.retries ∷ is.forks ∷ c.request.path ∷ field_of c.request.version ∷ c.request.method ∷ field_of c.request.desc ∷ is.last) (mode_spaceless c.mode) cut_f in
    let cut_h : AreCut 9 (codes "call" ∷ mode_word c.mode ∷ is.timeout ∷ is.retries ∷ is.forks ∷ c.request.path ∷ field_of c.request.version ∷ c.request.method ∷ field_of c.request.desc ∷ is.last) = more_cut 8 (codes "call") (mode_word c.mode) (is.timeout ∷ is.retries ∷ is.forks ∷ c.request.path ∷ field_of c.request.version ∷ c.request.method ∷ field_of c.request.desc ∷ is.last) (spaceless (codes "call") refl) cut_g in
    ap (pieces 9) is.written ∙ pieces_joined 9 _ cut_h

-- the fields of a line that names a service
pub record SameService (path version method desc kind : List ℕ) (row : Row) : Type 0 where
  pub paths : path ≡ row.path
  pub versions : version ≡ field_of row.version
  pub methods : method ≡ row.method
  pub descs : desc ≡ field_of row.desc
  pub kinds : kind ≡ kind_word row.kind

pub service_same : (text p v m d k : List ℕ) (row : Row) → pieces 9 text ≡ codes "service" ∷ p ∷ v ∷ m ∷ d ∷ pieces 4 k → IsServiceLine text row → SameService p v m d k row
service_same text p v m d k row here is =
    let e : codes "service" ∷ p ∷ v ∷ m ∷ d ∷ pieces 4 k ≡ codes "service" ∷ row.path ∷ field_of row.version ∷ row.method ∷ field_of row.desc ∷ kind_word row.kind ∷ [] = sym here ∙ service_cut text row is in
    let tails : pieces 4 k ≡ kind_word row.kind ∷ [] = cc in
    record {
      paths = cc;
      versions = cc;
      methods = cc;
      descs = cc;
      kinds = sym (joined_pieces 4 k) ∙ ap (join_with_byte 32) tails;
    }

pub service_made : (text p v m d k : List ℕ) (row : Row) → pieces 9 text ≡ codes "service" ∷ p ∷ v ∷ m ∷ d ∷ pieces 4 k
    → IsTarget row.path row.version row.method row.desc → SameService p v m d k row → IsServiceLine text row
service_made text p v m d k row here target same = record {
  target = target;
  written =
      let tail : pieces 4 k ≡ kind_word row.kind ∷ [] = ap (pieces 4) same.kinds ∙ pieces_whole 4 (kind_word row.kind) (kind_spaceless row.kind) in
      let paths : p ≡ row.path = same.paths in
      let versions : v ≡ field_of row.version = same.versions in
      let methods : m ≡ row.method = same.methods in
      let descs : d ≡ field_of row.desc = same.descs in
      let all : codes "service" ∷ p ∷ v ∷ m ∷ d ∷ pieces 4 k ≡ codes "service" ∷ row.path ∷ field_of row.version ∷ row.method ∷ field_of row.desc ∷ kind_word row.kind ∷ [] = cc in
      sym (joined_pieces 9 text) ∙ ap (join_with_byte 32) (here ∙ all);
}

-- the fields of a line that names a call
pub record SameCall (number : ℕ) (text : List ℕ) (mode timeout retries forks path version method desc : List ℕ) (fields : List (List ℕ)) (c : Call) (is : IsCallLine number text c) : Type 0 where
  pub modes : mode ≡ mode_word c.mode
  pub timeouts : timeout ≡ is.timeout
  pub again : retries ≡ is.retries
  pub links : forks ≡ is.forks
  pub paths : path ≡ c.request.path
  pub versions : version ≡ field_of c.request.version
  pub methods : method ≡ c.request.method
  pub descs : desc ≡ field_of c.request.desc
  pub rest : fields ≡ is.last

pub call_same : (number : ℕ) (text o t r f p v m d : List ℕ) (fields : List (List ℕ)) (c : Call) → pieces 9 text ≡ codes "call" ∷ o ∷ t ∷ r ∷ f ∷ p ∷ v ∷ m ∷ d ∷ fields
    → (is : IsCallLine number text c) → SameCall number text o t r f p v m d fields c is
call_same number text o t r f p v m d fields c here is =
    let e : codes "call" ∷ o ∷ t ∷ r ∷ f ∷ p ∷ v ∷ m ∷ d ∷ fields ≡ codes "call" ∷ mode_word c.mode ∷ is.timeout ∷ is.retries ∷ is.forks ∷ c.request.path ∷ field_of c.request.version ∷ c.request.method ∷ field_of c.request.desc ∷ is.last = sym here ∙ call_cut number text c is in
    record { modes = cc; timeouts = cc; again = cc; links = cc; paths = cc; versions = cc; methods = cc; descs = cc; rest = cc }

-- the first byte of a line
service_begins : (text : List ℕ) (row : Row) → IsServiceLine text row → get_or text 0 0 ≡ 115
service_begins text row is = ap (λ t. get_or t 0 0) is.written

call_begins : (number : ℕ) (text : List ℕ) (c : Call) → IsCallLine number text c → get_or text 0 0 ≡ 99
call_begins number text c is = ap (λ t. get_or t 0 0) is.written

begun_begins : (text : List ℕ) → BeginsCall text → get_or text 0 0 ≡ 99
begun_begins text (inl e) = ap (λ t. get_or t 0 0) e
begun_begins text (inr p) = ap (λ t. get_or t 0 0) p.1

skipped_begins : (text : List ℕ) (first : ℕ) → IsSkipped text → get_or text 0 0 ≡ first → 36 ≤ first → ⊥
skipped_begins text first (inl e) is high = let none : get_or text 0 0 ≡ 0 = ap (λ t. get_or t 0 0) e in omega arith
skipped_begins text first (inr p) is high = let mark : get_or text 0 0 ≡ 35 = ap (λ t. get_or t 0 0) p.1 in omega arith

same_row : (a b : Row) → a.path ≡ b.path → a.version ≡ b.version → a.method ≡ b.method → a.desc ≡ b.desc → a.kind ≡ b.kind → a ≡ b
same_row a b paths versions methods descs kinds =
    ap (λ x. record { path = x; version = a.version; method = a.method; desc = a.desc; kind = a.kind }) paths
    ∙ ap (λ x. record { path = b.path; version = x; method = a.method; desc = a.desc; kind = a.kind }) versions
    ∙ ap (λ x. record { path = b.path; version = b.version; method = x; desc = a.desc; kind = a.kind }) methods
    ∙ ap (λ x. record { path = b.path; version = b.version; method = b.method; desc = x; kind = a.kind }) descs
    ∙ ap (λ x. record { path = b.path; version = b.version; method = b.method; desc = b.desc; kind = x }) kinds

pub service_once : (text : List ℕ) (a b : Row) → IsServiceLine text a → IsServiceLine text b → a ≡ b
service_once text a b is is' =
    let e : codes "service" ∷ a.path ∷ field_of a.version ∷ a.method ∷ field_of a.desc ∷ kind_word a.kind ∷ [] ≡ codes "service" ∷ b.path ∷ field_of b.version ∷ b.method ∷ field_of b.desc ∷ kind_word b.kind ∷ [] = sym (service_cut text a is) ∙ service_cut text b is' in
    let versions : field_of a.version ≡ field_of b.version = cc in
    let descs : field_of a.desc ≡ field_of b.desc = cc in
    let kinds : kind_word a.kind ≡ kind_word b.kind = cc in
    let paths : a.path ≡ b.path = cc in
    let methods : a.method ≡ b.method = cc in
    same_row a b paths (field_once a.version b.version is.target.is_version is'.target.is_version versions) methods
    (field_once a.desc b.desc is.target.is_desc is'.target.is_desc descs) (kind_once a.kind b.kind kinds)

-- one last field is of one notation
pub notation_once : (m n : ℕ) (s t : List ℕ) (fields : List (List ℕ)) → HasField m s fields → HasField n t fields → s ≡ t
notation_once zero zero s t fields a b = a.0 ∙ sym b.0
notation_once zero (suc n) s t fields a b = absurd (let e : [] ≡ t ∷ [] = sym a.1 ∙ b in cc)
notation_once (suc m) zero s t fields a b = absurd (let e : [] ≡ s ∷ [] = sym b.1 ∙ a in cc)
notation_once (suc m) (suc n) s t fields a b = let e : s ∷ [] ≡ t ∷ [] = sym a ∙ b in cc

same_request : (a b : Request) → a.dubbo ≡ b.dubbo → a.path ≡ b.path → a.version ≡ b.version → a.method ≡ b.method → a.desc ≡ b.desc → a.args ≡ b.args → a.attachments ≡ b.attachments → a ≡ b
same_request a b dubbos paths versions methods descs args attachments =
    ap (λ x. record { dubbo = x; path = a.path; version = a.version; method = a.method; desc = a.desc; args = a.args; attachments = a.attachments }) dubbos
    ∙ ap (λ x. record { dubbo = b.dubbo; path = x; version = a.version; method = a.method; desc = a.desc; args = a.args; attachments = a.attachments }) paths
    ∙ ap (λ x. record { dubbo = b.dubbo; path = b.path; version = x; method = a.method; desc = a.desc; args = a.args; attachments = a.attachments }) versions
    ∙ ap (λ x. record { dubbo = b.dubbo; path = b.path; version = b.version; method = x; desc = a.desc; args = a.args; attachments = a.attachments }) methods
    ∙ ap (λ x. record { dubbo = b.dubbo; path = b.path; version = b.version; method = b.method; desc = x; args = a.args; attachments = a.attachments }) descs
    ∙ ap (λ x. record { dubbo = b.dubbo; path = b.path; version = b.version; method = b.method; desc = b.desc; args = x; attachments = a.attachments }) args
    ∙ ap (λ x. record { dubbo = b.dubbo; path = b.path; version = b.version; method = b.method; desc = b.desc; args = b.args; attachments = x }) attachments

same_call : (a b : Call) → a.line ≡ b.line → a.request ≡ b.request → a.mode ≡ b.mode → a.timeout ≡ b.timeout → a.retries ≡ b.retries → a.forks ≡ b.forks → a ≡ b
same_call a b numbers requests modes timeouts again links =
    ap (λ x. record { line = x; request = a.request; mode = a.mode; timeout = a.timeout; retries = a.retries; forks = a.forks }) numbers
    ∙ ap (λ x. record { line = b.line; request = x; mode = a.mode; timeout = a.timeout; retries = a.retries; forks = a.forks }) requests
    ∙ ap (λ x. record { line = b.line; request = b.request; mode = x; timeout = a.timeout; retries = a.retries; forks = a.forks }) modes
    ∙ ap (λ x. record { line = b.line; request = b.request; mode = b.mode; timeout = x; retries = a.retries; forks = a.forks }) timeouts
    ∙ ap (λ x. record { line = b.line; request = b.request; mode = b.mode; timeout = b.timeout; retries = x; forks = a.forks }) again
    ∙ ap (λ x. record { line = b.line; request = b.request; mode = b.mode; timeout = b.timeout; retries = b.retries; forks = x }) links

call_once : (number : ℕ) (text : List ℕ) (a b : Call) → IsCallLine number text a → IsCallLine number text b → a ≡ b
call_once number text a b is is' =
    let s : SameCall number text (mode_word a.mode) is.timeout is.retries is.forks a.request.path (field_of a.request.version) a.request.method (field_of a.request.desc) is.last b is'
    = call_same number text _ _ _ _ _ _ _ _ _ b (call_cut number text a is) is' in
    let millis : a.timeout ≡ b.timeout = number_once 1 2147483647 1000 a.timeout b.timeout is'.timeout (omega arith) (subst (λ x. SaysTimeout x a.timeout) s.timeouts is.numbers.says_timeout) is'.numbers.says_timeout in
    let again : a.retries ≡ b.retries = number_once 0 15 2 a.retries b.retries is'.retries (omega arith) (subst (λ x. SaysRetries x a.retries) s.again is.numbers.says_retries) is'.numbers.says_retries in
    let links : a.forks ≡ b.forks = number_once 1 8 2 a.forks b.forks is'.forks (omega arith) (subst (λ x. SaysForks x a.forks) s.links is.numbers.says_forks) is'.numbers.says_forks in
    let versions : a.request.version ≡ b.request.version = field_once a.request.version b.request.version is.target.is_version is'.target.is_version s.versions in
    let descs : a.request.desc ≡ b.request.desc = field_once a.request.desc b.request.desc is.target.is_desc is'.target.is_desc s.descs in
    let notations : is.notation ≡ is'.notation = notation_once is.count is'.count is.notation is'.notation is'.last (subst (HasField is.count is.notation) s.rest is.field) is'.field in
    let shapes : shape_of a.request.args ≡ shape_of b.request.args = one_notation_graph is'.notation (shape_of a.request.args) (shape_of b.request.args)
    (subst (λ n. IsNotation n (shape_of a.request.args)) notations is.arguments.written) is'.arguments.written in
    let args : a.request.args ≡ b.request.args = one_parts a.request.args b.request.args is.arguments.sound is'.arguments.sound is.arguments.tables is'.arguments.tables shapes in
    let attachments : a.request.attachments ≡ b.request.attachments = is.attachments
    ∙ ap (λ x. attachments_of x a.request.version a.timeout) s.paths ∙ ap (λ x. attachments_of b.request.path x a.timeout) versions ∙ ap (attachments_of b.request.path b.request.version) millis
    ∙ sym is'.attachments in
    same_call a b (is.line ∙ sym is'.line) (same_request a.request b.request (is.dubbo ∙ sym is'.dubbo) s.paths versions s.methods descs args attachments)
    (mode_once a.mode b.mode s.modes) millis again links

-- a line says one thing
pub says_once : (number : ℕ) (text : List ℕ) (a b : Line) → Says number text a → Says number text b → a ≡ b
says_once number text nothing nothing is is' = refl
says_once number text nothing (offer row) is is' = absurd (skipped_begins text 115 is (service_begins text row is') (omega arith))
says_once number text nothing (ask c) is is' = absurd (skipped_begins text 99 is (call_begins number text c is') (omega arith))
says_once number text (offer row) nothing is is' = absurd (skipped_begins text 115 is' (service_begins text row is) (omega arith))
says_once number text (offer row) (offer row') is is' = ap offer (service_once text row row' is is')
says_once number text (offer row) (ask c) is is' = absurd (let e = service_begins text row is in let f = call_begins number text c is' in omega (arith, e, f))
says_once number text (ask c) nothing is is' = absurd (skipped_begins text 99 is' (call_begins number text c is) (omega arith))
says_once number text (ask c) (offer row) is is' = absurd (let e = service_begins text row is' in let f = call_begins number text c is in omega (arith, e, f))
says_once number text (ask c) (ask c') is is' = ap ask (call_once number text c c' is is')

-- a line whose first word is `call` says a call, if anything
pub begun_says : (number : ℕ) (text : List ℕ) (line : Line) → BeginsCall text → Says number text line → (c : Call) × (line ≡ ask c)
begun_says number text nothing begun is = absurd (skipped_begins text 99 is (begun_begins text begun) (omega arith))
begun_says number text (offer row) begun is = absurd (let e = service_begins text row is in let f = begun_begins text begun in omega (arith, e, f))
begun_says number text (ask c) begun is = (c, refl)

-- a call's line begins so
pub call_begun : (number : ℕ) (text : List ℕ) (c : Call) → IsCallLine number text c → BeginsCall text
call_begun number text c is = inr (_, is.written)
