-- What one line of a script says: nothing, a service, or a call.
use Rattle.std.specs.Prelude.{◌≡◌, ◌⊎◌, ℕ, zero, suc, ◌≤◌, List, [], ◌∷◌, ◌++◌, length, codes, decimal}
use Rattle.std.specs.List.{join_with_byte}
use Rattle.hessian_graph.specs.declared.parts.Parts.{Parts}
use Rattle.hessian_graph.specs.Shape.{Text, shape_of}
use Rattle.hessian_graph.specs.Faults.{IsSound}
use Rattle.hessian_graph.specs.InUse.{InOrderOfUse}
use Rattle.graph_notation.specs.Limit.{node_limit}
use Rattle.graph_notation.specs.Notation.{IsNotation}
use Rattle.dubbo_bodies.specs.declared.attachment.Attachment.{Attachment}
use Rattle.dubbo_bodies.specs.Descriptor.{HasArgs}
use Rattle.service_table.specs.declared.row.Row.{Row}
use Rattle.call_plan.specs.declared.calls.Call.{Call}
use Rattle.call_plan.specs.Words.{SPACE, IsWord, IsOptionalWord, field_of, SaysNumber, mode_word, kind_word}

-- the line is empty or a comment
abbrev pub IsSkipped : List ℕ → Type 0
IsSkipped text = (text ≡ []) ⊎ ((rest : List ℕ) × (text ≡ 0x23 ∷ rest))

-- a service as a line can name it
pub record IsTarget (path version method desc : Text) : Type 0 where
  pub is_path : IsWord path
  pub is_version : IsOptionalWord version
  pub is_method : IsWord method
  pub is_desc : IsOptionalWord desc

-- the line of a service: its fields with one space between
pub record IsServiceLine (text : List ℕ) (row : Row) : Type 0 where
  pub target : IsTarget row.path row.version row.method row.desc
  pub written : text ≡ join_with_byte SPACE (codes "service" ∷ row.path ∷ field_of row.version ∷ row.method ∷ field_of row.desc ∷ kind_word row.kind ∷ [])

-- The numbers of a call and their fields: milliseconds until the deadline, how often Failover tries again, and how many links
-- Forking asks.
pub record SayNumbers (timeout retries forks : List ℕ) (millis again links : ℕ) : Type 0 where
  pub says_timeout : SaysNumber 1 2147483647 1000 timeout millis
  pub says_retries : SaysNumber 0 15 2 retries again
  pub says_forks : SaysNumber 1 8 2 forks links

-- The text is a notation of the arguments, which are as many as the descriptor has parameters, with no more nodes than one may have.
-- Types and classes stand in the order of first use.
pub record AreArguments (desc : Text) (count : ℕ) (notation : List ℕ) (args : Parts) : Type 0 where
  pub counted : HasArgs desc count
  pub each : length args.roots ≡ count
  pub written : IsNotation notation (shape_of args)
  pub few : length args.nodes ≤ node_limit
  pub sound : IsSound args
  pub tables : InOrderOfUse args

-- the field of the arguments, which a call without parameters lacks: its notation is empty
abbrev pub HasField : ℕ → List ℕ → List (List ℕ) → Type 0
HasField zero notation fields = (notation ≡ []) × (fields ≡ [])
HasField (suc more) notation fields = fields ≡ notation ∷ []

-- the four attachments of a call: its path twice, its service's version, and its timeout
abbrev pub attachments_of : Text → Text → ℕ → List Attachment
attachments_of path version timeout =
    record { name = codes "path"; value = path } ∷ record { name = codes "interface"; value = path }
    ∷ record { name = codes "version"; value = version } ∷ record { name = codes "timeout"; value = decimal timeout } ∷ []

-- the line of a call, which has this number: its fields with one space between
pub record IsCallLine (number : ℕ) (text : List ℕ) (call : Call) : Type 0 where
  pub line : call.line ≡ number
  pub timeout : List ℕ
  pub retries : List ℕ
  pub forks : List ℕ
  pub numbers : SayNumbers timeout retries forks call.timeout call.retries call.forks
  pub target : IsTarget call.request.path call.request.version call.request.method call.request.desc
  pub count : ℕ
  pub notation : List ℕ
  pub arguments : AreArguments call.request.desc count notation call.request.args
  pub last : List (List ℕ)
  pub field : HasField count notation last
  pub dubbo : call.request.dubbo ≡ codes "2.0.2"
  pub attachments : call.request.attachments ≡ attachments_of call.request.path call.request.version call.timeout
  pub written : text ≡ join_with_byte SPACE (codes "call" ∷ mode_word call.mode ∷ timeout ∷ retries ∷ forks
      ∷ call.request.path ∷ field_of call.request.version ∷ call.request.method ∷ field_of call.request.desc ∷ last)

-- what a line says
pub data Line : Type 0 where
  nothing : Line
  offer : Row → Line
  ask : Call → Line

-- the line of this number, which these bytes are, says this
abbrev pub Says : ℕ → List ℕ → Line → Type 0
Says number text nothing = IsSkipped text
Says number text (offer row) = IsServiceLine text row
Says number text (ask call) = IsCallLine number text call

-- the line's first word is `call`, whatever follows it
abbrev pub BeginsCall : List ℕ → Type 0
BeginsCall text = (text ≡ codes "call") ⊎ ((rest : List ℕ) × (text ≡ codes "call" ++ SPACE ∷ rest))
