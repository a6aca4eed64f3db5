-- What a reading of so many roots answers over the bytes that were fed to it.
use Rattle.std.specs.Prelude.{◌≡◌, ◌≢◌, ℕ, ◌+◌, ◌-◌, ◌<◌, ◌≤◌, List, [], ◌++◌, length, take, drop, true, false, Option, Some, None, Result, Ok, Err, ◌⊎◌, ⊤}
use Rattle.hessian_graph.specs.Shape.{Shape}
use Rattle.hessian_text.specs.Spelling.{AreBytes}
use Rattle.hessian_reader.specs.declared.fault.HessianFault.{HessianFault}
use Rattle.hessian_reader.specs.declared.fault.HessianFault.TheVariants.{OutOfMemory}
use Rattle.hessian_reader.specs.declared.reader.Fed.{Fed}
use Rattle.hessian_reader.specs.declared.reader.Fed.TheVariants as told
use Rattle.hessian_reader.specs.declared.course.Course.{Course}
use Rattle.hessian_reader.specs.Leaves.{IsDenoted}
use Rattle.hessian_reader.specs.declared.element.Element.{Element}
use Rattle.hessian_reader.specs.declared.lexer.Inside.TheVariants.{Nothing}
use Rattle.hessian_reader.specs.declared.stop.Objection.{Objection}
use Rattle.hessian_reader.specs.Elements.{IsElement, HasNoElement}
use Rattle.hessian_reader.specs.States.{State, start, want_at, is_done}
use Rattle.hessian_reader.specs.Steps.{Leads, take_element}
use Rattle.hessian_reader.specs.Lexing.{Holds}
use Rattle.hessian_reader.specs.Views.{state_of}
use Rattle.hessian_reader.specs.Refusing.{IsStoppedBy}

-- the last of so many roots ends behind so many of the bytes
pub record EndsAt (roots : ℕ) (bytes : List ℕ) (n : ℕ) : Type 0 where
  pub graph : Shape
  pub within : n ≤ length bytes
  pub denoted : IsDenoted (take n bytes) graph
  pub roots_are : length graph.roots ≡ roots

-- however the bytes go on, the last root never ends
abbrev pub NeverEnds : ℕ → List ℕ → Type 0
NeverEnds roots bytes = (more : List ℕ) (n : ℕ) → AreBytes more → EndsAt roots (bytes ++ more) n → ⊥

-- the last root ends in the piece behind so many of its bytes, or ended before; or it doesn't end so far
abbrev pub Tells : ℕ → List ℕ → List ℕ → Fed → Type 0
Tells roots fed piece told.More = (n : ℕ) → EndsAt roots (fed ++ piece) n → ⊥
Tells roots fed piece (told.Done used) = (n : ℕ) × EndsAt roots (fed ++ piece) n × (used ≡ n - length fed) × (used ≤ length piece)

-- The bytes that were fed are whole elements, then the beginning of one; and what comes behind the last root, unread.
pub record Follows (r : Course) (roots : ℕ) (fed : List ℕ) : Type 0 where
  pub before : List ℕ
  pub came : List ℕ
  pub unread : List ℕ
  pub joined : fed ≡ before ++ (came ++ unread)
  pub leads : Leads (start roots) before (state_of r.work)
  pub wants : r.lexer.want ≡ want_at r.work.place
  pub holds : Holds r.lexer.want r.lexer.inside came
  pub from : r.from ≡ length before
  pub over : is_done (state_of r.work) ≡ true → came ≡ []
  pub going : is_done (state_of r.work) ≡ false → unread ≡ []

-- the element that has begun can't go on with these bytes, or it ends in them and is refused
abbrev pub IsStuck : State → List ℕ → List ℕ → Type 0
IsStuck s came piece =
    HasNoElement (want_at s.place) (came ++ piece)
    ⊎ ((used : ℕ) × (x : Element) × (o : Objection) × (used ≤ length piece) × IsElement (want_at s.place) (came ++ take used piece) x × (take_element s x ≡ Err o))

-- an element was taken, and the next is waited for
abbrev pub Took : State → Element → Course → Result ⊤ HessianFault → Type 0
Took old x new (Ok u) = (take_element old x ≡ Ok (state_of new.work)) × (new.lexer.want ≡ want_at new.work.place) × (new.lexer.inside ≡ Nothing)
Took old x new (Err fault) = fault ≢ OutOfMemory → (o : Objection) × (take_element old x ≡ Err o)

-- the element that had begun ends behind so many bytes of a piece, and was taken
pub record TakesOne (old new : Course) (at : ℕ) (came piece : List ℕ) (used : ℕ) : Type 0 where
  pub some : 0 < used
  pub within : used ≤ length piece
  pub element : Element
  pub is_element : IsElement (want_at old.work.place) (came ++ take used piece) element
  pub taken : take_element (state_of old.work) element ≡ Ok (state_of new.work)
  pub from : new.from ≡ at + used
  pub wants : new.lexer.want ≡ want_at new.work.place
  pub nothing : Holds new.lexer.want new.lexer.inside []

-- the element that had begun goes on behind the piece
pub record GoesOn (old new : Course) (came piece : List ℕ) : Type 0 where
  pub work : new.work ≡ old.work
  pub from : new.from ≡ old.from
  pub wants : new.lexer.want ≡ old.lexer.want
  pub holds : Holds new.lexer.want new.lexer.inside (came ++ piece)

-- the element that had begun was taken, and those that lie whole behind it, up to so many bytes of a piece
pub record TakesSome (old new : Course) (at : ℕ) (came piece : List ℕ) (used : ℕ) : Type 0 where
  pub middle : Course
  pub first : ℕ
  pub more : ℕ
  pub one : TakesOne old middle at came piece first
  pub count : used ≡ first + more
  pub within : more ≤ length (drop first piece)
  pub leads : Leads (state_of middle.work) (take more (drop first piece)) (state_of new.work)
  pub from : new.from ≡ middle.from + more
  pub wants : new.lexer.want ≡ want_at new.work.place
  pub nothing : Holds new.lexer.want new.lexer.inside []

-- what a piece makes of the element that has begun
abbrev pub Nexts : Course → ℕ → List ℕ → List ℕ → Course → Result (Option ℕ) HessianFault → Type 0
Nexts old at came piece new (Ok None) = GoesOn old new came piece
Nexts old at came piece new (Ok (Some used)) = TakesOne old new at came piece used
Nexts old at came piece new (Err fault) = fault ≢ OutOfMemory → IsStuck (state_of old.work) came piece

-- the same, with the elements that lie whole behind it
abbrev pub Passes : Course → ℕ → List ℕ → List ℕ → Course → Result (Option ℕ) HessianFault → Type 0
Passes old at came piece new (Ok None) = GoesOn old new came piece
Passes old at came piece new (Ok (Some used)) = TakesSome old new at came piece used
Passes old at came piece new (Err fault) = fault ≢ OutOfMemory → IsStuck (state_of old.work) came piece

-- The bytes up to the end of a piece stop for what the fault tells, where the piece begins at a place, whole elements led
-- to the course, and the element that has begun stands behind them.
abbrev pub StopsIn : Course → ℕ → List ℕ → HessianFault → Type 0
StopsIn old at piece fault = (roots : ℕ) (before came : List ℕ) → AreBytes came → Leads (start roots) before (state_of old.work)
    → is_done (state_of old.work) ≡ false → old.from ≡ length before → at ≡ length before + length came
    → old.lexer.want ≡ want_at old.work.place → Holds old.lexer.want old.lexer.inside came
    → IsStoppedBy roots (before ++ (came ++ piece)) fault

-- a course of so many roots was fed these bytes
pub record HasRead (r : Course) (roots : ℕ) (fed : List ℕ) : Type 0 where
  pub counted : r.fed ≡ length fed
  pub bytes : AreBytes fed
  pub follows : r.refused ≡ None → Follows r roots fed
  pub refused : (f : HessianFault) → r.refused ≡ Some f → f ≢ OutOfMemory → NeverEnds roots fed
  pub stopped : (f : HessianFault) → r.refused ≡ Some f → f ≢ OutOfMemory → IsStoppedBy roots fed f

-- where nothing was refused, the course has read some bytes for some number of roots
abbrev pub Known : Course → Type 0
Known r = r.refused ≡ None → (roots : ℕ) × (fed : List ℕ) × HasRead r roots fed
