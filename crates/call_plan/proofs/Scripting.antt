-- Scripts, read line by line.
use Rattle.std.proofs.Common.{◌≡◌, ◌⊎◌, ℕ, suc, ◌+◌, ◌<◌, ◌≤◌, List, [], ◌∷◌, ◌++◌, length, Result, Ok, Err, refl, sym, ap, subst, ◌∙◌, inl, inr, arith, length-append, append_assoc}
use Rattle.std.specs.Prelude.{All, OnOk, IfErr}
use Rattle.std.proofs.lemmas.List.{append-nil}
use Rattle.std.proofs.lemmas.List.Elements.{All-nil}
use Rattle.service_table.specs.declared.row.Row.{Row}
use Rattle.call_plan.specs.declared.calls.Call.{Call}
use Rattle.call_plan.specs.declared.fault.ScriptFault.{ScriptFault}
use Rattle.call_plan.specs.declared.fault.ScriptFault.TheVariants.{BadLine, TooManyCalls, TooLarge, OutOfMemory}
use Rattle.call_plan.specs.LineForms.{IsSkipped, Line, nothing, offer, ask, Says, BeginsCall}
use Rattle.call_plan.specs.Size.{IsReady}
use Rattle.call_plan.specs.ScriptLines.{lines_of, HaveLines, IsGoodLine, RefusesLine, rows_in, calls_in}
use Rattle.call_plan.specs.ScriptLines.HaveLines.{none, more}
use Rattle.call_plan.specs.ScriptReading.{Refuses}
use Rattle.call_plan.specs.Progress.{Takes, TakesCall, TakesService, RefusesCall, RefusesService, IsRefusedEarly}
use Rattle.service_table.specs.Adding.{MayAdd}
use Rattle.call_plan.specs.LineForms.{IsServiceLine}
use Rattle.call_plan.proofs.Saying.{begun_says, call_begun, service_once}

-- `number` lines of the bytes have been read, and `rest` follows them
pub record IsReadTo (bytes rest : List ℕ) (number : ℕ) (rows : List Row) (calls : List Call) : Type 0 where
  pub before : List (List ℕ)
  pub cut : lines_of bytes ≡ before ++ lines_of rest
  pub counted : number ≡ length before
  pub room : number + length rest ≤ length bytes
  pub few : length rows ≤ number
  pub good : HaveLines before rows calls
  pub ready : All IsReady calls

-- what follows from an answer follows where it is given
pub on_ok : {A E : Type 0} (r : Result A E) (P Q : Type 0) → (P → Q) → OnOk r P → OnOk r Q
on_ok (Ok a) P Q f p = f p
on_ok (Err e) P Q f p = tt

pub if_err : {A E : Type 0} (r : Result A E) (P Q : E → Type 0) → ((e : E) → P e → Q e) → IfErr r P → IfErr r Q
if_err (Ok a) P Q f p = tt
if_err (Err e) P Q f p = f e p

pub takes_call : (rows : List Row) (calls : List Call) (number : ℕ) (text : List ℕ) (then : List Call) → TakesCall calls number text then → Takes rows calls number text rows then
takes_call rows calls number text then p = record {
  line = ask p.0;
  good = record { says = p.1; placed = p.2 };
  rows_are = sym (append-nil rows);
  calls_are = p.3;
}

pub takes_service : (rows : List Row) (calls : List Call) (number : ℕ) (text : List ℕ) (then : List Row) → TakesService rows text then → Takes rows calls number text then calls
takes_service rows calls number text then p = record {
  line = offer p.0;
  good = record { says = p.1; placed = p.2 };
  rows_are = p.3;
  calls_are = sym (append-nil calls);
}

pub refuses_call : (rows : List Row) (calls : List Call) (number : ℕ) (text : List ℕ) → BeginsCall text → (fault : ScriptFault) → RefusesCall calls number text fault → RefusesLine rows calls number text fault
refuses_call rows calls number text begins (BadLine line) p = (
  p.0,
  record {
    never_good = λ l good.
        let a = begun_says number text l begins good.says in
        p.2 a.0 (subst (Says number text) a.1 good.says);
    another = λ many. omega (arith, p.1, many.full);
  },
)
refuses_call rows calls number text begins (TooManyCalls line) p = (p.0, record { begins = begins; full = p.1 })
refuses_call rows calls number text begins (TooLarge line) p = p
refuses_call rows calls number text begins OutOfMemory p = tt

never_good_service : (rows : List Row) (calls : List Call) (number : ℕ) (text : List ℕ) → ¬ IsSkipped text → ¬ BeginsCall text → (line : ℕ) → RefusesService rows number text (BadLine line)
    → (l : Line) → ¬ IsGoodLine rows calls number text l
never_good_service rows calls number text some other line p nothing good = some good.says
never_good_service rows calls number text some other line p (offer row) good = p.1 row good.says good.placed
never_good_service rows calls number text some other line p (ask c) good = other (call_begun number text c good.says)

pub refuses_service : (rows : List Row) (calls : List Call) (number : ℕ) (text : List ℕ) → ¬ IsSkipped text → ¬ BeginsCall text → (fault : ScriptFault) → RefusesService rows number text fault → RefusesLine rows calls number text fault
refuses_service rows calls number text some other (BadLine line) p = (
  p.0,
  record {
    never_good = never_good_service rows calls number text some other line p;
    another = λ many. other many.begins;
  },
)
refuses_service rows calls number text some other (TooManyCalls line) p = absurd p
refuses_service rows calls number text some other (TooLarge line) p = p
refuses_service rows calls number text some other OutOfMemory p = tt

-- nothing has been read
pub begun : (bytes : List ℕ) → IsReadTo bytes bytes 0 [] []
begun bytes = record {
  before = [];
  cut = refl;
  counted = refl;
  room = omega arith;
  few = omega arith;
  good = none;
  ready = All-nil IsReady;
}

rows_few : (line : Line) → length (rows_in line) ≤ 1
rows_few nothing = omega arith
rows_few (offer row) = omega arith
rows_few (ask c) = omega arith

-- one line more has been read
pub one_more_read : (bytes rest line after : List ℕ) (number : ℕ) (rows rows_then : List Row) (calls calls_then : List Call)
    → IsReadTo bytes rest number rows calls → lines_of rest ≡ line ∷ lines_of after → length after < length rest
    → Takes rows calls (number + 1) line rows_then calls_then → (All IsReady calls → All IsReady calls_then) → IsReadTo bytes after (number + 1) rows_then calls_then
one_more_read bytes rest line after number rows rows_then calls calls_then read split less takes ready =
    let next : number + 1 ≡ suc (length read.before) = omega (arith, read.counted) in
    let good : IsGoodLine rows calls (suc (length read.before)) line takes.line = subst (λ n. IsGoodLine rows calls n line takes.line) next takes.good in
    let have : HaveLines (read.before ++ line ∷ []) (rows ++ rows_in takes.line) (calls ++ calls_in takes.line) = more read.before rows calls line takes.line read.good good in
    record {
      before = read.before ++ line ∷ [];
      cut = read.cut ∙ ap (λ ls. read.before ++ ls) split ∙ sym (append_assoc read.before (line ∷ []) (lines_of after));
      counted = omega (arith, read.counted, length-append read.before (line ∷ []));
      room = omega (arith, read.room);
      few = omega (arith, read.few, ap length takes.rows_are, length-append rows (rows_in takes.line), rows_few takes.line);
      good = subst (λ cs. HaveLines (read.before ++ line ∷ []) rows_then cs) (sym takes.calls_are)
          (subst (λ rs. HaveLines (read.before ++ line ∷ []) rs (calls ++ calls_in takes.line)) (sym takes.rows_are) have);
      ready = ready read.ready;
    }

-- an early refusal is one
pub early : (bytes : List ℕ) (fault : ScriptFault) → IsRefusedEarly bytes fault → Refuses bytes fault
early bytes (BadLine line) p = p
early bytes (TooManyCalls line) p = p
early bytes (TooLarge line) p = absurd p
early bytes OutOfMemory p = tt

-- a script has no more calls than there may be
few_in : (rows : List Row) (calls : List Call) (number : ℕ) (text : List ℕ) (line : Line) → IsGoodLine rows calls number text line → length calls ≤ 4096 → length (calls ++ calls_in line) ≤ 4096
few_in rows calls number text nothing good few = omega (arith, length-append calls [])
few_in rows calls number text (offer row) good few = omega (arith, length-append calls [])
few_in rows calls number text (ask c) good few = let low : length calls < 4096 = good.placed in omega (arith, length-append calls (c ∷ []))

pub calls_few : (lines : List (List ℕ)) (rows : List Row) (calls : List Call) → HaveLines lines rows calls → length calls ≤ 4096
calls_few _ _ _ none = omega arith
calls_few _ _ _ (more before rows calls text line have good) = few_in rows calls (suc (length before)) text line good (calls_few before rows calls have)

-- what the refusal of a service means
pub service_fault : (rows : List Row) (number : ℕ) (text : List ℕ) (row : Row) (P : Type 0) (fault : ScriptFault) → IsServiceLine text row → (P → ¬ MayAdd rows row)
    → ((fault ≡ OutOfMemory) ⊎ (P × (fault ≡ BadLine number))) → RefusesService rows number text fault
service_fault rows number text row P fault is not (inl e) = subst (RefusesService rows number text) (sym e) tt
service_fault rows number text row P fault is not (inr p) = subst (RefusesService rows number text) (sym p.1)
    (refl, λ other says may. not p.0 (subst (MayAdd rows) (service_once text other row says is) may))
