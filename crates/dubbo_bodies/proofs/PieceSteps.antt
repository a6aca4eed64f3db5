-- A reading goes through a piece step by step.
use Rattle.std.proofs.Common.{◌≡◌, ◌≢◌, ℕ, ◌+◌, ◌-◌, ◌≤◌, List, [], ◌++◌, length, take, drop, sym, ap, ◌∙◌, subst, arith, append_assoc, length-append}
use Rattle.std.proofs.lemmas.List.{append-nil, length-take-le, length-drop}
use Rattle.std.proofs.Math.Seq.{take-add}
use Rattle.dubbo_header.specs.declared.header.Header.{Header}
use Rattle.dubbo_bodies.specs.declared.fault.RequestFault.{RequestFault}
use Rattle.dubbo_bodies.specs.declared.fault.RequestFault.TheVariants.{OutOfMemory}
use Rattle.dubbo_bodies.specs.declared.request_reader.progress.Progress.{Progress}
use Rattle.dubbo_bodies.specs.RequestReading.{IsRefusedRequest}
use Rattle.dubbo_bodies.specs.RequestStages.{IsSound, Stands, StaysRefused}

-- ---- what is refused

pub stays_more : (fault : RequestFault) (header : Header) (fed xs : List ℕ) → StaysRefused fault header fed → StaysRefused fault header (fed ++ xs)
stays_more fault header fed xs h = λ some more. subst (λ body. IsRefusedRequest header body fault) (sym (append_assoc fed xs more)) (h some (xs ++ more))

pub stays_now : (fault : RequestFault) (header : Header) (fed : List ℕ) → StaysRefused fault header fed → fault ≢ OutOfMemory → IsRefusedRequest header fed fault
stays_now fault header fed h some = subst (λ body. IsRefusedRequest header body fault) (append-nil fed) (h some [])

-- ---- a piece

-- from where bytes were fed to where more were
abbrev pub Leads : Progress → ℕ → List ℕ → Progress → Type 0
Leads before at xs after = (header : Header) (fed : List ℕ) → at ≡ length fed → Stands before header fed → Stands after header (fed ++ xs)

pub leads_step : (first before after : Progress) (at taken used : ℕ) (piece rest : List ℕ) → rest ≡ drop taken piece → taken ≤ length piece → Leads first at (take taken piece) before → Leads before (at + taken) (take used rest) after → Leads first at (take (taken + used) piece) after
leads_step first before after at taken used piece rest e low led step = λ header fed is s.
    let long = length-append fed (take taken piece) in
    let part = length-take-le taken piece low in
    let there : at + taken ≡ length (fed ++ take taken piece) = omega (arith, long, part, is) in
    let joined : (fed ++ take taken piece) ++ take used rest ≡ fed ++ take (taken + used) piece =
    append_assoc fed (take taken piece) (take used rest) ∙ ap (λ xs. fed ++ (take taken piece ++ take used xs)) e ∙ ap (λ xs. fed ++ xs) (sym (take-add taken used piece)) in
    subst (Stands after header) joined (step header (fed ++ take taken piece) there (led header fed is s))

-- what holds behind so many bytes of a piece
pub record Going (first : Progress) (at : ℕ) (piece : List ℕ) (taken : ℕ) (now : Progress) : Type 0 where
  pub led : Leads first at (take taken piece) now
  pub sound : IsSound now (at + taken)
  pub low : taken ≤ length piece

pub going_on : (first before after : Progress) (at taken used : ℕ) (piece rest : List ℕ) → rest ≡ drop taken piece → used ≤ length rest → IsSound after (at + taken + used) → Leads before (at + taken) (take used rest) after → Going first at piece taken before → Going first at piece (taken + used) after
going_on first before after at taken used piece rest e most s step g = record {
  led = leads_step first before after at taken used piece rest e g.low g.led step;
  sound = subst (IsSound after) (let k : at + taken + used ≡ at + (taken + used) = omega arith in k) s;
  low = let long : length rest ≡ length piece - taken = ap length e ∙ length-drop taken piece in let low = g.low in omega (arith, long, most, low);
}
