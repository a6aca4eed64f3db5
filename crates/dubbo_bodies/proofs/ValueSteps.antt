-- The values behind the texts, read as their bytes come.
use Rattle.std.proofs.Common.{◌≡◌, ◌≢◌, ℕ, suc, ◌+◌, ◌-◌, ◌<◌, ◌≤◌, List, [], ◌∷◌, ◌++◌, length, take, refl, ap, ◌∙◌, subst, arith, length-append, inl, inr}
use Rattle.std.proofs.lemmas.Bool.{cases_lt}
use Rattle.std.proofs.lemmas.List.{take-append-le, take_all}
use Rattle.hessian_graph.specs.declared.parts.Parts.{Parts}
use Rattle.hessian_graph.specs.Shape.{Text, Shape, shape_of}
use Rattle.hessian_graph.specs.Refusal.{Cause, Refusal}
use Rattle.hessian_graph.specs.Spells.{Denotes}
use Rattle.hessian_text.specs.Spelling.{AreBytes}
use Rattle.hessian_reader.specs.declared.fault.HessianFault.{HessianFault}
use Rattle.hessian_reader.specs.declared.fault.HessianFault.TheVariants as told
use Rattle.hessian_reader.specs.declared.reader.Fed.{Fed}
use Rattle.hessian_reader.specs.declared.reader.Fed.TheVariants as done
use Rattle.hessian_reader.specs.Faults.{faults}
use Rattle.hessian_reader.specs.Leaves.{hessian, node_limit, IsDenoted}
use Rattle.hessian_reader.specs.Reading.{EndsAt, Tells}
use Rattle.hessian_reader.specs.Refusing.{fault_of, IsStoppedBy, IsRefusedBy}
use Rattle.hessian_reader.proofs.Behind.{trailing_refused}
use Rattle.hessian_reader.proofs.Refusals.{stopped_stays}
use Rattle.hessian_reader.proofs.Whole.{ends_once}
use Rattle.dubbo_header.specs.declared.header.Header.{Header}
use Rattle.dubbo_bodies.specs.declared.fault.RequestFault.{RequestFault}
use Rattle.dubbo_bodies.specs.declared.fault.RequestFault.TheVariants as faulty
use Rattle.dubbo_bodies.specs.Descriptor.{HasArgs}
use Rattle.dubbo_bodies.specs.Fields.{DESCRIPTOR, BeginsWith}
use Rattle.dubbo_bodies.specs.FaultsBehind.{place_of, fault_later}
use Rattle.dubbo_bodies.specs.Refusals.{Hessian, BadAttachments, behind, LacksAttachments}
use Rattle.dubbo_bodies.specs.Refusals.RequestRefusal.{values, attachments}
use Rattle.dubbo_bodies.specs.RequestReading.{IsRefusedRequest}
use Rattle.dubbo_bodies.specs.RequestStages.{StaysRefused}
use Rattle.dubbo_bodies.proofs.FaultPlaces.{same_later, stopped_place, refusal_place}
use Rattle.dubbo_bodies.proofs.FieldSteps.{begins_more, came_at}

-- ---- where the last root ends

ends_in_front : (roots : ℕ) (xs ys : List ℕ) (n : ℕ) → EndsAt roots (xs ++ ys) n → n ≤ length xs → EndsAt roots xs n
ends_in_front roots xs ys n e h = record { graph = e.graph; within = h; denoted = subst (λ zs. IsDenoted zs e.graph) (take-append-le n xs ys h) e.denoted; roots_are = e.roots_are }

-- nothing came behind the last root
abbrev pub IsWhole : ℕ → List ℕ → Type 0
IsWhole roots bytes = (n : ℕ) → EndsAt roots bytes n → n ≡ length bytes

-- then the last root ends at least behind all that came
end_behind : (roots : ℕ) (came piece : List ℕ) (n : ℕ) → IsWhole roots came → EndsAt roots (came ++ piece) n → length came ≤ n
end_behind roots came piece n whole e = elim (cases_lt n (length came)) [
  | inl h ↦ (let k = whole n (ends_in_front roots came piece n e (omega (arith, h))) in omega (arith, k))
  | inr h ↦ h
]

pub done_at : (roots : ℕ) (came piece : List ℕ) (used n : ℕ) → IsWhole roots came → EndsAt roots (came ++ piece) n → used ≡ n - length came → n ≡ length came + used
done_at roots came piece used n whole e u = let k = end_behind roots came piece n whole e in omega (arith, k, u)

pub stays_whole : (roots : ℕ) (came piece : List ℕ) (fed : Fed) → AreBytes (came ++ piece) → IsWhole roots came → Tells roots came piece fed → ((used : ℕ) → fed ≡ done.Done used → length piece ≤ used) → IsWhole roots (came ++ piece)
stays_whole roots came piece done.More small whole none all = λ n e. absurd (none n e)
stays_whole roots came piece (done.Done used) small whole (m, ends, is, low) all = λ n e.
    let once = ends_once roots (came ++ piece) n m small e ends in
    let at = done_at roots came piece used m whole ends is in
    let long = length-append came piece in
    let most = all used refl in
    omega (arith, once, at, long, most, low)

pub none_ends : (roots n : ℕ) → EndsAt roots [] n → n ≡ 0
none_ends roots n e = let k = e.within in omega (arith, k)

-- ---- what is refused

-- all texts, the last of which is the descriptor, in front of these bytes
pub record Behind (header : Header) (fed : List ℕ) (from : ℕ) (came : List ℕ) (count : ℕ) : Type 0 where
  pub texts : List Text
  pub desc : Text
  pub begins : BeginsWith hessian header fed (texts ++ desc ∷ []) from came
  pub place : length texts ≡ DESCRIPTOR
  pub counted : HasArgs desc count

pub behind_more : (header : Header) (fed : List ℕ) (from : ℕ) (came : List ℕ) (count : ℕ) (more : List ℕ) → Behind header fed from came count → Behind header (fed ++ more) from (came ++ more) count
behind_more header fed from came count more b = record { texts = b.texts; desc = b.desc; begins = begins_more header more b.begins; place = b.place; counted = b.counted }

refused_behind : (header : Header) (fed : List ℕ) (from : ℕ) (came : List ℕ) (count : ℕ) (cause : Cause) (result : RequestFault) → Behind header fed from came count → Refusal hessian faults node_limit (suc count) came cause → result ≡ faulty.Hessian (fault_of (behind from cause)) → IsRefusedRequest header fed result
refused_behind header fed from came count cause result b r e = (Hessian (behind from cause), e, values b.texts b.desc from count came cause b.begins b.place b.counted r)

-- a fault of the values, its place moved and its name given
abbrev pub Moves : ℕ → ℕ → HessianFault → RequestFault → Type 0
Moves most from fault result = (cause : Cause) → fault ≡ fault_of cause → from + place_of cause ≤ most → result ≡ faulty.Hessian (fault_of (behind from cause))

pub values_refused : (most : ℕ) (header : Header) (fed : List ℕ) (from : ℕ) (came : List ℕ) (count : ℕ) (fault : HessianFault) (result : RequestFault) → length fed ≤ most → Behind header fed from came count → IsRefusedBy (suc count) came fault → Moves most from fault result → IsRefusedRequest header fed result
values_refused most header fed from came count fault result room b (cause, e, r) moves =
    let low = refusal_place (suc count) came cause r in
    let long = came_at header b.begins in
    refused_behind header fed from came count cause result b r (moves cause e (omega (arith, low, long, room)))

pub values_stay : (most : ℕ) (header : Header) (fed : List ℕ) (from : ℕ) (came : List ℕ) (count : ℕ) (fault : HessianFault) (result : RequestFault) → length fed ≤ most → Behind header fed from came count → (result ≢ faulty.OutOfMemory → IsStoppedBy (suc count) came fault) → Moves most from fault result → StaysRefused result header fed
values_stay most header fed from came count fault result room b stopped moves = λ some more.
    let s = stopped some in
    let low = stopped_place (suc count) came s.0 s.2 in
    let long = came_at header b.begins in
    refused_behind header (fed ++ more) from (came ++ more) count s.0 result (behind_more header fed from came count more b) (inl (stopped_stays (suc count) came more s.0 s.2)) (moves s.0 s.1 (omega (arith, low, long, room)))

-- a byte behind the last root
pub trailing_stays : (header : Header) (fed : List ℕ) (from : ℕ) (came : List ℕ) (count n place : ℕ) → Behind header fed from came count → EndsAt (suc count) came n → n < length came → place ≡ from + n → StaysRefused (faulty.Hessian (told.Trailing place)) header fed
trailing_stays header fed from came count n place b ends low e = λ some more.
    let s = trailing_refused (suc count) n came ends low in
    let cause : told.Trailing n ≡ fault_of s.0 = s.1 in
    refused_behind header (fed ++ more) from (came ++ more) count s.0 (faulty.Hessian (told.Trailing place)) (behind_more header fed from came count more b) (inl (stopped_stays (suc count) came more s.0 s.2)) (ap (λ x. faulty.Hessian (told.Trailing x)) e ∙ ap (λ x. faulty.Hessian x) (trailing_behind s.0 cause))
  where
    trailing_behind : (cause : Cause) → told.Trailing n ≡ fault_of cause → told.Trailing (from + n) ≡ fault_of (behind from cause)
    trailing_behind cause e = ap (fault_later from) e ∙ same_later from cause

-- the attachments are none
pub attachments_refused : (header : Header) (fed : List ℕ) (from : ℕ) (came : List ℕ) (count : ℕ) (g : Shape) (result : RequestFault) → Behind header fed from came count → Denotes hessian node_limit came g → LacksAttachments g count → result ≡ faulty.BadAttachments → IsRefusedRequest header fed result
attachments_refused header fed from came count g result b denotes lacks e = (BadAttachments, e, attachments b.texts b.desc from count came g b.begins b.place b.counted denotes lacks)

-- ---- the graph that was read

pub all_denoted : (roots : ℕ) (came : List ℕ) (g : Parts) → IsWhole roots came → (n : ℕ) × (n ≤ length came) × IsDenoted (take n came) (shape_of g) × (length g.roots ≡ roots) → IsDenoted came (shape_of g)
all_denoted roots came g whole (n, within, denoted, are) =
    let k = whole n (record { graph = shape_of g; within = within; denoted = denoted; roots_are = are }) in
    subst (λ xs. IsDenoted xs (shape_of g)) (ap (λ m. take m came) k ∙ take_all (length came) came (omega arith)) denoted
