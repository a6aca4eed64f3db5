-- The frame at the front of some bytes, or why they begin none.
use Rattle.std.proofs.Common.{◌≡◌, ◌≢◌, ℕ, ◌+◌, ◌<◌, ◌≤◌, List, [], ◌∷◌, ◌++◌, length, take, drop, get_or, Option, Some, None, refl, sym, ap, subst, ◌∙◌, inr, arith, append_assoc}
use Rattle.std.proofs.lemmas.List.{take-append-drop}
use Rattle.std.specs.Prelude.{MatchOption}
use Rattle.dubbo_header.specs.declared.header.Header.{Header}
use Rattle.dubbo_header.specs.Header.{MAGIC, IsHeader, IsTooLong, Spells, header_bytes}
use Rattle.link_frames.specs.Frames.{BeginsNoFrame}
use Rattle.link_frames.proofs.ReadyLemmas.{unfinished_rest}
use Rattle.dubbo_main.specs.Finding.{IsFirst}
use Rattle.dubbo_main.specs.Framing.{HasOtherMagic, StatesTooMuch}
use Rattle.dubbo_main.specs.declared.commands.frames.finding.Found.{Found}

pub none_other : (rest : List ℕ) → length rest ≡ 0 → ¬ HasOtherMagic rest
none_other [] empty other = other MAGIC refl
none_other (byte ∷ rest) empty other = absurd (omega arith)

pub one_other : (rest : List ℕ) → length rest ≡ 1 → (get_or rest 0 0 ≢ 0xda → HasOtherMagic rest) × (HasOtherMagic rest → get_or rest 0 0 ≢ 0xda)
one_other [] one = absurd (omega arith)
one_other (a ∷ []) one = (λ differ more same. differ (ap (λ l. get_or l 0 0) same), λ other same. other (0xbb ∷ []) (ap (λ byte. byte ∷ 0xbb ∷ []) same))
one_other (a ∷ b ∷ rest) one = absurd (omega arith)

both_are : (a b : ℕ) (more : List ℕ) → a ∷ b ∷ more ≡ MAGIC → (a ≡ 0xda) × (b ≡ 0xbb)
both_are a b more same = (ap (λ l. get_or l 0 0) same, ap (λ l. get_or l 1 0) same)

pub two_other : (rest : List ℕ) → 2 ≤ length rest → (¬ ((get_or rest 0 0 ≡ 0xda) × (get_or rest 1 0 ≡ 0xbb)) → HasOtherMagic rest) × (HasOtherMagic rest → ¬ ((get_or rest 0 0 ≡ 0xda) × (get_or rest 1 0 ≡ 0xbb)))
two_other [] two = absurd (omega arith)
two_other (a ∷ []) two = absurd (omega arith)
two_other (a ∷ b ∷ rest) two = (
  λ differ more same. differ (both_are a b more same),
  λ other same. let first : a ≡ 0xda = same.0 in let second : b ≡ 0xbb = same.1 in other [] cc,
)

-- a frame's header, and the bytes behind it as its body and what stands behind
pub first_with_body : (bytes head behind : List ℕ) (header : Header) (found : Option Found)
    → head ≡ take 16 bytes → behind ≡ drop 16 bytes → length behind + 16 ≡ length bytes → Spells head header
    → MatchOption found (length behind < header.length) (λ f. (f.header ≡ header) × (length f.body.now ≡ header.length) × (behind ≡ f.body.now ++ f.behind.now))
    → MatchOption found (BeginsNoFrame bytes) (λ f. IsFirst bytes f.header f.body.now f.behind.now)
first_with_body bytes head behind header None front back lengths spells short =
    (unfinished_rest bytes (inr (header, subst (λ h. Spells h header) front spells, omega (arith, lengths, short)))).none
first_with_body bytes head behind header (Some f) front back lengths spells is =
    let all : bytes ≡ head ++ behind = sym (take-append-drop 16 bytes) ∙ ap (λ l. l ++ drop 16 bytes) (sym front) ∙ ap (λ l. head ++ l) (sym back) in
    let split : bytes ≡ header_bytes f.header ++ (f.body.now ++ f.behind.now) =
    all ∙ ap (λ l. l ++ behind) (spells.0 ∙ ap header_bytes (sym is.0)) ∙ ap (λ l. header_bytes f.header ++ l) is.2 in
    record {
      whole = record { header = subst IsHeader (sym is.0) spells.1; length = is.1 ∙ ap (λ h. h.length) (sym is.0) };
      split = split ∙ sym (append_assoc (header_bytes f.header) f.body.now f.behind.now);
    }

-- what sixteen bytes at the front state
pub too_much : (rest head : List ℕ) (count : Option ℕ) → head ≡ take 16 rest → 16 ≤ length rest
    → MatchOption count ((n : ℕ) → ¬ IsTooLong head n) (IsTooLong head) → MatchOption count ((n : ℕ) → ¬ StatesTooMuch rest n) (StatesTooMuch rest)
too_much rest head None front long none = λ n states. none n (subst (λ h. IsTooLong h n) (sym front) states.1)
too_much rest head (Some count) front long is = (long, subst (λ h. IsTooLong h count) front is)
