-- Scripts, read line by line.
use Rattle.std.proofs.Common.{◌≡◌, ◌≢◌, ◌⊎◌, ◌↔◌, ℕ, ◌+◌, ◌≤◌, List, [], ◌∷◌, ◌++◌, length, Bool, true, false, refl, sym, subst, ◌∙◌, inl, inr, arith, length-append}
use Rattle.std.specs.Bool.{OnTrue, OnFalse}
use Rattle.std.specs.List.{Contains}
use Rattle.std.proofs.lemmas.List.{append-nil}
use Rattle.std.proofs.lemmas.List.Elements.{All-nil, All-push, Contains-append_left, Contains-push, Contains-push_cases}
use Rattle.dubbo_play.specs.FirstForm.{Call, IsCall, AreCalls, IsWord, Line, Says, calls_in, service_line}
use Rattle.dubbo_play.specs.FirstForm.Line.{nothing, service, call}
use Rattle.dubbo_play.specs.FirstScript.{lines_of, HaveCalls, IsOfFirstForm, MayFollow, Reads}
use Rattle.dubbo_play.specs.FirstScript.HaveCalls.{none, more}
use Rattle.dubbo_play.specs.Reading.{AreRead}
use Rattle.dubbo_play.proofs.Lines.{says_once, service_bytes, call_words, service_said}

-- `number` lines of the bytes have been read, and `rest` follows them
pub record IsReadTo (bytes rest : List ℕ) (number : ℕ) (calls : List Call) (services : List (List ℕ)) : Type 0 where
  pub before : List (List ℕ)
  pub cut : lines_of bytes ≡ before ++ lines_of rest
  pub counted : number ≡ length before
  pub room : number + length rest ≤ length bytes
  pub read : AreRead before calls services

-- a line that says nothing or a call isn't a service line
no_service : (line path method : List ℕ) (says : Line) → Says line says → IsWord path → IsWord method
    → says ≢ service path method → line ≢ service_line path method
no_service line path method says said is ism other same =
    other (says_once line says (service path method) said (service_said line path method is ism same))

-- one more line, which is no service line, changes no service
others : (lines : List (List ℕ)) (line path method : List ℕ) → line ≢ service_line path method
    → Contains lines (service_line path method) ↔ Contains (lines ++ line ∷ []) (service_line path method)
others lines line path method other = (
  Contains-append_left lines (line ∷ []) (service_line path method),
  λ there. elim (Contains-push_cases lines line (service_line path method) there) [ inl old ↦ old | inr same ↦ absurd (other same) ],
)

-- one more line that says nothing
pub read_nothing : (lines : List (List ℕ)) (calls : List Call) (services : List (List ℕ)) (line : List ℕ)
    → Says line nothing → AreRead lines calls services → AreRead (lines ++ line ∷ []) calls services
read_nothing lines calls services line said read = record {
  good = subst (HaveCalls (lines ++ line ∷ [])) (append-nil calls)
      (more lines calls line nothing read.good (record { written = said; placed = tt }));
  known = λ path method is ism.
      let old = read.known path method is ism in
      let new = others lines line path method (no_service line path method nothing said is ism (λ e. cc)) in
      ((λ there. new.0 (old.0 there)), (λ there. old.1 (new.1 there)));
}

-- one more line that names a new service
pub read_service : (lines : List (List ℕ)) (calls : List Call) (old new : List (List ℕ)) (line path method : List ℕ)
    → Says line (service path method) → ¬ Contains old line
    → ((other : List ℕ) → Contains new other ↔ (Contains old other ⊎ (line ≡ other)))
    → AreRead lines calls old → AreRead (lines ++ line ∷ []) calls new
read_service lines calls old new line path method said fresh grown read =
    let words = service_bytes line path method _ said refl in
    let first : ¬ Contains lines (service_line path method) = λ there.
    fresh (subst (Contains old) (sym words.2) ((read.known path method words.0 words.1).1 there)) in
    record {
      good = subst (HaveCalls (lines ++ line ∷ [])) (append-nil calls)
          (more lines calls line (service path method) read.good (record { written = said; placed = first }));
      known = λ p m is ism.
          let was = read.known p m is ism in (
            (λ there. elim ((grown (service_line p m)).0 there) [
              | inl known ↦ Contains-append_left lines (line ∷ []) (service_line p m) (was.0 known)
              | inr same ↦ subst (Contains (lines ++ line ∷ [])) same (Contains-push lines line)
            ]),
            (λ there. (grown (service_line p m)).1 (elim (Contains-push_cases lines line (service_line p m) there)
                [ inl known ↦ inl (was.1 known) | inr same ↦ inr same ])),
          );
    }

-- one more line that names a call of a known service
pub read_call : (lines : List (List ℕ)) (calls : List Call) (services : List (List ℕ)) (line : List ℕ) (c : Call)
    → Says line (call c) → Contains services (service_line c.path c.method) → length calls ≤ 4095
    → AreRead lines calls services → AreRead (lines ++ line ∷ []) (calls ++ c ∷ []) services
read_call lines calls services line c said there few read =
    let words = call_words line c _ said refl in
    let offered = (read.known c.path c.method words.path words.method).0 there in
    record {
      good = more lines calls line (call c) read.good (record { written = said; placed = (offered, few) });
      known = λ path method is ism.
          let old = read.known path method is ism in
          let new = others lines line path method (no_service line path method (call c) said is ism (λ e. cc)) in
          ((λ have. new.0 (old.0 have)), (λ have. old.1 (new.1 have)));
    }

-- a service that has come isn't named again
pub service_refused : (lines : List (List ℕ)) (calls : List Call) (services : List (List ℕ)) (line path method : List ℕ)
    → Says line (service path method) → ¬ ¬ Contains services line → AreRead lines calls services
    → (says : Line) → ¬ IsOfFirstForm lines (length calls) line says
service_refused lines calls services line path method said there read says is =
    let words = service_bytes line path method _ said refl in
    let placed : MayFollow lines (length calls) (service path method)
    = subst (MayFollow lines (length calls)) (says_once line says _ is.written said) is.placed in
    there (λ have. placed ((read.known path method words.0 words.1).0 (subst (Contains services) words.2 have)))

-- a call has its service before it, and not too many calls
pub call_refused : (lines : List (List ℕ)) (calls : List Call) (services : List (List ℕ)) (line : List ℕ) (c : Call)
    → Says line (call c) → (Contains services (service_line c.path c.method) → length calls ≤ 4095 → ⊥) → AreRead lines calls services
    → (says : Line) → ¬ IsOfFirstForm lines (length calls) line says
call_refused lines calls services line c said wrong read says is =
    let words = call_words line c _ said refl in
    let placed : MayFollow lines (length calls) (call c)
    = subst (MayFollow lines (length calls)) (says_once line says _ is.written said) is.placed in
    wrong ((read.known c.path c.method words.path words.method).1 placed.0) placed.1

-- the calls of one line more fit
one_more : (lines : List (List ℕ)) (calls : List Call) (line : List ℕ) (says : Line) → Says line says → MayFollow lines (length calls) says
    → AreCalls calls → AreCalls (calls ++ calls_in says)
one_more lines calls line nothing said placed fit = subst AreCalls (sym (append-nil calls)) fit
one_more lines calls line (service path method) said placed fit = subst AreCalls (sym (append-nil calls)) fit
one_more lines calls line (call c) said placed fit = record {
  few = rw length-append (omega (arith, placed.1));
  each = All-push IsCall calls c fit.each (call_words line c _ said refl);
}

-- what a script's calls fit
pub all_fit : (lines : List (List ℕ)) (calls : List Call) → HaveCalls lines calls → AreCalls calls
all_fit _ _ none = record { few = omega arith; each = All-nil IsCall }
all_fit _ _ (more before calls line says have is) = one_more before calls line says is.written is.placed (all_fit before calls have)

-- what holds where a test is true, and where it is false
pub on_true : (b : Bool) (P : Type 0) → (b ≡ true → P) → OnTrue b P
on_true true P holds = holds refl
on_true false P holds = tt

pub on_false : (b : Bool) (P : Type 0) → (b ≡ false → P) → OnFalse b P
on_false true P holds = tt
on_false false P holds = holds refl

-- nothing has been read of the bytes
pub begun : (bytes : List ℕ) → IsReadTo bytes bytes 0 [] []
begun bytes = record {
  before = [];
  cut = refl;
  counted = refl;
  room = omega arith;
  read = record { good = none; known = λ path method is ism. ((λ there. there), (λ there. there)) };
}

-- all lines have been read
pub all_read : (bytes rest : List ℕ) (number : ℕ) (calls : List Call) (services : List (List ℕ))
    → length rest ≡ 0 → IsReadTo bytes rest number calls services → Reads bytes calls
all_read bytes [] number calls services end is =
    subst (λ lines. HaveCalls lines calls) (sym (is.cut ∙ append-nil is.before)) is.read.good
all_read bytes (byte ∷ rest) number calls services end is = absurd (omega arith)
