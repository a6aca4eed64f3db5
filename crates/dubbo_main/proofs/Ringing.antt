-- What a line of `ring` asks for is determined by its bytes, and the status by the lines.
use Rattle.std.proofs.Common.{◌≡◌, ◌≢◌, ℕ, suc, ◌+◌, ◌≤◌, List, [], ◌∷◌, ◌++◌, length, get_or, refl, sym, ap, subst, ◌∙◌, arith, codes, append_assoc, append-nil}
use Rattle.std.proofs.lemmas.List.{append_cancel_left}
use Rattle.dubbo_play.specs.FirstScript.{lines_of}
use Rattle.dubbo_main.specs.RingLines.{Ask, Says, Does, Takes, IsDamaged, Runs, damaged_line}
use Rattle.dubbo_main.specs.RingLines.Ask.{nothing, add, remove, choose}
use Rattle.dubbo_main.specs.RingLines.Runs.{ended, taken, damaged}
use Rattle.dubbo_main.specs.declared.commands.ring.Damage.{Damage}
use Rattle.dubbo_main.specs.declared.commands.ring.Damage.TheVariants.{Form, Repeated, Unknown, Many}

-- lines with another first byte
apart : (line line' : List ℕ) → line ≡ line' → get_or line 0 0 ≢ get_or line' 0 0 → ⊥
apart line line' same other = other (ap (λ l. get_or l 0 0) same)

-- a line asks for one thing
pub says_once : (line : List ℕ) (one other : Ask) → Says line one → Says line other → one ≡ other
says_once line nothing nothing s t = refl
says_once line nothing (add n) s t = absurd (apart [] (codes "add " ++ n) (sym s ∙ t.1) (λ e. omega (arith, e)))
says_once line nothing (remove n) s t = absurd (apart [] (codes "remove " ++ n) (sym s ∙ t.1) (λ e. omega (arith, e)))
says_once line nothing (choose n) s t = absurd (apart [] (codes "key " ++ n) (sym s ∙ t.1) (λ e. omega (arith, e)))
says_once line (add n) nothing s t = absurd (apart (codes "add " ++ n) [] (sym s.1 ∙ t) (λ e. omega (arith, e)))
says_once line (remove n) nothing s t = absurd (apart (codes "remove " ++ n) [] (sym s.1 ∙ t) (λ e. omega (arith, e)))
says_once line (choose n) nothing s t = absurd (apart (codes "key " ++ n) [] (sym s.1 ∙ t) (λ e. omega (arith, e)))
says_once line (add n) (add m) s t = ap add (append_cancel_left (codes "add ") n m (sym s.1 ∙ t.1))
says_once line (remove n) (remove m) s t = ap remove (append_cancel_left (codes "remove ") n m (sym s.1 ∙ t.1))
says_once line (choose n) (choose m) s t = ap choose (append_cancel_left (codes "key ") n m (sym s.1 ∙ t.1))
says_once line (add n) (remove m) s t = absurd (apart (codes "add " ++ n) (codes "remove " ++ m) (sym s.1 ∙ t.1) (λ e. omega (arith, e)))
says_once line (add n) (choose m) s t = absurd (apart (codes "add " ++ n) (codes "key " ++ m) (sym s.1 ∙ t.1) (λ e. omega (arith, e)))
says_once line (remove n) (add m) s t = absurd (apart (codes "remove " ++ n) (codes "add " ++ m) (sym s.1 ∙ t.1) (λ e. omega (arith, e)))
says_once line (remove n) (choose m) s t = absurd (apart (codes "remove " ++ n) (codes "key " ++ m) (sym s.1 ∙ t.1) (λ e. omega (arith, e)))
says_once line (choose n) (add m) s t = absurd (apart (codes "key " ++ n) (codes "add " ++ m) (sym s.1 ∙ t.1) (λ e. omega (arith, e)))
says_once line (choose n) (remove m) s t = absurd (apart (codes "key " ++ n) (codes "remove " ++ m) (sym s.1 ∙ t.1) (λ e. omega (arith, e)))

-- a line that asks for this does it
does_this : (names : List (List ℕ)) (line : List ℕ) (ask : Ask) (after : List (List ℕ)) (printed : List ℕ)
    → Says line ask → Takes names line after printed → Does names ask after printed
does_this names line ask after printed says takes =
    subst (λ a. Does names a after printed) (says_once line takes.ask ask takes.says says) takes.does

-- a line that is taken isn't damaged
pub taken_or_damaged : (names : List (List ℕ)) (line : List ℕ) (after : List (List ℕ)) (printed : List ℕ) (damage : Damage)
    → Takes names line after printed → ¬ IsDamaged names line damage
taken_or_damaged names line after printed Form takes none = none takes.ask takes.says
taken_or_damaged names line after printed Repeated takes repeats =
    let does = does_this names line (add repeats.0) after printed repeats.1 takes in
    does.0.new.absent repeats.2
taken_or_damaged names line after printed Unknown takes unknown =
    let does = does_this names line (remove unknown.0) after printed unknown.1 takes in
    unknown.2 does.0
taken_or_damaged names line after printed Many takes many =
    let does = does_this names line (add many.0) after printed many.1 takes in
    omega (arith, does.0.room, many.3)

-- what the ring has behind a line
after_once : (names : List (List ℕ)) (ask : Ask) (one other : List (List ℕ)) (p q : List ℕ) → Does names ask one p → Does names ask other q → one ≡ other
after_once names nothing one other p q x y = x.0 ∙ sym y.0
after_once names (add name) one other p q x y = x.1 ∙ sym y.1
after_once names (remove name) one other p q x y = x.1 ∙ sym y.1
after_once names (choose key) one other p q x y = x.0 ∙ sym y.0

pub taken_once : (names : List (List ℕ)) (line : List ℕ) (one other : List (List ℕ)) (p q : List ℕ)
    → Takes names line one p → Takes names line other q → one ≡ other
taken_once names line one other p q x y = after_once names x.ask one other p q x.does (does_this names line x.ask other q x.says y)

-- equal lines at equal rings end with one status
same_status : (names names' : List (List ℕ)) (number number' : ℕ) (lines lines' : List (List ℕ)) (status status' : ℕ) (text text' : List ℕ)
    → Runs names number lines status text → Runs names' number' lines' status' text' → names ≡ names' → lines ≡ lines' → status ≡ status'
same_status _ _ _ _ _ _ _ _ _ _ (ended n k) (ended n' k') ns ls = refl
same_status _ _ _ _ _ _ _ _ _ _ (ended n k) (taken n' a' k' s' line' p' t' lines' takes' runs') ns ls = absurd cc
same_status _ _ _ _ _ _ _ _ _ _ (ended n k) (damaged n' k' line' lines' d' is') ns ls = absurd cc
same_status _ _ _ _ _ _ _ _ _ _ (taken n a k s line p t lines takes runs) (ended n' k') ns ls = absurd cc
same_status _ _ _ _ _ _ _ _ _ _ (taken n a k s line p t lines takes runs) (taken n' a' k' s' line' p' t' lines' takes' runs') ns ls =
    let firsts : line ≡ line' = cc in
    let others : lines ≡ lines' = cc in
    let there : Takes n line a' p' = subst (λ m. Takes m line a' p') (sym ns) (subst (λ l. Takes n' l a' p') (sym firsts) takes') in
    same_status a a' (suc k) (suc k') lines lines' s s' t t' runs runs' (taken_once n line a a' p p' takes there) others
same_status _ _ _ _ _ _ _ _ _ _ (taken n a k s line p t lines takes runs) (damaged n' k' line' lines' d' is') ns ls =
    let firsts : line ≡ line' = cc in
    absurd (taken_or_damaged n line a p d' takes (subst (λ m. IsDamaged m line d') (sym ns) (subst (λ l. IsDamaged n' l d') (sym firsts) is')))
same_status _ _ _ _ _ _ _ _ _ _ (damaged n k line lines d is) (ended n' k') ns ls = absurd cc
same_status _ _ _ _ _ _ _ _ _ _ (damaged n k line lines d is) (taken n' a' k' s' line' p' t' lines' takes' runs') ns ls =
    let firsts : line ≡ line' = cc in
    absurd (taken_or_damaged n line a' p' d (subst (λ m. Takes m line a' p') (sym ns) (subst (λ l. Takes n' l a' p') (sym firsts) takes')) is)
same_status _ _ _ _ _ _ _ _ _ _ (damaged n k line lines d is) (damaged n' k' line' lines' d' is') ns ls = refl

pub ring_once : (names : List (List ℕ)) (number : ℕ) (lines : List (List ℕ)) (status status' : ℕ) (text text' : List ℕ)
    → Runs names number lines status text → Runs names number lines status' text' → status ≡ status'
ring_once names number lines status status' text text' one other =
    same_status names names number number lines lines status status' text text' one other refl refl

-- so far the lines were taken: what the rest come to, all lines come to, with the text so far before it
pub record IsTakenTo (bytes rest : List ℕ) (number : ℕ) (names : List (List ℕ)) (text : List ℕ) : Type 0 where
  pub goes_on : (status : ℕ) (more : List ℕ) → Runs names number (lines_of rest) status more → Runs [] 1 (lines_of bytes) status (text ++ more)
  pub room : number + length rest ≤ length bytes + 1

pub taken_more : (bytes rest line left : List ℕ) (number : ℕ) (names after : List (List ℕ)) (text printed all : List ℕ)
    → lines_of rest ≡ line ∷ lines_of left → length left + 1 ≤ length rest → Takes names line after printed → all ≡ text ++ printed
    → IsTakenTo bytes rest number names text → IsTakenTo bytes left (number + 1) after all
taken_more bytes rest line left number names after text printed all cut less takes is so = record {
  goes_on = λ status more runs.
      let next : Runs after (suc number) (lines_of left) status more = subst (λ n. Runs after n (lines_of left) status more) (omega arith) runs in
      let here : Runs names number (lines_of rest) status (printed ++ more) = subst (λ ls. Runs names number ls status (printed ++ more)) (sym cut)
      (taken names after number status line printed more (lines_of left) takes next) in
      subst (λ t. Runs [] 1 (lines_of bytes) status t) (sym (append_assoc text printed more) ∙ ap (λ t. t ++ more) (sym is)) (so.goes_on status (printed ++ more) here);
  room = omega (arith, so.room);
}

-- the rest has no line
pub taken_all : (bytes rest : List ℕ) (number : ℕ) (names : List (List ℕ)) (text : List ℕ)
    → length rest ≡ 0 → IsTakenTo bytes rest number names text → Runs [] 1 (lines_of bytes) 0 text
taken_all bytes [] number names text none so =
    subst (λ t. Runs [] 1 (lines_of bytes) 0 t) (append-nil text) (so.goes_on 0 [] (ended names number))
taken_all bytes (byte ∷ rest) number names text none so = absurd (omega arith)

-- the first line of the rest is damaged
pub taken_damaged : (bytes rest line left : List ℕ) (number : ℕ) (names : List (List ℕ)) (text printed before all : List ℕ) (damage : Damage)
    → lines_of rest ≡ line ∷ lines_of left → IsDamaged names line damage → printed ≡ [] → before ≡ text ++ printed → all ≡ before ++ damaged_line number damage
    → IsTakenTo bytes rest number names text → Runs [] 1 (lines_of bytes) 8 all
taken_damaged bytes rest line left number names text printed before all damage cut is none printing last so =
    let here : Runs names number (lines_of rest) 8 (damaged_line number damage) = subst (λ ls. Runs names number ls 8 (damaged_line number damage)) (sym cut) (damaged names number line (lines_of left) damage is) in
    let unprinted : before ≡ text = printing ∙ ap (λ p. text ++ p) none ∙ append-nil text in
    subst (λ t. Runs [] 1 (lines_of bytes) 8 t) (sym (last ∙ ap (λ t. t ++ damaged_line number damage) unprinted)) (so.goes_on 8 (damaged_line number damage) here)
