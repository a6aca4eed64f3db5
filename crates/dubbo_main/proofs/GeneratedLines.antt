-- The forms of a generated call's arguments.
use Rattle.std.proofs.Common.{length, ◌*◌, ◌^◌, ◌<◌, ◌≡◌, ◌≤◌, ◌%◌, ◌/◌, ◌+◌, ℕ, zero, suc, List, [], ◌++◌, codes, refl, sym, ap, ◌∙◌, arith}
use Rattle.std.specs.Prelude.{decimal, get_or, flat_map}
use Rattle.std.proofs.lemmas.List.{append-nil, append_assoc, length-append}
use Rattle.std.proofs.lemmas.Fmt.{length-decimal-le}
use Rattle.dubbo_main.specs.GeneratedScript.{argument, call_line, kinds, call_lines, generated_script, service_line}

pub argument_0 : (form : ℕ) (number : List ℕ) → form ≡ 0 → argument form number ≡ number ++ []
argument_0 zero number is = sym (append-nil number)
argument_0 (suc form) number is = absurd (omega (arith, is))

pub argument_1 : (form : ℕ) (number : List ℕ) → form ≡ 1 → argument form number ≡ codes "\"" ++ number ++ codes "\""
argument_1 zero number is = absurd (omega (arith, is))
argument_1 (suc zero) number is = refl
argument_1 (suc (suc form)) number is = absurd (omega (arith, is))

pub argument_2 : (form : ℕ) (number : List ℕ) → form ≡ 2 → argument form number ≡ codes "[[" ++ number ++ codes "],#1]"
argument_2 zero number is = absurd (omega (arith, is))
argument_2 (suc zero) number is = absurd (omega (arith, is))
argument_2 (suc (suc zero)) number is = refl
argument_2 (suc (suc (suc form))) number is = absurd (omega (arith, is))

-- pieces that are put behind a text one after another
pieces_behind : (text a b c x y z n : List ℕ) → ((((((text ++ a) ++ b) ++ c) ++ x) ++ y) ++ z) ++ n ≡ text ++ (a ++ b ++ c ++ (x ++ y ++ z) ++ n)
pieces_behind text a b c x y z n =
    let one : (text ++ a) ++ b ≡ text ++ (a ++ b) = append_assoc text a b in
    let two : ((text ++ a) ++ b) ++ c ≡ text ++ (a ++ b ++ c) = ap (λ l. l ++ c) one ∙ append_assoc text (a ++ b) c in
    let three : (((text ++ a) ++ b) ++ c) ++ x ≡ text ++ (a ++ b ++ c ++ x) = ap (λ l. l ++ x) two ∙ append_assoc text (a ++ b ++ c) x in
    let four : ((((text ++ a) ++ b) ++ c) ++ x) ++ y ≡ text ++ (a ++ b ++ c ++ x ++ y) = ap (λ l. l ++ y) three ∙ append_assoc text (a ++ b ++ c ++ x) y in
    let five : (((((text ++ a) ++ b) ++ c) ++ x) ++ y) ++ z ≡ text ++ (a ++ b ++ c ++ x ++ y ++ z) = ap (λ l. l ++ z) four ∙ append_assoc text (a ++ b ++ c ++ x ++ y) z in
    let args : a ++ b ++ c ++ x ++ y ++ z ≡ a ++ b ++ c ++ (x ++ y ++ z) =
    ap (λ l. l ++ z) (append_assoc (a ++ b ++ c) x y) ∙ append_assoc (a ++ b ++ c) (x ++ y) z in
    ap (λ l. l ++ n) (five ∙ ap (λ l. text ++ l) args) ∙ append_assoc text (a ++ b ++ c ++ (x ++ y ++ z)) n

-- a line that was put behind a text piece by piece
pub line_of_pieces : (text kind front number behind : List ℕ) (call : ℕ) (t1 t2 t3 t4 t5 t6 t7 : List ℕ) → kind ≡ get_or kinds (call % 8) [] → number ≡ decimal call
    → ((any : List ℕ) → argument (call / 8 % 4) any ≡ front ++ any ++ behind)
    → t1 ≡ text ++ codes "call failover - - - demo.G - " → t2 ≡ t1 ++ kind → t3 ≡ t2 ++ codes " Ljava/lang/Object; " → t4 ≡ t3 ++ front → t5 ≡ t4 ++ number
    → t6 ≡ t5 ++ behind → t7 ≡ t6 ++ codes "\n" → t7 ≡ text ++ call_line call
line_of_pieces text kind front number behind call t1 t2 t3 t4 t5 t6 t7 is digits form e1 e2 e3 e4 e5 e6 e7 =
    let all : t7 ≡ ((((((text ++ codes "call failover - - - demo.G - ") ++ kind) ++ codes " Ljava/lang/Object; ") ++ front) ++ number) ++ behind) ++ codes "\n" =
    e7 ∙ ap (λ l. l ++ codes "\n") (e6 ∙ ap (λ l. l ++ behind) (e5 ∙ ap (λ l. l ++ number) (e4 ∙ ap (λ l. l ++ front)
    (e3 ∙ ap (λ l. l ++ codes " Ljava/lang/Object; ") (e2 ∙ ap (λ l. l ++ kind) e1))))) in
    let joined = pieces_behind text (codes "call failover - - - demo.G - ") kind (codes " Ljava/lang/Object; ") front number behind (codes "\n") in
    let argued : front ++ number ++ behind ≡ argument (call / 8 % 4) (decimal call) = sym (form number) ∙ ap (λ any. argument (call / 8 % 4) any) digits in
    all ∙ joined
    ∙ ap (λ k. text ++ (codes "call failover - - - demo.G - " ++ k ++ codes " Ljava/lang/Object; " ++ (front ++ number ++ behind) ++ codes "\n")) is
    ∙ ap (λ a. text ++ (codes "call failover - - - demo.G - " ++ get_or kinds (call % 8) [] ++ codes " Ljava/lang/Object; " ++ a ++ codes "\n")) argued

-- a script of no calls is its services
pub script_begun : (text services : List ℕ) → text ≡ services → services ≡ flat_map service_line kinds → text ≡ flat_map service_line kinds ++ call_lines zero
script_begun text services is are = is ∙ are ∙ sym (append-nil (flat_map service_line kinds))

-- the script of a call more has its line behind
pub script_next : (text more : List ℕ) (call : ℕ) → text ≡ generated_script call → more ≡ text ++ call_line call → more ≡ generated_script (call + 1)
script_next text more call is next =
    let one : suc call ≡ call + 1 = omega arith in
    next ∙ ap (λ t. t ++ call_line call) is ∙ append_assoc (flat_map service_line kinds) (call_lines call) (call_line call) ∙ ap generated_script one

length_argument : (form : ℕ) (number : List ℕ) → length (argument form number) ≤ length number + 8
length_argument zero number = omega arith
length_argument (suc zero) number = let e = length-append (codes "\"" ++ number) (codes "\"") in omega (arith, e)
length_argument (suc (suc zero)) number = let e = length-append (codes "[[" ++ number) (codes "],#1]") in omega (arith, e)
length_argument (suc (suc (suc form))) number = let e = length-append (codes "[" ++ number) (codes ",#0]") in omega (arith, e)

length_kind : (place : ℕ) → length (get_or kinds place []) ≤ 7
length_kind zero = omega arith
length_kind (suc zero) = omega arith
length_kind (suc (suc zero)) = omega arith
length_kind (suc (suc (suc zero))) = omega arith
length_kind (suc (suc (suc (suc zero)))) = omega arith
length_kind (suc (suc (suc (suc (suc zero))))) = omega arith
length_kind (suc (suc (suc (suc (suc (suc zero)))))) = omega arith
length_kind (suc (suc (suc (suc (suc (suc (suc zero))))))) = omega arith
length_kind (suc (suc (suc (suc (suc (suc (suc (suc place)))))))) = omega arith

length_line : (call : ℕ) → call < 10000 → length (call_line call) ≤ 100
length_line call few =
    let kind = get_or kinds (call % 8) [] in
    let arg = argument (call / 8 % 4) (decimal call) in
    let before = codes "call failover - - - demo.G - " in
    let type = codes " Ljava/lang/Object; " in
    let one = length-append before kind in
    let two = length-append (before ++ kind) type in
    let three = length-append (before ++ kind ++ type) arg in
    let four = length-append (before ++ kind ++ type ++ arg) (codes "\n") in
    let digits : length (decimal call) ≤ 4 = length-decimal-le 4 call (omega arith) (omega (arith, few)) (omega (arith, few)) in
    let a = length_argument (call / 8 % 4) (decimal call) in
    let k = length_kind (call % 8) in
    omega (arith, one, two, three, four, digits, a, k)

length_lines : (calls : ℕ) → calls ≤ 4096 → length (call_lines calls) ≤ calls * 100
length_lines zero few = omega arith
length_lines (suc calls) few =
    let before = length_lines calls (omega (arith, few)) in
    let line = length_line calls (omega (arith, few)) in
    let all = length-append (call_lines calls) (call_line calls) in
    omega (arith, before, line, all)

-- a script that is made is short
pub length_script : (calls : ℕ) → calls ≤ 4096 → length (generated_script calls) < 2 ^ 31
length_script calls few =
    let lines = length_lines calls few in
    let all = length-append (flat_map service_line kinds) (call_lines calls) in
    omega (arith, lines, all, few)
