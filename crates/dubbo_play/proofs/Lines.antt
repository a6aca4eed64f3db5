-- What a line says is determined by its bytes.
use Rattle.std.proofs.Common.{◌≡◌, ◌≢◌, ℕ, List, [], ◌∷◌, length, get_or, refl, sym, ap, subst, ◌∙◌, arith, codes}
use Rattle.std.proofs.lemmas.Fmt.{signed_decimal_injective}
use Rattle.std.proofs.lemmas.List.{append_cancel_left}
use Rattle.dubbo_play.proofs.Ints.{small}
use Rattle.dubbo_play.proofs.Targets.{target_once}
use Rattle.dubbo_play.specs.FirstForm.{Call, IsCall, IsWord, Line, Says, call_line, service_line}
use Rattle.dubbo_play.specs.FirstForm.Line.{nothing, service, call}
use Rattle.dubbo_play.specs.FirstForm.Says.{empty, comment, offers, asks}

-- a line without bytes, and one that begins with x23, say nothing
pub blank : (line : List ℕ) → length line ≡ 0 → Says line nothing
blank [] none = empty
blank (byte ∷ rest) none = absurd (omega arith)

pub remark : (line : List ℕ) → get_or line 0 0 ≡ 35 → Says line nothing
remark [] same = empty
remark (byte ∷ rest) same = subst (λ b. Says (b ∷ rest) nothing) (sym same) (comment rest)

-- the bytes of a service, and those of a call
pub service_said : (line path method : List ℕ) → IsWord path → IsWord method → line ≡ service_line path method → Says line (service path method)
service_said line path method is ism same = subst (λ l. Says l (service path method)) (sym same) (offers path method is ism)

pub call_said : (line : List ℕ) (c : Call) → IsCall c → line ≡ call_line c → Says line (call c)
call_said line c is same = subst (λ l. Says l (call c)) (sym same) (asks c is)

-- two calls whose parts are equal
same_call : (c d : Call) → c.path ≡ d.path → c.method ≡ d.method → c.argument ≡ d.argument → c ≡ d
same_call c d paths methods arguments =
    ap (λ path. record { path = path; method = c.method; argument = c.argument }) paths
    ∙ ap (λ method. record { path = d.path; method = method; argument = c.argument }) methods
    ∙ ap (λ argument. record { path = d.path; method = d.method; argument = argument }) arguments

-- the calls of two equal call lines are equal
call_once : (c d : Call) → IsCall c → IsCall d → call_line c ≡ call_line d → c ≡ d
call_once c d is is' same =
    let all = target_once c.path c.method _ d.path d.method _ is.path is'.path is.method is'.method
    (append_cancel_left (codes "call failover - - - ") _ _ same) in
    same_call c d all.0 all.1 (signed_decimal_injective c.argument d.argument (small _ is.argument) (small _ is'.argument) all.2)

-- the services of two equal service lines are equal
service_once : (p m q n : List ℕ) → IsWord p → IsWord m → IsWord q → IsWord n → service_line p m ≡ service_line q n → service p m ≡ service q n
service_once p m q n is ism is' ism' same =
    let all = target_once p m _ q n _ is is' ism ism' (append_cancel_left (codes "service ") _ _ same) in
    let paths : p ≡ q = all.0 in
    let methods : m ≡ n = all.1 in
    cc

-- lines with another first byte
apart : (line line' : List ℕ) → line ≡ line' → get_or line 0 0 ≢ get_or line' 0 0 → ⊥
apart line line' same other = other (ap (λ l. get_or l 0 0) same)

-- equal lines say the same
same_says : (line line' : List ℕ) (a b : Line) → Says line a → Says line' b → line ≡ line' → a ≡ b
same_says _ _ _ _ empty empty same = refl
same_says _ _ _ _ empty (comment rest) same = refl
same_says _ _ _ _ empty (offers p m is ism) same = absurd (apart _ _ same (λ e. omega (arith, e)))
same_says _ _ _ _ empty (asks c is) same = absurd (apart _ _ same (λ e. omega (arith, e)))
same_says _ _ _ _ (comment rest) empty same = refl
same_says _ _ _ _ (comment rest) (comment rest') same = refl
same_says _ _ _ _ (comment rest) (offers p m is ism) same = absurd (apart _ _ same (λ e. omega (arith, e)))
same_says _ _ _ _ (comment rest) (asks c is) same = absurd (apart _ _ same (λ e. omega (arith, e)))
same_says _ _ _ _ (offers p m is ism) empty same = absurd (apart _ _ same (λ e. omega (arith, e)))
same_says _ _ _ _ (offers p m is ism) (comment rest) same = absurd (apart _ _ same (λ e. omega (arith, e)))
same_says _ _ _ _ (offers p m is ism) (offers q n is' ism') same = service_once p m q n is ism is' ism' same
same_says _ _ _ _ (offers p m is ism) (asks c is') same = absurd (apart _ _ same (λ e. omega (arith, e)))
same_says _ _ _ _ (asks c is) empty same = absurd (apart _ _ same (λ e. omega (arith, e)))
same_says _ _ _ _ (asks c is) (comment rest) same = absurd (apart _ _ same (λ e. omega (arith, e)))
same_says _ _ _ _ (asks c is) (offers p m is' ism) same = absurd (apart _ _ same (λ e. omega (arith, e)))
same_says _ _ _ _ (asks c is) (asks d is') same = let e : c ≡ d = call_once c d is is' same in ap call e

-- a line says one thing
pub says_once : (line : List ℕ) (a b : Line) → Says line a → Says line b → a ≡ b
says_once line a b here there = same_says line line a b here there refl

-- the bytes of a line that says a service
pub service_bytes : (line path method : List ℕ) (says : Line) → Says line says → says ≡ service path method
    → IsWord path × IsWord method × (line ≡ service_line path method)
service_bytes _ path method _ empty is = absurd cc
service_bytes _ path method _ (comment rest) is = absurd cc
service_bytes _ path method _ (offers p m isp ism) is =
    let paths : p ≡ path = cc in
    let methods : m ≡ method = cc in
    (subst IsWord paths isp, subst IsWord methods ism, ap (λ w. service_line w m) paths ∙ ap (λ w. service_line path w) methods)
service_bytes _ path method _ (asks c isc) is = absurd cc

-- the call of a line that says one
pub call_words : (line : List ℕ) (c : Call) (says : Line) → Says line says → says ≡ call c → IsCall c
call_words _ c _ empty is = absurd cc
call_words _ c _ (comment rest) is = absurd cc
call_words _ c _ (offers p m isp ism) is = absurd cc
call_words _ c _ (asks d isd) is = let e : d ≡ c = cc in subst IsCall e isd
