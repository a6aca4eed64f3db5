-- `extended` makes a value of no bytes, whose ghost field is the bytes before and then the piece.
use Rattle.dubbo_bodies.proofs.WalkNames.{◌≡◌, [], ◌∷◌, ◌++◌, refl, proved, leaves, by, emp, Fml, named, Val, vstruct, vcons, vnil, fact, fact_i, tables, ‵, raw, ◌⊛◌, ◌$◌, ◌∵◌, !, qed, keep, split, fjoin, use0, no_more, and_then, returns, enter, alloc_all, pass_all, free_all, look_at, get, sets, agg, makes_shadow, plain, types_at, type_at, owns, nothing, yes, u8, RefOf, SliceRefOf, shr_vals, shr_Tells, shr_slice_vals, shr_slice_Tells, shr_slice_Lawful, alive, Res, Stays, walk_of, stay_dropped, Goes-dropped}
use Rattle.dubbo_bodies.specs.contracts.fed_bytes.FedBytes as fed
use Rattle.dubbo_bodies.specs.contracts.fed_bytes.FedBytes.extended as f
use Rattle.dubbo_bodies.proofs.fed_bytes.FedBytes.extended.Statement.{statement}
use Rattle.dubbo_bodies.proofs.fed_bytes.FedBytes.extended.Code as code

pub extended_spec : {M : Type 1} → statement M
extended_spec 𝓤 𝓛 𝓜 𝓡 wired =
    let self = RefOf (0 ∷ []) tt (plain (λ _. fed.the_row)) (λ _. tt) in
    let piece = SliceRefOf (1 ∷ []) tt (plain (λ _. u8)) (λ _. tt) in
    let stayed : Stays f.ended.signature.params f.ended.kept = (stay_dropped self yes, (stay_dropped piece yes, tt)) in
    let c = f.clauses 𝓛 𝓜.mem 𝓡.returns in let W = walk_of 𝓛 f.ended stayed c in let 𝓣 = tables 𝓤 𝓛.H 𝓜 𝓡 𝓡.env in
    proved 𝓛 f.ended stayed c 𝓜 𝓡 (Goes-dropped 𝓛 2 self yes (λ κs x w. refl), (Goes-dropped 𝓛 2 piece yes (λ κs x w. refl), tt))
    f.Key.name code.function (code.unfolded 𝓤 𝓛.H 𝓜 𝓡 wired)
    (λ κs. (shr_vals, (shr_slice_vals, tt))) (λ κs. (shr_Tells (named 0) κs.0 fed.the_row, (shr_slice_Tells (named 1) κs.1.0 u8, tt))) (λ κs qs bounds a g are.
    let y : W.Ghost = ((κs, qs, bounds, a, (shr_vals a.0, (shr_slice_vals a.1.0, tt))), g) in
    let made : Val = vstruct (vcons (vstruct vnil) vnil) in
    let seen : Res f.signature κs = record { marker = record {}; bytes = a.0.now.bytes ++ a.1.0.now } in
    let Owned : Fml = (type_at f.signature.result κs).own_val seen (made ∷ []) in
    let Told : Type 0 = seen.bytes ≡ seen.bytes in
    qed 𝓛 ((raw (alive 𝓛 f.signature κs qs) ⊛ ‵ (owns (types_at f.signature.params κs) a y.0.4)) ∷ raw ((c κs a).requires g) ∷ []) ∵ split ! $ keep ! (0 ∷ []) $
    enter ! _ _ _ _ _ $ alloc_all ! (λ l. pass_all ! refl ((tt, tt), ((shr_slice_Lawful 𝓛 (named 1) κs.1.0 u8).typed a.1.0 _ are.1.0)) $
    sets ! (agg ! (no_more !)) refl (tt, tt) $
    sets ! (agg ! (and_then ! (get ! refl) (no_more !))) refl (tt, (tt, tt)) $
    use0 𝓛 (‵ Owned) (makes_shadow 𝓛 Owned ((λ vss. (tt, ((λ uss. (tt, tt)), tt))), tt) (((vstruct vnil ∷ [], tt), (refl, ((tt, (refl, tt)), tt))), tt)) $
    use0 𝓛 (raw (fact 𝓤 Told)) (fact_i 𝓤 Told (emp 𝓤) refl) $
    nothing ! $ nothing ! $ fjoin ! $ nothing ! $ fjoin ! $
    returns ! (look_at ! 0 refl) $ free_all ! refl $
    keep ! (3 ∷ 0 ∷ 2 ∷ 1 ∷ []) $ by ! (leaves 𝓛 f.ended stayed c y made seen (tt, (tt, tt)) (tt, (tt, tt)))))
