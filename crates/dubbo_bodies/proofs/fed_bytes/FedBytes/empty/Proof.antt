-- `empty` makes a value of no bytes, whose ghost field is the empty list.
use Rattle.dubbo_bodies.proofs.WalkNames.{◌≡◌, [], ◌∷◌, refl, proved, leaves, by, emp, Fml, Val, vstruct, vcons, vnil, fact, fact_i, tables, ‵, raw, ◌⊛◌, ◌$◌, ◌∵◌, !, qed, keep, split, use0, no_more, and_then, returns, enter, alloc_all, pass_all, free_all, look_at, get, sets, agg, makes_shadow, types_at, type_at, owns, nothing, alive, Res, Stays, walk_of}
use Rattle.dubbo_bodies.specs.contracts.fed_bytes.FedBytes.empty as f
use Rattle.dubbo_bodies.proofs.fed_bytes.FedBytes.empty.Statement.{statement}
use Rattle.dubbo_bodies.proofs.fed_bytes.FedBytes.empty.Code as code

abbrev stayed : Stays f.ended.signature.params f.ended.kept
stayed = tt

pub empty_spec : {M : Type 1} → statement M
empty_spec 𝓤 𝓛 𝓜 𝓡 wired =
    let c = f.clauses 𝓛 𝓜.mem 𝓡.returns in let W = walk_of 𝓛 f.ended stayed c in let 𝓣 = tables 𝓤 𝓛.H 𝓜 𝓡 𝓡.env in
    proved 𝓛 f.ended stayed c 𝓜 𝓡 tt f.Key.name code.function (code.unfolded 𝓤 𝓛.H 𝓜 𝓡 wired)
    (λ κs. tt) (λ κs. tt) (λ κs qs bounds a g are.
    let y : W.Ghost = ((κs, qs, bounds, a, tt), g) in
    let made : Val = vstruct (vcons (vstruct vnil) vnil) in
    let seen : Res f.signature κs = record { marker = record {}; bytes = [] } in
    let Owned : Fml = (type_at f.signature.result κs).own_val seen (made ∷ []) in
    qed 𝓛 ((raw (alive 𝓛 f.signature κs qs) ⊛ ‵ (owns (types_at f.signature.params κs) a y.0.4)) ∷ raw ((c κs a).requires g) ∷ []) ∵ split ! $ keep ! (0 ∷ []) $
    enter ! _ _ _ _ _ $ alloc_all ! (λ l. pass_all ! refl tt $
    sets ! (agg ! (no_more !)) refl (tt, tt) $
    sets ! (agg ! (and_then ! (get ! refl) (no_more !))) refl (tt, (tt, tt)) $
    use0 𝓛 (‵ Owned) (makes_shadow 𝓛 Owned ((λ vss. (tt, ((λ uss. (tt, tt)), tt))), tt) (((vstruct vnil ∷ [], tt), (refl, ((tt, (refl, tt)), tt))), tt)) $
    use0 𝓛 (raw (fact 𝓤 (seen.bytes ≡ []))) (fact_i 𝓤 (seen.bytes ≡ []) (emp 𝓤) refl) $ nothing ! $
    returns ! (look_at ! 0 refl) $ free_all ! refl $
    keep ! (3 ∷ 0 ∷ 2 ∷ 1 ∷ []) $ by ! (leaves 𝓛 f.ended stayed c y made seen tt tt)))
