-- Pieces of bodies that are written one after another.
use Rattle.std.proofs.Common.{◌≡◌, ℕ, ◌+◌, ◌<◌, ◌≤◌, List, [], ◌∷◌, ◌++◌, length, get_or, take, refl, ap, sym, ◌∙◌, subst}
use Rattle.std.proofs.lemmas.List.{take_more, take_all}
use Rattle.hessian_graph.specs.Spells.{TextsSpelling}
use Rattle.hessian_text.specs.Written.{AppendsText}
use Rattle.hessian_writer.specs.Leaves.{hessian_forms}
use Rattle.hessian_writer.specs.Appending.{AppendsTexts}
use Rattle.hessian_writer.proofs.Appended.{no_texts_yet, one_more_text}
use Rattle.dubbo_bodies.specs.declared.attachment.Attachment.{Attachment}
use Rattle.dubbo_bodies.specs.Attachments.{texts_of}

-- texts that are written behind nothing
pub five_texts : (a b c d e o0 o1 o2 o3 o4 o5 : List ℕ) → o0 ≡ [] → AppendsText o0 a o1 → AppendsText o1 b o2 → AppendsText o2 c o3 → AppendsText o3 d o4 → AppendsText o4 e o5 → TextsSpelling hessian_forms (a ∷ b ∷ c ∷ d ∷ e ∷ []) o5
five_texts a b c d e o0 o1 o2 o3 o4 o5 none pa pb pc pd pe =
    let one : AppendsTexts (a ∷ []) o0 o1 = one_more_text [] a o0 o0 o1 (no_texts_yet o0) pa in
    let two : AppendsTexts (a ∷ b ∷ []) o0 o2 = one_more_text (a ∷ []) b o0 o1 o2 one pb in
    let three : AppendsTexts (a ∷ b ∷ c ∷ []) o0 o3 = one_more_text (a ∷ b ∷ []) c o0 o2 o3 two pc in
    let four : AppendsTexts (a ∷ b ∷ c ∷ d ∷ []) o0 o4 = one_more_text (a ∷ b ∷ c ∷ []) d o0 o3 o4 three pd in
    let five : AppendsTexts (a ∷ b ∷ c ∷ d ∷ e ∷ []) o0 o5 = one_more_text (a ∷ b ∷ c ∷ d ∷ []) e o0 o4 o5 four pe in
    subst (TextsSpelling hessian_forms (a ∷ b ∷ c ∷ d ∷ e ∷ [])) (sym (five.joined ∙ ap (λ xs. xs ++ five.bytes) none)) five.is

-- the texts of attachments, up to one and with it
texts_behind : (entries : List Attachment) (a : Attachment) → texts_of (entries ++ a ∷ []) ≡ (texts_of entries ++ a.name ∷ []) ++ a.value ∷ []
texts_behind [] a = refl
texts_behind (b ∷ rest) a = ap (λ xs. b.name ∷ b.value ∷ xs) (texts_behind rest a)

pub pairs_more : (entries : List Attachment) (i : ℕ) (a : Attachment) (old mid between new : List ℕ) → i < length entries → a ≡ get_or entries i a → AppendsTexts (texts_of (take i entries)) old mid → AppendsText mid a.name between → AppendsText between a.value new → AppendsTexts (texts_of (take (i + 1) entries)) old new
pairs_more entries i a old mid between new h e before name value =
    let front : List Attachment = take i entries in
    let cut : take (i + 1) entries ≡ front ++ a ∷ [] = take_more entries i a h ∙ ap (λ (x : Attachment). front ++ x ∷ []) (sym e) in
    let texts : texts_of (take (i + 1) entries) ≡ (texts_of front ++ a.name ∷ []) ++ a.value ∷ [] = ap texts_of cut ∙ texts_behind front a in
    let named : AppendsTexts (texts_of front ++ a.name ∷ []) old between = one_more_text (texts_of front) a.name old mid between before name in
    subst (λ ts. AppendsTexts ts old new) (sym texts) (one_more_text (texts_of front ++ a.name ∷ []) a.value old between new named value)

pub all_pairs : (entries : List Attachment) (i : ℕ) (old new : List ℕ) → length entries ≤ i → AppendsTexts (texts_of (take i entries)) old new → AppendsTexts (texts_of entries) old new
all_pairs entries i old new h a = subst (λ (es : List Attachment). AppendsTexts (texts_of es) old new) (take_all i entries h) a
