-- What several writers in a row have appended.
use Rattle.std.proofs.Common.{◌≡◌, ℕ, ℤ, List, [], ◌∷◌, ◌++◌, refl, sym, ap, subst, ◌∙◌, append_assoc, append-nil}
use Rattle.hessian_scalars.specs.declared.scalar.Scalar.TheVariants as scalars
use Rattle.hessian_scalars.specs.Written.{Appends, IsShortest}
use Rattle.hessian_text.specs.Written.{AppendsText}
use Rattle.dubbo_play.specs.FirstFrames.{WrittenTexts, IsTextMap, IsRequestBody, names, attachments}
use Rattle.dubbo_play.specs.FirstFrames.WrittenTexts.{none, more}
use Rattle.dubbo_play.specs.FirstRun.{Adds}

pub no_text_added : (old : List ℕ) → Adds (WrittenTexts []) old old
no_text_added old = record { added = []; holds = none; joined = sym (append-nil old) }

-- a text, and others behind it
pub text_added : (text : List ℕ) (texts : List (List ℕ)) (old mid new : List ℕ) → AppendsText old text mid → Adds (WrittenTexts texts) mid new →
    Adds (WrittenTexts (text ∷ texts)) old new
text_added text texts old mid new a b = record {
  added = a.written ++ b.added;
  holds = more text texts a.written b.added a.spells b.holds;
  joined = b.joined ∙ ap (λ (x : List ℕ). x ++ b.added) a.appended ∙ append_assoc old a.written b.added;
}

-- two runs of texts
both_written : (texts others : List (List ℕ)) (written rest : List ℕ) → WrittenTexts texts written → WrittenTexts others rest → WrittenTexts (texts ++ others) (written ++ rest)
both_written texts others written rest none ws = ws
both_written texts others written rest (more text later first last w vs) ws =
    subst (λ (x : List ℕ). WrittenTexts (text ∷ (later ++ others)) x) (sym (append_assoc first last rest))
    (more text (later ++ others) first (last ++ rest) w (both_written later others last rest vs ws))

pub texts_added : (texts others : List (List ℕ)) (old mid new : List ℕ) → Adds (WrittenTexts texts) old mid → Adds (WrittenTexts others) mid new →
    Adds (WrittenTexts (texts ++ others)) old new
texts_added texts others old mid new a b = record {
  added = a.added ++ b.added;
  holds = both_written texts others a.added b.added a.holds b.holds;
  joined = b.joined ∙ ap (λ (x : List ℕ). x ++ b.added) a.joined ∙ append_assoc old a.added b.added;
}

-- a map around its texts
pub map_added : (texts : List (List ℕ)) (old begun filled new : List ℕ) → begun ≡ old ++ 0x48 ∷ [] → Adds (WrittenTexts texts) begun filled →
    new ≡ filled ++ 0x5a ∷ [] → Adds (IsTextMap texts) old new
map_added texts old begun filled new b a e = record {
  added = 0x48 ∷ a.added ++ 0x5a ∷ [];
  holds = record { entries = a.added; written = a.holds; bytes_are = refl };
  joined = e ∙ ap (λ (x : List ℕ). x ++ 0x5a ∷ []) (a.joined ∙ ap (λ (x : List ℕ). x ++ a.added) b ∙ append_assoc old (0x48 ∷ []) a.added)
      ∙ append_assoc old (0x48 ∷ a.added) (0x5a ∷ []);
}

-- the three parts of a request's body
pub body_made : (path method : List ℕ) (argument sent : ℤ) (start named spelled whole : List ℕ) → start ≡ [] → sent ≡ argument →
    Adds (WrittenTexts (names path method)) start named → Appends named spelled (scalars.Int sent) → Adds (IsTextMap (attachments path)) spelled whole →
    IsRequestBody path method argument whole
body_made path method argument sent start named spelled whole z same a b c = record {
  front = a.added;
  spelling = b.spelling;
  back = c.added;
  named = a.holds;
  shortest = subst (λ (v : ℤ). IsShortest (scalars.Int v) b.spelling) same b.written;
  attached = c.holds;
  bytes = c.joined ∙ ap (λ (x : List ℕ). x ++ c.added) (b.joined ∙ ap (λ (x : List ℕ). x ++ b.spelling) (a.joined ∙ ap (λ (x : List ℕ). x ++ a.added) z))
      ∙ append_assoc a.added b.spelling c.added;
}

-- the line of a service, from its pieces
pub line_joined : (a p p' b m m' d e o0 o1 o2 o3 o4 : List ℕ) → p' ≡ p → m' ≡ m → o0 ≡ a → o1 ≡ o0 ++ p' → o2 ≡ o1 ++ b → o3 ≡ o2 ++ m' → o4 ≡ o3 ++ (d ++ e) →
    o4 ≡ a ++ ((p ++ (b ++ (m ++ d))) ++ e)
line_joined a p p' b m m' d e o0 o1 o2 o3 o4 ep em e0 e1 e2 e3 e4 = rw (e4, e3, e2, e1, e0, ep, em) (simp append_assoc)
