-- The scopes, the innermost first, which are kept the outermost first.
use Rattle.std.specs.Prelude.{◌≡◌, refl, ℕ, ◌+◌, ◌-◌, ◌<◌, true, false, cond, List, [], ◌∷◌, ◌++◌, length, Option, Some, None, option_to_list, reverse}
use Rattle.std.proofs.Common.{sym, ap, ◌∙◌, subst, get_or, drop}
use Rattle.std.proofs.lemmas.List.{reverse-append, length-reverse, get_or-reverse, append-nil, nil_from_length}
use Rattle.bpl_model.specs.Module.{Name}
use Rattle.bpl_blocks.specs.Blocks.{Scope, leaves, behind_break}
use Rattle.bpl_blocks.proofs.AssumedClauses.{next_is}

pub entered : (xs ys : List Scope) (x : Scope) → ys ≡ xs ++ x ∷ [] → reverse ys ≡ x ∷ reverse xs
entered xs ys x e = ap reverse e ∙ reverse-append xs (x ∷ [])

pub left : (xs ys : List Scope) (r : Option Scope) → xs ≡ ys ++ option_to_list r → (r ≡ None → length xs ≡ 0) → reverse ys ≡ drop 1 (reverse xs)
left xs ys (Some x) e n = sym (ap (drop 1) (entered ys xs x e))
left xs ys None e n =
    let none : xs ≡ [] = nil_from_length xs (n refl) in
    let same : ys ≡ [] = sym (append-nil ys) ∙ (sym e ∙ none) in
    ap reverse same ∙ sym (ap (λ zs. drop 1 (reverse zs)) none)

module _ (xs : List Scope) (i : ℕ) (s : Scope) (lt : i < length xs) (is : s ≡ get_or xs (length xs - 1 - i) s) where
  next_out : drop i (reverse xs) ≡ s ∷ drop (i + 1) (reverse xs)
  next_out = next_is (reverse xs) i s (subst (λ n. i < n) (sym (length-reverse xs)) lt) (is ∙ sym (get_or-reverse xs i s lt))

  -- a break that leaves the next scope, and one that doesn't
  pub out_here : (l : Option Name) → leaves l s ≡ true → behind_break (drop i (reverse xs)) l ≡ s.behind
  out_here l t = ap (λ ss. behind_break ss l) next_out ∙ ap (λ b. cond b s.behind (behind_break (drop (i + 1) (reverse xs)) l)) t

  pub out_more : (l : Option Name) → leaves l s ≡ false → behind_break (drop i (reverse xs)) l ≡ behind_break (drop (i + 1) (reverse xs)) l
  out_more l t = ap (λ ss. behind_break ss l) next_out ∙ ap (λ b. cond b s.behind (behind_break (drop (i + 1) (reverse xs)) l)) t
