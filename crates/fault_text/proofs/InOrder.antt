-- Tokens that stand one after another in a text: each lies in it, and those behind one stand behind it.
use Rattle.std.proofs.Common.{◌≡◌, ℕ, ◌+◌, ◌<◌, ◌≤◌, List, [], ◌∷◌, length, get_or, drop, refl, sym, subst, ap, ◌∙◌, arith}
use Rattle.std.proofs.lemmas.List.{at_drop_more}
use Rattle.bpl_lex.specs.Token.{Token}
use Rattle.bpl_lex.specs.Spelled.{AreInOrder}
use Rattle.bpl_lex.proofs.Laws.{each_inside}

lower : (a b upto : ℕ) (ts : List Token) → a ≤ b → AreInOrder b upto ts → AreInOrder a upto ts
lower a b upto [] le h = omega (arith, le, h)
lower a b upto (t ∷ ts) le h = (omega (arith, le, h.0), h.1, h.2)

-- a token lies in the text
pub record IsInside (upto : ℕ) (t : Token) : Type 0 where
  pub ordered : t.start ≤ t.finish
  pub within : t.finish ≤ upto

pub inside_at : (from upto : ℕ) (ts : List Token) (i : ℕ) (t : Token) → AreInOrder from upto ts → i < length ts → t ≡ get_or ts i t → IsInside upto t
inside_at from upto ts i t h lt is =
    let there = subst (λ (u : Token). (u.start < u.finish) × (u.finish ≤ upto)) (sym is) (each_inside from upto ts h i t lt) in
    record { ordered = omega (arith, there.0); within = there.1 }

-- the next token, and those behind it
pub record GoesOn (at upto i : ℕ) (ts : List Token) (t : Token) : Type 0 where
  pub not_before : at ≤ t.start
  pub inside : IsInside upto t
  pub rest : AreInOrder t.start upto (drop (i + 1) ts)

with_next : (at upto : ℕ) (t : Token) (us : List Token) → AreInOrder at upto (t ∷ us) → (at ≤ t.start) × IsInside upto t × AreInOrder t.start upto us
with_next at upto t us h =
    (h.0, inside_at at upto (t ∷ us) 0 t h (omega arith) refl, lower t.start t.finish upto us (omega (arith, h.1)) h.2)

pub goes_on : (at upto i : ℕ) (ts : List Token) (t : Token) → AreInOrder at upto (drop i ts) → i < length ts → t ≡ get_or ts i t → GoesOn at upto i ts t
goes_on at upto i ts t h lt is =
    let are : drop i ts ≡ t ∷ drop (i + 1) ts = at_drop_more (λ (us : List Token). us) ts i t lt ∙ ap (λ (u : Token). u ∷ drop (i + 1) ts) (sym is) in
    let next = with_next at upto t (drop (i + 1) ts) (subst (AreInOrder at upto) are h) in
    record { not_before = next.0; inside = next.1; rest = next.2 }
