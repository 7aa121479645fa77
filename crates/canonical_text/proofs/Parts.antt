-- Lexemes of one part of the text after another.
use Rattle.std.specs.Prelude.{◌≡◌, ℕ, zero, suc, ◌<◌, ◌≤◌, Bool, true, false, List, [], ◌∷◌, ◌++◌, length, Ok}
use Rattle.std.proofs.Common.{refl, arith}
use Rattle.canonical_text.specs.Glyph.{Glyph}
use Rattle.bpl_grammar.specs.Lexeme.{Lexeme}
use Rattle.bpl_grammar.specs.Reading.{Read, repeated_within, repeated}
use Rattle.canonical_text.specs.Spelled.{Spelled, done, next}

-- the first part, and then the second
pub record IsSplit (gs hs : List Glyph) (ls us : List Lexeme) : Type 0 where
  pub middle : List Lexeme
  pub first : Spelled gs ls middle
  pub second : Spelled hs middle us

pub split : (gs hs : List Glyph) {ls us : List Lexeme} → Spelled (gs ++ hs) ls us → IsSplit gs hs ls us
split [] hs {ls} d = record { middle = ls; first = done; second = d }
split (g ∷ gs) hs (next p d) =
    let r = split gs hs d in
    record { middle = r.middle; first = next p r.first; second = r.second }

pub spelled_length : {gs : List Glyph} {ls us : List Lexeme} → Spelled gs ls us → length us ≤ length ls
spelled_length done = omega arith
spelled_length (next p d) = omega (arith, spelled_length d)

-- Items that are read one after another, as long as one begins.
pub data Items {A : Type 0} (begins : List Lexeme → Bool) (item : List Lexeme → Read A) : List Lexeme → List Lexeme → List A → Type 0 where
  stop : {us : List Lexeme} → begins us ≡ false → Items begins item us us []
  step : {ls ms us : List Lexeme} {x : A} {xs : List A} → begins ls ≡ true → item ls ≡ Ok (x, ms) → length ms < length ls → Items begins item ms us xs → Items begins item ls us (x ∷ xs)

module _ {A : Type 0} (begins : List Lexeme → Bool) (item : List Lexeme → Read A) where
  items_within : (n : ℕ) (ls us : List Lexeme) (xs : List A) → length ls < n → Items begins item ls us xs → repeated_within begins item n ls ≡ Ok (xs, us)
  items_within zero ls us xs h i = absurd (omega arith)
  items_within (suc n) ls us xs h (stop e) = rw e refl
  items_within (suc n) ls us xs h (step {ms = ms} {x = x} {xs = ys} e r l i) = rw (e, r, items_within n ms us ys (omega arith) i) refl

  pub items_repeated : (ls us : List Lexeme) (xs : List A) → Items begins item ls us xs → repeated begins item ls ≡ Ok (xs, us)
  unfolding repeated
  items_repeated ls us xs i = items_within (suc (length ls)) ls us xs (omega arith) i
