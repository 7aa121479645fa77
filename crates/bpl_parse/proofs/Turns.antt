-- Steps of loops that read items as long as one begins.
use Rattle.std.specs.Prelude.{◌≡◌, ℕ, ◌<◌, ◌≤◌, length, Bool, true, false, List, [], ◌∷◌, ◌++◌, Ok, Err, Option, Some, None}
use Rattle.std.proofs.Common.{refl, ap, ◌∙◌, sym, append_assoc, append-nil, arith, length-append}
use Rattle.bpl_grammar.specs.Lexeme.{Lexeme}
use Rattle.bpl_grammar.specs.Judge.{Mark}
use Rattle.bpl_grammar.specs.Reading.{Read, read_as, repeated}
use Rattle.bpl_grammar.specs.ReadExpressions.{kept}
use Rattle.bpl_grammar.proofs.Loops.{Shrinks, many_goes, many_stops, many_stuck}

pub read_as_itself : {A : Type 0} (o : Read A) → o ≡ read_as (λ x. x) o
read_as_itself (Err e) = refl
read_as_itself (Ok p) = refl

pub read_as_twice : {A B C : Type 0} (f : B → C) (g : A → B) (o : Read A) → read_as f (read_as g o) ≡ read_as (λ x. f (g x)) o
read_as_twice f g (Err e) = refl
read_as_twice f g (Ok p) = refl

-- items of which some are kept
module _ {A : Type 0} (begins : List Lexeme → Bool) (item : List Lexeme → Read (Option A)) (zs : List A) (whole : Read (List A)) where
  next_kept : (a : Option A) (o : Read (List (Option A))) → read_as (λ ys. zs ++ kept ys) (read_as (λ ys. a ∷ ys) o) ≡ read_as (λ ys. (zs ++ kept (a ∷ [])) ++ kept ys) o
  next_kept a (Err e) = refl
  next_kept None (Ok p) = ap (λ us. Ok (us ++ kept p.0, p.1)) (sym (append-nil zs))
  next_kept (Some a) (Ok p) = ap (λ us. Ok (us, p.1)) (sym (append_assoc zs (a ∷ []) (kept p.0)))

  pub kept_more : Shrinks item → (ws : List A) (ls : List Lexeme) (a : Option A) (rest : List Lexeme) → whole ≡ read_as (λ ys. zs ++ kept ys) (repeated begins item ls) → begins ls ≡ true → item ls ≡ Ok (a, rest) → ws ≡ zs ++ kept (a ∷ [])
      → whole ≡ read_as (λ ys. ws ++ kept ys) (repeated begins item rest)
  kept_more s ws ls a rest i e h w =
      i ∙ (ap (read_as (λ ys. zs ++ kept ys)) (many_goes begins item s ls a rest e h)
      ∙ (next_kept a (repeated begins item rest) ∙ ap (λ us. read_as (λ ys. us ++ kept ys) (repeated begins item rest)) (sym w)))

  pub kept_end : (ls : List Lexeme) → whole ≡ read_as (λ ys. zs ++ kept ys) (repeated begins item ls) → begins ls ≡ false → whole ≡ Ok (zs, ls)
  kept_end ls i e = i ∙ (ap (read_as (λ ys. zs ++ kept ys)) (many_stops begins item ls e) ∙ ap (λ us. Ok (us, ls)) (append-nil zs))

  pub kept_stuck : (ls : List Lexeme) (x : Mark × List Lexeme) → whole ≡ read_as (λ ys. zs ++ kept ys) (repeated begins item ls) → begins ls ≡ true → item ls ≡ Err x → whole ≡ Err x
  kept_stuck ls x i e h = i ∙ ap (read_as (λ ys. zs ++ kept ys)) (many_stuck begins item ls x e h)

-- a list that has grown by one
pub some_more : {A : Type 0} (xs : List A) (a : A) → 0 < length (xs ++ a ∷ [])
some_more xs a = omega (arith, length-append xs (a ∷ []))

pub still_most : {A : Type 0} (n : ℕ) (xs : List A) (a : A) → n ≤ length xs → n ≤ length (xs ++ a ∷ [])
still_most n xs a h = omega (arith, length-append xs (a ∷ []))

-- nothing read so far
pub none_yet : {A : Type 0} (whole : Read (List A)) (xs : List A) → xs ≡ [] → whole ≡ read_as (λ ys. xs ++ ys) whole
none_yet whole xs e = rw e (read_as_itself whole)
