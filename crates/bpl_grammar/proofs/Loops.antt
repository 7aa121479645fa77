-- What reads one after another, and as long as an item begins.
use Rattle.std.specs.Prelude.{◌≡◌, ℕ, zero, suc, ◌<◌, ◌≤◌, Bool, true, false, List, [], ◌∷◌, ◌++◌, drop, length, Ok, Err}
use Rattle.std.proofs.Common.{refl, ap, ◌∙◌, sym, arith, append_assoc, append-nil}
use Rattle.bpl_grammar.specs.Lexeme.{Lexeme}
use Rattle.bpl_grammar.specs.Judge.{Mark}
use Rattle.bpl_grammar.specs.Terminal.{Terminal, sees}
use Rattle.bpl_grammar.specs.Reading.{Read, read_as, repeated_within, repeated, read_behind}

-- what reads leaves less
abbrev pub Shrinks : {A : Type 0} → (List Lexeme → Read A) → Type 0
Shrinks {A} item = (ls : List Lexeme) (a : A) (rest : List Lexeme) → item ls ≡ Ok (a, rest) → length rest < length ls

module _ {A : Type 0} (begins : List Lexeme → Bool) (item : List Lexeme → Read A) where
  pub stops_within : (n : ℕ) (ls : List Lexeme) → begins ls ≡ false → repeated_within begins item n ls ≡ Ok ([], ls)
  stops_within zero ls e = rw e refl
  stops_within (suc n) ls e = rw e refl

  goes_within : (n : ℕ) (ls : List Lexeme) (p : A × List Lexeme) → begins ls ≡ true → item ls ≡ Ok p → repeated_within begins item (suc n) ls ≡ read_as (λ xs. p.0 ∷ xs) (repeated_within begins item n p.1)
  goes_within n ls p e h = rw (e, h) refl

  stuck_within : (n : ℕ) (ls : List Lexeme) (x : Mark × List Lexeme) → begins ls ≡ true → item ls ≡ Err x → repeated_within begins item (suc n) ls ≡ Err x
  stuck_within n ls x e h = rw (e, h) refl

  -- more turns than lexemes change nothing
  fuel : Shrinks item → (n m : ℕ) (ls : List Lexeme) → length ls < n → length ls < m → (b : Bool) → begins ls ≡ b → (o : Read A) → item ls ≡ o → repeated_within begins item n ls ≡ repeated_within begins item m ls
  fuel s n m ls hn hm false e o h = stops_within n ls e ∙ sym (stops_within m ls e)
  fuel s zero m ls hn hm true e o h = absurd (omega arith)
  fuel s (suc n) zero ls hn hm true e o h = absurd (omega arith)
  fuel s (suc n) (suc m) ls hn hm true e (Err x) h = stuck_within n ls x e h ∙ sym (stuck_within m ls x e h)
  fuel s (suc n) (suc m) ls hn hm true e (Ok p) h =
      goes_within n ls p e h
      ∙ (ap (read_as (λ xs. p.0 ∷ xs)) (fuel s n m p.1 (omega (arith, s ls p.0 p.1 h)) (omega (arith, s ls p.0 p.1 h)) (begins p.1) refl (item p.1) refl)
      ∙ sym (goes_within m ls p e h))

  pub many_stops : (ls : List Lexeme) → begins ls ≡ false → repeated begins item ls ≡ Ok ([], ls)
  unfolding repeated
  many_stops ls e = stops_within (suc (length ls)) ls e

  pub many_stuck : (ls : List Lexeme) (x : Mark × List Lexeme) → begins ls ≡ true → item ls ≡ Err x → repeated begins item ls ≡ Err x
  unfolding repeated
  many_stuck ls x e h = stuck_within (length ls) ls x e h

  pub many_goes : Shrinks item → (ls : List Lexeme) (a : A) (rest : List Lexeme) → begins ls ≡ true → item ls ≡ Ok (a, rest) → repeated begins item ls ≡ read_as (λ xs. a ∷ xs) (repeated begins item rest)
  unfolding repeated
  many_goes s ls a rest e h =
      goes_within (length ls) ls (a, rest) e h
      ∙ ap (read_as (λ xs. a ∷ xs)) (fuel s (length ls) (suc (length rest)) rest (s ls a rest h) (omega arith) (begins rest) refl (item rest) refl)

  -- a loop that has read the items xs
  module _ {B : Type 0} (f : List A → B) (xs : List A) where
    regrouped : (a : A) (o : Read (List A)) → read_as (λ ys. f (xs ++ ys)) (read_as (λ ys. a ∷ ys) o) ≡ read_as (λ ys. f ((xs ++ a ∷ []) ++ ys)) o
    regrouped a (Err e) = refl
    regrouped a (Ok p) = ap (λ zs. Ok (f zs, p.1)) (sym (append_assoc xs (a ∷ []) p.0))

    pub loop_more : Shrinks item → (whole : Read B) (ls : List Lexeme) (a : A) (rest : List Lexeme) → whole ≡ read_as (λ ys. f (xs ++ ys)) (repeated begins item ls) → begins ls ≡ true → item ls ≡ Ok (a, rest)
        → whole ≡ read_as (λ ys. f ((xs ++ a ∷ []) ++ ys)) (repeated begins item rest)
    loop_more s whole ls a rest i e h = i ∙ (ap (read_as (λ ys. f (xs ++ ys))) (many_goes s ls a rest e h) ∙ regrouped a (repeated begins item rest))

    pub loop_end : (whole : Read B) (ls : List Lexeme) → whole ≡ read_as (λ ys. f (xs ++ ys)) (repeated begins item ls) → begins ls ≡ false → whole ≡ Ok (f xs, ls)
    loop_end whole ls i e = i ∙ (ap (read_as (λ ys. f (xs ++ ys))) (many_stops ls e) ∙ ap (λ zs. Ok (f zs, ls)) (append-nil xs))

    pub loop_stuck : (whole : Read B) (ls : List Lexeme) (x : Mark × List Lexeme) → whole ≡ read_as (λ ys. f (xs ++ ys)) (repeated begins item ls) → begins ls ≡ true → item ls ≡ Err x → whole ≡ Err x
    loop_stuck whole ls x i e h = i ∙ ap (read_as (λ ys. f (xs ++ ys))) (many_stuck ls x e h)

-- items behind a sign
module _ {A B : Type 0} (c : Terminal) (item : List Lexeme → Read A) (f : List A → B) (xs : List A) (whole : Read B) where
  drop_shorter : (us : List Lexeme) → length (drop 1 us) ≤ length us
  drop_shorter [] = omega arith
  drop_shorter (u ∷ us) = omega arith

  behind_shrinks : Shrinks item → Shrinks (λ us. item (drop 1 us))
  behind_shrinks s = λ us a rest h. omega (arith, s (drop 1 us) a rest h, drop_shorter us)

  pub behind_more : Shrinks item → (ls mid : List Lexeme) (a : A) (rest : List Lexeme) → whole ≡ read_as (λ ys. f (xs ++ ys)) (read_behind c item ls) → sees c ls ≡ true → mid ≡ drop 1 ls → item mid ≡ Ok (a, rest)
      → whole ≡ read_as (λ ys. f ((xs ++ a ∷ []) ++ ys)) (read_behind c item rest)
  behind_more s ls mid a rest i e d h = loop_more (sees c) (λ us. item (drop 1 us)) f xs (behind_shrinks s) whole ls a rest i e (ap item (sym d) ∙ h)

  pub behind_smaller : Shrinks item → (ls mid : List Lexeme) (a : A) (rest : List Lexeme) → mid ≡ drop 1 ls → item mid ≡ Ok (a, rest) → length rest < length ls
  behind_smaller s ls mid a rest d h = behind_shrinks s ls a rest (ap item (sym d) ∙ h)

  pub behind_end : (ls : List Lexeme) → whole ≡ read_as (λ ys. f (xs ++ ys)) (read_behind c item ls) → sees c ls ≡ false → whole ≡ Ok (f xs, ls)
  behind_end ls i e = loop_end (sees c) (λ us. item (drop 1 us)) f xs whole ls i e

  pub behind_stuck : (ls mid : List Lexeme) (x : Mark × List Lexeme) → whole ≡ read_as (λ ys. f (xs ++ ys)) (read_behind c item ls) → sees c ls ≡ true → mid ≡ drop 1 ls → item mid ≡ Err x → whole ≡ Err x
  behind_stuck ls mid x i e d h = loop_stuck (sees c) (λ us. item (drop 1 us)) f xs whole ls x i e (ap item (sym d) ∙ h)
