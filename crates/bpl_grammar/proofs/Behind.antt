-- Items behind signs, taken apart.
use Rattle.std.specs.Prelude.{◌≡◌, ℕ, zero, suc, ◌<◌, ◌≤◌, Bool, true, false, List, [], ◌∷◌, drop, length, IsTrue, Ok, Err, Option, Some, None}
use Rattle.std.proofs.Common.{refl, inl, inr, arith}
use Rattle.bpl_grammar.specs.Lexeme.{Lexeme}
use Rattle.bpl_grammar.specs.Part.{Part}
use Rattle.bpl_grammar.specs.Spelling.{Takes, of_kind, of_text, empty, both, left, right, absent, present, no_more, again, deeper, whole, by}
use Rattle.bpl_grammar.specs.Derivative.{empties}
use Rattle.bpl_grammar.specs.Judge.{syntax}
use Rattle.bpl_grammar.specs.Terminal.{Terminal, is, sees}
use Rattle.bpl_grammar.specs.Reading.{Read, read_as, turn, repeated_within, repeated, read_behind, read_run}
use Rattle.bpl_grammar.proofs.Complete.{IsCut, takes_complete}
use Rattle.bpl_grammar.proofs.Decide.{always}
use Rattle.bpl_grammar.proofs.Sound.{TakesLeft}
use Rattle.bpl_grammar.proofs.Found.{same_found, followed_ok, read_as_ok, seen_ok}

-- items, each behind a sign
pub data Behind {A : Type 0} (c : Terminal) (item : List Lexeme → Read A) : List Lexeme → List Lexeme → List A → Type 0 where
  done : {ls : List Lexeme} → Behind c item ls ls []
  more : {t : Lexeme} {ls rest us : List Lexeme} {x : A} {xs : List A} → IsTrue (is c t) → item ls ≡ Ok (x, rest) → Behind c item rest us xs → Behind c item (t ∷ ls) us (x ∷ xs)

module _ {A : Type 0} (c : Terminal) (item : List Lexeme → Read A) where
  none_behind : (ls us : List Lexeme) (xs : List A) → ◌≡◌ {A = Read (List A)} (Ok ([], ls)) (Ok (xs, us)) → Behind c item ls us xs
  none_behind ls us xs h =
      let e = same_found [] xs ls us h in
      rw (← e.0, ← e.1) done

  some_behind : (t : Lexeme) (mid ls rest us : List Lexeme) (x : A) (ys xs : List A) → IsTrue (is c t) → ls ≡ t ∷ mid → item mid ≡ Ok (x, rest) → Behind c item rest us ys → x ∷ ys ≡ xs → Behind c item ls us xs
  some_behind t mid ls rest us x ys xs i e h b q = rw (e, ← q) (more i h b)

  pub behind_within_ok : (m : ℕ) (ls us : List Lexeme) (xs : List A) → repeated_within (sees c) (λ vs. item (drop 1 vs)) m ls ≡ Ok (xs, us) → Behind c item ls us xs
  behind_within_ok zero ls us xs h = turned (sees c ls) refl h
    where
      turned : (b : Bool) → sees c ls ≡ b → turn b (Err (syntax, ls)) (λ rest. Err (syntax, rest)) ls ≡ Ok (xs, us) → Behind c item ls us xs
      turned false e h = none_behind ls us xs h
      turned true e h = absurd (cc)
  behind_within_ok (suc m) ls us xs h = turned (sees c ls) refl h (behind_within_ok m)
    where
      turned : (b : Bool) → sees c ls ≡ b → turn b (item (drop 1 ls)) (λ rest. repeated_within (sees c) (λ vs. item (drop 1 vs)) m rest) ls ≡ Ok (xs, us)
          → ((ls us : List Lexeme) (xs : List A) → repeated_within (sees c) (λ vs. item (drop 1 vs)) m ls ≡ Ok (xs, us) → Behind c item ls us xs) → Behind c item ls us xs
      turned false e h ih = none_behind ls us xs h
      turned true e h ih =
          let k = seen_ok c ls e in
          let f = followed_ok (item (drop 1 ls)) (λ x rest. read_as (λ ys. x ∷ ys) (repeated_within (sees c) (λ vs. item (drop 1 vs)) m rest)) (xs, us) h in
          let r = read_as_ok (λ ys. f.first ∷ ys) (repeated_within (sees c) (λ vs. item (drop 1 vs)) m f.rest) xs us f.then in
          some_behind k.token (drop 1 ls) ls f.rest us f.first r.value xs k.is k.there f.reads (ih f.rest us r.value r.reads) r.is

  pub behind_ok : (ls us : List Lexeme) (xs : List A) → read_behind c item ls ≡ Ok (xs, us) → Behind c item ls us xs
  unfolding repeated
  behind_ok ls us xs h = behind_within_ok (suc (length ls)) ls us xs h

pub record IsRun {A : Type 0} (c : Terminal) (item : List Lexeme → Read A) (ls us : List Lexeme) (xs : List A) : Type 0 where
  pub first : A
  pub rest : List Lexeme
  pub others : List A
  pub reads : item ls ≡ Ok (first, rest)
  pub behind : Behind c item rest us others
  pub is : first ∷ others ≡ xs

pub run_ok : {A : Type 0} (c : Terminal) (item : List Lexeme → Read A) (ls us : List Lexeme) (xs : List A) → read_run c item ls ≡ Ok (xs, us) → IsRun c item ls us xs
run_ok c item ls us xs h =
    let f = followed_ok (item ls) (λ x rest. read_as (λ ys. x ∷ ys) (read_behind c item rest)) (xs, us) h in
    let r = read_as_ok (λ ys. f.first ∷ ys) (read_behind c item f.rest) xs us f.then in
    record { first = f.first; rest = f.rest; others = r.value; reads = f.reads; behind = behind_ok c item f.rest us r.value r.reads; is = r.is }

-- what is taken is there

pub takes_length : {p : Part} {ts us : List Lexeme} → Takes p ts us → length us ≤ length ts
takes_length (of_kind h) = omega arith
takes_length (of_text h) = omega arith
takes_length empty = omega arith
takes_length (both d e) = omega (arith, takes_length d, takes_length e)
takes_length (left d) = takes_length d
takes_length (right d) = takes_length d
takes_length absent = omega arith
takes_length (present d) = takes_length d
takes_length no_more = omega arith
takes_length (again d e) = omega (arith, takes_length d, takes_length e)
takes_length (deeper d) = takes_length d
takes_length (whole d) = takes_length d
takes_length (by d) = takes_length d

left_length : (o : Option Part) (ts us : List Lexeme) → TakesLeft o ts us → length us ≤ length ts
left_length None ts us d = absurd d
left_length (Some p) ts us d = takes_length d

cut_length : (p : Part) (ts us : List Lexeme) → empties 12 p ≡ false → IsCut 12 p ts us → length us < length ts
cut_length p ts us e (inl h) = absurd (cc (h.1))
cut_length p ts us e (inr h) = rw h.2 (omega (arith, left_length _ h.1 us h.3))

-- and a part that isn't empty takes something
pub takes_shorter : (p : Part) (ts us : List Lexeme) → empties 12 p ≡ false → Takes p ts us → length us < length ts
takes_shorter p ts us e d = cut_length p ts us e (takes_complete 12 d (always p))
