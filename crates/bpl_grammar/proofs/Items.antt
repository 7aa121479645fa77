-- Items that are read one after another, taken apart.
use Rattle.std.specs.Prelude.{◌≡◌, ℕ, zero, suc, Bool, true, false, cond, List, [], ◌∷◌, length, IsTrue, Ok, Err}
use Rattle.std.proofs.Common.{refl}
use Rattle.bpl_grammar.specs.Lexeme.{Lexeme}
use Rattle.bpl_grammar.specs.Part.{Part}
use Rattle.bpl_grammar.specs.Grammar.{listed as listed_part}
use Rattle.bpl_grammar.specs.Spelling.{Takes, both, no_more}
use Rattle.bpl_grammar.specs.Judge.{syntax}
use Rattle.bpl_grammar.specs.Terminal.{Terminal, is}
use Rattle.bpl_grammar.specs.Reading.{Read, read_as, turn, repeated_within, repeated, read_run, listed}
use Rattle.bpl_grammar.proofs.Found.{same_found, followed_ok, read_as_ok}
use Rattle.bpl_grammar.proofs.Behind.{Behind, done, more, run_ok}
use Rattle.bpl_grammar.proofs.Agree.{list_more}
use Rattle.bpl_grammar.proofs.TypeTrees.{comma}

pub by_cond : {A G : Type 0} (b : Bool) (x y : Read A) (r : A × List Lexeme) → cond b x y ≡ Ok r → (IsTrue b → x ≡ Ok r → G) → (b ≡ false → y ≡ Ok r → G) → G
by_cond true x y r h f g = f refl h
by_cond false x y r h f g = g refl h

-- items as long as one begins
pub data Items {A : Type 0} (begins : List Lexeme → Bool) (item : List Lexeme → Read A) : List Lexeme → List Lexeme → List A → Type 0 where
  none : {ls : List Lexeme} → Items begins item ls ls []
  next : {ls rest us : List Lexeme} {x : A} {xs : List A} → IsTrue (begins ls) → item ls ≡ Ok (x, rest) → Items begins item rest us xs → Items begins item ls us (x ∷ xs)

module _ {A : Type 0} (begins : List Lexeme → Bool) (item : List Lexeme → Read A) where
  no_item : (ls us : List Lexeme) (xs : List A) → ◌≡◌ {A = Read (List A)} (Ok ([], ls)) (Ok (xs, us)) → Items begins item ls us xs
  no_item ls us xs h =
      let e = same_found [] xs ls us h in
      rw (← e.0, ← e.1) none

  one_item : (ls rest us : List Lexeme) (x : A) (ys xs : List A) → IsTrue (begins ls) → item ls ≡ Ok (x, rest) → Items begins item rest us ys → x ∷ ys ≡ xs → Items begins item ls us xs
  one_item ls rest us x ys xs i h b q = rw (← q) (next i h b)

  items_within : (m : ℕ) (ls us : List Lexeme) (xs : List A) → repeated_within begins item m ls ≡ Ok (xs, us) → Items begins item ls us xs
  items_within zero ls us xs h = turned (begins ls) refl h
    where
      turned : (b : Bool) → begins ls ≡ b → turn b (Err (syntax, ls)) (λ rest. Err (syntax, rest)) ls ≡ Ok (xs, us) → Items begins item ls us xs
      turned false e h = no_item ls us xs h
      turned true e h = absurd (cc)
  items_within (suc m) ls us xs h = turned (begins ls) refl h (items_within m)
    where
      turned : (b : Bool) → begins ls ≡ b → turn b (item ls) (λ rest. repeated_within begins item m rest) ls ≡ Ok (xs, us)
          → ((ls us : List Lexeme) (xs : List A) → repeated_within begins item m ls ≡ Ok (xs, us) → Items begins item ls us xs) → Items begins item ls us xs
      turned false e h ih = no_item ls us xs h
      turned true e h ih =
          let f = followed_ok (item ls) (λ x rest. read_as (λ ys. x ∷ ys) (repeated_within begins item m rest)) (xs, us) h in
          let r = read_as_ok (λ ys. f.first ∷ ys) (repeated_within begins item m f.rest) xs us f.then in
          one_item ls f.rest us f.first r.value xs e f.reads (ih f.rest us r.value r.reads) r.is

  pub items_ok : (ls us : List Lexeme) (xs : List A) → repeated begins item ls ≡ Ok (xs, us) → Items begins item ls us xs
  unfolding repeated
  items_ok ls us xs h = items_within (suc (length ls)) ls us xs h

-- Runs: where what is read of an item is P, what is read of a run is R.
module _ {A : Type 0} (c : Terminal) (item : List Lexeme → Read A) (P : List Lexeme → List Lexeme → A → Type 0) (R : List Lexeme → List Lexeme → List A → Type 0)
    (sound : (ls : List Lexeme) (x : A) (us : List Lexeme) → item ls ≡ Ok (x, us) → P ls us x)
    (last : (ls us : List Lexeme) (x : A) → P ls us x → R ls us (x ∷ []))
    (longer : (ls us vs : List Lexeme) (t : Lexeme) (x y : A) (xs : List A) → P ls (t ∷ us) x → IsTrue (is c t) → R us vs (y ∷ xs) → R ls vs (x ∷ y ∷ xs)) where
  pub run_from : (ls rest us : List Lexeme) (x : A) (xs : List A) → item ls ≡ Ok (x, rest) → Behind c item rest us xs → R ls us (x ∷ xs)
  run_from ls rest us x [] h done = last ls us x (sound ls x us h)
  run_from ls rest us x (y ∷ ys) h (more {t = t} {ls = mid} {rest = after} i g b) = longer ls mid us t x y ys (sound ls x (t ∷ mid) h) i (run_from mid after us y ys g b)

  pub run_tree : (ls us : List Lexeme) (xs : List A) → read_run c item ls ≡ Ok (xs, us) → R ls us xs
  run_tree ls us xs h =
      let r = run_ok c item ls us xs h in
      rw (← r.is) (run_from ls r.rest us r.first r.others r.reads r.behind)

-- a list of items that spell a part
pub takes_listed : {A : Type 0} (p : Part) (item : List Lexeme → Read A) → ((ls : List Lexeme) (x : A) (us : List Lexeme) → item ls ≡ Ok (x, us) → Takes p ls us) → (ls us : List Lexeme) (xs : List A) → listed item ls ≡ Ok (xs, us) → Takes (listed_part p) ls us
takes_listed p item sound ls us xs h = run_tree comma item (λ ls us x. Takes p ls us) (λ ls us xs. Takes (listed_part p) ls us) sound
    (λ ls us x d. both d no_more) (λ ls us vs t x y xs d i e. list_more d i e) ls us xs h
