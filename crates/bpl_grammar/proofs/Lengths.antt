-- What reads leaves less than there was, or no more.
use Rattle.std.specs.Prelude.{◌≡◌, ℕ, zero, suc, ◌<◌, ◌≤◌, Bool, true, false, cond, List, [], ◌∷◌, drop, length, IsTrue, Ok, Err}
use Rattle.std.proofs.Common.{refl, arith}
use Rattle.bpl_grammar.specs.Lexeme.{Lexeme}
use Rattle.bpl_grammar.specs.Judge.{Mark, syntax}
use Rattle.bpl_grammar.specs.Terminal.{Terminal, sees}
use Rattle.bpl_grammar.specs.Reading.{Read, followed, read_as, read_token, refused, turn, repeated_within, repeated, read_behind, read_run}
use Rattle.bpl_grammar.proofs.Found.{same_found, token_ok}

-- fewer than n lexemes are left
abbrev pub Less : {A : Type 0} → ℕ → Read A → Type 0
Less {A} n o = (a : A) (rest : List Lexeme) → o ≡ Ok (a, rest) → length rest < n

-- at most n are left
abbrev pub Most : {A : Type 0} → ℕ → Read A → Type 0
Most {A} n o = (a : A) (rest : List Lexeme) → o ≡ Ok (a, rest) → length rest ≤ n

pub less_most : {A : Type 0} (n : ℕ) (o : Read A) → Less n o → Most n o
less_most n o l = λ a rest h. omega (arith, l a rest h)

pub less_refused : {A : Type 0} (cs : List Terminal) (ls : List Lexeme) (n : ℕ) → Less {A = A} n (refused cs ls)
less_refused cs ls n = λ a rest h. absurd (cc)

pub less_err : {A : Type 0} (e : Mark × List Lexeme) (n : ℕ) → Less {A = A} n (Err e)
less_err e n = λ a rest h. absurd (cc)

pub less_as : {A B : Type 0} (n : ℕ) (f : A → B) (o : Read A) → Less n o → Less n (read_as f o)
less_as n f (Err e) l = λ b rest h. absurd (cc)
less_as n f (Ok p) l = λ b rest h.
    let e = same_found (f p.0) b p.1 rest h in
    rw (← e.1) (l p.0 p.1 refl)

pub most_as : {A B : Type 0} (n : ℕ) (f : A → B) (o : Read A) → Most n o → Most n (read_as f o)
most_as n f (Err e) l = λ b rest h. absurd (cc)
most_as n f (Ok p) l = λ b rest h.
    let e = same_found (f p.0) b p.1 rest h in
    rw (← e.1) (l p.0 p.1 refl)

-- one after another, the first or the second of which leaves less

pub less_then : {A B : Type 0} (n : ℕ) (o : Read A) (next : A → List Lexeme → Read B) → Less n o → ((a : A) (rest : List Lexeme) → Most (length rest) (next a rest)) → Less n (followed o next)
less_then n (Err e) next l m = λ b rest h. absurd (cc)
less_then n (Ok p) next l m = λ b rest h. omega (arith, l p.0 p.1 refl, m p.0 p.1 b rest h)

pub most_less : {A B : Type 0} (n : ℕ) (o : Read A) (next : A → List Lexeme → Read B) → Most n o → ((a : A) (rest : List Lexeme) → Less (length rest) (next a rest)) → Less n (followed o next)
most_less n (Err e) next l m = λ b rest h. absurd (cc)
most_less n (Ok p) next l m = λ b rest h. omega (arith, l p.0 p.1 refl, m p.0 p.1 b rest h)

pub most_then : {A B : Type 0} (n : ℕ) (o : Read A) (next : A → List Lexeme → Read B) → Most n o → ((a : A) (rest : List Lexeme) → Most (length rest) (next a rest)) → Most n (followed o next)
most_then n (Err e) next l m = λ b rest h. absurd (cc)
most_then n (Ok p) next l m = λ b rest h. omega (arith, l p.0 p.1 refl, m p.0 p.1 b rest h)

pub less_if : {A : Type 0} (b : Bool) (n : ℕ) (x y : Read A) → (IsTrue b → Less n x) → (b ≡ false → Less n y) → Less n (cond b x y)
less_if true n x y f g = f refl
less_if false n x y f g = g refl

pub most_if : {A : Type 0} (b : Bool) (n : ℕ) (x y : Read A) → (IsTrue b → Most n x) → (b ≡ false → Most n y) → Most n (cond b x y)
most_if true n x y f g = f refl
most_if false n x y f g = g refl

-- tokens

pub less_token : (c : Terminal) (ls : List Lexeme) → Less (length ls) (read_token c ls)
less_token c ls = λ u rest h.
    let k = token_ok c ls rest h in
    rw k.there (omega arith)

pub less_seen : {A : Type 0} (c : Terminal) (ls : List Lexeme) (x : A) → IsTrue (sees c ls) → Less (length ls) (Ok (x, drop 1 ls))
less_seen c [] x s = absurd (cc)
less_seen c (t ∷ ts) x s = λ a rest h.
    let e = same_found x a ts rest h in
    rw (← e.1) (omega arith)

pub most_here : {A : Type 0} (ls : List Lexeme) (x : A) → Most (length ls) (Ok (x, ls))
most_here ls x = λ a rest h.
    let e = same_found x a ls rest h in
    rw (← e.1) (omega arith)

drop_shorter : (ls : List Lexeme) → length (drop 1 ls) ≤ length ls
drop_shorter [] = omega arith
drop_shorter (l ∷ ls) = omega arith

-- behind the next token
pub less_behind : {A : Type 0} (ls : List Lexeme) (o : Read A) → Less (length (drop 1 ls)) o → Less (length ls) o
less_behind ls o l = λ a rest h. omega (arith, l a rest h, drop_shorter ls)

-- as long as an item begins

pub most_within : {A : Type 0} (begins : List Lexeme → Bool) (item : List Lexeme → Read A) → ((ls : List Lexeme) → Most (length ls) (item ls)) → (m : ℕ) (ls : List Lexeme) → Most (length ls) (repeated_within begins item m ls)
most_within {A} begins item s zero ls = turned (begins ls)
  where
    turned : (b : Bool) → Most {A = List A} (length ls) (turn {A = A} b (Err (syntax, ls)) (λ rest. Err (syntax, rest)) ls)
    turned false = most_here ls []
    turned true = λ xs rest h. absurd (cc)
most_within {A} begins item s (suc m) ls = turned (begins ls) (most_within begins item s m)
  where
    turned : (b : Bool) → ((us : List Lexeme) → Most {A = List A} (length us) (repeated_within begins item m us)) → Most {A = List A} (length ls) (turn b (item ls) (λ rest. repeated_within begins item m rest) ls)
    turned false ih = most_here ls []
    turned true ih = most_then (length ls) (item ls) (λ x rest. read_as (λ xs. x ∷ xs) (repeated_within begins item m rest)) (s ls) (λ x rest. most_as (length rest) (λ xs. x ∷ xs) (repeated_within begins item m rest) (ih rest))

pub most_repeated : {A : Type 0} (begins : List Lexeme → Bool) (item : List Lexeme → Read A) → ((ls : List Lexeme) → Less (length ls) (item ls)) → (ls : List Lexeme) → Most (length ls) (repeated begins item ls)
unfolding repeated
most_repeated begins item s ls = most_within begins item (λ us. less_most (length us) (item us) (s us)) (suc (length ls)) ls

pub most_behind : {A : Type 0} (c : Terminal) (item : List Lexeme → Read A) → ((ls : List Lexeme) → Less (length ls) (item ls)) → (ls : List Lexeme) → Most (length ls) (read_behind c item ls)
most_behind c item s ls = most_repeated (sees c) (λ us. item (drop 1 us)) (λ us. less_behind us (item (drop 1 us)) (s (drop 1 us))) ls

pub less_run : {A : Type 0} (c : Terminal) (item : List Lexeme → Read A) → ((ls : List Lexeme) → Less (length ls) (item ls)) → (ls : List Lexeme) → Less (length ls) (read_run c item ls)
less_run c item s ls = less_then (length ls) (item ls) (λ x rest. read_as (λ xs. x ∷ xs) (read_behind c item rest)) (s ls)
    (λ x rest. most_as (length rest) (λ xs. x ∷ xs) (read_behind c item rest) (most_behind c item s rest))
