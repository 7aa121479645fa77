-- Reading from the front of the lexemes: what was read and what is left, or the lexemes at which a fault stands.
use Rattle.std.specs.Prelude.{ℕ, zero, suc, Bool, true, false, ◌||◌, cond, List, [], ◌∷◌, drop, length, codes, Result, Ok, Err}
use Rattle.bv_base.specs.declared.place.Place.{Place}
use Rattle.bpl_ast.specs.Place.{Name}
use Rattle.bpl_lex.specs.Token.{id}
use Rattle.bpl_grammar.specs.Lexeme.{Lexeme}
use Rattle.bpl_grammar.specs.Judge.{Mark, syntax, deep}
use Rattle.bpl_grammar.specs.Terminal.{Terminal, kind, fixed, sees}

abbrev pub Read : Type 0 → Type 0
Read A = Result (A × List Lexeme) (Mark × List Lexeme)

-- one after another
abbrev pub followed : {A B : Type 0} → Read A → (A → List Lexeme → Read B) → Read B
followed (Err e) next = Err e
followed (Ok p) next = next p.0 p.1

abbrev pub read_as : {A B : Type 0} → (A → B) → Read A → Read B
read_as f (Err e) = Err e
read_as f (Ok p) = Ok (f p.0, p.1)

-- the place of the next lexeme
abbrev pub place_of : List Lexeme → Place
place_of [] = record { line = 1; col = 1 }
place_of (t ∷ ts) = t.place

-- the text of the next lexeme
abbrev pub text_at : List Lexeme → List ℕ
text_at [] = []
text_at (t ∷ ts) = t.spelling

-- whether one of these is next
abbrev pub sees_one : List Terminal → List Lexeme → Bool
sees_one [] ls = false
sees_one (c ∷ cs) ls = sees c ls || sees_one cs ls

-- passes over this, which has to be next
abbrev pub read_token : Terminal → List Lexeme → Read (Unit {0})
read_token c ls = cond (sees c ls) (Ok (tt, drop 1 ls)) (Err (syntax, ls))

abbrev pub read_fixed : List ℕ → List Lexeme → Read (Unit {0})
read_fixed w ls = read_token (fixed w) ls

unfoldable pub read_name : List Lexeme → Read Name
read_name ls = read_as (λ u. record { text = text_at ls; at = place_of ls }) (read_token (kind id) ls)

-- what lies inside too many nestings: where it could begin, it is too deep
abbrev pub refused : {A : Type 0} → List Terminal → List Lexeme → Read A
refused cs ls = Err (cond (sees_one cs ls) deep syntax, ls)

-- items as long as one begins
abbrev pub turn : {A : Type 0} → Bool → Read A → (List Lexeme → Read (List A)) → List Lexeme → Read (List A)
turn true item more ls = followed item (λ a rest. read_as (λ xs. a ∷ xs) (more rest))
turn false item more ls = Ok ([], ls)

module _ {A : Type 0} (begins : List Lexeme → Bool) (item : List Lexeme → Read A) where
  -- at most so repeated
  abbrev pub repeated_within : ℕ → List Lexeme → Read (List A)
  repeated_within zero ls = turn (begins ls) (Err (syntax, ls)) (λ rest. Err (syntax, rest)) ls
  repeated_within (suc n) ls = turn (begins ls) (item ls) (λ rest. repeated_within n rest) ls

  unfoldable pub repeated : List Lexeme → Read (List A)
  repeated ls = repeated_within (suc (length ls)) ls

-- an item behind each of these signs
abbrev pub read_behind : {A : Type 0} → Terminal → (List Lexeme → Read A) → List Lexeme → Read (List A)
read_behind c item ls = repeated (sees c) (λ us. item (drop 1 us)) ls

-- items with a sign between them
abbrev pub read_run : {A : Type 0} → Terminal → (List Lexeme → Read A) → List Lexeme → Read (List A)
read_run c item ls = followed (item ls) (λ x rest. read_as (λ xs. x ∷ xs) (read_behind c item rest))

abbrev pub listed : {A : Type 0} → (List Lexeme → Read A) → List Lexeme → Read (List A)
listed item ls = read_run (fixed (codes ",")) item ls

unfoldable pub read_ids : List Lexeme → Read (List Name)
read_ids ls = listed read_name ls
