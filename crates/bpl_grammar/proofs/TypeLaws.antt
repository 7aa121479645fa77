-- What becomes of names and types that are read.
use Rattle.std.specs.Prelude.{◌≡◌, ℕ, zero, suc, ◌+◌, ◌≤◌, false, ◌||◌, List, [], ◌∷◌, drop, length, codes, IsTrue, Ok, Some, None, Option}
use Rattle.std.proofs.Common.{refl, ap, ◌∙◌, arith}
use Rattle.bpl_lex.specs.Token.{id}
use Rattle.bpl_ast.specs.Place.{Params, Ty}
use Rattle.bpl_grammar.specs.Lexeme.{Lexeme}
use Rattle.bpl_grammar.specs.Part.{Part, some, ◌⨟◌, ◌∣◌, maybe, many, inside, rule, ids, tpar, type}
use Rattle.bpl_grammar.specs.Grammar.{grammar, the, listed as listed_part, round, square}
use Rattle.bpl_grammar.specs.Judge.{judge}
use Rattle.bpl_grammar.specs.Reads.{sunk, opens}
use Rattle.bpl_grammar.specs.Terminal.{Terminal, kind, fixed, sees}
use Rattle.bpl_grammar.specs.Follows.{Bars}
use Rattle.bpl_grammar.specs.Reading.{Read, followed, read_as, place_of, read_fixed, read_name, read_behind, repeated, listed, read_ids}
use Rattle.bpl_grammar.specs.ReadTypes.{type_firsts, read_params, enclosed_type, type_of_map, type_with, read_type}
use Rattle.bpl_grammar.proofs.Firsts.{shut}
use Rattle.bpl_grammar.proofs.Sunk.{judge_rule, judge_order}
use Rattle.bpl_grammar.proofs.Choices.{opens_sunk}
use Rattle.bpl_grammar.proofs.Decisions.{absent_at, present_at, done_at, more_at, left_at, right_at}
use Rattle.bpl_grammar.proofs.Tails.{bars_then}
use Rattle.bpl_grammar.proofs.Loops.{Shrinks}
use Rattle.bpl_grammar.proofs.Found.{name_shrinks}
use Rattle.bpl_grammar.proofs.TypeTrees.{comma, type_shrinks}
use Rattle.bpl_grammar.specs.Law.{fate}
use Rattle.bpl_grammar.proofs.Fates.{fate_as, chain, chain_by, branch, opens_token, opens_behind, seen_there, token_fate, token_then, token_last, AreFirsts, refused_fate, behind_within}

pub name_fate : (n : ℕ) (k : Part) (ls : List Lexeme) → n ≤ 200 → judge (sunk n (some id) ⨟ k) ls ≡ fate k (read_name ls)
unfolding read_name
name_fate n k ls b = token_last n (kind id) k _ ls b refl

-- items with commas between them

module _ {A : Type 0} (n : ℕ) (p k : Part) (item : List Lexeme → Read A) (s : Shrinks item) (bars : Bars (comma ∷ []) k)
    (law : (ls : List Lexeme) → judge (sunk n p ⨟ (sunk n (many (the "," ⨟ p)) ⨟ k)) ls ≡ fate (sunk n (many (the "," ⨟ p)) ⨟ k) (item ls)) where
  barred : (ls : List Lexeme) → IsTrue (sees comma ls) → opens k ls ≡ false
  barred [] h = refl
  barred (t ∷ ts) h = bars t (ap (λ x. x || false) h)

  pub commas_fate : n ≤ 200 → (ls : List Lexeme) → judge (sunk n (many (the "," ⨟ p)) ⨟ k) ls ≡ fate k (read_behind comma item ls)
  unfolding repeated
  commas_fate b ls = behind_within n comma p k item b refl s
      (λ us h. more_at n (the "," ⨟ p) k us refl (opens_behind comma p us ∙ h) (barred us h))
      (λ us h. done_at n (the "," ⨟ p) k us refl (opens_behind comma p us ∙ h))
      law (suc (length ls)) ls (omega arith)

  -- items with commas between them: once one is read, they don't lie too deep
  pub listed_fate : ((ls : List Lexeme) (x : A) (rest : List Lexeme) → item ls ≡ Ok (x, rest) → n ≤ 200) → (ls : List Lexeme) → judge (sunk n (listed_part p) ⨟ k) ls ≡ fate k (listed item ls)
  listed_fate b ls = judge_order n p (many (the "," ⨟ p)) k ls
      ∙ (law ls
      ∙ chain_by (item ls) (λ x rest. read_as (λ xs. x ∷ xs) (read_behind comma item rest)) (sunk n (many (the "," ⨟ p)) ⨟ k) k
      (λ x rest e. commas_fate (b ls x rest e) rest ∙ fate_as (λ xs. x ∷ xs) (read_behind comma item rest) k))

pub ids_fate : (n : ℕ) (k : Part) (ls : List Lexeme) → n ≤ 200 → Bars (comma ∷ []) k → judge (sunk n (rule ids) ⨟ k) ls ≡ fate k (read_ids ls)
unfolding read_ids
ids_fate n k ls b bars = judge_rule n ids k ls ∙ listed_fate n (some id) k read_name name_shrinks bars (λ us. name_fate n _ us b) (λ us x rest e. b) ls

-- "<" Ids ">", where the rest can't begin with "<"
pub params_fate : (n : ℕ) (k : Part) (ls : List Lexeme) → n ≤ 200 → (IsTrue (sees (fixed (codes "<")) ls) → opens k ls ≡ false) → judge (sunk n (maybe (rule tpar)) ⨟ k) ls ≡ fate k (read_params ls)
unfolding read_params
params_fate n k ls b bars = branch (sees (fixed (codes "<")) ls) (judge (sunk n (maybe (rule tpar)) ⨟ k) ls) _ (Ok (None, ls)) k there absent
  where
    opened : opens (rule tpar) ls ≡ sees (fixed (codes "<")) ls
    opened = opens_behind (fixed (codes "<")) (rule ids ⨟ the ">") ls

    behind : (rest : List Lexeme) → judge (sunk n (rule ids ⨟ the ">") ⨟ k) rest ≡ fate {A = Option Params} k (followed (read_ids rest) (λ ns closed. read_as (λ u. Some (record { at = place_of ls; names = ns })) (read_fixed (codes ">") closed)))
    behind rest = judge_order n (rule ids) (the ">") k rest
        ∙ (ids_fate n (sunk n (the ">") ⨟ k) rest b (bars_then (comma ∷ []) n (the ">") k refl refl)
        ∙ chain {B = Option Params} (read_ids rest) (λ ns closed. read_as (λ u. Some (record { at = place_of ls; names = ns })) (read_fixed (codes ">") closed)) (sunk n (the ">") ⨟ k) k (λ ns closed. token_last n (fixed (codes ">")) k _ closed b refl))

    there : IsTrue (sees (fixed (codes "<")) ls) → judge (sunk n (maybe (rule tpar)) ⨟ k) ls ≡ fate {A = Option Params} k (followed (read_ids (drop 1 ls)) (λ ns rest. read_as (λ u. Some (record { at = place_of ls; names = ns })) (read_fixed (codes ">") rest)))
    there h = present_at n (rule tpar) k ls refl (opened ∙ h) (bars h)
        ∙ (judge_rule n tpar k ls ∙ (judge_order n (the "<") (rule ids ⨟ the ">") k ls ∙ (seen_there n (fixed (codes "<")) (sunk n (rule ids ⨟ the ">") ⨟ k) ls b refl h ∙ behind (drop 1 ls))))

    absent : sees (fixed (codes "<")) ls ≡ false → judge (sunk n (maybe (rule tpar)) ⨟ k) ls ≡ judge k ls
    absent h = absent_at n (rule tpar) k ls refl (opened ∙ h)

-- types

abbrev int_sign : Terminal
int_sign = fixed (codes "int")

abbrev bool_sign : Terminal
bool_sign = fixed (codes "bool")

abbrev open_sign : Terminal
open_sign = fixed (codes "(")

abbrev map_part : Part
map_part = maybe (rule tpar) ⨟ (square (listed_part (rule type)) ⨟ inside (rule type))

abbrev after_id : Part
after_id = round (rule type) ∣ map_part

abbrev after_bool : Part
after_bool = some id ∣ after_id

abbrev after_int : Part
after_int = the "bool" ∣ after_bool

-- every first token of a type
firsts_type : AreFirsts type_firsts (rule type)
firsts_type t = refl

module _ (n : ℕ) (inner : List Lexeme → Read Ty) (b : n ≤ 200) (within : (ls : List Lexeme) (x : Ty) (rest : List Lexeme) → inner ls ≡ Ok (x, rest) → suc n ≤ 200) (s : Shrinks inner) (law : (k : Part) (ls : List Lexeme) → judge (sunk (suc n) (rule type) ⨟ k) ls ≡ fate k (inner ls)) where
  enclosed_fate : (k : Part) (ls : List Lexeme) → judge (sunk n (round (rule type)) ⨟ k) ls ≡ fate k (enclosed_type inner ls)
  unfolding enclosed_type
  enclosed_fate k ls = token_then n (fixed (codes "(")) (inside (rule type) ⨟ the ")") k k _ ls b refl (λ rest.
      judge_order n (inside (rule type)) (the ")") k rest ∙ (law (sunk n (the ")") ⨟ k) rest ∙ chain (inner rest) _ (sunk n (the ")") ⨟ k) k (λ x closed. token_last n (fixed (codes ")")) k _ closed b refl)))

  map_fate : (k : Part) (ls : List Lexeme) → judge (sunk n (maybe (rule tpar) ⨟ (square (listed_part (rule type)) ⨟ inside (rule type))) ⨟ k) ls ≡ fate k (type_of_map inner ls)
  unfolding type_of_map
  map_fate k ls = judge_order n (maybe (rule tpar)) (square (listed_part (rule type)) ⨟ inside (rule type)) k ls
      ∙ (params_fate n (sunk n (square (listed_part (rule type)) ⨟ inside (rule type)) ⨟ k) ls b
      (λ h. opens_sunk n ls (square (listed_part (rule type)) ⨟ inside (rule type)) k refl ∙ shut (fixed (codes "<")) (square (listed_part (rule type)) ⨟ inside (rule type)) ls h refl)
      ∙ chain (read_params ls) _ (sunk n (square (listed_part (rule type)) ⨟ inside (rule type)) ⨟ k) k (λ ps opened.
      judge_order n (square (listed_part (rule type))) (inside (rule type)) k opened
      ∙ token_then n (fixed (codes "[")) (inside (listed_part (rule type)) ⨟ the "]") (sunk (suc n) (rule type) ⨟ k) k _ opened b refl (λ domain.
      judge_order n (inside (listed_part (rule type))) (the "]") (sunk (suc n) (rule type) ⨟ k) domain
      ∙ (listed_fate (suc n) (rule type) (sunk n (the "]") ⨟ (sunk (suc n) (rule type) ⨟ k)) inner s (bars_then (comma ∷ []) n (the "]") (sunk (suc n) (rule type) ⨟ k) refl refl) (λ us. law _ us) within domain
      ∙ chain (listed inner domain) _ (sunk n (the "]") ⨟ (sunk (suc n) (rule type) ⨟ k)) k (λ ds closed.
      token_fate n (fixed (codes "]")) (sunk (suc n) (rule type) ⨟ k) closed b refl
      ∙ chain (read_fixed (codes "]") closed) _ (sunk (suc n) (rule type) ⨟ k) k (λ u range. law k range ∙ fate_as _ (inner range) k))))))

  -- Type = "int" | "bool" | Id | "(" Type ")" | [TPar] "[" Type {"," Type} "]" Type
  roomy_fate : (k : Part) (ls : List Lexeme) → judge (sunk n (rule type) ⨟ k) ls ≡ fate k (type_with inner ls)
  unfolding type_with
  roomy_fate k ls = judge_rule n type k ls ∙ branch (sees int_sign ls) (judge (sunk n (grammar type) ⨟ k) ls) _ _ k
      (λ h. left_at n (the "int") after_int k ls refl (shut int_sign after_int ls h refl) ∙ seen_there n int_sign k ls b refl h)
      (λ h. right_at n (the "int") after_int k ls refl (opens_token int_sign ls ∙ h) ∙ branch (sees bool_sign ls) (judge (sunk n after_int ⨟ k) ls) _ _ k
      (λ h. left_at n (the "bool") after_bool k ls refl (shut bool_sign after_bool ls h refl) ∙ seen_there n bool_sign k ls b refl h)
      (λ h. right_at n (the "bool") after_bool k ls refl (opens_token bool_sign ls ∙ h) ∙ branch (sees (kind id) ls) (judge (sunk n after_bool ⨟ k) ls) _ _ k
      (λ h. left_at n (some id) after_id k ls refl (shut (kind id) after_id ls h refl) ∙ (name_fate n k ls b ∙ fate_as _ (read_name ls) k))
      (λ h. right_at n (some id) after_id k ls refl (opens_token (kind id) ls ∙ h) ∙ branch (sees open_sign ls) (judge (sunk n after_id ⨟ k) ls) _ _ k
      (λ h. left_at n (round (rule type)) map_part k ls refl (shut open_sign map_part ls h refl) ∙ enclosed_fate k ls)
      (λ h. right_at n (round (rule type)) map_part k ls refl (opens_behind open_sign (inside (rule type) ⨟ the ")") ls ∙ h) ∙ map_fate k ls))))

read_within : (room n : ℕ) → n + room ≡ 201 → (ls : List Lexeme) (x : Ty) (rest : List Lexeme) → read_type room ls ≡ Ok (x, rest) → n ≤ 200
read_within zero n e ls x rest h = absurd (cc)
read_within (suc room) n e ls x rest h = omega arith

-- a type, where there is room for so many nestings
pub type_fate : (room n : ℕ) → n + room ≡ 201 → (k : Part) (ls : List Lexeme) → judge (sunk n (rule type) ⨟ k) ls ≡ fate k (read_type room ls)
type_fate zero n e k ls = refused_fate Ty n type_firsts (rule type) k ls firsts_type refl (omega arith)
type_fate (suc room) n e k ls = roomy_fate n (read_type room) (omega arith) (read_within room (suc n) (omega arith)) (type_shrinks room) (type_fate room (suc n) (omega arith)) k ls
