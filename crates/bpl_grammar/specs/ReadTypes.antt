-- Reading type parameters and types.
use Rattle.std.specs.Prelude.{ℕ, zero, suc, cond, List, [], ◌∷◌, drop, codes, Option, Some, None, Ok}
use Rattle.bpl_lex.specs.Token.{id}
use Rattle.bpl_ast.specs.Place.{Params, Ty, integer, boolean, named, map_type, ty_from}
use Rattle.bpl_ast.specs.TypeView.{tys_of}
use Rattle.bpl_grammar.specs.Lexeme.{Lexeme}
use Rattle.bpl_grammar.specs.Terminal.{Terminal, kind, fixed, sees}
use Rattle.bpl_grammar.specs.Reading.{Read, followed, read_as, place_of, read_fixed, read_name, refused, listed, read_ids}

-- the tokens with which a type can begin
abbrev pub type_firsts : List Terminal
type_firsts = fixed (codes "int") ∷ fixed (codes "bool") ∷ kind id ∷ fixed (codes "(") ∷ fixed (codes "<") ∷ fixed (codes "[") ∷ []

-- [TPar], TPar = "<" Ids ">"
unfoldable pub read_params : List Lexeme → Read (Option Params)
read_params ls = cond (sees (fixed (codes "<")) ls)
    (followed (read_ids (drop 1 ls)) (λ ns rest. read_as (λ u. Some (record { at = place_of ls; names = ns })) (read_fixed (codes ">") rest)))
    (Ok (None, ls))

module _ (inner : List Lexeme → Read Ty) where
  -- "(" Type ")"
  unfoldable pub enclosed_type : List Lexeme → Read Ty
  enclosed_type ls = followed (read_fixed (codes "(") ls) (λ u opened. followed (inner opened) (λ x rest. read_as (λ u. ty_from (place_of ls) x) (read_fixed (codes ")") rest)))

  -- [TPar] "[" Type {"," Type} "]" Type
  unfoldable pub type_of_map : List Lexeme → Read Ty
  type_of_map ls =
      followed (read_params ls) (λ ps opened. followed (read_fixed (codes "[") opened) (λ u domain. followed (listed inner domain) (λ ds closed.
      followed (read_fixed (codes "]") closed) (λ u range. read_as (λ r. map_type (place_of ls) ps (tys_of ds) r) (inner range)))))

  unfoldable pub type_with : List Lexeme → Read Ty
  type_with ls =
      cond (sees (fixed (codes "int")) ls) (Ok (integer (place_of ls), drop 1 ls))
      (cond (sees (fixed (codes "bool")) ls) (Ok (boolean (place_of ls), drop 1 ls))
      (cond (sees (kind id) ls) (read_as (λ n. named (place_of ls) n) (read_name ls))
      (cond (sees (fixed (codes "(")) ls) (enclosed_type ls) (type_of_map ls))))

-- a type where there is room for so many nestings, the one that it stands in among them
abbrev pub read_type : ℕ → List Lexeme → Read Ty
read_type zero ls = refused type_firsts ls
read_type (suc room) ls = type_with (read_type room) ls
