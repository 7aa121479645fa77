-- Which tokens spell which names and types.
use Rattle.std.specs.Prelude.{List, [], ◌∷◌, codes, IsTrue, Option, Some, None}
use Rattle.bpl_lex.specs.Token.{id}
use Rattle.bv_base.specs.declared.place.Place.{Place}
use Rattle.bpl_ast.specs.Place.{Name, Params, Ty, integer, boolean, named, map_type, Tys, no_tys, ty, ty_from}
use Rattle.bpl_grammar.specs.Lexeme.{Lexeme, is_kind, reads}
use Prim.Native.String.{String}

abbrev pub Lexemes : Type 0
Lexemes = List Lexeme

-- the token is this word or sign
abbrev pub Is : String → Lexeme → Type 0
Is w t = IsTrue (reads (codes w) t)

abbrev pub IsId : Lexeme → Type 0
IsId t = IsTrue (is_kind id t)

-- `place` is each token's place in its declaration. In each relation a front of the first list of tokens
-- spells the tree, and the second list is the rest.
module _ (place : Lexeme → Place) where
  abbrev pub name : Lexeme → Name
  name t = record { text = t.spelling; at = place t }

  pub data Ids : Lexemes → Lexemes → List Name → Type 0 where
    one : {t : Lexeme} {ts : Lexemes} → IsId t → Ids (t ∷ ts) ts (name t ∷ [])
    more : {t u : Lexeme} {ts us : Lexemes} {ns : List Name} → IsId t → Is "," u → Ids ts us ns → Ids (t ∷ u ∷ ts) us (name t ∷ ns)

  pub data TPar : Lexemes → Lexemes → Option Params → Type 0 where
    absent : {ts : Lexemes} → TPar ts ts None
    present : {t u : Lexeme} {ts us : Lexemes} {ns : List Name} → Is "<" t → Ids ts (u ∷ us) ns → Is ">" u
        → TPar (t ∷ ts) us (Some (record { at = place t; names = ns }))

  mutual
    pub data Type' : Lexemes → Lexemes → Ty → Type 0 where
      int : {t : Lexeme} {ts : Lexemes} → Is "int" t → Type' (t ∷ ts) ts (integer (place t))
      bool : {t : Lexeme} {ts : Lexemes} → Is "bool" t → Type' (t ∷ ts) ts (boolean (place t))
      of_name : {t : Lexeme} {ts : Lexemes} → IsId t → Type' (t ∷ ts) ts (named (place t) (name t))
      round : {t u : Lexeme} {ts us : Lexemes} {x : Ty} → Is "(" t → Type' ts (u ∷ us) x → Is ")" u → Type' (t ∷ ts) us (ty_from (place t) x)
      map : {t u v : Lexeme} {rest ts us vs : Lexemes} {ps : Option Params} {ds : Tys} {r : Ty}
          → TPar (t ∷ rest) (u ∷ ts) ps → Is "[" u → Types ts (v ∷ us) ds → Is "]" v → Type' us vs r
          → Type' (t ∷ rest) vs (map_type (place t) ps ds r)

    pub data Types : Lexemes → Lexemes → Tys → Type 0 where
      one : {ts us : Lexemes} {x : Ty} → Type' ts us x → Types ts us (ty x no_tys)
      more : {u : Lexeme} {ts us vs : Lexemes} {x : Ty} {xs : Tys} → Type' ts (u ∷ us) x → Is "," u → Types us vs xs → Types ts vs (ty x xs)
