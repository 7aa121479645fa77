-- What an open or an edit that is taken leaves of the declarations.
use Rattle.std.specs.Prelude.{◌≡◌, ℕ, List, [], ◌∷◌, Some}
use Rattle.bpl_ast.specs.Statement.{Decl}
use Rattle.bpl_grammar.specs.Programs.{SpellsProgram}
use Rattle.request_text.specs.Request.{Put, Request, open_text, edit}
use Rattle.program_edits.specs.Applied.{the_one, numbered, applied}

-- the text of each put spells one declaration, of the put's name
pub data ArePut : List Put → List Decl → Type 0 where
  no_puts : ArePut [] []
  one_more : {p : Put} {ps : List Put} {d : Decl} {ds : List Decl} (spelled : List Decl) → SpellsProgram p.text spelled → the_one p.name spelled ≡ Some d → ArePut ps ds → ArePut (p ∷ ps) (d ∷ ds)

-- an open leaves what its text spells; an edit takes drops out, and each put takes the place of the declaration of its name or goes to the end
module _ (old : List Decl) where
  pub data Leaves : Request → List Decl → Type 0 where
    opened : (text : List ℕ) (ds : List Decl) → SpellsProgram text ds → Leaves (open_text text) ds
    revised : (puts : List Put) (drops : List (List ℕ)) (ds : List Decl) → ArePut puts ds → Leaves (edit puts drops) (numbered 0 (applied old ds drops))
