-- What is taken of a request is what it leaves of the declarations.
use Rattle.std.proofs.Common.{◌≡◌, ◌∙◌, refl, ap, subst, ℕ, not, List, [], ◌∷◌, find, Option, Some, None, Result, Ok, Err, ok_or}
use Rattle.bpl_ast.specs.Statement.{Decl}
use Rattle.bpl_grammar.specs.Fault.{Fault}
use Rattle.bpl_grammar.specs.Programs.{SpellsProgram}
use Rattle.bv_base.specs.Text.{is_among}
use Rattle.request_text.specs.Request.{Put, Request, open_text, edit, status, report, sums, proofs, quit}
use Rattle.program_edits.specs.Edited.{Edited, edited, other_name, IsReadAs, Texts, TellsTexts, the_one, put_as, and_then, names, after_puts, opened, puts_of, unless_lacking, IsEdited}
use Rattle.program_edits.specs.Leaves.{ArePut, Leaves}
use Rattle.program_edits.specs.Leaves as leaves
use Rattle.program_edits.proofs.Keeps.{puts_refuse}

module _ (p : Put) (ps : List Put) (ds : List Decl) where
  by_one : (xs : List Decl) → SpellsProgram p.text xs → (o : Option Decl) → the_one p.name xs ≡ o → (rest : Result (List Decl) Edited) → ((es : List Decl) → rest ≡ Ok es → ArePut ps es) → and_then (ok_or o (other_name p.name)) rest ≡ Ok ds → ArePut (p ∷ ps) ds
  by_one xs h None is rest k e = absurd (cc)
  by_one xs h (Some d) is (Err f) k e = absurd (cc)
  by_one xs h (Some d) is (Ok es) k e =
      let same : d ∷ es ≡ ds = cc in
      subst (ArePut (p ∷ ps)) same (leaves.ArePut.one_more xs h is (k es refl))

  by_text : (r : Result (List Decl) Fault) → IsReadAs p.text r → (rest : Result (List Decl) Edited) → ((es : List Decl) → rest ≡ Ok es → ArePut ps es) → and_then (put_as p r) rest ≡ Ok ds → ArePut (p ∷ ps) ds
  by_text (Err f) h rest k e = absurd (cc)
  by_text (Ok xs) h rest k e = by_one xs h (the_one p.name xs) refl rest k e

are_put : (s : Texts) → TellsTexts s → (ps : List Put) (ds : List Decl) → puts_of s ps ≡ Ok ds → ArePut ps ds
are_put s tells [] ds e =
    let same : [] ≡ ds = cc in
    subst (ArePut []) same leaves.ArePut.no_puts
are_put s tells (p ∷ ps) ds e = by_text p ps ds (s p.text) (tells p.text) (puts_of s ps) (λ es is. are_put s tells ps es is) e

by_puts : (s : Texts) → TellsTexts s → (old : List Decl) (puts : List Put) (drops : List (List ℕ)) (new : List Decl) (r : Result (List Decl) Edited) → puts_of s puts ≡ r → after_puts old r drops ≡ edited new → Leaves old (edit puts drops) new
by_puts s tells old puts drops new (Err x) is e = absurd (puts_refuse s puts new (is ∙ ap Err e))
by_puts s tells old puts drops new (Ok ds) is e =
    let same : _ ≡ new = cc in
    subst (Leaves old (edit puts drops)) same (leaves.Leaves.revised puts drops ds (are_put s tells puts ds is))

by_drops : (s : Texts) → TellsTexts s → (old : List Decl) (puts : List Put) (drops : List (List ℕ)) (new : List Decl) (o : Option (List ℕ)) → unless_lacking s o old puts drops ≡ edited new → Leaves old (edit puts drops) new
by_drops s tells old puts drops new (Some n) e = absurd (cc)
by_drops s tells old puts drops new None e = by_puts s tells old puts drops new (puts_of s puts) refl e

by_open : (old : List Decl) (text : List ℕ) (new : List Decl) (r : Result (List Decl) Fault) → IsReadAs text r → opened text r ≡ edited new → Leaves old (open_text text) new
by_open old text new (Err f) h e = absurd (cc)
by_open old text new (Ok ds) h e =
    let same : ds ≡ new = cc in
    subst (Leaves old (open_text text)) same (leaves.Leaves.opened text ds h)

some_is : {x y : Edited} → ◌≡◌ {A = Option Edited} (Some x) (Some y) → x ≡ y
some_is p = cc

pub taken_is_left : (old : List Decl) (r : Request) (new : List Decl) → IsEdited old r (edited new) → Leaves old r new
taken_is_left old (open_text text) new h = by_open old text new (h.0 text) (h.1 text) (some_is h.2)
taken_is_left old (edit puts drops) new h = by_drops h.0 h.1 old puts drops new (find (λ n. not (is_among (names old) n)) drops) (some_is h.2)
taken_is_left old status new h = absurd (let never = h.2 in cc)
taken_is_left old report new h = absurd (let never = h.2 in cc)
taken_is_left old sums new h = absurd (let never = h.2 in cc)
taken_is_left old proofs new h = absurd (let never = h.2 in cc)
taken_is_left old quit new h = absurd (let never = h.2 in cc)
