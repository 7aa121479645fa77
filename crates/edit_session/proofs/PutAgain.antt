-- Where nothing is put, and what was to be put is given back, it can be put in another way.
use Rattle.std.proofs.Common.{◌≡◌, sym, ap, subst, List, Option, Some, None, Ok}
use Rattle.bpl_ast.specs.Statement.{Decl}
use Rattle.request_text.specs.Request.{Request, open_text, edit, status, report, sums, proofs, quit, Reply}
use Rattle.program_edits.specs.Edited.{Edited, edited, IsEdited}
use Rattle.program_edits.specs.Refusals.{IsChange}
use Rattle.program_edits.specs.Replaced.{with_replacements, AreThere}
use Rattle.program_edits.specs.declared.replaced.Replacement.{Replacement}
use Rattle.edit_session.specs.Kept.{Session, IsAnswered}
use Rattle.edit_session.specs.Told.{IsUnchanged}
use Rattle.edit_session.proofs.Unchanged.{after_unchanged}

-- what edits declarations is an open or an edit
changes : (ds : List Decl) (r : Request) (e : Edited) → IsEdited ds r e → IsChange r
changes ds (open_text text) e h = tt
changes ds (edit puts drops) e h = tt
changes ds status e h = let none : ◌≡◌ {A = Option Edited} None (Some e) = h.2 in absurd (cc)
changes ds report e h = let none : ◌≡◌ {A = Option Edited} None (Some e) = h.2 in absurd (cc)
changes ds sums e h = let none : ◌≡◌ {A = Option Edited} None (Some e) = h.2 in absurd (cc)
changes ds proofs e h = let none : ◌≡◌ {A = Option Edited} None (Some e) = h.2 in absurd (cc)
changes ds quit e h = let none : ◌≡◌ {A = Option Edited} None (Some e) = h.2 in absurd (cc)

same_decls : (s t : Session) → IsUnchanged s t → t.state.decls ≡ s.state.decls
same_decls s t h = ap (λ (u : Session). u.state.decls) h.is

module _ (s t : Session) (rs qs : List Replacement) (h : IsUnchanged s t) (back : qs ≡ rs) where
  pub there_still : AreThere s.state.decls rs → AreThere t.state.decls qs
  there_still there = subst (λ (ds : List Decl). AreThere ds qs) (sym (same_decls s t h)) (subst (λ (xs : List Replacement). AreThere s.state.decls xs) (sym back) there)

  still : t.state.decls ≡ s.state.decls → with_replacements s.state.decls rs ≡ with_replacements t.state.decls qs
  still same = λ i. with_replacements (sym same i) (sym back i)

pub put_still : (P : List Decl → Type 0) (s t : Session) (rs qs : List Replacement) → IsUnchanged s t → qs ≡ rs → P (with_replacements s.state.decls rs) → P (with_replacements t.state.decls qs)
put_still P s t rs qs h back p = subst P (still s t rs qs h back (same_decls s t h)) p

pub answered_still : (s t u : Session) (rs qs : List Replacement) (x : Reply) → IsUnchanged s t → qs ≡ rs
    → ((r : Request) → IsEdited t.state.decls r (edited (with_replacements t.state.decls qs)) → IsAnswered t (Ok r) x u)
    → (r : Request) → IsEdited s.state.decls r (edited (with_replacements s.state.decls rs)) → IsAnswered s (Ok r) x u
answered_still s t u rs qs x h back answered r is =
    let there = subst (λ (ds : List Decl). IsEdited ds r (edited (with_replacements s.state.decls rs))) (sym (same_decls s t h)) is in
    after_unchanged s t u r x (changes s.state.decls r (edited (with_replacements s.state.decls rs)) is) h
    (answered r (subst (λ (ds : List Decl). IsEdited t.state.decls r (edited ds)) (still s t rs qs h back (same_decls s t h)) there))

-- what lists are edited to may be named otherwise
pub edited_again : (ds : List Decl) (r : Request) (xs ys : List Decl) → xs ≡ ys → IsEdited ds r (edited ys) → IsEdited ds r (edited xs)
edited_again ds r xs ys same is = subst (λ (zs : List Decl). IsEdited ds r (edited zs)) (sym same) is
