-- Names that have the same texts, in order, and the clauses that name them.
use Rattle.std.specs.Borrow.{Bor}
use Rattle.std.proofs.Common.{◌≡◌, refl, sym, ap, ◌∙◌, Bool, true, ◌&&◌, IsTrue, List, [], ◌∷◌, flat_map, bytes_eq}
use Rattle.std.proofs.lemmas.Bool.{false≢true}
use Rattle.logic_terms.proofs.Booleans.{both_true}
use Rattle.bpl_ast.specs.Place.{Name}
use Rattle.bpl_ast.specs.Statement.{Spec}
use Rattle.bpl_scopes.specs.Scopes.{Text, texts_of, spec_names}
use Rattle.bpl_faults.specs.Arguments.{names_seen}
use Rattle.bpl_declaration_faults.specs.DeclFaults.{same_texts}
use Rattle.bpl_resolve.proofs.Ways.{same_text, text_itself}
use Rattle.body_revision.specs.Revised.{names_modified}

pub texts_equal : (ms ns : List Text) → same_texts ms ns ≡ true → ms ≡ ns
texts_equal [] [] h = refl
texts_equal [] (n ∷ ns) h = absurd (false≢true h)
texts_equal (m ∷ ms) [] h = absurd (false≢true h)
texts_equal (m ∷ ms) (n ∷ ns) h =
    let p = both_true (bytes_eq m n) (same_texts ms ns) h in
    λ i. same_text m n p.0 i ∷ texts_equal ms ns p.1 i

pub texts_themselves : (ms : List Text) → same_texts ms ms ≡ true
texts_themselves [] = refl
texts_themselves (m ∷ ms) = λ i. text_itself m i && texts_themselves ms i

module _ (ss zs : List Spec) (ms ns : List (Bor Name)) (b : Bool) (mine : names_seen ms ≡ flat_map spec_names ss) (theirs : names_seen ns ≡ flat_map spec_names zs) (is : b ≡ same_texts (texts_of (names_seen ms)) (texts_of (names_seen ns))) where
  told_by : b ≡ same_texts (names_modified ss) (names_modified zs)
  told_by = is ∙ (λ i. same_texts (texts_of (mine i)) (texts_of (theirs i)))

  pub modified_equal : IsTrue b → names_modified ss ≡ names_modified zs
  modified_equal h = texts_equal (names_modified ss) (names_modified zs) (sym told_by ∙ h)

  pub modified_told : names_modified ss ≡ names_modified zs → IsTrue b
  modified_told e = told_by ∙ ap (λ ws. same_texts ws (names_modified zs)) e ∙ texts_themselves (names_modified zs)
