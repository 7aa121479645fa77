-- Whether values apply the same, by the names that the code finds.
use Rattle.std.specs.Borrow.{Bor}
use Rattle.std.proofs.Common.{◌≡◌, refl, sym, ap, ◌∙◌, arith, Bool, true, false, ◌&&◌, IsTrue, List, [], ◌∷◌, length, bytes_eq, Option}
use Rattle.bpl_ast.specs.Tree.{Expr}
use Rattle.bpl_ast.specs.Statement.{Argument}
use Rattle.bpl_scopes.specs.Scopes.{Text}
use Rattle.bpl_declaration_faults.specs.DeclFaults.{same_texts}
use Rattle.bpl_dependencies.specs.AppliedView.{texts_seen}
use Rattle.body_revision.specs.Revised.{value_applies, value_quantified, ApplyTheSame}
use Rattle.body_revision.proofs.SameTexts.{texts_equal, texts_themselves}

pub texts_apart : (ms ns : List (Bor Text)) → (length ms ≡ length ns → ⊥) → false ≡ same_texts (texts_seen ms) (texts_seen ns)
texts_apart [] [] h = absurd (h refl)
texts_apart [] (n ∷ ns) h = refl
texts_apart (m ∷ ms) [] h = refl
texts_apart (m ∷ ms) (n ∷ ns) h = by (bytes_eq m.now n.now) (texts_apart ms ns (λ e. h (let k : length (m ∷ ms) ≡ length (n ∷ ns) = omega (arith, e) in k)))
  where
    by : (b : Bool) → false ≡ same_texts (texts_seen ms) (texts_seen ns) → false ≡ (b && same_texts (texts_seen ms) (texts_seen ns))
    by true e = e
    by false e = refl

module _ (ins : List Argument) (x y : Option Expr) where
  pub same_if : (b : Bool) → b ≡ same_texts (value_applies ins x) (value_applies ins y) → value_quantified x ≡ value_quantified y → IsTrue b → ApplyTheSame ins x y
  same_if b is both h = record { applied = sym (texts_equal (value_applies ins x) (value_applies ins y) (sym is ∙ h)); quantified = sym both }

  pub same_told : (b : Bool) → b ≡ same_texts (value_applies ins x) (value_applies ins y) → ApplyTheSame ins x y → IsTrue b
  same_told b is same = is ∙ (ap (same_texts (value_applies ins x)) same.applied ∙ texts_themselves (value_applies ins x))
