-- Two declarations that both state axioms.
use Rattle.std.proofs.Common.{◌≡◌, refl, sym, ap, ◌∙◌, Bool, true, false, ◌&&◌}
use Rattle.std.proofs.lemmas.Bool.{false≢true}
use Rattle.bpl_ast.specs.Statement.{DeclBody, constant, function, axiom_of, variables, synonym, procedure, implementation}
use Rattle.body_revision.specs.Procedures.{is_axiom}
use Rattle.body_revision.specs.Revised.{IsOtherAxiom}

pub both_axioms : (d e : DeclBody) → (is_axiom d && is_axiom e) ≡ true → IsOtherAxiom d e
both_axioms (axiom_of x) (axiom_of y) h = record { before = x; after = y; old = refl; new = refl }
both_axioms (axiom_of x) (constant u ns s) h = absurd (false≢true h)
both_axioms (axiom_of x) (function n ps ins r y) h = absurd (false≢true h)
both_axioms (axiom_of x) (variables gs) h = absurd (false≢true h)
both_axioms (axiom_of x) (synonym n s) h = absurd (false≢true h)
both_axioms (axiom_of x) (procedure n ps s ss b) h = absurd (false≢true h)
both_axioms (axiom_of x) (implementation n ps s b) h = absurd (false≢true h)
both_axioms (constant u ns s) e h = absurd (false≢true h)
both_axioms (function n ps ins r y) e h = absurd (false≢true h)
both_axioms (variables gs) e h = absurd (false≢true h)
both_axioms (synonym n s) e h = absurd (false≢true h)
both_axioms (procedure n ps s ss b) e h = absurd (false≢true h)
both_axioms (implementation n ps s b) e h = absurd (false≢true h)

pub axioms_both : (d e : DeclBody) → IsOtherAxiom d e → (is_axiom d && is_axiom e) ≡ true
axioms_both d e r = λ i. is_axiom (r.old i) && is_axiom (r.new i)
