-- There is one part for each canonical line.
use Rattle.std.specs.Prelude.{◌≡◌, refl, ℕ, suc, ◌+◌, List, [], ◌∷◌, ◌++◌, map, length, Option, Some, None}
use Rattle.std.proofs.Common.{ap, ap₂, sym, ◌∙◌}
use Rattle.std.proofs.lemmas.List.{length-append}
use Rattle.bv_base.specs.declared.place.Place.{Place}
use Rattle.canonical_text.specs.Glyph.{Glyph}
use Rattle.bpl_ast.specs.Statement.{Stmt, stmt, Action, assert, assume, havoc, assign, call, branches, loop, «break», «return», goto, Branches, branch, otherwise, no_branch, Stmts, no_stmts, next, Body, Signature, DeclBody, constant, function, axiom_of, variables, synonym, procedure, implementation}
use Rattle.canonical_text.specs.Lines.{Lines, lines, head_lines, last_lines, braced, statement, action, chain, others, statements, spec_line, local_line, body_lines, optional_body, invariant_line}
use Rattle.bpl_scopes.specs.Scopes.{Text}
use Rattle.stmt_checksum.specs.Parts.{Part, parts, head_parts, last_parts, braced_parts, statement_parts, action_parts, chain_parts, others_parts, statements_parts, spec_part, local_part, hidden_in, body_parts, optional_body_parts, invariant_part}

-- there are as many
record Paired (ps : List Part) (ls : Lines) : Type 0 where
  same : length ps ≡ length ls

both : {ps qs : List Part} {ls ms : Lines} → Paired ps ls → Paired qs ms → Paired (ps ++ qs) (ls ++ ms)
both {ps = ps} {qs = qs} {ls = ls} {ms = ms} p q = record { same = length-append ps qs ∙ (ap₂ (λ (a b : ℕ). a + b) p.same q.same ∙ sym (length-append ls ms)) }

more : {x : Part} {l : List ℕ} {ps : List Part} {ls : Lines} → Paired ps ls → Paired (x ∷ ps) (l ∷ ls)
more p = record { same = ap suc p.same }

no_more : Paired [] []
no_more = record { same = refl }

one : {x : Part} {l : List ℕ} → Paired (x ∷ []) (l ∷ [])
one = more no_more

each : {A : Type 0} (f : A → Part) (g : A → List ℕ) (xs : List A) → Paired (map f xs) (map g xs)
each f g [] = no_more
each f g (x ∷ xs) = more (each f g xs)

in_braces : (n : ℕ) {ps : List Part} {ls : Lines} → Paired ps ls → Paired (braced_parts ps) (braced n ls)
in_braces n p = more (both p one)

mutual
  of_statement : (n : ℕ) (h : List Text) (s : Stmt) → Paired (statement_parts h s) (statement n s)
  of_statement n h (stmt ls p a) = of_action n h p _ a

  of_action : (n : ℕ) (h : List Text) (p : Place) (gs : List Glyph) (a : Action) → Paired (action_parts h p a) (action n gs a)
  of_action n h p gs (assert x) = one
  of_action n h p gs (assume x) = one
  of_action n h p gs (havoc ns) = one
  of_action n h p gs (assign ts xs) = one
  of_action n h p gs (call ns f xs) = one
  of_action n h p gs (branches bs) = of_chain n h gs bs
  of_action n h p gs (loop g is ss) = more (both (each (invariant_part h) (invariant_line (n + 2)) is) (in_braces n (of_statements (n + 2) h ss)))
  of_action n h p gs («break» l) = one
  of_action n h p gs «return» = one
  of_action n h p gs (goto ns) = one

  of_chain : (n : ℕ) (h : List Text) (gs : List Glyph) (bs : Branches) → Paired (chain_parts h bs) (chain n gs bs)
  of_chain n h gs (branch p g ss bs) = more (both (in_braces n (of_statements (n + 2) h ss)) (of_others n h bs))
  of_chain n h gs (otherwise ss) = no_more
  of_chain n h gs no_branch = no_more

  of_others : (n : ℕ) (h : List Text) (bs : Branches) → Paired (others_parts h bs) (others n bs)
  of_others n h (branch p g ss bs) = more (more (both (in_braces n (of_statements (n + 2) h ss)) (of_others n h bs)))
  of_others n h (otherwise ss) = more (in_braces n (of_statements (n + 2) h ss))
  of_others n h no_branch = no_more

  of_statements : (n : ℕ) (h : List Text) (ss : Stmts) → Paired (statements_parts h ss) (statements n ss)
  of_statements n h no_stmts = no_more
  of_statements n h (next s ss) = both (of_statement n h s) (of_statements n h ss)

of_body : (g : Signature) (b : Body) → Paired (body_parts g b) (body_lines b)
of_body g b = more (both (each (local_part (hidden_in g b)) local_line b.locals) (both (of_statements 2 (hidden_in g b) b.stmts) one))

of_optional_body : (g : Signature) (b : Option Body) → Paired (optional_body_parts g b) (optional_body b)
of_optional_body g None = no_more
of_optional_body g (Some b) = of_body g b

of_last : (d : DeclBody) → Paired (last_parts d) (last_lines d)
of_last (constant u ns t) = no_more
of_last (function n ps ins t b) = no_more
of_last (axiom_of x) = no_more
of_last (variables gs) = no_more
of_last (synonym n t) = no_more
of_last (procedure n ps g ss b) = of_optional_body g b
of_last (implementation n ps g b) = of_body g b

of_head : (d : DeclBody) → Paired (head_parts d) (head_lines d)
of_head (constant u ns t) = one
of_head (function n ps ins t b) = one
of_head (axiom_of x) = one
of_head (variables gs) = one
of_head (synonym n t) = one
of_head (procedure n ps g ss b) = more (each (spec_part _) spec_line ss)
of_head (implementation n ps g b) = one

of_parts : (d : DeclBody) → Paired (parts d) (lines d)
of_parts d = both (of_head d) (of_last d)

pub same_lines : (d : DeclBody) → length (parts d) ≡ length (lines d)
same_lines d = (of_parts d).same
