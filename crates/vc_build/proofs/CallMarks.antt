-- Calls that are replaced by contracts have the marks of what the callees require.
use Rattle.std.specs.Prelude.{◌≡◌, refl, ℕ, ◌+◌, List, [], ◌∷◌, ◌++◌, map, length, flat_map, zip, slice_get, Option, Some, None}
use Rattle.std.proofs.Common.{ap, sym, ◌∙◌}
use Rattle.std.proofs.lemmas.List.{append-nil, append_assoc}
use Rattle.bv_base.specs.declared.place.Place.{Place}
use Rattle.logic_core.specs.Tree.{Tree, free}
use Rattle.logic_core.specs.Variables.{renamed}
use Rattle.flow_core.specs.declared.mark.GoalKind.TheVariants.{InvariantEntry, InvariantKept}
use Rattle.flow_core.specs.declared.mark.Mark.{Mark}
use Rattle.flow_core.specs.Clause.{Clause, checked, assumed}
use Rattle.bpl_model.specs.Module.{Name, Stmt, assert, assume, havoc, assign, call, if_else, while, break, return, goto, labelled, Stmts, no_stmts, stmt, Proc, Module}
use Rattle.bpl_model.specs.StmtView.{stmts_of}
use Rattle.bpl_model.specs.Contract.{postconditions, call_checks, modified}
use Rattle.bpl_model.specs.Cut.{append, one, arguments, old_globals, results, over, check, contract_of, cut_call, with_labels, cut_stmt, cut_list}
use Rattle.vc_build.specs.Marks.{marks_read, invariant_marks, stmt_marks, list_marks, contract_marks, call_marks}
use Rattle.vc_build.proofs.BlockMarks.{own_marks, own_list}

each_marked : (ss : List Stmt) → own_list (stmts_of ss) ≡ flat_map own_marks ss
each_marked [] = refl
each_marked (s ∷ ss) = ap (λ ms. own_marks s ++ ms) (each_marked ss)

flat_both : (xs ys : List Stmt) → flat_map own_marks (xs ++ ys) ≡ flat_map own_marks xs ++ flat_map own_marks ys
flat_both [] ys = refl
flat_both (x ∷ xs) ys = ap (λ ms. own_marks x ++ ms) (flat_both xs ys) ∙ sym (append_assoc (own_marks x) (flat_map own_marks xs) (flat_map own_marks ys))

checks_marked : (new : ℕ → ℕ) (at : Place) (cs : List Clause) → flat_map own_marks (map (check new at) cs) ≡ marks_read cs
checks_marked new at [] = refl
checks_marked new at (checked mark E ∷ cs) = ap (λ ms. mark ∷ ms) (checks_marked new at cs)
checks_marked new at (assumed E ∷ cs) = checks_marked new at cs

assumed_unmarked : (new : ℕ → ℕ) (at : Place) (Es : List Tree) → flat_map own_marks (map (λ E. assume at (renamed new E)) Es) ≡ []
assumed_unmarked new at [] = refl
assumed_unmarked new at (E ∷ Es) = assumed_unmarked new at Es

append_marked : (ss ts : Stmts) → own_list (append ss ts) ≡ own_list ss ++ own_list ts
append_marked no_stmts ts = refl
append_marked (stmt s ss) ts = ap (λ ms. own_marks s ++ ms) (append_marked ss ts) ∙ sym (append_assoc (own_marks s) (own_list ss) (own_list ts))

labels_marked : (ls : List Name) (ss : Stmts) → own_list (with_labels ls ss) ≡ own_list ss
labels_marked ls no_stmts = refl
labels_marked ls (stmt s no_stmts) = refl
labels_marked ls (stmt s (stmt t ss)) = refl

module _ (m : Module) where
  contract_marked : (n : ℕ) (at : Place) (q : Proc) (es : List Tree) (xs : List ℕ) → flat_map own_marks (contract_of m n at q es xs) ≡ marks_read (call_checks at 0 q.specs)
  contract_marked n at q es xs =
      let posts = map (λ E. assume at (renamed (over m q n) E)) (postconditions q.specs) in
      let back = assign at (zip xs (map free (results m q n))) ∷ [] in
      let rest = assign at (zip (old_globals m q n) (map free (modified m q))) ∷ havoc at (modified m q ++ results m q n) ∷ (posts ++ back) in
      let none : flat_map own_marks rest ≡ [] = flat_both posts back ∙ ap (λ ms. ms ++ []) (assumed_unmarked (over m q n) at (postconditions q.specs)) in
      flat_both (map (check (over m q n) at) (call_checks at 0 q.specs)) rest
      ∙ (λ i. checks_marked (over m q n) at (call_checks at 0 q.specs) i ++ none i)
      ∙ append-nil (marks_read (call_checks at 0 q.specs))

  called_marked : (n : ℕ) (at : Place) (o : Option Proc) (es : List Tree) (xs : List ℕ) → own_list (cut_call m n at o es xs).0 ≡ contract_marks at o
  called_marked n at None es xs = refl
  called_marked n at (Some q) es xs = each_marked (contract_of m n at q es xs) ∙ contract_marked n at q es xs

  mutual
    cut_marked : (s : Stmt) (n : ℕ) → own_list (cut_stmt m n s).0 ≡ stmt_marks (call_marks m) s
    cut_marked (assert mark E) n = refl
    cut_marked (assume at E) n = refl
    cut_marked (havoc at xs) n = refl
    cut_marked (assign at ps) n = refl
    cut_marked (call at q es xs) n = called_marked n at (slice_get m.procs q) es xs
    cut_marked (if_else at has_else g ss ts) n =
        let r = cut_list m n ss in
        append-nil (own_list r.0 ++ own_list (cut_list m (n + length r.1) ts).0) ∙ (λ i. all_marked ss n i ++ all_marked ts (n + length r.1) i)
    cut_marked (while at g is ss) n =
        append-nil (invariant_marks InvariantEntry is ++ (own_list (cut_list m n ss).0 ++ invariant_marks InvariantKept is))
        ∙ ap (λ ms. invariant_marks InvariantEntry is ++ (ms ++ invariant_marks InvariantKept is)) (all_marked ss n)
    cut_marked (break at l) n = refl
    cut_marked (return at) n = refl
    cut_marked (goto at ls) n = refl
    cut_marked (labelled ls s) n = labels_marked ls (cut_stmt m n s).0 ∙ cut_marked s n

    pub all_marked : (ss : Stmts) (n : ℕ) → own_list (cut_list m n ss).0 ≡ list_marks (call_marks m) ss
    all_marked no_stmts n = refl
    all_marked (stmt s ss) n =
        let r = cut_stmt m n s in
        append_marked r.0 (cut_list m (n + length r.1) ss).0 ∙ (λ i. cut_marked s n i ++ all_marked ss (n + length r.1) i)
