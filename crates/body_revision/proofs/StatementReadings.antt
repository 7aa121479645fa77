-- The faults of statements and what they become, over two tables that differ in the values of functions alone, are the same.
use Rattle.std.proofs.Common.{◌≡◌, refl, ap, ◌∙◌, ℕ, nat_eq, true, false, ◌&&◌, not, List, [], ◌∷◌, ◌++◌, map, length, flat_map, filter, Option, Some, None, option_map}
use Rattle.std.specs.List.{list_all}
use Rattle.bv_base.specs.Text.{is_among}
use Rattle.bv_base.specs.declared.place.Place.{Place}
use Rattle.logic_core.specs.Tree.{Kind, int, boolean, free, truth}
use Rattle.logic_terms.specs.Sorts.{is, range}
use Rattle.logic_terms.specs.Wide.{when, ◌>>=◌}
use Rattle.bpl_ast.specs.Place.{Name}
use Rattle.bpl_ast.specs.Tree.{Exprs, no_exprs, item}
use Rattle.bpl_ast.specs.Statement.{Target, Guard, Invariant, Stmt as Statement, stmt as statement, Action, assert, assume, havoc, assign, call, branches, loop, «break», «return», goto, Branches, branch, otherwise, no_branch, Stmts as Statements, no_stmts as no_statements, next}
use Rattle.bpl_scopes.specs.declared.fault.TypeKind.TheVariants.{Twice as twice, NotModified as not_modified, TargetTwice as target_twice}
use Rattle.bpl_scopes.specs.declared.part.Part.{Part}
use Rattle.bpl_scopes.specs.Fault.{unless, again}
use Rattle.bpl_scopes.specs.Scopes.{Text, Contract, a_constant, a_global, a_function, a_synonym, a_procedure, Table, Counts, names_of, texts_of, signature_names, entity_of, Var, Scope, Meaning, bound_to, stands_for, declared_as, nothing, meaning}
use Rattle.bpl_scopes.specs.Sorts.{sort_in}
use Rattle.bpl_faults.specs.NameFaults.{map_faults}
use Rattle.bpl_faults.specs.ExprFaults.{faults_as, argument_faults, count}
use Rattle.bpl_statement_faults.specs.StmtFaults.{is_global, modified_by, labels_of, many_labels_faults, BodyScope, labels_of_list, Position, outermost, may_modify, set_faults, target_faults, targets_faults, target_sort, entry_at, entry_faults, indices_faults, sides_sorts, count_faults, assignment_faults, counted_outs_faults, contract_faults, callee_faults, callee_sorts, call_faults, guard_faults, stmts_faults, stmt_faults, action_faults, branches_faults, body_stmts_faults}
use Rattle.flow_core.specs.declared.mark.GoalKind.TheVariants.{Assert}
use Rattle.bpl_model.specs.Module.{Stmt, Stmts}
use Rattle.bpl_terms.specs.Terms.{stored}
use Rattle.bpl_resolve.specs.Elaborated.{number_of_term, target_number, target_numbers, assignments, arguments, procedure_number, guard_of, invariants_of, labelled_as, is_else, stmts_of, stmt_of, action_of, chain_of, others_of}
use Rattle.body_revision.proofs.TablesAlike.{LikeTables, of_found, like_found, groups_like}
use Rattle.body_revision.proofs.ReadingsAlike.{scope, of_meaning, variable_like, sort_like, faults_as_like, formula_like, argument_faults_like, meaning_term_like, term_like, terms_like}

module _ (t u : Table) (like : LikeTables t u) where
  pub global_like : (n : Text) → is_global (entity_of t n) ≡ is_global (entity_of u n)
  global_like n = of_found is_global (λ g h l. refl) (entity_of t n) (entity_of u n) (like_found t u like n)

  pub modified_like : (k : Contract) → modified_by t k ≡ modified_by u k
  modified_like k = λ i. filter (λ n. global_like n i && not (is_among (texts_of (signature_names k.signature)) n)) k.modified

  procedure_like : (n : Text) → procedure_number (entity_of t n) ≡ procedure_number (entity_of u n)
  procedure_like n = of_found procedure_number (λ g h l. refl) (entity_of t n) (entity_of u n) (like_found t u like n)

  module _ (c : Counts) (p : Part) (vs : List Var) where
    abbrev here : Scope
    here = scope t c p vs []

    abbrev there : Scope
    there = scope u c p vs []

    -- ---- faults

    module _ (ms : Option (List Text)) (ls : List Text) where
      abbrev b : BodyScope
      b = record { scope = here; modified = ms; labels = ls }

      abbrev d : BodyScope
      d = record { scope = there; modified = ms; labels = ls }

      set_over : (n : Text) (m : Meaning) (q : Place) → set_faults b n m q ≡ set_faults d n m q
      set_over n (bound_to i k) q = refl
      set_over n (stands_for v) q = refl
      set_over n (declared_as (a_constant k s)) q = refl
      set_over n (declared_as (a_global k s)) q = refl
      set_over n (declared_as (a_function h)) q = refl
      set_over n (declared_as (a_synonym s)) q = refl
      set_over n (declared_as (a_procedure k e)) q = refl
      set_over n nothing q = refl

      target_like : (n : Name) → target_faults b n ≡ target_faults d n
      target_like n = of_meaning t u like c p vs [] n.text (λ m. set_faults b n.text m n.at) (λ g h l. refl) ∙ set_over n.text (meaning there n.text) n.at

      targets_like : (ns : List Name) → targets_faults b ns ≡ targets_faults d ns
      targets_like ns = λ i. flat_map (λ n. target_like n i) ns ++ again target_twice [] ns

      target_sort_like : (n : Name) → target_sort here n ≡ target_sort there n
      target_sort_like n = variable_like t u like c p vs [] n.text

      abbrev of_entry : Option Kind → Option Kind → Option Kind
      of_entry m s = m >>= λ k. range k >>= λ r. when (is int s) (Some r)

      entry_at_like : (m : Option Kind) (xs : Exprs) → entry_at here m xs ≡ entry_at there m xs
      entry_at_like m no_exprs = refl
      entry_at_like m (item x xs) = ap (λ s. entry_at here (of_entry m s) xs) (sort_like t u like c p vs [] x) ∙ entry_at_like (of_entry m (sort_in there x)) xs

      entry_like : (q : Place) (m : Option Kind) (xs : Exprs) → entry_faults here q m xs ≡ entry_faults there q m xs
      entry_like q m no_exprs = refl
      entry_like q m (item x xs) =
          (λ i. map_faults m q ++ (faults_as_like t u like c p vs [] false int x i ++ entry_faults here q (of_entry m (sort_like t u like c p vs [] x i)) xs))
          ∙ ap (λ fs. map_faults m q ++ (faults_as there false int x ++ fs)) (entry_like q (of_entry m (sort_in there x)) xs)

      indices_like : (x : Target) → indices_faults here x ≡ indices_faults there x
      indices_like x = ap (λ m. entry_faults here x.name.at m x.indices) (target_sort_like x.name) ∙ entry_like x.name.at (target_sort there x.name) x.indices

      side_like : (x : Target) → entry_at here (target_sort here x.name) x.indices ≡ entry_at there (target_sort there x.name) x.indices
      side_like x = ap (λ m. entry_at here m x.indices) (target_sort_like x.name) ∙ entry_at_like (target_sort there x.name) x.indices

      assignment_faults_like : (ts : List Target) (xs : Exprs) → assignment_faults b ts xs ≡ assignment_faults d ts xs
      assignment_faults_like ts xs =
          (λ i. count_faults ts xs ++ (targets_like (map (λ (x : Target). x.name) ts) i ++ (flat_map (λ x. indices_like x i) ts ++ argument_faults here (map (λ (x : Target). side_like x i) ts) xs)))
          ∙ ap (λ fs. count_faults ts xs ++ (targets_faults d (map (λ (x : Target). x.name) ts) ++ (flat_map (indices_faults there) ts ++ fs))) (argument_faults_like t u like c p vs [] (sides_sorts there ts) xs)

      contract_like : (ns : List Name) (k : Contract) (count : ℕ) (q : Place) → contract_faults b ns k count q ≡ contract_faults d ns k count q
      contract_like ns k count q = λ i.
          counted_outs_faults (nat_eq (length (names_of k.signature.ins)) count && nat_eq (length (names_of k.signature.outs)) (length ns))
          (map (λ n. target_sort_like n i) ns) (groups_like t u like (texts_of (signature_names k.signature)) (names_of k.signature.outs) i) q
          ++ unless (list_all (may_modify ms) (modified_like k i)) not_modified q

      callee_over : (ns : List Name) (m : Meaning) (count : ℕ) (q : Place) → callee_faults b ns m count q ≡ callee_faults d ns m count q
      callee_over ns (bound_to i k) count q = refl
      callee_over ns (stands_for v) count q = refl
      callee_over ns (declared_as (a_constant k s)) count q = refl
      callee_over ns (declared_as (a_global k s)) count q = refl
      callee_over ns (declared_as (a_function h)) count q = refl
      callee_over ns (declared_as (a_synonym s)) count q = refl
      callee_over ns (declared_as (a_procedure k e)) count q = contract_like ns e count q
      callee_over ns nothing count q = refl

      callee_sorts_over : (m : Meaning) → callee_sorts t m ≡ callee_sorts u m
      callee_sorts_over (bound_to i k) = refl
      callee_sorts_over (stands_for v) = refl
      callee_sorts_over (declared_as (a_constant k s)) = refl
      callee_sorts_over (declared_as (a_global k s)) = refl
      callee_sorts_over (declared_as (a_function h)) = refl
      callee_sorts_over (declared_as (a_synonym s)) = refl
      callee_sorts_over (declared_as (a_procedure k e)) = groups_like t u like (texts_of (signature_names e.signature)) (names_of e.signature.ins)
      callee_sorts_over nothing = refl

      callee_like : (ns : List Name) (f : Name) (count : ℕ) → callee_faults b ns (meaning here f.text) count f.at ≡ callee_faults d ns (meaning there f.text) count f.at
      callee_like ns f count = of_meaning t u like c p vs [] f.text (λ m. callee_faults b ns m count f.at) (λ g h l. refl) ∙ callee_over ns (meaning there f.text) count f.at

      callee_sorts_like : (f : Name) → callee_sorts t (meaning here f.text) ≡ callee_sorts u (meaning there f.text)
      callee_sorts_like f = of_meaning t u like c p vs [] f.text (callee_sorts t) (λ g h l. refl) ∙ callee_sorts_over (meaning there f.text)

      call_like : (ns : List Name) (f : Name) (xs : Exprs) → call_faults b ns f xs ≡ call_faults d ns f xs
      call_like ns f xs =
          (λ i. targets_like ns i ++ (callee_like ns f (count xs) i ++ argument_faults here (callee_sorts_like f i) xs))
          ∙ ap (λ fs. targets_faults d ns ++ (callee_faults d ns (meaning there f.text) (count xs) f.at ++ fs)) (argument_faults_like t u like c p vs [] (callee_sorts u (meaning there f.text)) xs)

      guard_like : (g : Guard) → guard_faults here g ≡ guard_faults there g
      guard_like None = refl
      guard_like (Some x) = faults_as_like t u like c p vs [] false boolean x

      mutual
        stmts_like : (w : Position) (ss : Statements) → stmts_faults b w ss ≡ stmts_faults d w ss
        stmts_like w no_statements = refl
        stmts_like w (next s ss) = λ i. stmt_like (record w { ahead = labels_of_list ss ++ w.ahead }) s i ++ stmts_like w ss i

        stmt_like : (w : Position) (s : Statement) → stmt_faults b w s ≡ stmt_faults d w s
        stmt_like w (statement ns q a) = action_like w (texts_of ns) q a

        action_like : (w : Position) (ns : List Text) (q : Place) (a : Action) → action_faults b w ns q a ≡ action_faults d w ns q a
        action_like w ns q (assert x) = formula_like t u like c p vs [] x
        action_like w ns q (assume x) = formula_like t u like c p vs [] x
        action_like w ns q (havoc xs) = targets_like xs
        action_like w ns q (assign ts xs) = assignment_faults_like ts xs
        action_like w ns q (call xs f ys) = call_like xs f ys
        action_like w ns q (branches bs) = branches_like (record w { around = ns ++ w.around }) bs
        action_like w ns q (loop g is ss) = λ i. guard_like g i ++ (flat_map (λ (x : Invariant). formula_like t u like c p vs [] x.formula i) is ++ stmts_like (record w { in_loop = true; around = ns ++ w.around }) ss i)
        action_like w ns q («break» l) = refl
        action_like w ns q «return» = refl
        action_like w ns q (goto xs) = refl

        branches_like : (w : Position) (bs : Branches) → branches_faults b w bs ≡ branches_faults d w bs
        branches_like w (branch q g ss bs) = λ i. guard_like g i ++ (stmts_like w ss i ++ branches_like w bs i)
        branches_like w (otherwise ss) = stmts_like w ss
        branches_like w no_branch = refl

    pub body_stmts_like : (ms : Option (List Text)) (ss : Statements) → body_stmts_faults here ms ss ≡ body_stmts_faults there ms ss
    body_stmts_like ms ss = λ i. again twice [] (labels_of ss) ++ (many_labels_faults ss ++ stmts_like ms (texts_of (labels_of ss)) outermost ss i)

    -- ---- what they become

    number_like : (n : Name) → target_number here n ≡ target_number there n
    number_like n = ap number_of_term (meaning_term_like t u like c p vs false [] n.text)

    numbers_like : (ns : List Name) → target_numbers here ns ≡ target_numbers there ns
    numbers_like ns = λ i. map (λ n. number_like n i) ns

    assignments_like : (ts : List Target) (xs : Exprs) → assignments here ts xs ≡ assignments there ts xs
    assignments_like [] xs = refl
    assignments_like (x ∷ ts) no_exprs = refl
    assignments_like (x ∷ ts) (item y xs) = λ i. (number_like x.name i, stored (free (number_like x.name i)) (terms_like t u like c p vs false [] x.indices i) (term_like t u like c p vs false [] y i)) ∷ assignments_like ts xs i

    arguments_like : (xs : Exprs) → arguments here xs ≡ arguments there xs
    arguments_like no_exprs = refl
    arguments_like (item x xs) = λ i. term_like t u like c p vs false [] x i ∷ arguments_like xs i

    guard_of_like : (g : Guard) → guard_of here g ≡ guard_of there g
    guard_of_like g = λ i. option_map (λ x. term_like t u like c p vs false [] x i) g

    invariants_like : (is : List Invariant) → invariants_of here is ≡ invariants_of there is
    invariants_like is = λ i. map (λ (x : Invariant). record { free = x.free; place = x.at; formula = term_like t u like c p vs false [] x.formula i }) is

    mutual
      pub stmts_of_like : (ss : Statements) → stmts_of here ss ≡ stmts_of there ss
      stmts_of_like no_statements = refl
      stmts_of_like (next s ss) = λ i. Stmts.stmt (stmt_of_like s i) (stmts_of_like ss i)

      stmt_of_like : (s : Statement) → stmt_of here s ≡ stmt_of there s
      stmt_of_like (statement ls q a) = λ i. labelled_as ls (action_of_like q a i)

      action_of_like : (q : Place) (a : Action) → action_of here q a ≡ action_of there q a
      action_of_like q (assert x) = λ i. Stmt.assert (record { place = q; kind = Assert }) (term_like t u like c p vs false [] x i)
      action_of_like q (assume x) = λ i. Stmt.assume q (term_like t u like c p vs false [] x i)
      action_of_like q (havoc ns) = λ i. Stmt.havoc q (numbers_like ns i)
      action_of_like q (assign ts xs) = λ i. Stmt.assign q (assignments_like ts xs i)
      action_of_like q (call ns f xs) = λ i. Stmt.call q (procedure_like f.text i) (arguments_like xs i) (numbers_like ns i)
      action_of_like q (branches bs) = chain_like q bs
      action_of_like q (loop g is ss) = λ i. Stmt.while q (guard_of_like g i) (invariants_like is i) (stmts_of_like ss i)
      action_of_like q («break» l) = refl
      action_of_like q «return» = refl
      action_of_like q (goto ns) = refl

      chain_like : (q : Place) (bs : Branches) → chain_of here q bs ≡ chain_of there q bs
      chain_like q (branch r g ss bs) = λ i. Stmt.if_else r (is_else bs) (guard_of_like g i) (stmts_of_like ss i) (others_like bs i)
      chain_like q (otherwise ss) = λ i. Stmt.if_else q true (Some (truth false)) Stmts.no_stmts (stmts_of_like ss i)
      chain_like q no_branch = refl

      others_like : (bs : Branches) → others_of here bs ≡ others_of there bs
      others_like (branch r g ss bs) = λ i. Stmts.stmt (Stmt.if_else r (is_else bs) (guard_of_like g i) (stmts_of_like ss i) (others_like bs i)) Stmts.no_stmts
      others_like (otherwise ss) = stmts_of_like ss
      others_like no_branch = refl
