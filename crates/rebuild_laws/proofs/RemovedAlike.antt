-- Bodies that go alike still do once their gotos are removed.
use Rattle.std.specs.Prelude.{◌≡◌, refl, ℕ, List, [], ◌∷◌, ◌++◌, filter, fold}
use Rattle.std.proofs.Common.{ap, sym, subst}
use Rattle.bv_base.specs.declared.place.Place.{Place}
use Rattle.bpl_model.specs.Module.{Name, Stmt, Stmts, no_stmts, labels_of}
use Rattle.bpl_model.specs.Cut.{append, one}
use Rattle.bv_base.specs.Text.{is_among}
use Rattle.bpl_goto.specs.Labels.{labels_in, labels_within, named_in, named_within, longest}
use Rattle.bpl_goto.specs.Removed.{wrapped, wrapped_for, choice, stmt_without, list_without, body_without}
use Rattle.rebuild_laws.specs.Alike.{free_choice, guarded, AlikeStmt, asserts, assumes, havocs, assigns, branches, loops, breaks, returns, jumps, calls_so, labels, AlikeStmts, none_more, a_stmt}

module _ (new_def new_var : ℕ → ℕ) (D V : ℕ → Type 0) (C : ℕ → ℕ → Type 0) where
  abbrev Alike : Stmt → Stmt → Type 0
  Alike = AlikeStmt new_def new_var D V C

  abbrev Alikes : Stmts → Stmts → Type 0
  Alikes = AlikeStmts new_def new_var D V C

  pub appended : (ss ts us ws : Stmts) → Alikes ss ts → Alikes us ws → Alikes (append ss us) (append ts ws)
  appended _ _ us ws none_more h = h
  appended _ _ us ws (a_stmt {ss = ss} {ts = ts} a rest) h = a_stmt a (appended ss ts us ws rest h)

  -- they have the same labels, and name the same
  labels_same : (s t : Stmt) → Alike s t → labels_of t ≡ labels_of s
  labels_same _ _ (asserts h) = refl
  labels_same _ _ (assumes h) = refl
  labels_same _ _ (havocs h) = refl
  labels_same _ _ (assigns h) = refl
  labels_same _ _ (calls_so c e h) = refl
  labels_same _ _ (branches c a b) = refl
  labels_same _ _ (loops c i a) = refl
  labels_same _ _ breaks = refl
  labels_same _ _ returns = refl
  labels_same _ _ jumps = refl
  labels_same _ _ (labels {ls = ls} {s = s} {t = t} a) = ap (λ ns. ls ++ ns) (labels_same s t a)

  mutual
    inside_same : (s t : Stmt) → Alike s t → labels_in t ≡ labels_in s
    inside_same _ _ (asserts h) = refl
    inside_same _ _ (assumes h) = refl
    inside_same _ _ (havocs h) = refl
    inside_same _ _ (assigns h) = refl
    inside_same _ _ (calls_so c e h) = refl
    inside_same _ _ (branches {ss = ss} {ts = ts} {us = us} {ws = ws} c a b) = λ i. within_same ss ts a i ++ within_same us ws b i
    inside_same _ _ (loops {ss = ss} {ts = ts} c i a) = within_same ss ts a
    inside_same _ _ breaks = refl
    inside_same _ _ returns = refl
    inside_same _ _ jumps = refl
    inside_same _ _ (labels {ls = ls} {s = s} {t = t} a) = ap (λ ns. ls ++ ns) (inside_same s t a)

    within_same : (ss ts : Stmts) → Alikes ss ts → labels_within ts ≡ labels_within ss
    within_same _ _ none_more = refl
    within_same _ _ (a_stmt {s = s} {t = t} {ss = ss} {ts = ts} a rest) = λ i. inside_same s t a i ++ within_same ss ts rest i

  mutual
    named_same : (s t : Stmt) → Alike s t → named_in t ≡ named_in s
    named_same _ _ (asserts h) = refl
    named_same _ _ (assumes h) = refl
    named_same _ _ (havocs h) = refl
    named_same _ _ (assigns h) = refl
    named_same _ _ (calls_so c e h) = refl
    named_same _ _ (branches {ss = ss} {ts = ts} {us = us} {ws = ws} c a b) = λ i. all_named_same ss ts a i ++ all_named_same us ws b i
    named_same _ _ (loops {ss = ss} {ts = ts} c i a) = all_named_same ss ts a
    named_same _ _ breaks = refl
    named_same _ _ returns = refl
    named_same _ _ jumps = refl
    named_same _ _ (labels {s = s} {t = t} a) = named_same s t a

    all_named_same : (ss ts : Stmts) → Alikes ss ts → named_within ts ≡ named_within ss
    all_named_same _ _ none_more = refl
    all_named_same _ _ (a_stmt {s = s} {t = t} {ss = ss} {ts = ts} a rest) = λ i. named_same s t a i ++ all_named_same ss ts rest i

  -- over the labels that gotos name, and a length that no label exceeds
  module _ (named : List Name) (n : ℕ) where
    wrapped_alike : (ss ts : Stmts) → Alikes ss ts → (l : Name) → Alikes (wrapped named n ss l) (wrapped named n ts l)
    wrapped_alike ss ts a l = a_stmt (labels (branches (guarded tt) a none_more)) none_more

    folded_alike : (ls : List Name) (ss ts : Stmts) → Alikes ss ts → Alikes (fold (wrapped named n) ss ls) (fold (wrapped named n) ts ls)
    folded_alike [] ss ts a = a
    folded_alike (l ∷ ls) ss ts a = folded_alike ls (wrapped named n ss l) (wrapped named n ts l) (wrapped_alike ss ts a l)

    choice_alike : (p q : Place) (ls : List Name) → Alike (choice named n p ls) (choice named n q ls)
    choice_alike p q [] = assumes tt
    choice_alike p q (l ∷ []) = breaks
    choice_alike p q (l ∷ k ∷ ls) = branches free_choice (a_stmt breaks none_more) (a_stmt (choice_alike p q (k ∷ ls)) none_more)

    mutual
      without_alike : (s t : Stmt) → Alike s t → Alike (stmt_without named n s) (stmt_without named n t)
      without_alike _ _ (asserts h) = asserts h
      without_alike _ _ (assumes h) = assumes h
      without_alike _ _ (havocs h) = havocs h
      without_alike _ _ (assigns h) = assigns h
      without_alike _ _ (calls_so c e h) = calls_so c e h
      without_alike _ _ (branches {ss = ss} {ts = ts} {us = us} {ws = ws} c a b) = branches c (all_without ss ts a no_stmts no_stmts none_more) (all_without us ws b no_stmts no_stmts none_more)
      without_alike _ _ (loops {ss = ss} {ts = ts} c i a) = loops c i (all_without ss ts a no_stmts no_stmts none_more)
      without_alike _ _ breaks = breaks
      without_alike _ _ returns = returns
      without_alike _ _ (jumps {p = p} {q = q} {ls = ls}) = choice_alike p q ls
      without_alike _ _ (labels {s = s} {t = t} a) = labels (without_alike s t a)

      all_without : (ss ts : Stmts) → Alikes ss ts → (before there : Stmts) → Alikes before there → Alikes (list_without named n before ss) (list_without named n there ts)
      all_without _ _ none_more before there a = a
      all_without _ _ (a_stmt {s = s} {t = t} {ss = ss} {ts = ts} b rest) before there a =
          all_without ss ts rest (append (wrapped_for named n before (labels_of s)) (one (stmt_without named n s))) (append (wrapped_for named n there (labels_of t)) (one (stmt_without named n t)))
          (appended (wrapped_for named n before (labels_of s)) (wrapped_for named n there (labels_of t)) (one (stmt_without named n s)) (one (stmt_without named n t))
          (subst (λ ls. Alikes (wrapped_for named n before (labels_of s)) (wrapped_for named n there ls)) (sym (labels_same s t b)) (folded_alike (filter (is_among named) (labels_of s)) before there a))
          (a_stmt (without_alike s t b) none_more))

  pub body_without_alike : (ss ts : Stmts) → Alikes ss ts → Alikes (body_without ss) (body_without ts)
  body_without_alike ss ts a =
      subst (λ names. Alikes (body_without ss) (list_without names (longest (labels_within ts)) no_stmts ts)) (sym (all_named_same ss ts a))
      (subst (λ ls. Alikes (body_without ss) (list_without (named_within ss) (longest ls) no_stmts ts)) (sym (within_same ss ts a))
      (all_without (named_within ss) (longest (labels_within ss)) ss ts a no_stmts no_stmts none_more))
