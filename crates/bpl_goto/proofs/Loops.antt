-- Lists that are built from their first items on: what one item more adds.
use Rattle.std.proofs.Common.{◌≡◌, ◌∙◌, refl, sym, ap, subst, ℕ, zero, suc, ◌+◌, ◌<◌, max, Bool, true, false, ◌||◌, cond, List, [], ◌∷◌, ◌++◌, length, drop, get_or, replicate, arith}
use Rattle.std.specs.Prelude.{fold, filter, bytes_eq, slice_index_or, None}
use Rattle.std.proofs.Math.Seq.{drop-cons}
use Rattle.bv_base.specs.declared.place.Place.{Place}
use Rattle.bpl_model.specs.Module.{Name, Stmt, assert, assume, havoc, assign, call, if_else, while, break, return, goto, labelled, Stmts, no_stmts, stmt, labels_of}
use Rattle.bpl_model.specs.Names.{with_name, with_names}
use Rattle.bpl_model.specs.StmtView.{stmts_of}
use Rattle.bpl_model.specs.Cut.{append, one}
use Rattle.bpl_model.proofs.NamesPut.{names_among}
use Rattle.bv_base.specs.Text.{is_among}
use Rattle.bpl_goto.specs.Labels.{labels_in, labels_within, named_in, named_within, longest}
use Rattle.bpl_goto.specs.Removed.{wrapped, wrapped_for, leave, choice, stmt_without, list_without}

-- names that are put in one list after another
pub put_both : (ns xs ys : List Name) → with_names ns (xs ++ ys) ≡ with_names (with_names ns xs) ys
put_both ns [] ys = refl
put_both ns (x ∷ xs) ys = put_both (with_name ns x) xs ys

-- what is left begins with the item at the position
pub next_is : {A : Type 0} (xs : List A) (i : ℕ) (x : A) → i < length xs → x ≡ get_or xs i x → drop i xs ≡ x ∷ drop (i + 1) xs
next_is xs i x lt is = let next : suc i ≡ i + 1 = omega arith in drop-cons xs i x lt ∙ (λ j. sym is j ∷ drop (next j) xs)

-- the longest of two lists of names
longest_from : (n : ℕ) (ls : List Name) → fold (λ n l. max n (length l)) n ls ≡ max n (longest ls)
longest_from n [] = omega arith
longest_from n (l ∷ ls) = longest_from (max n (length l)) ls ∙ (omega (arith, longest_from (max 0 (length l)) ls))

pub longest_both : (ls ks : List Name) → longest (ls ++ ks) ≡ max (longest ls) (longest ks)
longest_both [] ks = omega arith
longest_both (l ∷ ls) ks =
    longest_from (max 0 (length l)) (ls ++ ks) ∙ omega (arith, longest_both ls ks, longest_from (max 0 (length l)) ls)

-- of one name more, of one statement more
pub longest_next : (most : ℕ) (l : Name) (ls : List Name) → max most (longest (l ∷ ls)) ≡ max (max most (length l)) (longest ls)
longest_next most l ls = omega (arith, longest_from (max 0 (length l)) ls)

pub labels_next : (most : ℕ) (s : Stmt) (ss : List Stmt) → max most (longest (labels_within (stmts_of (s ∷ ss)))) ≡ max (max most (longest (labels_in s))) (longest (labels_within (stmts_of ss)))
labels_next most s ss = omega (arith, longest_both (labels_in s) (labels_within (stmts_of ss)))

-- of the names of one statement more
pub named_next : (ns : List Name) (s : Stmt) (ss : List Stmt) → with_names ns (named_within (stmts_of (s ∷ ss))) ≡ with_names (with_names ns (named_in s)) (named_within (stmts_of ss))
named_next ns s ss = put_both ns (named_in s) (named_within (stmts_of ss))

-- one statement more
pub one_more : (ss : List Stmt) (s : Stmt) → stmts_of (ss ++ s ∷ []) ≡ append (stmts_of ss) (one s)
one_more [] s = refl
one_more (t ∷ ss) s = ap (stmt t) (one_more ss s)

module _ (named : List Name) (n : ℕ) where
  -- wrapped for two lists of labels
  pub wrapped_both : (before : Stmts) (ls ks : List Name) → wrapped_for named n before (ls ++ ks) ≡ wrapped_for named n (wrapped_for named n before ls) ks
  wrapped_both before [] ks = refl
  wrapped_both before (l ∷ ls) ks = by_case (is_among named l) (wrapped_both (wrapped named n before l) ls ks) (wrapped_both before ls ks)
    where
      by_case : (b : Bool) → wrapped_for named n (wrapped named n before l) (ls ++ ks) ≡ wrapped_for named n (wrapped_for named n (wrapped named n before l) ls) ks
          → wrapped_for named n before (ls ++ ks) ≡ wrapped_for named n (wrapped_for named n before ls) ks
          → fold (wrapped named n) before (cond b (l ∷ filter (is_among named) (ls ++ ks)) (filter (is_among named) (ls ++ ks))) ≡ fold (wrapped named n) (fold (wrapped named n) before (cond b (l ∷ filter (is_among named) ls) (filter (is_among named) ls))) (filter (is_among named) ks)
      by_case true f g = f
      by_case false f g = g

  -- one statement more
  pub list_step : (before done : List Stmt) (s t : Stmt) (ss : Stmts) → stmts_of done ≡ wrapped_for named n (stmts_of before) (labels_of s) → t ≡ stmt_without named n s
      → list_without named n (stmts_of (done ++ t ∷ [])) ss ≡ list_without named n (stmts_of before) (stmt s ss)
  list_step before done s t ss e f = ap (λ b. list_without named n b ss) (one_more done t ∙ (λ i. append (e i) (one (f i))))

  -- the choice among the labels from one on: the last, and one that isn't the last
  pub choice_last : (at : Place) (ls : List Name) (i : ℕ) (d : Name) → i + 1 ≡ length ls → choice named n at (drop i ls) ≡ leave named n at (slice_index_or ls i d)
  choice_last at [] i d h = absurd (omega (h, arith))
  choice_last at (l ∷ []) zero d h = refl
  choice_last at (l ∷ []) (suc i) d h = absurd (omega (h, arith))
  choice_last at (l ∷ k ∷ ls) zero d h = absurd (omega (h, arith))
  choice_last at (l ∷ k ∷ ls) (suc i) d h = choice_last at (k ∷ ls) i d (omega (h, arith))

  pub choice_before : (at : Place) (ls : List Name) (i : ℕ) (d : Name) → i + 1 < length ls → choice named n at (drop i ls) ≡ if_else at true None (one (leave named n at (slice_index_or ls i d))) (one (choice named n at (drop (i + 1) ls)))
  choice_before at [] i d h = absurd (omega (h, arith))
  choice_before at (l ∷ []) i d h = absurd (omega (h, arith))
  choice_before at (l ∷ k ∷ ls) zero d h = refl
  choice_before at (l ∷ k ∷ ls) (suc i) d h =
      let e : suc (i + 1) ≡ suc i + 1 = omega arith in
      choice_before at (k ∷ ls) i d (omega (h, arith)) ∙ (λ j. if_else at true None (one (leave named n at (slice_index_or (k ∷ ls) i d))) (one (choice named n at (drop (e j) (l ∷ k ∷ ls)))))

-- with other names that are the same ones
module _ (named others : List Name) (n : ℕ) (same : (l : Name) → is_among named l ≡ is_among others l) where
  wrapped_same : (before : Stmts) (ls : List Name) → wrapped_for named n before ls ≡ wrapped_for others n before ls
  wrapped_same before ls = λ i. fold (wrapped [] n) before (filter (λ l. same l i) ls)

  choice_same : (at : Place) (ls : List Name) → choice named n at ls ≡ choice others n at ls
  choice_same at [] = refl
  choice_same at (l ∷ []) = refl
  choice_same at (l ∷ k ∷ ls) = λ i. if_else at true None (one (leave [] n at l)) (one (choice_same at (k ∷ ls) i))

  mutual
    pub stmt_same : (s : Stmt) → stmt_without named n s ≡ stmt_without others n s
    stmt_same (assert mark E) = refl
    stmt_same (assume at E) = refl
    stmt_same (havoc at xs) = refl
    stmt_same (assign at ps) = refl
    stmt_same (call at q es xs) = refl
    stmt_same (if_else at has_else g ss ts) = λ i. if_else at has_else g (list_same no_stmts ss i) (list_same no_stmts ts i)
    stmt_same (while at g is ss) = λ i. while at g is (list_same no_stmts ss i)
    stmt_same (break at l) = refl
    stmt_same (return at) = refl
    stmt_same (goto at ls) = choice_same at ls
    stmt_same (labelled ls s) = λ i. labelled ls (stmt_same s i)

    pub list_same : (before ss : Stmts) → list_without named n before ss ≡ list_without others n before ss
    list_same before no_stmts = refl
    list_same before (stmt s ss) =
        (λ i. list_without named n (append (wrapped_same before (labels_of s) i) (one (stmt_same s i))) ss)
        ∙ list_same (append (wrapped_for others n before (labels_of s)) (one (stmt_without others n s))) ss

-- one sign more
pub one_sign_more : (k : ℕ) → replicate {A = ℕ} (k + 1) 64 ≡ replicate {A = ℕ} k 64 ++ 64 ∷ []
one_sign_more zero = refl
one_sign_more (suc k) = let e : suc k + 1 ≡ suc (k + 1) = omega arith in ap (λ m. replicate {A = ℕ} m 64) e ∙ ap (λ r. 64 ∷ r) (one_sign_more k)

-- with the names put into a set
pub put_same : (n : ℕ) (names : List Name) (before ss : Stmts) → list_without (with_names [] names) n before ss ≡ list_without names n before ss
put_same n names = list_same (with_names [] names) names n (names_among [] names)
