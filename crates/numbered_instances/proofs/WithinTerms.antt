-- Terms in which another is replaced, one after another, by number.
use Rattle.std.proofs.Common.{◌≡◌, refl, sym, ap, subst, ◌∙◌, ℕ, ◌+◌, ◌<◌, ◌≤◌, Bool, true, false, Option, Some, None, Result, Ok, Err, List, [], ◌∷◌, ◌++◌, map, length, drop, get_or, arith}
use Rattle.std.specs.List.{AllByRecursion}
use Rattle.std.proofs.lemmas.List.{append-nil, at_drop_all}
use Rattle.logic_core.specs.Tree.{Kind, Tree, all}
use Rattle.logic_core.specs.Def.{Def}
use Rattle.logic_core.specs.Normal.{normal}
use Rattle.logic_core.specs.Subterm.{occurs, replaced}
use Rattle.logic_core.specs.View.{trees_of}
use Rattle.logic_core.specs.Wide.{◌>>=◌}
use Rattle.term_bank.specs.Numbered.{at}
use Rattle.term_bank.proofs.Numbers.{begins_at, begins_length, begins_then}
use Rattle.tableau_branch.specs.Branch.{Mark, each}
use Rattle.tableau_branch.proofs.Lists.{drop_item}
use Rattle.logic_rules.specs.Rewriting.{rewritten_within, rewritten_mark}
use Rattle.logic_rules.specs.View.{bare}
use Rattle.logic_rules.proofs.Rewritten.{one_of_each_more, one_of_each_not}
use Rattle.numbered_terms.specs.At.{IsAt}
use Rattle.numbered_terms.specs.Lists.{terms_at}
use Rattle.numbered_terms.specs.Stored.{Numbered, Grows}
use Rattle.numbered_facts.specs.Answers.{AreAt}
use Rattle.numbered_branches.specs.Branches.{NumberedMark, IsMarkOver, mark_at, terms_in}
use Rattle.numbered_instances.proofs.NewTuples.{and_is}

-- in a term where it occurs, and where it doesn't
module _ (defs : List Def) (vars : List Kind) (l r t : Tree) where
  pub within_there : occurs l t ≡ true → rewritten_within defs (bare defs l r vars) l r t ≡ normal vars defs [] (replaced l r t)
  within_there h = rw h refl

  pub within_not : occurs l t ≡ false → rewritten_within defs (bare defs l r vars) l r t ≡ Some t
  within_not h = rw h refl

-- the same over a store that went on
module _ (n m : Numbered) (g : Grows n m) (left right : ℕ) (l : left < length n.terms) (r : right < length n.terms) where
  abbrev pub within_of : Numbered → Tree → Option Tree
  within_of o t = rewritten_within o.defs (bare o.defs (at o.terms left) (at o.terms right) o.vars) (at o.terms left) (at o.terms right) t

  pub within_same : (t : Tree) → within_of m t ≡ within_of n t
  within_same t = λ k. let x = begins_at n.terms m.terms left g.terms l k in let y = begins_at n.terms m.terms right g.terms r k in rewritten_within (g.defs k) (bare (g.defs k) x y (g.vars k)) x y t

  abbrev pub mark_of : Numbered → Mark → Option Mark
  mark_of o t = rewritten_mark o.defs (bare o.defs (at o.terms left) (at o.terms right) o.vars) (at o.terms left) (at o.terms right) t

  pub mark_same : (t : Mark) → mark_of m t ≡ mark_of n t
  mark_same t = λ k. let x = begins_at n.terms m.terms left g.terms l k in let y = begins_at n.terms m.terms right g.terms r k in rewritten_mark (g.defs k) (bare (g.defs k) x y (g.vars k)) x y t

  -- a mark whose ForAll leaves 128 bits, and one of which a term does
  module _ (mark : NumberedMark) (over : IsMarkOver n.terms mark) where
    pub fact_leaves : within_of n (at n.terms mark.fact) ≡ None → mark_of n (mark_at n.terms mark) ≡ None
    fact_leaves h =
        let with_terms : Tree → List Tree → Option Mark = λ v vs. Some (record { fact = v; tuple = vs }) in
        λ k. h k >>= λ v. each (within_of n) (terms_in (at n.terms mark.tuple)) >>= with_terms v

    pub tuple_leaves : (t : Tree) (is : List ℕ) → within_of n (at n.terms mark.fact) ≡ Some t → AreAt m.terms is (terms_in (at m.terms mark.tuple)) → each (within_of m) (terms_at m.terms is) ≡ None → mark_of n (mark_at n.terms mark) ≡ None
    tuple_leaves t is first terms h =
        let us : terms_at m.terms is ≡ terms_in (at n.terms mark.tuple) = terms.1 ∙ ap terms_in (begins_at n.terms m.terms mark.tuple g.terms over.1) in
        let none : each (within_of n) (terms_in (at n.terms mark.tuple)) ≡ None = sym (λ k. each (λ v. within_same v k) (us k)) ∙ h in
        let with_terms : Tree → List Tree → Option Mark = λ v vs. Some (record { fact = v; tuple = vs }) in
        λ k. first k >>= λ v. none k >>= with_terms v

  -- a mark whose ForAll is rewritten first, then the terms of its tuple, of which an And is made
  module _ (o p : Numbered) (d : Grows m o) (e : Grows o p) (mark : NumberedMark) (over : IsMarkOver n.terms mark) (fact tuple : ℕ) (is js : List ℕ) (low : fact < length m.terms) (made : IsAt p.terms tuple (all (trees_of (terms_at o.terms js)))) where
    pub mark_made : within_of n (at n.terms mark.fact) ≡ Some (at m.terms fact) → AreAt m.terms is (terms_in (at m.terms mark.tuple)) → each (within_of m) (terms_at m.terms is) ≡ Some (terms_at o.terms js)
        → mark_of n (mark_at n.terms mark) ≡ Some (mark_at p.terms (record { fact = fact; tuple = tuple }))
    mark_made first terms rest =
        let us : terms_at m.terms is ≡ terms_in (at n.terms mark.tuple) = terms.1 ∙ ap terms_in (begins_at n.terms m.terms mark.tuple g.terms over.1) in
        let each_of : each (within_of n) (terms_in (at n.terms mark.tuple)) ≡ Some (terms_at o.terms js) = sym (λ k. each (λ t. within_same t k) (us k)) ∙ rest in
        let with_terms : Tree → List Tree → Option Mark = λ t vs. Some (record { fact = t; tuple = vs }) in
        let there = begins_at m.terms p.terms fact (begins_then m.terms o.terms p.terms d.terms e.terms) low in
        (λ k. first k >>= λ t. each_of k >>= with_terms t) ∙ (λ k. with_terms (sym there k) (sym (and_is p.terms tuple (terms_at o.terms js) made.1).0 k))

    pub mark_over : IsMarkOver p.terms (record { fact = fact; tuple = tuple })
    mark_over = (omega (arith, low, begins_length m.terms o.terms d.terms, begins_length o.terms p.terms e.terms), made.0, (and_is p.terms tuple (terms_at o.terms js) made.1).1)

  pub form_same : (t : ℕ) → t < length n.terms → normal m.vars m.defs [] (replaced (at m.terms left) (at m.terms right) (at m.terms t)) ≡ normal n.vars n.defs [] (replaced (at n.terms left) (at n.terms right) (at n.terms t))
  form_same t w = λ k. normal (g.vars k) (g.defs k) [] (replaced (begins_at n.terms m.terms left g.terms l k) (begins_at n.terms m.terms right g.terms r k) (begins_at n.terms m.terms t g.terms w k))

-- one after another: what is made so far, and then the rest
module _ {A B C : Type 0} (f : A → Option B) (xs : List C) (of : C → A) where
  abbrev pub ahead : ℕ → List B → Option (List B)
  ahead i bs = each f (map of (drop i xs)) >>= λ cs. Some (bs ++ cs)

  pub each_begun : ahead 0 [] ≡ each f (map of xs)
  each_begun = by (each f (map of xs))
    where
      by : (o : Option (List B)) → (o >>= λ cs. Some ([] ++ cs)) ≡ o
      by None = refl
      by (Some cs) = refl

  pub each_next : (i : ℕ) (x : C) (b : B) (bs cs : List B) (whole : Option (List B)) → i < length xs → x ≡ get_or xs i x → f (of x) ≡ Some b → cs ≡ bs ++ b ∷ [] → ahead i bs ≡ whole → ahead (i + 1) cs ≡ whole
  each_next i x b bs cs whole l e h more so_far = ap (ahead (i + 1)) more ∙ one_of_each_more f (of x) (map of (drop (i + 1) xs)) b bs h ∙ ap (λ ys. each f (map of ys) >>= λ ds. Some (bs ++ ds)) (sym (drop_item xs i x l e)) ∙ so_far

  pub each_stops : (i : ℕ) (x : C) (bs : List B) (whole : Option (List B)) → i < length xs → x ≡ get_or xs i x → f (of x) ≡ None → ahead i bs ≡ whole → whole ≡ None
  each_stops i x bs whole l e h so_far = sym so_far ∙ ap (λ ys. each f (map of ys) >>= λ ds. Some (bs ++ ds)) (drop_item xs i x l e) ∙ one_of_each_not f (of x) (map of (drop (i + 1) xs)) bs h

  pub each_ends : (i : ℕ) (bs : List B) (whole : Option (List B)) → length xs ≤ i → ahead i bs ≡ whole → whole ≡ Some bs
  each_ends i bs whole l so_far = sym so_far ∙ at_drop_all (λ ys. each f (map of ys) >>= λ ds. Some (bs ++ ds)) xs i l ∙ ap Some (append-nil bs)
