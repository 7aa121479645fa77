-- Seen calls and marks that are rewritten, and the move by an oriented fact, by number.
use Rattle.std.proofs.Common.{◌≡◌, sym, ap, subst, ◌∙◌, ℕ, ◌<◌, Option, Some, None, List, [], ◌∷◌, map, length}
use Rattle.std.specs.List.{AllByRecursion}
use Rattle.logic_core.specs.Tree.{Tree}
use Rattle.logic_core.specs.Wide.{◌>>=◌}
use Rattle.term_bank.specs.Numbered.{at}
use Rattle.tableau_branch.specs.Branch.{Mark, each}
use Rattle.tableau_branch.specs.Change.{Made}
use Rattle.logic_rules.specs.Rewriting.{with_calls_and_marks}
use Rattle.logic_rules.specs.View.{rest_over, rest_rewritten}
use Rattle.numbered_terms.specs.Lists.{terms_at}
use Rattle.numbered_terms.specs.Stored.{Numbered, Grows}
use Rattle.numbered_forms.proofs.LongerStores.{terms_stay, numbers_stay}
use Rattle.numbered_branches.specs.Branches.{NumberedMark, NumberedMade, IsMarkOver, IsMadeOver, mark_at, made_at}
use Rattle.numbered_branches.proofs.Changing.{made_more}
use Rattle.numbered_instances.proofs.NewTuples.{marks_more}
use Rattle.numbered_instances.proofs.WithinTerms.{within_of, mark_of, mark_same}

-- with other seen calls and marks
abbrev pub with_rest : List ℕ → List NumberedMark → NumberedMade → NumberedMade
with_rest calls marks m = record { branch = record (m.branch) { calls = calls; marks = marks }; steps = m.steps; size = m.size }

module _ (n m o : Numbered) (g : Grows n m) (d : Grows m o) (left right : ℕ) (l : left < length n.terms) (r : right < length n.terms) (old : NumberedMade) (over : IsMadeOver n.terms old) (vars : n.vars ≡ old.branch.vars) where
  abbrev of_terms : Tree → Option Tree
  of_terms = within_of n m g left right l r n

  abbrev of_marks : Numbered → Mark → Option Mark
  of_marks = mark_of n m g left right l r

  abbrev whole : Option Made
  whole = rest_rewritten n.defs (at n.terms left) (at n.terms right) (made_at n.terms old)

  abbrev with_marks : List Tree → Option Made
  with_marks ts = each (of_marks n) (map (mark_at n.terms) old.branch.marks) >>= λ ns. Some (with_calls_and_marks ts ns (made_at n.terms old))

  rest_is : whole ≡ (each of_terms (terms_at n.terms old.branch.calls) >>= with_marks)
  rest_is = λ k. rest_over n.defs (at n.terms left) (at n.terms right) (sym vars k) (terms_at n.terms old.branch.calls) (map (mark_at n.terms) old.branch.marks) (made_at n.terms old)

  marks_same : each (of_marks m) (map (mark_at m.terms) old.branch.marks) ≡ each (of_marks n) (map (mark_at n.terms) old.branch.marks)
  marks_same = λ k. each (λ t. mark_same n m g left right l r t k) ((marks_more n.terms m.terms g.terms old.branch.marks over.branch.marks).1 k)

  -- a call that leaves 128 bits
  pub calls_leave : each of_terms (terms_at n.terms old.branch.calls) ≡ None → whole ≡ None
  calls_leave h = rest_is ∙ ap (λ (q : Option (List Tree)). q >>= with_marks) h

  module _ (calls : List ℕ) (called : each of_terms (terms_at n.terms old.branch.calls) ≡ Some (terms_at m.terms calls)) where
    -- a mark that does
    pub marks_leave : each (of_marks m) (map (mark_at m.terms) old.branch.marks) ≡ None → whole ≡ None
    marks_leave h = rest_is ∙ ap (λ (q : Option (List Tree)). q >>= with_marks) called ∙ ap (λ (q : Option (List Mark)). q >>= λ ns. Some (with_calls_and_marks (terms_at m.terms calls) ns (made_at n.terms old))) (sym marks_same ∙ h)

    -- all of them
    module _ (low : AllByRecursion (λ i. i < length m.terms) calls) (marks : List NumberedMark) (below : AllByRecursion (IsMarkOver o.terms) marks) (new : NumberedMade) (is_new : new ≡ with_rest calls marks old) where
      pub rest_over_now : IsMadeOver o.terms new
      rest_over_now = let h = (made_more m.terms o.terms d.terms old (made_more n.terms m.terms g.terms old over).0).0 in
          subst (IsMadeOver o.terms) (sym is_new) (record { branch = record { facts = h.branch.facts; calls = numbers_stay m.terms o.terms d.terms calls low; marks = below }; steps = h.steps })

      pub rest_given : each (of_marks m) (map (mark_at m.terms) old.branch.marks) ≡ Some (map (mark_at o.terms) marks) → whole ≡ Some (made_at o.terms new)
      rest_given h =
          let same : made_at o.terms old ≡ made_at n.terms old = (made_more m.terms o.terms d.terms old (made_more n.terms m.terms g.terms old over).0).1 ∙ (made_more n.terms m.terms g.terms old over).1 in
          rest_is ∙ ap (λ (q : Option (List Tree)). q >>= with_marks) called
          ∙ ap (λ (q : Option (List Mark)). q >>= λ ns. Some (with_calls_and_marks (terms_at m.terms calls) ns (made_at n.terms old))) (sym marks_same ∙ h)
          ∙ (λ k. Some (with_calls_and_marks (sym (terms_stay m.terms o.terms d.terms calls low) k) (map (mark_at o.terms) marks) (sym same k)))
          ∙ ap (λ x. Some (made_at o.terms x)) (sym is_new)
