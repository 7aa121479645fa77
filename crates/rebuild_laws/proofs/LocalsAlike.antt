-- Variables with their clauses, over numbers and new ones.
use Rattle.std.specs.Prelude.{◌≡◌, refl, ℕ, zero, suc, Bool, true, false, not, cond, List, [], ◌∷◌, ◌++◌, map, length, filter, filter_map, slice_index_or, Option, Some, None}
use Rattle.std.specs.List.{AllByRecursion, cons_option}
use Rattle.std.proofs.Common.{ap, sym, subst, ◌∙◌}
use Rattle.std.proofs.lemmas.List.{map-append}
use Rattle.logic_core.specs.Tree.{Tree}
use Rattle.logic_core.specs.Renamed.{both_renamed, EachHas}
use Rattle.logic_core.proofs.EachOf.{every_append}
use Rattle.bpl_model.specs.Module.{Local}
use Rattle.rebuild_laws.specs.Alike.{free_choice, guarded, AlikeClause, AlikeLocals, no_locals, a_local, AlikeTerms}

module _ (new_def new_var : ℕ → ℕ) (D V : ℕ → Type 0) where
  pub sorts_alike : (ks ls : List Local) → AlikeLocals new_def new_var D V ks ls → map (λ (l : Local). l.sort) ls ≡ map (λ (l : Local). l.sort) ks
  sorts_alike _ _ no_locals = refl
  sorts_alike _ _ (a_local {ks = ks} {ls = ls} e o c rest) = λ i. e i ∷ sorts_alike ks ls rest i

  pub locals_long : (ks ls : List Local) → AlikeLocals new_def new_var D V ks ls → length ls ≡ length ks
  locals_long _ _ no_locals = refl
  locals_long _ _ (a_local {ks = ks} {ls = ls} e o c rest) = λ i. suc (locals_long ks ls rest i)

  pub locals_both : (ks ls is js : List Local) → AlikeLocals new_def new_var D V ks ls → AlikeLocals new_def new_var D V is js → AlikeLocals new_def new_var D V (ks ++ is) (ls ++ js)
  locals_both _ _ is js no_locals b = b
  locals_both _ _ is js (a_local {ks = ks} {ls = ls} e o c rest) b = a_local e o c (locals_both ks ls is js rest b)

  pub locals_filtered : (ks ls : List Local) → AlikeLocals new_def new_var D V ks ls → AlikeLocals new_def new_var D V (filter (λ (l : Local). not l.own) ks) (filter (λ (l : Local). not l.own) ls)
  locals_filtered _ _ no_locals = no_locals
  locals_filtered _ _ (a_local {k = k} {l = l} {ks = ks} {ls = ls} e o c rest) =
      subst (λ b. AlikeLocals new_def new_var D V (cond (not k.own) (k ∷ filter (λ (x : Local). not x.own) ks) (filter (λ (x : Local). not x.own) ks)) (cond (not b) (l ∷ filter (λ (x : Local). not x.own) ls) (filter (λ (x : Local). not x.own) ls))) (sym o)
      (by k.own (locals_filtered ks ls rest))
    where
      by : (b : Bool) → AlikeLocals new_def new_var D V (filter (λ (x : Local). not x.own) ks) (filter (λ (x : Local). not x.own) ls)
          → AlikeLocals new_def new_var D V (cond (not b) (k ∷ filter (λ (x : Local). not x.own) ks) (filter (λ (x : Local). not x.own) ks)) (cond (not b) (l ∷ filter (λ (x : Local). not x.own) ls) (filter (λ (x : Local). not x.own) ls))
      by true a = a
      by false a = a_local e o c a

  pub no_terms_alike : AlikeTerms new_def new_var D V [] []
  no_terms_alike = record { same = refl; covered = tt }

  pub clause_more : (k l : Option Tree) (ts us : List Tree) → AlikeClause new_def new_var D V k l → AlikeTerms new_def new_var D V ts us → AlikeTerms new_def new_var D V (cons_option k ts) (cons_option l us)
  clause_more _ _ ts us free_choice a = a
  clause_more _ _ ts us (guarded {E = E} h) a = record { same = ap (λ ws. both_renamed new_def new_var E ∷ ws) a.same; covered = (h, a.covered) }

  pub clauses_alike : (ks ls : List Local) → AlikeLocals new_def new_var D V ks ls → AlikeTerms new_def new_var D V (filter_map (λ (l : Local). l.clause) ks) (filter_map (λ (l : Local). l.clause) ls)
  clauses_alike _ _ no_locals = no_terms_alike
  clauses_alike _ _ (a_local {k = k} {l = l} {ks = ks} {ls = ls} e o c rest) = clause_more k.clause l.clause (filter_map (λ (x : Local). x.clause) ks) (filter_map (λ (x : Local). x.clause) ls) c (clauses_alike ks ls rest)

  pub terms_both : (ts us vs ws : List Tree) → AlikeTerms new_def new_var D V ts us → AlikeTerms new_def new_var D V vs ws → AlikeTerms new_def new_var D V (ts ++ vs) (us ++ ws)
  terms_both ts us vs ws a b = record { same = (λ i. a.same i ++ b.same i) ∙ sym (map-append (both_renamed new_def new_var) ts vs); covered = every_append (EachHas V D) ts vs a.covered b.covered }

  -- the clause of the local at a place
  pub clause_at_place : (ks ls : List Local) → AlikeLocals new_def new_var D V ks ls → (i : ℕ) → AlikeClause new_def new_var D V (slice_index_or (map (λ (l : Local). l.clause) ks) i None) (slice_index_or (map (λ (l : Local). l.clause) ls) i None)
  clause_at_place _ _ no_locals i = free_choice
  clause_at_place _ _ (a_local e o c rest) zero = c
  clause_at_place _ _ (a_local {ks = ks} {ls = ls} e o c rest) (suc i) = clause_at_place ks ls rest i

-- what is read by less is read by more, where the new numbers are the same
module _ (new_def new_var then_var : ℕ → ℕ) (D V W : ℕ → Type 0) (term : (t : Tree) → EachHas V D t → (both_renamed new_def then_var t ≡ both_renamed new_def new_var t) × EachHas W D t) where
  pub clause_moved : (k l : Option Tree) → AlikeClause new_def new_var D V k l → AlikeClause new_def then_var D W k l
  clause_moved _ _ free_choice = free_choice
  clause_moved _ _ (guarded {E = E} h) = subst (λ F. AlikeClause new_def then_var D W (Some E) (Some F)) (term E h).0 (guarded (term E h).1)

  pub locals_moved : (ks ls : List Local) → AlikeLocals new_def new_var D V ks ls → AlikeLocals new_def then_var D W ks ls
  locals_moved _ _ no_locals = no_locals
  locals_moved _ _ (a_local {k = k} {l = l} {ks = ks} {ls = ls} e o c rest) = a_local e o (clause_moved k.clause l.clause c) (locals_moved ks ls rest)

  pub terms_moved : (ts us : List Tree) → AlikeTerms new_def new_var D V ts us → AlikeTerms new_def then_var D W ts us
  terms_moved ts us a = record { same = a.same ∙ sym (each ts a.covered); covered = has ts a.covered }
    where
      each : (ts : List Tree) → AllByRecursion (EachHas V D) ts → map (both_renamed new_def then_var) ts ≡ map (both_renamed new_def new_var) ts
      each [] h = refl
      each (t ∷ ts) h = λ i. (term t h.0).0 i ∷ each ts h.1 i

      has : (ts : List Tree) → AllByRecursion (EachHas V D) ts → AllByRecursion (EachHas W D) ts
      has [] h = tt
      has (t ∷ ts) h = ((term t h.0).1, has ts h.1)
