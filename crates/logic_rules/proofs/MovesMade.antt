-- The moves of rules, from what is made one after another.
use Rattle.std.specs.Prelude.{◌≡◌, refl, ℕ, Option, Some, None, List, [], ◌∷◌, ◌++◌, map}
use Rattle.std.proofs.Common.{ap, sym, ◌∙◌}
use Rattle.std.proofs.lemmas.List.{map-append}
use Rattle.logic_core.specs.Tree.{Kind, Tree}
use Rattle.logic_core.specs.Def.{Def}
use Rattle.logic_core.specs.Wide.{◌>>=◌}
use Rattle.logic_core.specs.Subterm.{replaced}
use Rattle.logic_core.specs.Substitute.{substitute}
use Rattle.proof_core.specs.Proof.{Step, by_split, by_skolem, by_unfold, by_instantiate}
use Rattle.proof_core.specs.Context.{new_variables}
use Rattle.proof_core.specs.Replace.{body_of}
use Rattle.tableau_branch.specs.Branch.{Branch, At, each, normal_in, context_of, without}
use Rattle.tableau_branch.specs.Cases.{case}
use Rattle.tableau_branch.specs.Change.{Made}
use Rattle.tableau_branch.specs.OneBranch.{adding, changing}
use Rattle.tableau_branch.specs.Move.{Move, forks}
use Rattle.tableau_branch.specs.Variables.{with_variables}
use Rattle.logic_rules.specs.Flattening.{adding_each, flattened_at}
use Rattle.logic_rules.specs.Instantiating.{Candidate, mark_of, with_mark, instantiated_by}
use Rattle.logic_rules.specs.Skolem.{skolemized_at}
use Rattle.logic_rules.specs.Splitting.{split_at}
use Rattle.logic_rules.specs.Unfolding.{with_call, unfolded_form, unfolded_at}

bind_twice : {A B C : Type 0} (o : Option A) (f : A → Option B) (g : B → Option C) → (o >>= λ a. f a >>= g) ≡ ((o >>= f) >>= g)
bind_twice None f g = refl
bind_twice (Some a) f g = refl

module _ (d : List Def) (b : Branch) where
  -- the And's normal parts, added to the branch without it
  pub flattens : (a : At (List Tree)) (ts : List Tree) (c : Branch) (n : ℕ) (x : Move) → each (normal_in d b) a.what ≡ Some ts
      → c ≡ without a.at b → n ≡ (a.fact).number → x ≡ adding_each (by_split n) ts c → flattened_at d b a ≡ Some x
  flattens a ts c n x forms is_c is_n is_x =
      ap (λ (o : Option (List Tree)). o >>= λ us. Some (adding_each (by_split (a.fact).number) us (without a.at b))) forms
      ∙ ap Some (sym (is_x ∙ (λ i. adding_each (by_split (is_n i)) ts (is_c i))))

  -- some part has no normal form
  pub flattens_not : (a : At (List Tree)) → each (normal_in d b) a.what ≡ None → flattened_at d b a ≡ None
  flattens_not a none = ap (λ (o : Option (List Tree)). o >>= λ us. Some (adding_each (by_split (a.fact).number) us (without a.at b))) none

  -- the witness in normal form over more variables, which is added
  pub skolemizes : (a : At (List Kind × Tree)) (w t : Tree) (c : Branch) (s : Step) (x : Move) → w ≡ substitute (a.what).1 (new_variables (context_of b) (a.what).0)
      → c ≡ with_variables (a.what).0 (without a.at b) → s ≡ by_skolem (a.fact).number → normal_in d c w ≡ Some t → x ≡ adding s t c → skolemized_at d b a ≡ Some x
  skolemizes a w t c s x is_w is_c is_s form is_x =
      ap (λ (o : Option Tree). o >>= λ u. Some (adding (by_skolem (a.fact).number) u (with_variables (a.what).0 (without a.at b)))) (sym (λ i. normal_in d (is_c i) (is_w i)) ∙ form)
      ∙ ap Some (sym (is_x ∙ (λ i. adding (is_s i) t (is_c i))))

  -- it has no normal form
  pub skolemizes_not : (a : At (List Kind × Tree)) (w : Tree) (c : Branch) → w ≡ substitute (a.what).1 (new_variables (context_of b) (a.what).0)
      → c ≡ with_variables (a.what).0 (without a.at b) → normal_in d c w ≡ None → skolemized_at d b a ≡ None
  skolemizes_not a w c is_w is_c none =
      ap (λ (o : Option Tree). o >>= λ u. Some (adding (by_skolem (a.fact).number) u (with_variables (a.what).0 (without a.at b)))) (sym (λ i. normal_in d (is_c i) (is_w i)) ∙ none)

  -- the fact changed to its form with the called body, and the call seen
  unfolds_to : (e : At Tree) → unfolded_at d b e ≡ (unfolded_form d b (e.fact).term e.what >>= λ s. Some (changing e.at (by_unfold (e.fact).number e.what) s (with_call d e.what b)))
  unfolds_to e = bind_twice (body_of d e.what) (λ u. normal_in d b (replaced e.what u (e.fact).term)) (λ s. Some (changing e.at (by_unfold (e.fact).number e.what) s (with_call d e.what b)))

  pub unfolds : (a : At Tree) (t : Tree) (c : Branch) (n : ℕ) (s : Step) (x : Move) → unfolded_form d b (a.fact).term a.what ≡ Some t
      → c ≡ with_call d a.what b → n ≡ a.at → s ≡ by_unfold (a.fact).number a.what → x ≡ changing n s t c → unfolded_at d b a ≡ Some x
  unfolds a t c n s x form is_c is_n is_s is_x =
      unfolds_to a
      ∙ ap (λ (o : Option Tree). o >>= λ u. Some (changing a.at (by_unfold (a.fact).number a.what) u (with_call d a.what b))) form
      ∙ ap Some (sym (is_x ∙ (λ i. changing (is_n i) (is_s i) t (is_c i))))

  -- there is no such form
  pub unfolds_not : (a : At Tree) → unfolded_form d b (a.fact).term a.what ≡ None → unfolded_at d b a ≡ None
  unfolds_not a none = unfolds_to a ∙ ap (λ (o : Option Tree). o >>= λ u. Some (changing a.at (by_unfold (a.fact).number a.what) u (with_call d a.what b))) none

  -- the instance added to the branch with its mark
  pub instantiates : (a : Candidate) (t : Tree) (c : Branch) (s : Step) (x : Move) → normal_in d b (substitute a.body a.tuple) ≡ Some t
      → c ≡ with_mark (mark_of a) b → s ≡ by_instantiate (a.fact).number a.tuple → x ≡ adding s t c → instantiated_by d b a ≡ Some x
  instantiates a t c s x form is_c is_s is_x =
      let moved : Tree → Move = λ u. adding (by_instantiate (a.fact).number a.tuple) u (with_mark (mark_of a) b) in
      ap (λ (o : Option Tree). o >>= λ u. Some (moved u)) form ∙ ap Some (sym (is_x ∙ (λ i. adding (is_s i) t (is_c i))))

  -- there is no instance
  pub instantiates_not : (a : Candidate) → normal_in d b (substitute a.body a.tuple) ≡ None → instantiated_by d b a ≡ None
  instantiates_not a none = ap (λ (o : Option Tree). o >>= λ u. Some (adding (by_instantiate (a.fact).number a.tuple) u (with_mark (mark_of a) b))) none

  -- the normal cases, and a branch for each
  pub splits : (a : At (List Tree)) (ts : List Tree) (c : Branch) (n : ℕ) (ms : List Made) → each (normal_in d b) a.what ≡ Some ts
      → c ≡ without a.at b → n ≡ (a.fact).number → ms ≡ map (case c) ts → split_at d b a ≡ Some (record { ending = forks n; made = ms })
  splits a ts c n ms forms is_c is_n is_ms =
      let moved : ℕ → List Made → Move = λ k ns. record { ending = forks k; made = ns } in
      ap (λ (o : Option (List Tree)). o >>= λ us. Some (moved (a.fact).number (map (case (without a.at b)) us))) forms
      ∙ sym (λ i. Some (moved (is_n i) ((is_ms ∙ ap (λ e. map (case e) ts) is_c) i)))

  -- some case has no normal form
  pub splits_not : (a : At (List Tree)) → each (normal_in d b) a.what ≡ None → split_at d b a ≡ None
  splits_not a none = ap (λ (o : Option (List Tree)). o >>= λ us. Some (record { ending = forks (a.fact).number; made = map (case (without a.at b)) us })) none

-- the branch of the last case after those of the others
pub cases_more : (b : Branch) (rest : List Tree) (last : Tree) (ms more : List Made) (m : Made)
    → ms ≡ map (case b) rest → m ≡ case b last → more ≡ ms ++ m ∷ [] → more ≡ map (case b) (rest ++ last ∷ [])
cases_more b rest last ms more m is_ms is_m is_more = is_more ∙ (λ i. is_ms i ++ is_m i ∷ []) ∙ sym (map-append (case b) rest (last ∷ []))
