-- A function whose name is met is logical in both programs or in neither.
use Rattle.std.specs.Prelude.{◌≡◌, ℕ, zero, suc, ◌+◌, ◌≤◌, Bool, true, false, ◌||◌, cond, List, [], ◌∷◌, ◌++◌, map, length, filter, Option, Some, None}
use Rattle.std.specs.List.{list_any}
use Rattle.std.proofs.Common.{refl, ap, sym, ◌∙◌, subst, arith, inl, inr, ◌⊎◌}
use Rattle.bpl_ast.specs.Statement.{Decl}
use Rattle.bpl_model.specs.Module.{Proc}
use Rattle.bpl_scopes.specs.Scopes.{Text, Heading, Entity, a_constant, a_global, a_function, a_synonym, a_procedure, Table, table_of, Counts, no_counts, counts_after, entity_of, texts_of}
use Rattle.bpl_scopes.specs.Functions.{is_function, function_in, next_names, leads, leads_to_itself, has_quantifier, applied_by, is_logical_within, is_logical, argument_names}
use Rattle.bpl_texts.specs.Uses.{type_uses, guard_uses, arguments_uses}
use Rattle.bpl_declaration_faults.specs.DeclFaults.{fault_of}
use Rattle.bpl_resolve.proofs.Ways.{Member, leads_one, leads_then}
use Rattle.bpl_resolve.proofs.FunctionOrder.{IsFunction, next_functions}
use Rattle.bpl_resolve.proofs.TypesKnown.{SynonymsFine, remaining, all_remain, less_one, named_in, AllLead, not_met}
use Rattle.bpl_resolve.proofs.EntriesFine.{synonyms_fine}
use Rattle.bpl_resolve.proofs.ModuleSorts.{fine, acyclic}
use Rattle.bpl_resolve.proofs.ScopesFit.{some_heading}
use Rattle.bpl_resolve.proofs.TypeSorts.{member_right}
use Rattle.rebuild_laws.specs.Twins.{Twins}
use Rattle.rebuild_laws.proofs.NamesInUse.{Used, Met, used}
use Rattle.rebuild_laws.proofs.UsedNames.{bare_meaning, same_entity, entity_entry}
use Rattle.rebuild_laws.proofs.EntityUses.{entity_uses, used_in_entity}
use Rattle.rebuild_laws.proofs.AppliedNames.{bare_heading, heading_applies, heading_quantified, heading_used}

any_at : (f g : Text → Bool) (ns : List Text) → ((m : Text) → Member m ns → f m ≡ g m) → list_any f ns ≡ list_any g ns
any_at f g [] h = refl
any_at f g (n ∷ ns) h = λ i. h n (inl refl) i || any_at f g ns (λ m k. h m (inr k)) i

-- of names that pass tests that agree on them
any_passing : (P Q f g : Text → Bool) (ns : List Text) → ((m : Text) → Member m ns → P m ≡ Q m) → ((m : Text) → Member m ns → P m ≡ true → f m ≡ g m) → list_any f (filter P ns) ≡ list_any g (filter Q ns)
any_passing P Q f g [] h k = refl
any_passing P Q f g (n ∷ ns) h k =
    ap (λ b. list_any f (cond b (n ∷ filter P ns) (filter P ns))) refl ∙ by (P n) (Q n) (h n (inl refl)) (k n (inl refl)) (any_passing P Q f g ns (λ m i. h m (inr i)) (λ m i. k m (inr i)))
  where
    by : (b c : Bool) → b ≡ c → (b ≡ true → f n ≡ g n) → list_any f (filter P ns) ≡ list_any g (filter Q ns) → list_any f (cond b (n ∷ filter P ns) (filter P ns)) ≡ list_any g (cond c (n ∷ filter Q ns) (filter Q ns))
    by true true e w r = λ i. w refl i || r i
    by true false e w r = absurd (cc)
    by false true e w r = absurd (cc)
    by false false e w r = r

-- more steps than the table has entries tell nothing more
module _ (t : Table) (fine_synonyms : SynonymsFine t) (no_cycle : (n : Text) → IsFunction t n → leads_to_itself t n ≡ false) where
  abbrev Next : Text → List Text
  Next n = next_names t (entity_of t n)

  enough : (k i j : ℕ) (vs : List Text) (n : Text) → j + k ≡ length t → remaining t vs ≤ k → AllLead t j vs n → IsFunction t n → is_logical_within t (k + i) n ≡ is_logical_within t k n
  enough zero i j vs n e h g x =
      let q = some_heading (entity_of t n) x in
      let a = less_one t vs n (named_in t n (a_function q.0) q.1) (not_met t fine_synonyms zero j vs n e g (no_cycle n x)) in
      absurd (omega (arith, h, a))
  enough (suc k) i j vs n e h g x =
      let q = some_heading (entity_of t n) x in
      let a = less_one t vs n (named_in t n (a_function q.0) q.1) (not_met t fine_synonyms (suc k) j vs n e g (no_cycle n x)) in
      let z : suc k + i ≡ suc (k + i) = omega arith in
      ap (λ w. is_logical_within t w n) z
      ∙ ap (λ b. elim (has_quantifier (function_in (entity_of t n))) [ true ↦ true | false ↦ b ])
      (any_at (is_logical_within t (k + i)) (is_logical_within t k) (Next n)
      (λ m y. enough k i (suc j) (n ∷ vs) m (omega (arith, e)) (omega (arith, h, a)) (both_lead m y) (next_functions t (entity_of t n) x m y)))
    where
      both_lead : (m : Text) → Member m (Next n) → (v : Text) → Member v (n ∷ vs) → leads t (suc j) v m ≡ true
      both_lead m y v (inl w) = subst (λ u. leads t (suc j) u m ≡ true) (sym w) (leads_one t j n m y)
      both_lead m y v (inr w) = leads_then t j v n m (g v w) y

  logical_further : (i : ℕ) (n : Text) → IsFunction t n → is_logical_within t (length t + i) n ≡ is_logical_within t (length t) n
  logical_further i n x = enough (length t) i 0 [] n (omega arith) (let b = all_remain t in omega (arith, b)) (λ v w. absurd w) x

bare_function : (o : Option Entity) → is_function (bare_meaning o) ≡ is_function o
bare_function None = refl
bare_function (Some (a_constant k s)) = refl
bare_function (Some (a_global k s)) = refl
bare_function (Some (a_function h)) = refl
bare_function (Some (a_synonym s)) = refl
bare_function (Some (a_procedure k d)) = refl

module _ (ds : List Decl) (p : Proc) (es : List Decl) (q : Proc) (twins : Twins ds p es q) (back : Twins es q ds p) (none : fault_of ds ≡ None) (none_there : fault_of es ≡ None) where
  abbrev T : Table
  T = table_of ds

  abbrev U : Table
  U = table_of es

  pub both_functions : (n : Text) → Met ds p n → is_function (entity_of T n) ≡ is_function (entity_of U n)
  both_functions n u = sym (bare_function (entity_of T n)) ∙ (ap is_function (same_entity ds p es q twins back none none_there n u) ∙ bare_function (entity_of U n))

  pub same_heading : (n : Text) (g h : Heading) → Met ds p n → entity_of T n ≡ Some (a_function g) → entity_of U n ≡ Some (a_function h) → bare_heading g ≡ bare_heading h
  same_heading n g h u e f = from (bare_heading g) (bare_heading h) (sym (ap bare_meaning e) ∙ (same_entity ds p es q twins back none none_there n u ∙ ap bare_meaning f))
    where
      from : (a b : Heading) → Some (a_function a) ≡ Some (a_function b) → a ≡ b
      from a b z = cc

  -- what a function applies is used
  applied_used : (n m : Text) (g : Heading) → Met ds p n → entity_of T n ≡ Some (a_function g) → Member m (applied_by (Some g)) → Used ds p m
  applied_used n m g u e i =
      let r = entity_entry T n (a_function g) e in
      used_in_entity ds p n m r.0 u r.1 (subst (λ w. Member m (entity_uses w)) (sym r.2)
      (member_right m (arguments_uses g.ins) (type_uses [] g.result ++ guard_uses (texts_of (argument_names g.ins)) g.value)
      (member_right m (type_uses [] g.result) (guard_uses (texts_of (argument_names g.ins)) g.value) (heading_used g m i))))

  same_within : (k : ℕ) (n : Text) → Met ds p n → IsFunction T n → is_logical_within T k n ≡ is_logical_within U k n
  same_within zero n u x = refl
  same_within (suc k) n u x =
      let g = some_heading (entity_of T n) x in
      let h = some_heading (entity_of U n) (sym (both_functions n u) ∙ x) in
      let s = same_heading n g.0 h.0 u g.1 h.1 in
      let applied : applied_by (Some g.0) ≡ applied_by (Some h.0) = sym (heading_applies g.0) ∙ (ap (λ w. applied_by (Some w)) s ∙ heading_applies h.0) in
      let quantified : has_quantifier (Some g.0) ≡ has_quantifier (Some h.0) = sym (heading_quantified g.0) ∙ (ap (λ w. has_quantifier (Some w)) s ∙ heading_quantified h.0) in
      let next : list_any (is_logical_within T k) (filter (λ m. is_function (entity_of T m)) (applied_by (Some g.0))) ≡ list_any (is_logical_within U k) (filter (λ m. is_function (entity_of U m)) (applied_by (Some g.0)))
      = any_passing (λ m. is_function (entity_of T m)) (λ m. is_function (entity_of U m)) (is_logical_within T k) (is_logical_within U k) (applied_by (Some g.0))
      (λ m i. both_functions m (used (applied_used n m g.0 u g.1 i)))
      (λ m i y. same_within k m (used (applied_used n m g.0 u g.1 i)) y) in
      (λ i. elim (has_quantifier (function_in (g.1 i))) [ true ↦ true | false ↦ list_any (is_logical_within T k) (next_names T (g.1 i)) ])
      ∙ ((λ i. elim (quantified i) [ true ↦ true | false ↦ next i ])
      ∙ ((λ i. elim (has_quantifier (Some h.0)) [ true ↦ true | false ↦ list_any (is_logical_within U k) (filter (λ m. is_function (entity_of U m)) (applied i)) ])
      ∙ (λ i. elim (has_quantifier (function_in (sym h.1 i))) [ true ↦ true | false ↦ list_any (is_logical_within U k) (next_names U (sym h.1 i)) ])))

  pub same_logical : (n : Text) → Met ds p n → IsFunction T n → is_logical T n ≡ is_logical U n
  unfolding is_logical
  same_logical n u x =
      let z : length U + length T ≡ length T + length U = omega arith in
      sym (logical_further T (synonyms_fine T (counts_after no_counts ds) (fine ds none)) (acyclic ds none) (length U) n x)
      ∙ (same_within (length T + length U) n u x
      ∙ (ap (λ w. is_logical_within U w n) (sym z)
      ∙ logical_further U (synonyms_fine U (counts_after no_counts es) (fine es none_there)) (acyclic es none_there) (length T) n (sym (both_functions n u) ∙ x)))
