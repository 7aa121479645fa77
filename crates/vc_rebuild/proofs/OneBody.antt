-- Where the body of one declaration is another one, the dependency texts of procedures whose declaration it isn't are what they were.
use Rattle.std.specs.Prelude.{◌≡◌, refl, ℕ, zero, suc, ◌+◌, nat_eq, ◌==◌, Bool, true, false, not, ◌&&◌, ◌||◌, cond, List, [], ◌∷◌, ◌++◌, map, length, filter, flat_map, codes, bytes_eq, is_some, Option, Some, None, option_map, Contains, slice_get}
use Rattle.std.specs.List.{list_any, range_with_len}
use Rattle.std.proofs.Common.{ap, sym, subst, ◌∙◌, true≢false, inl, inr, arith}
use Rattle.std.proofs.lemmas.Bool.{or_parts, or_left, or_right, eqb-true}
use Rattle.std.proofs.lemmas.Slice.Eq.{bytes_eq-Decides}
use Rattle.std.proofs.lemmas.List.Concat.{flat_map-append}
use Rattle.passive_form.proofs.Lists.{contains_cases, contains_none}
use Rattle.bpl_model.specs.Module.{Name, Proc, Module}
use Rattle.bpl_model.specs.Reach.{among, decl_at, positions, leads_to, reach_on, reached_by, is_named, axiom_names, axiom_name}
use Rattle.vc_build.specs.Depends.{depends}
use Rattle.vc_build.specs.Rebuild.{BuiltProc, stands_in}
use Rattle.vc_rebuild.specs.Change.{DiffersAt, is_own}

-- what names reach, and a dependency text, by what the declarations are
module _ (names : ℕ → Name) (contracts leads contract_leads : ℕ → List ℕ) (symbols axioms : List Name) (ps : List ℕ) where
  abbrev symbols_in : List ℕ → List ℕ
  symbols_in ds = filter (λ e. list_any (bytes_eq (names e)) symbols) ds

  abbrev leads_with : List ℕ → ℕ → Bool
  leads_with reached d =
      among reached d || (among (flat_map contract_leads reached) d || (list_any (bytes_eq (names d)) axioms && (list_any (among reached) (symbols_in (leads d)) || nat_eq (length (symbols_in (leads d))) 0)))

  abbrev reach_with : ℕ → List ℕ → List ℕ
  reach_with zero reached = reached
  reach_with (suc n) reached = reach_with n (filter (leads_with reached) ps)

  abbrev own_with : Name → List ℕ
  own_with n = filter (λ e. bytes_eq n (names e)) ps ++ filter (λ e. bytes_eq (codes "implementation " ++ n) (names e)) ps

  abbrev depends_with : (ℕ → List ℕ) → ℕ → Name → List ℕ
  depends_with texts k n = flat_map texts (own_with n) ++ flat_map contracts (filter (λ d. not (among (own_with n) d)) (reach_with k (flat_map leads (own_with n))))

abbrev symbols_of : Module → List Name
symbols_of m = map (λ c. c.name) m.consts ++ map (λ f. f.name) m.functions

reach_is : (m : Module) (k : ℕ) (reached : List ℕ)
    → reach_on m k reached ≡ reach_with (λ e. (decl_at m e).name) (λ e. (decl_at m e).contract) (λ e. (decl_at m e).leads) (λ e. (decl_at m e).contract_leads) (symbols_of m) (axiom_names m) (positions m) k reached
reach_is m zero reached = refl
reach_is m (suc k) reached = reach_is m k (filter (leads_to m reached) (positions m))

depends_is : (m : Module) (p : Proc)
    → depends m p ≡ depends_with (λ e. (decl_at m e).name) (λ e. (decl_at m e).contract) (λ e. (decl_at m e).leads) (λ e. (decl_at m e).contract_leads) (symbols_of m) (axiom_names m) (positions m) (λ e. (decl_at m e).text) (length m.texts + 1) p.name
depends_is m p =
    let own = filter (is_named m p.name) (positions m) ++ filter (is_named m (codes "implementation " ++ p.name)) (positions m) in
    ap (λ reached. flat_map (λ d. (decl_at m d).text) own ++ flat_map (λ d. (decl_at m d).contract) (filter (λ d. not (among own d)) reached)) (reach_is m (length m.texts + 1) (flat_map (λ d. (decl_at m d).leads) own))

-- texts of what passes a test that one doesn't pass
texts_same : (d : ℕ) (t : ℕ → Bool) (f g : ℕ → List ℕ) → t d ≡ false → ((e : ℕ) → nat_eq e d ≡ false → f e ≡ g e) → (ps : List ℕ) → flat_map f (filter t ps) ≡ flat_map g (filter t ps)
texts_same d t f g none same [] = refl
texts_same d t f g none same (e ∷ ps) = by (t e) refl (nat_eq e d) refl (texts_same d t f g none same ps)
  where
    by : (s : Bool) → t e ≡ s → (u : Bool) → nat_eq e d ≡ u → flat_map f (filter t ps) ≡ flat_map g (filter t ps) → flat_map f (cond s (e ∷ filter t ps) (filter t ps)) ≡ flat_map g (cond s (e ∷ filter t ps) (filter t ps))
    by false p u q h = h
    by true p false q h = λ i. same e q i ++ h i
    by true p true q h = absurd (true≢false (sym p ∙ ap t (eqb-true e d q) ∙ none))

module _ (d : ℕ) (m n : Module) (differs : DiffersAt d m n) where
  symbols_same : symbols_of n ≡ symbols_of m
  symbols_same = λ i. map (λ c. c.name) (sym differs.consts i) ++ map (λ f. f.name) (sym differs.functions i)

  axioms_same : axiom_names n ≡ axiom_names m
  axioms_same = ap (λ k. map axiom_name (range_with_len 1 k)) (sym differs.axioms)

  -- first what is declared, and then the texts
  pub depends_kept : (p : Proc) → is_own n d p ≡ false → depends n p ≡ depends m p
  depends_kept p apart =
      let tests = or_parts (is_named n p.name d) (is_named n (codes "implementation " ++ p.name) d) apart in
      let named : (decl_at n d).name ≡ (decl_at m d).name = sym (differs.heads d).name in
      let first : bytes_eq p.name (decl_at m d).name ≡ false = ap (bytes_eq p.name) (sym named) ∙ tests.0 in
      let second : bytes_eq (codes "implementation " ++ p.name) (decl_at m d).name ≡ false = ap (bytes_eq (codes "implementation " ++ p.name)) (sym named) ∙ tests.1 in
      let one = filter (λ e. bytes_eq p.name (decl_at m e).name) (positions m) in
      let two = filter (λ e. bytes_eq (codes "implementation " ++ p.name) (decl_at m e).name) (positions m) in
      let others : (e : ℕ) → nat_eq e d ≡ false → (decl_at n e).text ≡ (decl_at m e).text = λ e apart. sym (differs.others e apart) in
      let texts : flat_map (λ e. (decl_at n e).text) (one ++ two) ≡ flat_map (λ e. (decl_at m e).text) (one ++ two) =
      flat_map-append (λ e. (decl_at n e).text) one two
      ∙ (λ i. texts_same d (λ e. bytes_eq p.name (decl_at m e).name) (λ e. (decl_at n e).text) (λ e. (decl_at m e).text) first others (positions m) i
      ++ texts_same d (λ e. bytes_eq (codes "implementation " ++ p.name) (decl_at m e).name) (λ e. (decl_at n e).text) (λ e. (decl_at m e).text) second others (positions m) i)
      ∙ sym (flat_map-append (λ e. (decl_at m e).text) one two) in
      depends_is n p
      ∙ (λ i. depends_with (λ e. sym (differs.heads e).name i) (λ e. sym (differs.heads e).contract i) (λ e. sym (differs.heads e).leads i) (λ e. sym (differs.heads e).contract_leads i) (symbols_same i) (axioms_same i) (range_with_len 0 (sym differs.texts i)) (λ e. (decl_at n e).text) (sym differs.texts i + 1) p.name)
      ∙ ap (λ ts. ts ++ flat_map (λ e. (decl_at m e).contract) (filter (λ e. not (among (one ++ two) e)) (reach_with (λ e. (decl_at m e).name) (λ e. (decl_at m e).contract) (λ e. (decl_at m e).leads) (λ e. (decl_at m e).contract_leads) (symbols_of m) (axiom_names m) (positions m) (length m.texts + 1) (flat_map (λ e. (decl_at m e).leads) (one ++ two))))) texts
      ∙ sym (depends_is m p)

-- a text that a procedure has stands in one
pub stands_found : (bs : List BuiltProc) (text : List ℕ) (b : BuiltProc) → Contains bs b → text ≡ b.depends → stands_in bs text ≡ true
stands_found [] text b c e = absurd (contains_none b c)
stands_found (x ∷ bs) text b c e = elim (contains_cases x bs b c) [
  | inl same ↦ or_left (bytes_eq text x.depends) (stands_in bs text) ((bytes_eq-Decides text x.depends).1 (e ∙ ap (λ (y : BuiltProc). y.depends) (sym same)))
  | inr later ↦ or_right (bytes_eq text x.depends) (stands_in bs text) (stands_found bs text b later e)
]
