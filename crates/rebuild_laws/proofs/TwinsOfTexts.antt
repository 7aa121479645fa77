-- Equal lists of bare declarations, as equal dependency texts have them, make twins of what is reached.
use Rattle.std.specs.Prelude.{◌≡◌, ℕ, ◌==◌, Bool, true, false, not, ◌||◌, List, [], ◌∷◌, map, filter, filter_map, slice_get, Option, Some, None, option_map}
use Rattle.std.specs.List.{cons_option}
use Rattle.std.proofs.Common.{refl, ap, sym, ◌∙◌, subst, inl, inr, ◌⊎◌}
use Rattle.logic_core.proofs.Booleans.{or_second}
use Rattle.bpl_ast.specs.Statement.{DeclBody, Decl}
use Rattle.bpl_model.specs.Module.{Proc, Module}
use Rattle.bpl_model.specs.Reach.{among, own_positions, reached_by}
use Rattle.canonical_text.specs.SameStatement.{bare_decl}
use Rattle.bpl_resolve.specs.Elaborate.{module_of}
use Rattle.canonical_text.specs.Heads.{bare_head}
use Rattle.rebuild_laws.specs.DependencyTexts.{bodies_at, other_positions}
use Rattle.rebuild_laws.specs.Twins.{Own, Reached, Twin, Twins}
use Rattle.rebuild_laws.proofs.Settled.{itself, same_number, among_passed}
use Rattle.rebuild_laws.proofs.ReachClosed.{is_passed}
use Rattle.rebuild_laws.proofs.BareUses.{heads_same}

abbrev pub In : DeclBody → List DeclBody → Type 0
In x [] = ⊥
In x (y ∷ ys) = (y ≡ x) ⊎ In x ys

module _ (ds : List Decl) where
  pub in_bodies : (ns : List ℕ) (d : ℕ) (x : Decl) → among ns d ≡ true → slice_get ds d ≡ Some x → In x.body (bodies_at ds ns)
  in_bodies [] d x h e = absurd (cc)
  in_bodies (n ∷ ns) d x h e = by (n == d) refl h (λ k. in_bodies ns d x k e)
    where
      behind : (o : Option DeclBody) → In x.body (bodies_at ds ns) → In x.body (cons_option o (bodies_at ds ns))
      behind None k = k
      behind (Some y) k = inr k

      here : (o : Option Decl) → o ≡ Some x → In x.body (cons_option (option_map (λ (d : Decl). d.body) o) (bodies_at ds ns))
      here None k = absurd (cc)
      here (Some y) k = let z : y ≡ x = cc in inl (ap (λ (w : Decl). w.body) z)

      by : (b : Bool) → (n == d) ≡ b → (b || among ns d) ≡ true → (among ns d ≡ true → In x.body (bodies_at ds ns)) → In x.body (bodies_at ds (n ∷ ns))
      by true q k later = here (slice_get ds n) (ap (slice_get ds) (same_number n d q) ∙ e)
      by false q k later = behind (option_map (λ (d : Decl). d.body) (slice_get ds n)) (later k)

  -- the position of a declaration among them
  record StandsAt (ns : List ℕ) (b : DeclBody) : Type 0 where
    position : ℕ
    decl : Decl
    among_them : among ns position ≡ true
    at : slice_get ds position ≡ Some decl
    is : decl.body ≡ b

  of_bodies : (ns : List ℕ) (b : DeclBody) → In b (bodies_at ds ns) → StandsAt ns b
  of_bodies [] b h = absurd h
  of_bodies (n ∷ ns) b h = by (slice_get ds n) refl h (of_bodies ns b)
    where
      further : StandsAt ns b → StandsAt (n ∷ ns) b
      further r = record { position = r.position; decl = r.decl; among_them = or_second (n == r.position) (among ns r.position) r.among_them; at = r.at; is = r.is }

      by : (o : Option Decl) → slice_get ds n ≡ o → In b (cons_option (option_map (λ (d : Decl). d.body) o) (bodies_at ds ns)) → (In b (bodies_at ds ns) → StandsAt ns b) → StandsAt (n ∷ ns) b
      by None e k later = further (later k)
      by (Some x) e (inl q) later = record { position = n; decl = x; among_them = ap (λ w. w || among ns n) (itself n); at = e; is = q }
      by (Some x) e (inr k) later = further (later k)

module _ (f : DeclBody → DeclBody) where
  mapped : (xs ys : List DeclBody) (b : DeclBody) → map f xs ≡ map f ys → In b xs → (c : DeclBody) × In c ys × (f b ≡ f c)
  mapped [] ys b e h = absurd h
  mapped (x ∷ xs) [] b e h = absurd (cc)
  mapped (x ∷ xs) (y ∷ ys) b e h = by h (λ k. mapped xs ys b (cc) k) (cc)
    where
      by : (x ≡ b) ⊎ In b xs → (In b xs → (c : DeclBody) × In c ys × (f b ≡ f c)) → f x ≡ f y → (c : DeclBody) × In c (y ∷ ys) × (f b ≡ f c)
      by (inl q) later k = (y, inl refl, ap f (sym q) ∙ k)
      by (inr i) later k = let r = later i in (r.0, inr r.1, r.2)

module _ (ds : List Decl) (p : Proc) (es : List Decl) (q : Proc) where
  pub twins_of_texts :
      map bare_decl (bodies_at ds (own_positions (module_of ds) p)) ≡ map bare_decl (bodies_at es (own_positions (module_of es) q))
      → map bare_head (bodies_at ds (other_positions (module_of ds) p)) ≡ map bare_head (bodies_at es (other_positions (module_of es) q))
      → Twins ds p es q
  twins_of_texts mine others = record { own = own_twin; all = λ d x o a. any_twin d x o a }
    where
      own_twin : (d : ℕ) (x : Decl) → Own ds p d → slice_get ds d ≡ Some x → Twin (Own es q) es (λ y. bare_decl x.body ≡ bare_decl y)
      own_twin d x o a =
          let r = mapped bare_decl _ _ x.body mine (in_bodies ds (own_positions (module_of ds) p) d x o a) in
          let s = of_bodies es (own_positions (module_of es) q) r.0 r.1 in
          record { position = s.position; decl = s.decl; stands = s.among_them; at = s.at; same = r.2 ∙ ap bare_decl (sym s.is) }

      own_head : (d : ℕ) (x : Decl) → Own ds p d → slice_get ds d ≡ Some x → Twin (Reached es q) es (λ y. bare_head x.body ≡ bare_head y)
      own_head d x o a =
          let r = own_twin d x o a in
          record { position = r.position; decl = r.decl; stands = inl r.stands; at = r.at; same = heads_same x.body r.decl.body r.same }

      other_twin : (d : ℕ) (x : Decl) → among (other_positions (module_of ds) p) d ≡ true → slice_get ds d ≡ Some x → Twin (Reached es q) es (λ y. bare_head x.body ≡ bare_head y)
      other_twin d x o a =
          let r = mapped bare_head _ _ x.body others (in_bodies ds (other_positions (module_of ds) p) d x o a) in
          let s = of_bodies es (other_positions (module_of es) q) r.0 r.1 in
          let w = among_passed (λ d. not (among (own_positions (module_of es) q) d)) (reached_by (module_of es) q) s.position s.among_them in
          record { position = s.position; decl = s.decl; stands = inr w.0; at = s.at; same = r.2 ∙ ap bare_head (sym s.is) }

      any_twin : (d : ℕ) (x : Decl) → Reached ds p d → slice_get ds d ≡ Some x → Twin (Reached es q) es (λ y. bare_head x.body ≡ bare_head y)
      any_twin d x (inl o) a = own_head d x o a
      any_twin d x (inr o) a = by (among (own_positions (module_of ds) p) d) refl
        where
          by : (b : Bool) → among (own_positions (module_of ds) p) d ≡ b → Twin (Reached es q) es (λ y. bare_head x.body ≡ bare_head y)
          by true e = own_head d x e a
          by false e = other_twin d x (is_passed (λ d. not (among (own_positions (module_of ds) p) d)) (reached_by (module_of ds) p) d o (ap not e)) a
