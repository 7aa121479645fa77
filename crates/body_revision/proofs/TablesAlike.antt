-- Tables that differ in the values of functions alone, where these apply the same functions in the same order: what names lead to, which functions are logical, the order of functions, and the sorts of types are the same.
use Rattle.std.proofs.Common.{◌≡◌, ◌⊎◌, refl, sym, ap, ◌∙◌, subst, inl, inr, ℕ, zero, suc, Bool, true, false, cond, List, [], ◌∷◌, ◌++◌, map, length, fold, filter, reverse, bytes_eq, Option, Some, None, option_map}
use Rattle.std.specs.Prelude.{⊤}
use Rattle.std.specs.List.{list_any}
use Rattle.logic_terms.specs.Wide.{◌>>=◌}
use Rattle.bv_base.specs.Text.{is_among}
use Rattle.bpl_ast.specs.Place.{Name, Ty, Tys}
use Rattle.bpl_ast.specs.Statement.{Argument}
use Rattle.bpl_scopes.specs.Scopes.{Text, Heading, Entity, a_constant, a_global, a_function, a_synonym, a_procedure, Entry, Table, names_in, first_at, entry_of, entity_of}
use Rattle.bpl_scopes.specs.Sorts.{synonym_in, sort_by, sorts_by, synonym_sort, unless_hidden, sort_of_type, sorts_of_types, argument_sorts, sorts_of_names, bounds_of}
use Rattle.bpl_scopes.specs.Functions.{function_in, applied_by, has_quantifier, is_function, is_synonym, names_in_type, next_names, leads, leads_to_itself, is_logical_within, is_logical, numbered, function_names, in_number_order}
use Rattle.user_types.specs.UserTypes.{user_in, user_by, user_after, user_of}

-- ---- two tables

-- functions of one head whose bodies apply the same; both have a quantifier, or none has
pub record LikeHeading (g h : Heading) : Type 0 where
  pub ins : g.ins ≡ h.ins
  pub result : g.result ≡ h.result
  pub applied : applied_by (Some g) ≡ applied_by (Some h)
  pub quantified : has_quantifier (Some g) ≡ has_quantifier (Some h)

pub record LikeFunctions (o p : Option Entity) : Type 0 where
  pub before : Heading
  pub after : Heading
  pub like : LikeHeading before after
  pub old : o ≡ Some (a_function before)
  pub new : p ≡ Some (a_function after)

-- what a name stands for
abbrev pub LikeFound : Option Entity → Option Entity → Type 0
LikeFound o p = (o ≡ p) ⊎ LikeFunctions o p

pub record LikeEntry (d e : Entry) : Type 0 where
  pub name : d.name ≡ e.name
  pub decl : d.decl ≡ e.decl
  pub entity : LikeFound (Some d.entity) (Some e.entity)

abbrev pub LikeTables : Table → Table → Type 0
LikeTables [] [] = ⊤
LikeTables [] (e ∷ es) = ⊥
LikeTables (d ∷ ds) [] = ⊥
LikeTables (d ∷ ds) (e ∷ es) = LikeEntry d e × LikeTables ds es

pub like_itself : (t : Table) → LikeTables t t
like_itself [] = tt
like_itself (e ∷ es) = (record { name = refl; decl = refl; entity = inl refl }, like_itself es)

pub like_same : (t u : Table) → t ≡ u → LikeTables t u
like_same t u s = subst (λ (v : Table). LikeTables t v) s (like_itself t)

through_heading : (f g h : Heading) → LikeHeading f g → LikeHeading g h → LikeHeading f h
through_heading f g h l m = record { ins = l.ins ∙ m.ins; result = l.result ∙ m.result; applied = l.applied ∙ m.applied; quantified = l.quantified ∙ m.quantified }

through_found : (o p q : Option Entity) → LikeFound o p → LikeFound p q → LikeFound o q
through_found o p q (inl r) (inl s) = inl (r ∙ s)
through_found o p q (inl r) (inr s) = inr (record { before = s.before; after = s.after; like = s.like; old = r ∙ s.old; new = s.new })
through_found o p q (inr r) (inl s) = inr (record { before = r.before; after = r.after; like = r.like; old = r.old; new = sym s ∙ r.new })
through_found o p q (inr r) (inr s) =
    let met : Some (a_function s.before) ≡ Some (a_function r.after) = sym s.old ∙ r.new in
    let same : s.before ≡ r.after = cc met in
    inr (record { before = r.before; after = s.after; like = through_heading r.before s.before s.after (subst (LikeHeading r.before) (sym same) r.like) s.like; old = r.old; new = s.new })

through_entry : (a b c : Entry) → LikeEntry a b → LikeEntry b c → LikeEntry a c
through_entry a b c h k = record { name = h.name ∙ k.name; decl = h.decl ∙ k.decl; entity = through_found (Some a.entity) (Some b.entity) (Some c.entity) h.entity k.entity }

pub like_through : (s t u : Table) → LikeTables s t → LikeTables t u → LikeTables s u
like_through [] [] u h k = k
like_through [] (b ∷ t) u h k = absurd h
like_through (a ∷ s) [] u h k = absurd h
like_through (a ∷ s) (b ∷ t) [] h k = absurd k
like_through (a ∷ s) (b ∷ t) (c ∷ u) h k = (through_entry a b c h.0 k.0, like_through s t u h.1 k.1)

pub like_joined : (s t u v : Table) → LikeTables s t → LikeTables u v → LikeTables (s ++ u) (t ++ v)
like_joined [] [] u v h k = k
like_joined [] (e ∷ t) u v h k = absurd h
like_joined (d ∷ s) [] u v h k = absurd h
like_joined (d ∷ s) (e ∷ t) u v h k = (h.0, like_joined s t u v h.1 k)

-- what depends on no value
pub of_found : {A : Type 0} (f : Option Entity → A) → ((g h : Heading) → LikeHeading g h → f (Some (a_function g)) ≡ f (Some (a_function h))) → (o p : Option Entity) → LikeFound o p → f o ≡ f p
of_found f k o p (inl s) = ap f s
of_found f k o p (inr r) = ap f r.old ∙ k r.before r.after r.like ∙ sym (ap f r.new)

pub same_lengths : (t u : Table) → LikeTables t u → length t ≡ length u
same_lengths [] [] h = refl
same_lengths [] (e ∷ u) h = absurd h
same_lengths (d ∷ t) [] h = absurd h
same_lengths (d ∷ t) (e ∷ u) h = ap suc (same_lengths t u h.1)

pub same_names : (t u : Table) → LikeTables t u → map (λ (e : Entry). e.name) t ≡ map (λ (e : Entry). e.name) u
same_names [] [] h = refl
same_names [] (e ∷ u) h = absurd h
same_names (d ∷ t) [] h = absurd h
same_names (d ∷ t) (e ∷ u) h = λ i. h.0.name i ∷ same_names t u h.1 i

-- the declaration of a name
pub same_decl : (t u : Table) → LikeTables t u → (n : Text) → option_map (λ (e : Entry). e.decl) (entry_of t n) ≡ option_map (λ (e : Entry). e.decl) (entry_of u n)
same_decl [] [] h n = refl
same_decl [] (e ∷ u) h n = absurd h
same_decl (d ∷ t) [] h n = absurd h
same_decl (d ∷ t) (e ∷ u) h n =
    by (bytes_eq d.name n) (same_decl t u h.1 n) ∙ ap (λ b. option_map (λ (x : Entry). x.decl) (cond b (Some e) (entry_of u n))) (ap (λ m. bytes_eq m n) h.0.name)
  where
    by : (b : Bool) → option_map (λ (x : Entry). x.decl) (entry_of t n) ≡ option_map (λ (x : Entry). x.decl) (entry_of u n)
        → option_map (λ (x : Entry). x.decl) (cond b (Some d) (entry_of t n)) ≡ option_map (λ (x : Entry). x.decl) (cond b (Some e) (entry_of u n))
    by true later = ap Some h.0.decl
    by false later = later

pub like_found : (t u : Table) → LikeTables t u → (n : Text) → LikeFound (entity_of t n) (entity_of u n)
unfolding entity_of
like_found [] [] h n = inl refl
like_found [] (e ∷ u) h n = absurd h
like_found (d ∷ t) [] h n = absurd h
like_found (d ∷ t) (e ∷ u) h n = by (bytes_eq d.name n) (bytes_eq e.name n) (ap (λ m. bytes_eq m n) h.0.name) (like_found t u h.1 n)
  where
    by : (b c : Bool) → b ≡ c → LikeFound (option_map (λ (x : Entry). x.entity) (entry_of t n)) (option_map (λ (x : Entry). x.entity) (entry_of u n))
        → LikeFound (option_map (λ (x : Entry). x.entity) (cond b (Some d) (entry_of t n))) (option_map (λ (x : Entry). x.entity) (cond c (Some e) (entry_of u n)))
    by true true s later = h.0.entity
    by true false s later = absurd (cc)
    by false true s later = absurd (cc)
    by false false s later = later

module _ (t u : Table) (like : LikeTables t u) where
  found : (n : Text) → LikeFound (entity_of t n) (entity_of u n)
  found n = like_found t u like n

  long : length t ≡ length u
  long = same_lengths t u like

  -- ---- what leads to what

  pub function_like : (n : Text) → is_function (entity_of t n) ≡ is_function (entity_of u n)
  function_like n = of_found is_function (λ g h l. refl) (entity_of t n) (entity_of u n) (found n)

  synonym_like : (n : Text) → is_synonym (entity_of t n) ≡ is_synonym (entity_of u n)
  synonym_like n = of_found is_synonym (λ g h l. refl) (entity_of t n) (entity_of u n) (found n)

  next_over : (o : Option Entity) → next_names t o ≡ next_names u o
  next_over (Some (a_function h)) = λ i. filter (λ n. function_like n i) (applied_by (Some h))
  next_over (Some (a_synonym (Some s))) = λ i. filter (λ n. synonym_like n i) (names_in_type s)
  next_over (Some (a_synonym None)) = refl
  next_over (Some (a_constant k s)) = refl
  next_over (Some (a_global k s)) = refl
  next_over (Some (a_procedure k c)) = refl
  next_over None = refl

  next_like : (n : Text) → next_names t (entity_of t n) ≡ next_names u (entity_of u n)
  next_like n =
      of_found (next_names t) (λ g h l. ap (filter (λ m. is_function (entity_of t m))) l.applied) (entity_of t n) (entity_of u n) (found n)
      ∙ next_over (entity_of u n)

  leads_like : (k : ℕ) (n m : Text) → leads t k n m ≡ leads u k n m
  leads_like zero n m = refl
  leads_like (suc k) n m = λ i. list_any (λ c. elim (bytes_eq c m) [ true ↦ true | false ↦ leads_like k c m i ]) (next_like n i)

  pub itself_like : (n : Text) → leads_to_itself t n ≡ leads_to_itself u n
  unfolding leads_to_itself
  itself_like n = leads_like (length t) n n ∙ ap (λ k. leads u k n n) long

  quantifier_like : (n : Text) → has_quantifier (function_in (entity_of t n)) ≡ has_quantifier (function_in (entity_of u n))
  quantifier_like n = of_found (λ o. has_quantifier (function_in o)) (λ g h l. l.quantified) (entity_of t n) (entity_of u n) (found n)

  within_like : (k : ℕ) (n : Text) → is_logical_within t k n ≡ is_logical_within u k n
  within_like zero n = refl
  within_like (suc k) n = λ i. elim (quantifier_like n i) [ true ↦ true | false ↦ list_any (λ m. within_like k m i) (next_like n i) ]

  pub logical_like : (n : Text) → is_logical t n ≡ is_logical u n
  unfolding is_logical
  logical_like n = within_like (length t) n ∙ ap (λ k. is_logical_within u k n) long

  numbered_like : (k : ℕ) (done : List Text) (n : Text) → numbered t k done n ≡ numbered u k done n
  numbered_like zero done n = refl
  numbered_like (suc k) done n = λ i. elim (is_among done n) [ true ↦ done | false ↦ fold (λ d m. numbered_like k d m i) done (next_like n i) ++ n ∷ [] ]

  names_like : function_names t ≡ function_names u
  names_like = λ i. filter (λ n. function_like n i) (same_names t u like i)

  pub order_like : in_number_order t ≡ in_number_order u
  order_like = (λ i. fold (λ d m. numbered_like (length t) d m i) [] (names_like i)) ∙ (λ i. fold (numbered u (long i)) [] (function_names u))

  -- ---- sorts of types

  synonyms_like : (k : ℕ) (n : Text) → synonym_sort t k n ≡ synonym_sort u k n
  synonyms_like zero n = refl
  synonyms_like (suc k) n = λ i. of_found synonym_in (λ g h l. refl) (entity_of t n) (entity_of u n) (found n) i >>= λ s. sort_by (λ m. synonyms_like k m i) s

  named_like : (n : Text) → synonym_sort t (length t) n ≡ synonym_sort u (length u) n
  named_like n = synonyms_like (length t) n ∙ ap (λ k. synonym_sort u k n) long

  pub type_like : (hidden : List Text) (s : Ty) → sort_of_type t hidden s ≡ sort_of_type u hidden s
  unfolding sort_of_type
  type_like hidden s = λ i. sort_by (λ n. unless_hidden (is_among hidden n) (named_like n i)) s

  pub types_like : (hidden : List Text) (ss : Tys) → sorts_of_types t hidden ss ≡ sorts_of_types u hidden ss
  types_like hidden ss = λ i. sorts_by (λ n. unless_hidden (is_among hidden n) (named_like n i)) ss

  pub arguments_like : (ins : List Argument) → argument_sorts t ins ≡ argument_sorts u ins
  arguments_like ins = λ i. map (λ (a : Argument). type_like [] a.type i) ins

  pub groups_like : (hidden : List Text) (ps : List (Name × Ty)) → sorts_of_names t hidden ps ≡ sorts_of_names u hidden ps
  groups_like hidden ps = λ i. map (λ p. type_like hidden p.1 i) ps

  pub bounds_like : (hidden : List Text) (ps : List (Name × Ty)) → bounds_of t hidden ps ≡ bounds_of u hidden ps
  bounds_like hidden ps = λ i. reverse (map (λ p. record { name = Some ((p.0).text); sort = type_like hidden p.1 i }) ps)

  -- ---- user types

  after_like : (k : ℕ) (n : Text) → user_after t k n ≡ user_after u k n
  after_like zero n = refl
  after_like (suc k) n =
      of_found (user_by (user_after t k) (first_at n (names_in t))) (λ g h l. refl) (entity_of t n) (entity_of u n) (found n)
      ∙ over (λ m. after_like k m) (entity_of u n)
    where
      over : ((m : Text) → user_after t k m ≡ user_after u k m) → (o : Option Entity) → user_by (user_after t k) (first_at n (names_in t)) o ≡ user_by (user_after u k) (first_at n (names_in u)) o
      over later None = refl
      over later (Some (a_constant j s)) = refl
      over later (Some (a_global j s)) = refl
      over later (Some (a_function h)) = refl
      over later (Some (a_synonym None)) = λ i. first_at n (same_names t u like i)
      over later (Some (a_synonym (Some s))) = λ i. user_in (λ m. later m i) s
      over later (Some (a_procedure j c)) = refl

  pub user_like : (s : Ty) → user_of t s ≡ user_of u s
  user_like s = (λ i. user_in (λ m. after_like (length t) m i) s) ∙ (λ i. user_in (user_after u (long i)) s)
