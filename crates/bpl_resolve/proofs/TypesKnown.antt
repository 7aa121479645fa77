-- A type without faults has a sort where no synonym leads to itself and each one's own type has no fault: no chain of synonyms outruns the table.
use Rattle.std.proofs.Common.{◌≡◌, refl, ap, sym, ◌∙◌, inl, inr, ◌⊎◌, subst, ℕ, zero, suc, ◌+◌, ◌≤◌, arith, Bool, true, false, ◌||◌, length, List, [], ◌∷◌, Option, Some, None, option_map}
use Rattle.std.specs.Prelude.{bytes_eq, find, filter, cond}
use Rattle.logic_core.specs.Tree.{Kind}
use Rattle.logic_core.specs.Wide.{◌>>=◌}
use Rattle.bpl_ast.specs.Place.{Ty}
use Rattle.bv_base.specs.Text.{is_among}
use Rattle.bpl_scopes.specs.Scopes.{Text, Entry, Table, Entity, a_synonym, entry_of, entity_of}
use Rattle.bpl_scopes.specs.Sorts.{synonym_in, sort_by, synonym_sort, unless_hidden, sort_of_type}
use Rattle.bpl_scopes.specs.Functions.{names_in_type, is_synonym, next_names, leads, leads_to_itself}
use Rattle.bpl_scopes.specs.TypeFaults.{type_faults}
use Rattle.bpl_declaration_faults.specs.DeclFaults.{synonym_faults}
use Rattle.bpl_resolve.proofs.Below.{Below}
use Rattle.bpl_resolve.proofs.HasSort.{Known}
use Rattle.bpl_resolve.proofs.Ways.{Member, any_member, same_text, text_itself, leads_then, leads_one, leads_up}
use Rattle.bpl_resolve.proofs.TypeSorts.{below_then, sort_below, KnowsNames, full_sort, sort_known}

abbrev pub SynonymsFine : Table → Type 0
SynonymsFine t = (n : Text) (s : Option Ty) → entity_of t n ≡ Some (a_synonym s) → (leads_to_itself t n ≡ false) × (synonym_faults t s ≡ [])

-- a sort that is found in fewer steps is found in more
bind_below : (o : Option Ty) (f g : Ty → Option Kind) → ((s : Ty) → Below (f s) (g s)) → Below (o >>= f) (o >>= g)
bind_below None f g h = inl refl
bind_below (Some s) f g h = h s

one_more : (t : Table) (k : ℕ) (n : Text) → Below (synonym_sort t k n) (synonym_sort t (suc k) n)
one_more t zero n = inl refl
one_more t (suc k) n = bind_below (synonym_in (entity_of t n)) _ _ (sort_below (synonym_sort t k) (synonym_sort t (suc k)) (one_more t k))

pub up_to : (t : Table) (j k : ℕ) (n : Text) → Below (synonym_sort t k n) (synonym_sort t (j + k) n)
up_to t zero k n = let e : 0 + k ≡ k = omega arith in subst (λ w. Below (synonym_sort t k n) (synonym_sort t w n)) (sym e) (inr refl)
up_to t (suc j) k n = let e : suc j + k ≡ suc (j + k) = omega arith in
    subst (λ w. Below (synonym_sort t k n) (synonym_sort t w n)) (sym e) (below_then _ _ _ (up_to t j k n) (one_more t (j + k) n))

-- the entries whose names aren't among these
abbrev pub remaining : Table → List Text → ℕ
remaining [] vs = 0
remaining (e ∷ t) vs = elim (is_among vs e.name) [ true ↦ remaining t vs | false ↦ suc (remaining t vs) ]

pub all_remain : (t : Table) → remaining t [] ≡ length t
all_remain [] = refl
all_remain (e ∷ t) = ap suc (all_remain t)

no_more : (r q : Bool) (a b : ℕ) → a ≤ b → ◌≤◌ (elim (r || q) [ true ↦ a | false ↦ suc a ]) (elim q [ true ↦ b | false ↦ suc b ])
no_more true true a b h = h
no_more true false a b h = omega (arith, h)
no_more false true a b h = h
no_more false false a b h = omega (arith, h)

fewer : (t : Table) (vs : List Text) (n : Text) → remaining t (n ∷ vs) ≤ remaining t vs
fewer [] vs n = omega arith
fewer (e ∷ t) vs n = no_more (bytes_eq e.name n) (is_among vs e.name) _ _ (fewer t vs n)

abbrev pub HasName : Table → Text → Type 0
HasName [] n = ⊥
HasName (e ∷ t) n = (e.name ≡ n) ⊎ HasName t n

one_less : (r q : Bool) (a b : ℕ) → suc a ≤ b → suc (elim (r || q) [ true ↦ a | false ↦ suc a ]) ≤ (elim q [ true ↦ b | false ↦ suc b ])
one_less true true a b h = h
one_less true false a b h = omega (arith, h)
one_less false true a b h = h
one_less false false a b h = omega (arith, h)

gone : (r q : Bool) (a b : ℕ) → a ≤ b → r ≡ true → q ≡ false → suc (elim (r || q) [ true ↦ a | false ↦ suc a ]) ≤ (elim q [ true ↦ b | false ↦ suc b ])
gone true false a b h e g = omega (arith, h)
gone true true a b h e g = cc
gone false q a b h e g = cc

pub less_one : (t : Table) (vs : List Text) (n : Text) → HasName t n → is_among vs n ≡ false → suc (remaining t (n ∷ vs)) ≤ remaining t vs
less_one [] vs n h g = absurd h
less_one (e ∷ t) vs n (inl h) g = gone (bytes_eq e.name n) (is_among vs e.name) _ _ (fewer t vs n) (subst (λ w. bytes_eq w n ≡ true) (sym h) (text_itself n)) (subst (λ w. is_among vs w ≡ false) (sym h) g)
less_one (e ∷ t) vs n (inr h) g = one_less (bytes_eq e.name n) (is_among vs e.name) _ _ (less_one t vs n h g)

-- what has a meaning is a name of the table
abbrev what : Option Entry → Option Entity
what o = option_map (λ (e : Entry). e.entity) o

found_in : (t : Table) (n : Text) (x : Entity) → what (entry_of t n) ≡ Some x → HasName t n
found_in [] n x h = cc
found_in (e ∷ t) n x h = by (found_in t n x) (bytes_eq e.name n) refl h
  where
    by : (what (entry_of t n) ≡ Some x → HasName t n) → (r : Bool) → bytes_eq e.name n ≡ r → what (find (λ (d : Entry). bytes_eq d.name n) (e ∷ t)) ≡ Some x → HasName (e ∷ t) n
    by later true g q = inl (same_text e.name n g)
    by later false g q = inr (later (subst (λ w. what (cond w (Some e) (entry_of t n)) ≡ Some x) g q))

pub named_in : (t : Table) (n : Text) (x : Entity) → entity_of t n ≡ Some x → HasName t n
unfolding entity_of
named_in t n x h = found_in t n x h

-- a member that passes the test
pub passes : (p : Text → Bool) (n : Text) (ns : List Text) → Member n ns → p n ≡ true → Member n (filter p ns)
passes p n [] h g = absurd h
passes p n (m ∷ ns) (inl e) g = rw (sym (ap p e) ∙ g) (inl e)
passes p n (m ∷ ns) (inr h) g = by (passes p n ns h g) (p m) refl
  where
    by : Member n (filter p ns) → (r : Bool) → p m ≡ r → Member n (filter p (m ∷ ns))
    by later true q = rw q (inr later)
    by later false q = rw q later

abbrev pub AllLead : Table → ℕ → List Text → Text → Type 0
AllLead t j vs n = (v : Text) → Member v vs → leads t j v n ≡ true

no_sort : (t : Table) (s : Option Ty) → synonym_faults t s ≡ [] → (r : Ty) × (s ≡ Some r) × (type_faults t [] r ≡ [])
no_sort t None e = cc
no_sort t (Some r) e = (r, refl, e)

not_itself : (t : Table) (n : Text) → leads_to_itself t n ≡ false → leads t (length t) n n ≡ false
unfolding leads_to_itself
not_itself t n h = h

module _ (t : Table) (fine : SynonymsFine t) where
  pub not_met : (k j : ℕ) (vs : List Text) (n : Text) → j + k ≡ length t → AllLead t j vs n → leads_to_itself t n ≡ false → is_among vs n ≡ false
  not_met k j vs n e h g = by (is_among vs n) refl
    where
      by : (r : Bool) → is_among vs n ≡ r → r ≡ false
      by false q = refl
      by true q =
          let r = any_member (bytes_eq n) vs q in
          let w = subst (λ v. leads t j v n ≡ true) (sym (same_text n r.0 r.2)) (h r.0 r.1) in
          let u = subst (λ x. leads t x n n ≡ true) e (leads_up t j k n n w) in
          sym u ∙ not_itself t n g

  synonym_known : (k j : ℕ) (vs : List Text) (n : Text) (s : Option Ty) → j + k ≡ length t → remaining t vs ≤ k → AllLead t j vs n → entity_of t n ≡ Some (a_synonym s) → Known (synonym_sort t k n)
  synonym_known zero j vs n s e h g x =
      let a = less_one t vs n (named_in t n (a_synonym s) x) (not_met zero j vs n e g (fine n s x).0) in
      absurd (omega (arith, h, a))
  synonym_known (suc k) j vs n s e h g x =
      let a = less_one t vs n (named_in t n (a_synonym s) x) (not_met (suc k) j vs n e g (fine n s x).0) in
      let r = no_sort t s (fine n s x).1 in
      let y : entity_of t n ≡ Some (a_synonym (Some r.0)) = x ∙ ap (λ w. Some (a_synonym w)) r.1 in
      let step : (m : Text) → Member m (names_in_type r.0) → (q : Option Ty) → entity_of t m ≡ Some (a_synonym q) → Member m (next_names t (entity_of t n))
      = λ m i q z. subst (λ w. Member m (next_names t w)) (sym y) (passes (λ c. is_synonym (entity_of t c)) m (names_in_type r.0) i (ap is_synonym z)) in
      let l : (m : Text) → Member m (next_names t (entity_of t n)) → AllLead t (suc j) (n ∷ vs) m = λ m i. both_lead m i in
      let b : KnowsNames t [] (synonym_sort t k) (names_in_type r.0) = λ m i _ q z. synonym_known k (suc j) (n ∷ vs) m q (omega (arith, e)) (omega (arith, h, a)) (l m (step m i q z)) z in
      subst (λ w. Known (synonym_in w >>= λ s. sort_by (synonym_sort t k) s)) (sym y)
      (sort_known t [] (synonym_sort t k) (λ m. subst (λ w. Below (synonym_sort t k m) (synonym_sort t w m)) (let f : suc j + k ≡ length t = omega (arith, e) in f) (up_to t (suc j) k m)) r.0 b r.2)
    where
      both_lead : (m : Text) → Member m (next_names t (entity_of t n)) → (v : Text) → Member v (n ∷ vs) → leads t (suc j) v m ≡ true
      both_lead m i v (inl q) = subst (λ w. leads t (suc j) w m ≡ true) (sym q) (leads_one t j n m i)
      both_lead m i v (inr q) = leads_then t j v n m (g v q) i

  pub type_known : (hidden : List Text) (s : Ty) → type_faults t hidden s ≡ [] → Known (sort_of_type t hidden s)
  unfolding sort_of_type
  type_known hidden s e = sort_known t hidden (full_sort t hidden) (λ n. inr refl) s
      (λ n i h q z. subst (λ w. Known (unless_hidden w (synonym_sort t (length t) n))) (sym h)
      (synonym_known (length t) 0 [] n q (omega arith) (let b = all_remain t in omega (arith, b)) (λ v i. absurd i) z)) e
