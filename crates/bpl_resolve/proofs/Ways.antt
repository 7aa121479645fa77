-- Ways from name to name that are put together: a step in front, a step behind, and one that may be longer.
use Rattle.std.proofs.Common.{◌≡◌, refl, ap, sym, ◌∙◌, inl, inr, ◌⊎◌, subst, ℕ, zero, suc, ◌+◌, arith, Bool, true, false, ◌||◌, List, [], ◌∷◌}
use Rattle.std.specs.Prelude.{bytes_eq}
use Rattle.std.specs.List.{list_any}
use Rattle.std.proofs.lemmas.Slice.Eq.{bytes_eq-Decides}
use Rattle.logic_core.proofs.Booleans.{one_is_true as either_of, or_second}
use Rattle.bpl_scopes.specs.Scopes.{Text, Table, entity_of}
use Rattle.bpl_scopes.specs.Functions.{next_names, leads}

abbrev pub Member : Text → List Text → Type 0
Member n [] = ⊥
Member n (m ∷ ms) = (n ≡ m) ⊎ Member n ms

pub member_any : (p : Text → Bool) (n : Text) (ns : List Text) → Member n ns → p n ≡ true → list_any p ns ≡ true
member_any p n [] h g = absurd h
member_any p n (m ∷ ns) (inl e) g = ap (λ w. w || list_any p ns) (sym (ap p e) ∙ g)
member_any p n (m ∷ ns) (inr h) g = or_second (p m) (list_any p ns) (member_any p n ns h g)

member_of : (p : Text → Bool) (m : Text) (ns : List Text) → (list_any p ns ≡ true → (n : Text) × Member n ns × (p n ≡ true))
    → (p m ≡ true) ⊎ (list_any p ns ≡ true) → (n : Text) × Member n (m ∷ ns) × (p n ≡ true)
member_of p m ns later (inl e) = (m, inl refl, e)
member_of p m ns later (inr e) = let r = later e in (r.0, inr r.1, r.2)

pub any_member : (p : Text → Bool) (ns : List Text) → list_any p ns ≡ true → (n : Text) × Member n ns × (p n ≡ true)
any_member p [] h = cc
any_member p (m ∷ ns) h = member_of p m ns (any_member p ns) (either_of (p m) (list_any p ns) h)

pub same_text : (m n : Text) → bytes_eq m n ≡ true → m ≡ n
same_text m n e = (bytes_eq-Decides m n).0 e

pub text_itself : (n : Text) → bytes_eq n n ≡ true
text_itself n = (bytes_eq-Decides n n).1 refl

found_or : (r q : Bool) → q ≡ true → ◌≡◌ {A = Bool} (elim r [ true ↦ true | false ↦ q ]) true
found_or true q e = refl
found_or false q e = e

found_now : (r q : Bool) → r ≡ true → ◌≡◌ {A = Bool} (elim r [ true ↦ true | false ↦ q ]) true
found_now true q e = refl
found_now false q e = cc

split : (r q : Bool) → ◌≡◌ {A = Bool} (elim r [ true ↦ true | false ↦ q ]) true → (r ≡ true) ⊎ (q ≡ true)
split true q e = inl refl
split false q e = inr e

module _ (t : Table) where
  pub leads_step : (k : ℕ) (n c m : Text) → Member c (next_names t (entity_of t n)) → leads t k c m ≡ true → leads t (suc k) n m ≡ true
  leads_step k n c m h g = member_any (λ x. elim (bytes_eq x m) [ true ↦ true | false ↦ leads t k x m ]) c _ h (found_or (bytes_eq c m) (leads t k c m) g)

  pub leads_one : (k : ℕ) (n m : Text) → Member m (next_names t (entity_of t n)) → leads t (suc k) n m ≡ true
  leads_one k n m h = member_any (λ x. elim (bytes_eq x m) [ true ↦ true | false ↦ leads t k x m ]) m _ h (found_now (bytes_eq m m) (leads t k m m) (text_itself m))

  -- the first step, and the rest of the way
  first_step : (k : ℕ) (n m : Text) → leads t (suc k) n m ≡ true → (c : Text) × Member c (next_names t (entity_of t n)) × ((c ≡ m) ⊎ (leads t k c m ≡ true))
  first_step k n m h =
      let r = any_member (λ x. elim (bytes_eq x m) [ true ↦ true | false ↦ leads t k x m ]) (next_names t (entity_of t n)) h in
      (r.0, r.1, there r.0 (split (bytes_eq r.0 m) (leads t k r.0 m) r.2))
    where
      there : (c : Text) → (bytes_eq c m ≡ true) ⊎ (leads t k c m ≡ true) → (c ≡ m) ⊎ (leads t k c m ≡ true)
      there c (inl e) = inl (same_text c m e)
      there c (inr e) = inr e

  rest_then : (k : ℕ) (c m o : Text) → (leads t k c m ≡ true → leads t (suc k) c o ≡ true)
      → (c ≡ m) ⊎ (leads t k c m ≡ true) → Member o (next_names t (entity_of t m)) → leads t (suc k) c o ≡ true
  rest_then k c m o later (inl e) g = subst (λ w. leads t (suc k) w o ≡ true) (sym e) (leads_one k m o g)
  rest_then k c m o later (inr h) g = later h

  pub leads_then : (k : ℕ) (n m o : Text) → leads t k n m ≡ true → Member o (next_names t (entity_of t m)) → leads t (suc k) n o ≡ true
  leads_then zero n m o h g = cc
  leads_then (suc k) n m o h g = let r = first_step k n m h in leads_step (suc k) n r.0 o r.1 (rest_then k r.0 m o (λ q. leads_then k r.0 m o q g) r.2 g)

  rest_more : (k : ℕ) (n c m : Text) → (leads t k c m ≡ true → leads t (suc k) c m ≡ true) → Member c (next_names t (entity_of t n)) → (c ≡ m) ⊎ (leads t k c m ≡ true) → leads t (suc (suc k)) n m ≡ true
  rest_more k n c m later g (inl e) = leads_one (suc k) n m (subst (λ w. Member w (next_names t (entity_of t n))) e g)
  rest_more k n c m later g (inr h) = leads_step (suc k) n c m g (later h)

  leads_more : (k : ℕ) (n m : Text) → leads t k n m ≡ true → leads t (suc k) n m ≡ true
  leads_more zero n m h = cc
  leads_more (suc k) n m h = let r = first_step k n m h in rest_more k n r.0 m (leads_more k r.0 m) r.1 r.2

  pub leads_up : (j k : ℕ) (n m : Text) → leads t j n m ≡ true → leads t (j + k) n m ≡ true
  leads_up j zero n m h = let e : j + 0 ≡ j = omega arith in subst (λ w. leads t w n m ≡ true) (sym e) h
  leads_up j (suc k) n m h = let e : j + suc k ≡ suc (j + k) = omega arith in subst (λ w. leads t w n m ≡ true) (sym e) (leads_more (j + k) n m (leads_up j k n m h))
